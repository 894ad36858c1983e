-- Looks one after the other.
use Rattle.std.proofs.Common.{refl, ◌∙◌}
use Rattle.dq_tables.specs.TableStates.{State}
use Rattle.dq_core.specs.ServerView.{ServerView}
use Rattle.dq_core.specs.Looking.{Looked}
use Rattle.dq_core.proofs.TableCalls.{goes-start, goes-then}

pub looked-none : {Tables : Type 0} {state : Tables → State} (server : ServerView Tables) → Looked state server server
looked-none server = record { stands = λ rows events stood honest. stood; same = λ honest. refl; institutions = refl; newest = refl; spent = refl; goes = goes-start }

pub looked-then : {Tables : Type 0} {state : Tables → State} {old mid new : ServerView Tables}
    → Looked state old mid → Looked state mid new → Looked state old new
looked-then first later = record {
  stands = λ rows events stood honest. later.stands rows events (first.stands rows events stood (later.goes.was_honest honest)) honest;
  same = λ honest. later.same honest ∙ first.same (later.goes.was_honest honest);
  institutions = later.institutions ∙ first.institutions;
  newest = later.newest ∙ first.newest;
  spent = later.spent ∙ first.spent;
  goes = goes-then first.goes later.goes;
}
