use Rattle.std.proofs.Common.{◌≡◌, ℕ, length, ap, ◌∙◌}
use Rattle.std.specs.Prelude.{filter}
use Rattle.std.proofs.Math.Seq.{take-length}
use Rattle.dq_config.specs.Limits.{limits_of}
use Rattle.dq_tables.specs.Rows.{of}
use Rattle.dq_core.specs.Alone.{alone_replies}
use Rattle.dq_core.specs.Own.{is_own_event, own, replies_at}
use Rattle.dq_core.specs.Isolation.{own_among}
use Rattle.dq_core.proofs.Running.{all-replies, begun}
use Rattle.dq_core.proofs.server.run.Goals as goal

pub returns-clause-replies : goal.returns-clause-replies
returns-clause-replies g c = λ h n.
    all-replies c.args.config (g.T.Tables.state c.args.tables).rows c.args.events.items c.answer_history-outcome.result.replies
    (g.T.Tables.state c.answer_history-outcome.result.tables).rows (c.answer_history-outcome.ensures.ran h) (c.answer_history-outcome.ensures.answered n)

pub returns-clause-rows : goal.returns-clause-rows
returns-clause-rows g c = c.answer_history-outcome.ensures.rows

pub returns-clause-ran : goal.returns-clause-ran
returns-clause-ran g c = c.answer_history-outcome.ensures.ran

pub returns-clause-faulted : goal.returns-clause-faulted
returns-clause-faulted g c = c.answer_history-outcome.ensures.faulted

pub returns-clause-settled : goal.returns-clause-settled
returns-clause-settled g c = c.answer_history-outcome.ensures.settled

pub returns-clause-crash : goal.returns-clause-crash
returns-clause-crash g c = c.answer_history-outcome.ensures.crash

pub returns-clause-own : goal.returns-clause-own
returns-clause-own g c = λ h i k.
    c.runs_are_isolated.ensures.own c.args.config (g.T.Tables.state c.args.tables).rows c.args.events.items c.answer_history-outcome.result.replies
    (g.T.Tables.state c.answer_history-outcome.result.tables).rows (c.answer_history-outcome.ensures.ran h) i
    (begun i (c.institutions_have_own_names.ensures c.args.config c.is_sound.ensures) k
    (g.met.T.Tables.sound c.args.tables (c.answer_history-outcome.ensures.was_honest h)).rising c.requires.formed)

pub returns-clause-own_replies : goal.returns-clause-own_replies
returns-clause-own_replies g c = λ h n i k.
    let given = all-replies c.args.config (g.T.Tables.state c.args.tables).rows c.args.events.items c.answer_history-outcome.result.replies
    (g.T.Tables.state c.answer_history-outcome.result.tables).rows (c.answer_history-outcome.ensures.ran h) (c.answer_history-outcome.ensures.answered n) in
    ap (replies_at (is_own_event c.args.config i.name c.args.events.items) c.args.events.items) given
    ∙ c.institutions_are_isolated.ensures.replies c.args.config (g.T.Tables.state c.args.tables).rows c.args.events.items i
    (begun i (c.institutions_have_own_names.ensures c.args.config c.is_sound.ensures) k
    (g.met.T.Tables.sound c.args.tables (c.answer_history-outcome.ensures.was_honest h)).rising c.requires.formed)

pub returns-clause-own_records : goal.returns-clause-own_records
returns-clause-own_records g c = λ h n i k.
    ap (of i.name) (c.answer_history-outcome.ensures.rows h n)
    ∙ c.institutions_are_isolated.ensures.records c.args.config (g.T.Tables.state c.args.tables).rows c.args.events.items i
    (begun i (c.institutions_have_own_names.ensures c.args.config c.is_sound.ensures) k
    (g.met.T.Tables.sound c.args.tables (c.answer_history-outcome.ensures.was_honest h)).rising c.requires.formed)

pub returns-clause-strangers : goal.returns-clause-strangers
returns-clause-strangers g c = λ h number none.
    c.runs_are_isolated.ensures.strangers c.args.config (g.T.Tables.state c.args.tables).rows c.args.events.items c.answer_history-outcome.result.replies
    (g.T.Tables.state c.answer_history-outcome.result.tables).rows (c.answer_history-outcome.ensures.ran h) number none c.requires.formed

pub returns-clause-by_records : goal.returns-clause-by_records
returns-clause-by_records g c = λ h i k.
    let rows = (g.T.Tables.state c.args.tables).rows in
    let events = c.args.events.items in
    let run = c.answer_history-outcome.ensures.ran h in
    let b = begun i (c.institutions_have_own_names.ensures c.args.config c.is_sound.ensures) k
    (g.met.T.Tables.sound c.args.tables (c.answer_history-outcome.ensures.was_honest h)).rising c.requires.formed in
    let law = c.institutions_are_answered_by_records.ensures in
    record {
      same_replies = ap (replies_at (is_own_event c.args.config i.name events) events) run.first_replies
          ∙ law.first_replies c.args.config rows events i (length c.answer_history-outcome.result.replies) b;
      operations = run.operations;
      same_records = ap (of i.name) run.rows_then
          ∙ law.records_within c.args.config rows events i (length c.answer_history-outcome.result.replies) run.operations b;
    }

pub returns-clause-whole_by_records : goal.returns-clause-whole_by_records
returns-clause-whole_by_records g c = λ h n i k.
    let rows = (g.T.Tables.state c.args.tables).rows in
    let events = c.args.events.items in
    let run = c.answer_history-outcome.ensures.ran h in
    let b = begun i (c.institutions_have_own_names.ensures c.args.config c.is_sound.ensures) k
    (g.met.T.Tables.sound c.args.tables (c.answer_history-outcome.ensures.was_honest h)).rising c.requires.formed in
    let law = c.institutions_are_answered_by_records.ensures in
    let all : own_among c.args.config i.name events (length c.answer_history-outcome.result.replies) ≡ own c.args.config i.name events =
    ap (λ (n : ℕ). own_among c.args.config i.name events n) (c.answer_history-outcome.ensures.answered n)
    ∙ ap (filter (is_own_event c.args.config i.name events)) (take-length events) in
    record {
      same_replies = ap (replies_at (is_own_event c.args.config i.name events) events) run.first_replies
          ∙ law.first_replies c.args.config rows events i (length c.answer_history-outcome.result.replies) b
          ∙ ap (alone_replies (limits_of i) (of i.name rows)) all;
      same_records = ap (of i.name) (c.answer_history-outcome.ensures.rows h n) ∙ law.records c.args.config rows events i b;
    }

pub returns-clause-exact : goal.returns-clause-exact
returns-clause-exact g c = λ h sound number i owned.
    c.associations_are_answered_in_full.ensures.exact c.args.config (g.T.Tables.state c.args.tables).rows c.args.events.items
    c.answer_history-outcome.result.replies (g.T.Tables.state c.answer_history-outcome.result.tables).rows number i
    (c.answer_history-outcome.ensures.ran h) c.requires.formed sound (rw c.deref.ensures.value at c.bring_octets.ensures) owned
