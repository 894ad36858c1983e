-- What other institutions keep does not enter.
use Rattle.std.proofs.Common.{◌≡◌, ◌≢◌, ℕ, List, ap}
use Rattle.dq_dataset.specs.declared.header.Syntax.{Syntax}
use Rattle.dq_dimse.specs.Received.{Message}
use Rattle.dq_config.specs.Limits.{Limits}
use Rattle.dq_tables.specs.declared.row.Row.{Row}
use Rattle.dq_tables.specs.Rows.{Record, Edit, IsRising, of, by, after}
use Rattle.dq_tables.proofs.Lens.{others}
use Rattle.dq_mpps.specs.NCreate.{create_outcome}
use Rattle.dq_mpps.specs.NSet.{set_outcome}

pub created_alike : (own other : List ℕ) → other ≢ own → (edits : List Edit) (rows : List Row)
    → IsRising rows → (limits : Limits) (message : Message) (syntax : Syntax)
    → create_outcome limits (of own (after (by other edits) rows)) message syntax
    ≡ create_outcome limits (of own rows) message syntax
created_alike own other differ edits rows rising limits message syntax =
    ap (λ (records : List Record). create_outcome limits records message syntax)
    (others own other differ edits rows rising)

pub changed_alike : (own other : List ℕ) → other ≢ own → (edits : List Edit) (rows : List Row)
    → IsRising rows → (message : Message) (syntax : Syntax)
    → set_outcome (of own (after (by other edits) rows)) message syntax
    ≡ set_outcome (of own rows) message syntax
changed_alike own other differ edits rows rising message syntax =
    ap (λ (records : List Record). set_outcome records message syntax)
    (others own other differ edits rows rising)
