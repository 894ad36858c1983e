-- Performed procedure steps that are read a few at a time. This is there for the prover: what is shown is a page of
-- `steps_in` of Showing.
use Rattle.std.specs.Prelude.{ℕ, List, drop, filter, map, Option, Some, None}
use Rattle.std.specs.Ordering.{is_gt}
use Rattle.dq_dataset.specs.Tree.{ElementList}
use Rattle.dq_tables.specs.declared.row.Row.{Row}
use Rattle.dq_tables.specs.Rows.{Record, octet_order}
use Rattle.dq_tables.specs.Records.{data_set_of}

-- so many are read at once, at most
abbrev pub steps_at_once : ℕ
steps_at_once = 16

-- those that are left: from a place on at first, then those behind the last key
abbrev pub steps_left : ℕ → Option (List ℕ) → List Record → List Record
steps_left from None steps = drop from steps
steps_left from (Some key) steps = filter (λ (r : Record). is_gt (octet_order r.key key)) steps

-- the data sets of rows
abbrev pub data_sets_of_rows : List Row → List ElementList
data_sets_of_rows rows = map (λ (row : Row). data_set_of row.octets) rows
