-- What is answered of an order.
use Rattle.std.proofs.Common.{◌≡◌, ℕ, ◌≤◌, Bool, true, false, nat_lt, List, [], ◌∷◌, length, Option, Some, None, Result, Ok, Err, refl, ap, arith, if◌then◌else◌}
use Rattle.std.specs.Result.{result_ok}
use Rattle.dq_dataset.specs.declared.fault.ReadFault.{ReadFault}
use Rattle.dq_dataset.specs.declared.header.Syntax.TheVariants.{Explicit}
use Rattle.dq_dataset.specs.Tree.{ElementList}
use Rattle.dq_dataset.specs.DataSetReader.{data_set_read}
use Rattle.dq_dataset.specs.Grammar.{IsSpelled}
use Rattle.dq_dataset.proofs.SpelledIsShort.{spelled_is_short}
use Rattle.dq_config.specs.Limits.{Limits}
use Rattle.dq_tables.specs.declared.row.Kind.TheVariants.{Entry}
use Rattle.dq_tables.specs.Rows.{Record, Put, Remove}
use Rattle.dq_tables.specs.ServiceEffects.{first_refusal}
use Rattle.dq_worklist.specs.declared.refusal.Refusal.{Refusal}
use Rattle.dq_worklist.specs.declared.refusal.Refusal.TheVariants.{Taken, Full}
use Rattle.dq_worklist.specs.Orders.{refusal_number, Order, order_in, order_limit, has_entry, is_worklist_full, entry_of, refusal_or_entry, order_outcome, schedule_outcome, withdrawn}
use Rattle.dq_worklist.specs.Views.{CanBeKept, data_set_within, record_refusal}

-- an order is at most twice as long in the spelling that is kept
pub short_order : (octets : List ℕ) (d : ElementList) → IsSpelled Explicit octets d → length octets ≤ 0x100000 → CanBeKept d
short_order octets d spelled within =
    let short = spelled_is_short Explicit Explicit octets d spelled in
    record { lengths = short.lengths (omega (arith, within)); short = omega (arith, within, short.twice) }

module _ (limits : Limits) (records : List Record) where
  pub taken : (id : List ℕ) → has_entry records id ≡ true → record_refusal limits records id ≡ Some Taken
  taken id there = rw there refl

  pub full : (id : List ℕ) → has_entry records id ≡ false → is_worklist_full limits records ≡ true → record_refusal limits records id ≡ Some Full
  full id free at_limit = rw (free, at_limit) refl

  pub accepted : (id : List ℕ) → has_entry records id ≡ false → is_worklist_full limits records ≡ false → record_refusal limits records id ≡ None
  accepted id free has_room = rw (free, has_room) refl

  pub free_if_accepted : (id : List ℕ) → record_refusal limits records id ≡ None → has_entry records id ≡ false
  free_if_accepted id none = by (has_entry records id) refl none
    where
      by : (b : Bool) → has_entry records id ≡ b
          → (if b then Some Taken else first_refusal ((is_worklist_full limits records, Full) ∷ [])) ≡ None → has_entry records id ≡ false
      by true e h = cc
      by false e h = e

  pub order_refused : (order : Order) (refusal : Refusal) → record_refusal limits records order.id ≡ Some refusal
      → order_outcome limits records order ≡ (Some (refusal_number refusal), [])
  unfolding order_outcome
  order_refused order refusal e = ap (λ (o : Option Refusal). refusal_or_entry o (Some order)) e

  pub order_kept : (order : Order) → record_refusal limits records order.id ≡ None → order_outcome limits records order ≡ (None, Put (entry_of order) ∷ [])
  unfolding order_outcome
  order_kept order e = ap (λ (o : Option Refusal). refusal_or_entry o (Some order)) e

  malformed_by : (octets : List ℕ) (long : Bool) (r : Result ElementList ReadFault) → nat_lt order_limit (length octets) ≡ long → data_set_read Explicit octets ≡ r
      → (if long then None else result_ok r) ≡ None → schedule_outcome limits records octets ≡ (Some 1, [])
  unfolding schedule_outcome
  malformed_by octets true r e same none = rw e refl
  malformed_by octets false (Ok d) e same none = cc
  malformed_by octets false (Err fault) e same none = rw (e, same) refl

  pub malformed : (octets : List ℕ) → data_set_within octets ≡ None → schedule_outcome limits records octets ≡ (Some 1, [])
  malformed octets none = malformed_by octets (nat_lt order_limit (length octets)) (data_set_read Explicit octets) refl refl none

  incomplete_by : (octets : List ℕ) (d : ElementList) (long : Bool) (r : Result ElementList ReadFault)
      → nat_lt order_limit (length octets) ≡ long → data_set_read Explicit octets ≡ r
      → (if long then None else result_ok r) ≡ Some d → order_in d ≡ None → schedule_outcome limits records octets ≡ (Some 2, [])
  unfolding schedule_outcome
  incomplete_by octets d true r e same some none = cc
  incomplete_by octets d false (Ok x) e same some none = (let one : x ≡ d = cc in rw (e, same, one, none) refl)
  incomplete_by octets d false (Err fault) e same some none = cc

  pub incomplete : (octets : List ℕ) (d : ElementList) → data_set_within octets ≡ Some d → order_in d ≡ None → schedule_outcome limits records octets ≡ (Some 2, [])
  incomplete octets d some none = incomplete_by octets d (nat_lt order_limit (length octets)) (data_set_read Explicit octets) refl refl some none

  complete_by : (octets : List ℕ) (d : ElementList) (order : Order) (long : Bool) (r : Result ElementList ReadFault) → nat_lt order_limit (length octets) ≡ long
      → data_set_read Explicit octets ≡ r → (if long then None else result_ok r) ≡ Some d → order_in d ≡ Some order
      → schedule_outcome limits records octets ≡ order_outcome limits records order
  unfolding schedule_outcome order_outcome
  complete_by octets d order true r e same some found = cc
  complete_by octets d order false (Ok x) e same some found = (let one : x ≡ d = cc in rw (e, same, one, found) refl)
  complete_by octets d order false (Err fault) e same some found = cc

  pub complete : (octets : List ℕ) (d : ElementList) (order : Order) → data_set_within octets ≡ Some d → order_in d ≡ Some order
      → schedule_outcome limits records octets ≡ order_outcome limits records order
  complete octets d order some found = complete_by octets d order (nat_lt order_limit (length octets)) (data_set_read Explicit octets) refl refl some found

pub not_there : (records : List Record) (id : List ℕ) → has_entry records id ≡ false → withdrawn records id ≡ (Some 5, [])
unfolding withdrawn
not_there records id e = rw e refl

pub there : (records : List Record) (id : List ℕ) → has_entry records id ≡ true → withdrawn records id ≡ (None, Remove Entry id ∷ [])
unfolding withdrawn
there records id e = rw e refl
