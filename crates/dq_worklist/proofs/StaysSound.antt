-- What holds of rows and stays, whatever is scheduled or withdrawn: that they are sound, and that each is of a kind.
use Rattle.std.proofs.Common.{◌≡◌, ℕ, ◌≤◌, Bool, true, false, nat_lt, List, [], ◌∷◌, ◌++◌, length, Option, Some, None, Result, Ok, Err, refl, sym, ◌∙◌, subst, arith, if◌then◌else◌}
use Rattle.std.specs.List.{AllByRecursion}
use Rattle.std.specs.Result.{result_ok}
use Rattle.std.proofs.lemmas.Bool.Decides.{nat_tests}
use Rattle.dq_list.specs.Readers.{◌>>=◌, only_if}
use Rattle.dq_list.proofs.Readers.{provided_some}
use Rattle.dq_dataset.specs.declared.fault.ReadFault.{ReadFault}
use Rattle.dq_dataset.specs.declared.header.Syntax.TheVariants.{Explicit}
use Rattle.dq_dataset.specs.Tree.{ElementList}
use Rattle.dq_dataset.specs.DataSetReader.{data_set_read}
use Rattle.dq_dataset.specs.Canonical.{canonical}
use Rattle.dq_config.specs.Limits.{Limits}
use Rattle.dq_tables.specs.declared.change.Change.TheVariants.{EntryAdded, EntryRemoved}
use Rattle.dq_tables.specs.declared.row.Kind.TheVariants.{Entry}
use Rattle.dq_tables.specs.declared.row.Row.{Row}
use Rattle.dq_tables.specs.Rows.{Record, Edit, Put, Remove, of, by, after, after_edit, place, record_place, row_of, rows_before, rows_past, within}
use Rattle.dq_tables.specs.Keys.{entry_id}
use Rattle.dq_tables.specs.Sound.{IsSound}
use Rattle.dq_tables.proofs.Order.{each_appended, each_filtered, is_before, is_past}
use Rattle.dq_tables.proofs.Soundness.{change_sound}
use Rattle.dq_archive.proofs.Lookups.{there_own, free_own}
use Rattle.dq_worklist.specs.declared.refusal.Refusal.TheVariants.{Taken, Full}
use Rattle.dq_worklist.specs.Orders.{Order, order_in, order_limit, is_complete, has_entry, is_worklist_full, entry_of, order_outcome, schedule_outcome, withdrawn}
use Rattle.dq_worklist.specs.Views.{order_of, CanBeKept, data_set_within}
use Rattle.dq_worklist.proofs.Orders.{taken, full, accepted, order_refused, order_kept, malformed, incomplete, complete, there, not_there}
use Rattle.dq_worklist.proofs.Records.{new_fits}

-- ---- what is read of an order

module _ (octets : List ℕ) (d : ElementList) where
  within_by : (long : Bool) (r : Result ElementList ReadFault) → nat_lt order_limit (length octets) ≡ long → data_set_read Explicit octets ≡ r
      → (if long then None else result_ok r) ≡ Some d → (length octets ≤ 0x100000) × (data_set_read Explicit octets ≡ Ok d)
  within_by true r e read some = cc
  within_by false (Ok x) e read some = (let one : x ≡ d = cc in (grind (arith, nat_tests), read ∙ (λ i. Ok (one i))))
  within_by false (Err fault) e read some = cc

  pub read_within : data_set_within octets ≡ Some d → (length octets ≤ 0x100000) × (data_set_read Explicit octets ≡ Ok d)
  read_within some = within_by (nat_lt order_limit (length octets)) (data_set_read Explicit octets) refl refl some

own_by : (d : ElementList) (order : Order) (id : Option (List ℕ)) → entry_id d ≡ id → id >>= (λ i. only_if (is_complete d) (order_of d i)) ≡ Some order
    → (own : List ℕ) × (entry_id d ≡ Some own) × (order_of d own ≡ order)
own_by d order None e some = cc
own_by d order (Some own) e some = (own, e, (provided_some (is_complete d) (order_of d own) order some).1)

-- ---- the rows afterwards

-- what holds of the rows holds afterwards, if it does after the edits
module _ (P : List Row → Type 0) (h : List ℕ) (rows : List Row) (holds : P rows) where
  abbrev Stays : Option ℕ × List Edit → Type 0
  Stays done = P (after (by h done.1) rows)

  refused_stays : (done : Option ℕ × List Edit) (number : ℕ) → done ≡ (Some number, []) → Stays done
  refused_stays done number e = subst Stays (sym e) holds

  module _ (limits : Limits) (octets : List ℕ)
      (keeps : (d : ElementList) → data_set_within octets ≡ Some d → (id : List ℕ) → entry_id d ≡ Some id → has_entry (of h rows) id ≡ false
      → P (after (by h (Put (entry_of (order_of d id)) ∷ [])) rows)) where
    new_stays : (d : ElementList) → data_set_within octets ≡ Some d → (order : Order) → order_in d ≡ Some order
        → has_entry (of h rows) order.id ≡ false → P (after (by h (Put (entry_of order) ∷ [])) rows)
    new_stays d read order some free =
        let own = own_by d order (entry_id d) refl some in
        subst (λ (o : Order). has_entry (of h rows) o.id ≡ false → P (after (by h (Put (entry_of o) ∷ [])) rows)) own.2
        (λ free. keeps d read own.0 own.1 free) free

    room_stays : (d : ElementList) → data_set_within octets ≡ Some d → (order : Order) → order_in d ≡ Some order → has_entry (of h rows) order.id ≡ false
        → (at_limit : Bool) → is_worklist_full limits (of h rows) ≡ at_limit → Stays (order_outcome limits (of h rows) order)
    room_stays d read order some free true at_limit =
        refused_stays _ _ (order_refused limits (of h rows) order Full (full limits (of h rows) order.id free at_limit))
    room_stays d read order some free false room =
        subst Stays (sym (order_kept limits (of h rows) order (accepted limits (of h rows) order.id free room))) (new_stays d read order some free)

    order_stays : (d : ElementList) → data_set_within octets ≡ Some d → (order : Order) → order_in d ≡ Some order
        → (has : Bool) → has_entry (of h rows) order.id ≡ has → Stays (order_outcome limits (of h rows) order)
    order_stays d read order some true has =
        refused_stays _ _ (order_refused limits (of h rows) order Taken (taken limits (of h rows) order.id has))
    order_stays d read order some false free = room_stays d read order some free (is_worklist_full limits (of h rows)) refl

    read_stays : (d : ElementList) → data_set_within octets ≡ Some d → (order : Option Order) → order_in d ≡ order
        → Stays (schedule_outcome limits (of h rows) octets)
    read_stays d read None none = refused_stays _ _ (incomplete limits (of h rows) octets d read none)
    read_stays d read (Some order) some =
        subst Stays (sym (complete limits (of h rows) octets d order read some))
        (order_stays d read order some (has_entry (of h rows) order.id) refl)

    scheduled_by : (d : Option ElementList) → data_set_within octets ≡ d → Stays (schedule_outcome limits (of h rows) octets)
    scheduled_by None unread = refused_stays _ _ (malformed limits (of h rows) octets unread)
    scheduled_by (Some d) read = read_stays d read (order_in d) refl

    pub scheduled_stays : P (after (by h (schedule_outcome limits (of h rows) octets).1) rows)
    scheduled_stays = scheduled_by (data_set_within octets) refl

  module _ (id : List ℕ) (keeps : has_entry (of h rows) id ≡ true → P (after (by h (Remove Entry id ∷ [])) rows)) where
    withdrawn_by : (has : Bool) → has_entry (of h rows) id ≡ has → Stays (withdrawn (of h rows) id)
    withdrawn_by true has = subst Stays (sym (there (of h rows) id has)) (keeps has)
    withdrawn_by false none = refused_stays _ _ (not_there (of h rows) id none)

    pub withdrawn_stays : P (after (by h (withdrawn (of h rows) id).1) rows)
    withdrawn_stays = withdrawn_by (has_entry (of h rows) id) refl

-- ---- that they are sound

module _ (h : List ℕ) (rows : List Row) (sound : IsSound rows) (id : List ℕ) where
  pub put_sound : (d : ElementList) → CanBeKept d → data_set_read Explicit (canonical Explicit d) ≡ Ok d → entry_id d ≡ Some id
      → has_entry (of h rows) id ≡ false → IsSound (after (by h (Put (entry_of (order_of d id)) ∷ [])) rows)
  put_sound d kept back own free =
      change_sound rows (EntryAdded (row_of h (entry_of (order_of d id)))) sound (new_fits h d id back kept.short own rows (free_own Entry h id rows free))

  pub removed_sound : has_entry (of h rows) id ≡ true → IsSound (after (by h (Remove Entry id ∷ [])) rows)
  removed_sound has = change_sound rows (EntryRemoved h id) sound (there_own Entry h id rows ∙ has)

-- ---- that each is of a kind

module _ (Each : Row → Type 0) (h : List ℕ) (rows : List Row) (all : AllByRecursion Each rows) where
  pub each_put : (r : Record) → Each (row_of h r) → AllByRecursion Each (after_edit h (Put r) rows)
  unfolding after_edit
  each_put r new =
      let p = within h (record_place r) in
      each_appended Each (rows_before p rows ++ row_of h r ∷ []) (rows_past p rows)
      (each_appended Each (rows_before p rows) (row_of h r ∷ []) (each_filtered Each (is_before p) rows all) (new, tt))
      (each_filtered Each (is_past p) rows all)

  pub each_left : (id : List ℕ) → AllByRecursion Each (after_edit h (Remove Entry id) rows)
  unfolding after_edit
  each_left id =
      let p = place Entry h id in
      each_appended Each (rows_before p rows ++ []) (rows_past p rows)
      (each_appended Each (rows_before p rows) [] (each_filtered Each (is_before p) rows all) tt)
      (each_filtered Each (is_past p) rows all)
