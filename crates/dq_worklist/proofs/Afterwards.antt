-- What orders make of the entries, and of the answers to queries.
use Rattle.std.proofs.Common.{◌≡◌, ◌≢◌, ℕ, ◌<◌, ◌^◌, Bool, true, false, ◌&&◌, nat_lt, List, [], ◌∷◌, ◌++◌, length, map, filter, find, Option, Some, None, is_some, Result, Ok, Err, refl, sym, ap, ◌∙◌, subst, arith, if◌then◌else◌}
use Rattle.std.specs.Str.{bytes_eq}
use Rattle.std.specs.declared.cmp.Ordering.{Ordering}
use Rattle.std.specs.declared.cmp.Ordering.TheVariants.{Less, Equal, Greater}
use Rattle.std.specs.Ordering.{is_eq, is_lt, is_gt}
use Rattle.std.proofs.lemmas.Map.Text.{is_eq-slice_cmp}
use Rattle.std.proofs.lemmas.Slice.Eq.{bytes_eq-Decides}
use Rattle.std.proofs.lemmas.Bool.Decides.{nat_tests}
use Rattle.dq_list.specs.Among.{IsAmong}
use Rattle.dq_list.specs.Readers.{◌>>=◌, only_if}
use Rattle.dq_list.proofs.Among.{among_between}
use Rattle.dq_dataset.specs.declared.fault.ReadFault.{ReadFault}
use Rattle.dq_dataset.specs.declared.header.Syntax.{Syntax}
use Rattle.dq_dataset.specs.declared.header.Syntax.TheVariants.{Explicit}
use Rattle.dq_dataset.specs.Tree.{ElementList}
use Rattle.dq_dataset.specs.DataSetReader.{data_set_read}
use Rattle.dq_dataset.specs.Canonical.{canonical}
use Rattle.dq_dimse.specs.Received.{Message}
use Rattle.dq_config.specs.Limits.{Limits}
use Rattle.dq_match.specs.Matching.{fits}
use Rattle.dq_match.specs.Responses.{shown_data_set}
use Rattle.dq_tables.specs.declared.row.Kind.TheVariants.{Entry}
use Rattle.dq_tables.specs.declared.row.Row.{Row}
use Rattle.dq_tables.specs.Rows.{Record, Place, record_place, Edit, Put, Remove, IsRising, record_of, rows_named, of, by, after, number_of_kind as kind_number, kind_order, octet_order, place_order, records_after_edits, edited_by, records_before, records_past}
use Rattle.dq_tables.specs.Lookups.{record_at, same_kind}
use Rattle.dq_tables.specs.Keys.{entry_id}
use Rattle.dq_tables.specs.Records.{data_set_of}
use Rattle.dq_tables.specs.ServiceEffects.{first_refusal}
use Rattle.dq_tables.proofs.InOrder.{is_eq_then, is_eq_nat}
use Rattle.dq_tables.proofs.Lens.{others}
use Rattle.dq_worklist.specs.declared.refusal.Refusal.{Refusal}
use Rattle.dq_worklist.specs.Orders.{Order, refusal_number, is_complete, read_order, order_limit, has_entry, entry_of, refusal_or_entry, refusals, schedule_outcome, withdrawn}
use Rattle.dq_worklist.specs.Queries.{answers_of_entries, worklist_outcome}
use Rattle.dq_worklist.specs.Views.{order_of}
use Rattle.dq_worklist.proofs.Matching.{match_shown}
use Rattle.dq_worklist.proofs.Orders.{malformed}

-- ---- refusals

outcome_refused : (r : Option Refusal) (o : Option Order) (number : ℕ) (edits : List Edit) → refusal_or_entry r o ≡ (Some number, edits) → edits ≡ []
outcome_refused (Some refusal) o number edits e = sym (ap (λ (x : Option ℕ × List Edit). x.1) e)
outcome_refused None None number edits e = sym (ap (λ (x : Option ℕ × List Edit). x.1) e)
outcome_refused None (Some order) number edits e = (let no : None ≡ Some number = ap (λ (x : Option ℕ × List Edit). x.0) e in cc)

pub refused_schedules_nothing : (limits : Limits) (records : List Record) (octets : List ℕ) (number : ℕ) (edits : List Edit)
    → schedule_outcome limits records octets ≡ (Some number, edits) → edits ≡ []
unfolding schedule_outcome
refused_schedules_nothing limits records octets number edits e =
    outcome_refused (first_refusal (refusals limits records octets (data_set_read Explicit octets))) (read_order (data_set_read Explicit octets)) number edits e

pub refused_withdraws_nothing : (records : List Record) (id : List ℕ) (number : ℕ) (edits : List Edit)
    → withdrawn records id ≡ (Some number, edits) → edits ≡ []
unfolding withdrawn
refused_withdraws_nothing records id number edits e = grind arith

outcome_accepted : (r : Option Refusal) (o : Option Order) (order : Order) (edits : List Edit) → o ≡ Some order
    → refusal_or_entry r o ≡ (None, edits) → edits ≡ Put (entry_of order) ∷ []
outcome_accepted (Some refusal) o order edits same e = (let no : Some (refusal_number refusal) ≡ None = ap (λ (x : Option ℕ × List Edit). x.0) e in cc)
outcome_accepted None None order edits same e = cc
outcome_accepted None (Some other) order edits same e =
    sym (ap (λ (x : Option ℕ × List Edit). x.1) e) ∙ (let one : other ≡ order = cc in ap (λ (o : Order). Put (entry_of o) ∷ []) one)

pub accepted_is_put : (limits : Limits) (records : List Record) (octets : List ℕ) (edits : List Edit) (order : Order)
    → schedule_outcome limits records octets ≡ (None, edits) → read_order (data_set_read Explicit octets) ≡ Some order → edits ≡ Put (entry_of order) ∷ []
unfolding schedule_outcome
accepted_is_put limits records octets edits order e same =
    outcome_accepted (first_refusal (refusals limits records octets (data_set_read Explicit octets))) (read_order (data_set_read Explicit octets)) order edits same e

withdrawn_is : (records : List Record) (id : List ℕ) (edits : List Edit) → withdrawn records id ≡ (None, edits) → edits ≡ Remove Entry id ∷ []
unfolding withdrawn
withdrawn_is records id edits e = grind arith

-- ---- where a record is put, and where one is removed

abbrev stands_at : Place → Record → Bool
stands_at p r = same_kind r.kind p.kind && bytes_eq r.key p.key

stands_in_order : (p : Place) (r : Record) → stands_at p r ≡ is_eq (place_order (record_place r) p)
stands_in_order p r =
    sym (is_eq_then (kind_order r.kind p.kind) (octet_order r.key p.key)
    ∙ ap (λ (b : Bool). is_eq (kind_order r.kind p.kind) && b) (is_eq-slice_cmp r.key p.key)
    ∙ ap (λ (b : Bool). b && bytes_eq r.key p.key) (is_eq_nat (kind_number r.kind) (kind_number p.kind)))

abbrev first_at : Place → List Record → Option Record
first_at p rs = find (stands_at p) rs

elsewhere_step : (p : Place) (test : Ordering → Bool) → test Equal ≡ false → (r : Record) (rest : List Record) (o : Ordering) → place_order (record_place r) p ≡ o
    → first_at p rest ≡ None → (b : Bool) → test o ≡ b → first_at p (if b then r ∷ rest else rest) ≡ None
elsewhere_step p test apart r rest o e none false is = none
elsewhere_step p test apart r rest Less e none true is = rw (stands_in_order p r, e) none
elsewhere_step p test apart r rest Equal e none true is = (let no : true ≡ false = sym is ∙ apart in cc)
elsewhere_step p test apart r rest Greater e none true is = rw (stands_in_order p r, e) none

none_elsewhere : (p : Place) (test : Ordering → Bool) → test Equal ≡ false → (rs : List Record)
    → first_at p (filter (λ (r : Record). test (place_order (record_place r) p)) rs) ≡ None
none_elsewhere p test apart [] = refl
none_elsewhere p test apart (r ∷ rs) =
    elsewhere_step p test apart r (filter (λ (r : Record). test (place_order (record_place r) p)) rs) (place_order (record_place r) p) refl
    (none_elsewhere p test apart rs) (test (place_order (record_place r) p)) refl

none_before : {X : Type 0} (t : X → Bool) (xs ys : List X) → find t xs ≡ None → find t (xs ++ ys) ≡ find t ys
none_before t [] ys none = refl
none_before t (x ∷ xs) ys none = grind (arith, none_before t xs ys)

pub withdrawn_is_free : (records : List Record) (id : List ℕ) (edits : List Edit) → withdrawn records id ≡ (None, edits)
    → has_entry (records_after_edits edits records) id ≡ false
unfolding withdrawn edited_by record_at
withdrawn_is_free records id edits e =
    let p : Place = record { kind = Entry; key = id } in
    let gone : has_entry (edited_by (Remove Entry id) records) id ≡ false =
    ap is_some (none_before (stands_at p) (records_before p records ++ []) (records_past p records)
    (none_before (stands_at p) (records_before p records) [] (none_elsewhere p is_lt refl records)) ∙ none_elsewhere p is_gt refl records) in
    ap (λ (es : List Edit). has_entry (records_after_edits es records) id) (withdrawn_is records id edits e) ∙ gone

found_between : {X : Type 0} (t : X → Bool) (xs : List X) (y : X) (ys : List X) → t y ≡ true → is_some (find t ((xs ++ (y ∷ [])) ++ ys)) ≡ true
found_between t [] y ys here = rw here refl
found_between t (x ∷ xs) y ys here = grind (arith, found_between t xs y ys here)

put_there : (order : Order) (records : List Record) → has_entry (edited_by (Put (entry_of order)) records) order.id ≡ true
unfolding edited_by record_at
put_there order records =
    let p : Place = record { kind = Entry; key = order.id } in
    found_between (stands_at p) (records_before p records) (entry_of order) (records_past p records) ((bytes_eq-Decides order.id order.id).1 refl)

pub scheduled_is_there : (limits : Limits) (records : List Record) (octets : List ℕ) (edits : List Edit) (order : Order)
    → schedule_outcome limits records octets ≡ (None, edits) → read_order (data_set_read Explicit octets) ≡ Some order → has_entry (records_after_edits edits records) order.id ≡ true
scheduled_is_there limits records octets edits order e same =
    ap (λ (es : List Edit). has_entry (records_after_edits es records) order.id) (accepted_is_put limits records octets edits order e same) ∙ put_there order records

-- ---- answers

pub listed_alike : (g h : List ℕ) → h ≢ g → (edits : List Edit) (rows : List Row) (message : Message) (syntax : Syntax) → IsRising rows
    → worklist_outcome (of g (after (by h edits) rows)) message syntax ≡ worklist_outcome (of g rows) message syntax
listed_alike g h other edits rows message syntax rising = ap (λ (records : List Record). worklist_outcome records message syntax) (others g h other edits rows rising)

module _ (keys : ElementList) where
  put_answered : (order : Order) → fits keys (data_set_of (entry_of order).octets) ≡ true → (records : List Record)
      → IsAmong (shown_data_set keys (data_set_of (entry_of order).octets)) (answers_of_entries (edited_by (Put (entry_of order)) records) keys)
  unfolding edited_by
  put_answered order fit records =
      let p : Place = record { kind = Entry; key = order.id } in
      let among = among_between (entry_of order) (records_before p records) (records_past p records) in
      match_shown (edited_by (Put (entry_of order)) records) keys (entry_of order) (record { kept = among; kind = refl; waiting = refl; fit = fit })

  pub scheduled_is_answered : (limits : Limits) (records : List Record) (octets : List ℕ) (edits : List Edit) (order : Order)
      → data_set_read Explicit (canonical Explicit order.elements) ≡ Ok order.elements → schedule_outcome limits records octets ≡ (None, edits)
      → read_order (data_set_read Explicit octets) ≡ Some order → fits keys order.elements ≡ true
      → IsAmong (shown_data_set keys order.elements) (answers_of_entries (records_after_edits edits records) keys)
  unfolding data_set_of
  scheduled_is_answered limits records octets edits order back e same fit =
      let d : data_set_of (canonical Explicit order.elements) ≡ order.elements = rw back refl in
      subst (λ (es : List Edit). IsAmong (shown_data_set keys order.elements) (answers_of_entries (records_after_edits es records) keys))
      (sym (accepted_is_put limits records octets edits order e same))
      (subst (λ (x : ElementList). IsAmong (shown_data_set keys x) (answers_of_entries (edited_by (Put (entry_of order)) records) keys)) d
      (put_answered order (ap (fits keys) d ∙ fit) records))

-- ---- what was read of an order

order_by_test : (b : Bool) (d : ElementList) (id : List ℕ) (order : Order) → only_if b (order_of d id) ≡ Some order → d ≡ order.elements
order_by_test true d id order e = (let one : order_of d id ≡ order = cc in ap (λ (o : Order). o.elements) one)
order_by_test false d id order e = cc

order_by_id : (id : Option (List ℕ)) (d : ElementList) (order : Order) → id >>= (λ i. only_if (is_complete d) (order_of d i)) ≡ Some order → d ≡ order.elements
order_by_id None d order e = cc
order_by_id (Some id) d order e = order_by_test (is_complete d) d id order e

pub order_read : (r : Result ElementList ReadFault) (order : Order) → read_order r ≡ Some order → r ≡ Ok order.elements
order_read (Ok d) order e = ap (λ (x : ElementList). Ok x) (order_by_id (entry_id d) d order e)
order_read (Err fault) order e = cc

not_past : (a : ℕ) → nat_lt 0x100000 a ≡ false → a < 2 ^ 31
not_past a e = grind (arith, nat_tests)

within_by : (limits : Limits) (records : List Record) (octets : List ℕ) (edits : List Edit) (long : Bool) → nat_lt order_limit (length octets) ≡ long
    → schedule_outcome limits records octets ≡ (None, edits) → length octets < 2 ^ 31
within_by limits records octets edits true is e =
    let refused : schedule_outcome limits records octets ≡ (Some 1, []) = malformed limits records octets (rw is refl) in
    absurd (grind arith)
within_by limits records octets edits false is e = not_past (length octets) is

pub scheduled_is_short : (limits : Limits) (records : List Record) (octets : List ℕ) (edits : List Edit) → schedule_outcome limits records octets ≡ (None, edits)
    → length octets < 2 ^ 31
scheduled_is_short limits records octets edits e = within_by limits records octets edits (nat_lt order_limit (length octets)) refl e

-- ---- what others keep

of_named : (own : List ℕ) (rows alike : List Row) → rows_named own rows ≡ rows_named own alike → of own rows ≡ of own alike
unfolding of
of_named own rows alike same = ap (map record_of) same

pub scheduled_alike : (own : List ℕ) (rows alike : List Row) (limits : Limits) (octets : List ℕ) → rows_named own rows ≡ rows_named own alike
    → schedule_outcome limits (of own rows) octets ≡ schedule_outcome limits (of own alike) octets
scheduled_alike own rows alike limits octets same = ap (λ (records : List Record). schedule_outcome limits records octets) (of_named own rows alike same)

pub withdrawn_alike : (own : List ℕ) (rows alike : List Row) (id : List ℕ) → rows_named own rows ≡ rows_named own alike
    → withdrawn (of own rows) id ≡ withdrawn (of own alike) id
withdrawn_alike own rows alike id same = ap (λ (records : List Record). withdrawn records id) (of_named own rows alike same)

pub others_scheduled : (own other : List ℕ) → own ≢ other → (limits : Limits) (rows : List Row) (octets : List ℕ) → IsRising rows
    → of other (after (by own (schedule_outcome limits (of own rows) octets).1) rows) ≡ of other rows
others_scheduled own other apart limits rows octets rising = others other own apart (schedule_outcome limits (of own rows) octets).1 rows rising

pub others_withdrawn : (own other : List ℕ) → own ≢ other → (rows : List Row) (id : List ℕ) → IsRising rows
    → of other (after (by own (withdrawn (of own rows) id).1) rows) ≡ of other rows
others_withdrawn own other apart rows id rising = others other own apart (withdrawn (of own rows) id).1 rows rising
