-- What the creation of a step makes of the records.
use Rattle.std.proofs.Common.{◌≡◌, ◌≢◌, ℕ, Bool, true, false, ◌&&◌, ◌||◌, List, [], ◌∷◌, ◌++◌, map, filter, find, Option, Some, None, option_map, is_some, refl, sym, ap, ◌∙◌, subst, if◌then◌else◌}
use Rattle.std.specs.List.{AllByRecursion, list_any}
use Rattle.std.specs.Str.{bytes_eq}
use Rattle.std.specs.declared.cmp.Ordering.{Ordering}
use Rattle.std.specs.declared.cmp.Ordering.TheVariants.{Less, Equal, Greater}
use Rattle.std.specs.Ordering.{is_eq, is_lt, is_gt}
use Rattle.std.specs.Result.{result_unwrap_or}
use Rattle.std.proofs.lemmas.Bool.{and_parts}
use Rattle.std.proofs.lemmas.Map.Text.{is_eq-slice_cmp}
use Rattle.std.proofs.lemmas.Slice.Eq.{bytes_eq-Decides}
use Rattle.dq_list.proofs.Finding.{found_filtered, none_filtered}
use Rattle.dq_dataset.specs.declared.header.Syntax.{Syntax}
use Rattle.dq_dataset.specs.Tree.{ElementList, no_elements}
use Rattle.dq_dataset.specs.DataSetReader.{data_set_read}
use Rattle.dq_dimse.specs.Received.{Message}
use Rattle.dq_dimse.specs.Statuses.{success}
use Rattle.dq_config.specs.Limits.{Limits}
use Rattle.dq_tables.specs.declared.row.Kind.{Kind}
use Rattle.dq_tables.specs.declared.row.Kind.TheVariants.{Entry, Step}
use Rattle.dq_tables.specs.Rows.{Record, Place, record_place, Edit, Put, Start, as_started, number_of_kind, kind_order, octet_order, place_order, records_after_edits, edited_by, records_after_edit, records_before, records_past}
use Rattle.dq_tables.specs.Lookups.{record_at, same_kind}
use Rattle.dq_tables.specs.ServiceEffects.{first_refusal, refusal_or}
use Rattle.dq_tables.specs.StartedEntries.{names, entries_named}
use Rattle.dq_tables.proofs.InOrder.{is_eq_then, is_eq_nat}
use Rattle.dq_tables.proofs.RecordLists.{one_kind, its_kind}
use Rattle.dq_tables.proofs.EditPlaces.{StandsAt, stands_there}
use Rattle.dq_mpps.specs.Steps.{step_record}
use Rattle.dq_mpps.specs.NCreate.{creation_refusals, creation, create_outcome}
use Rattle.dq_mpps.specs.CreatedStep.{started_by, IsCreated}
use Rattle.dq_mpps.proofs.NamedEntries.{is_named}

-- ---- what is found after an edit

abbrev stands_at : Place → Record → Bool
stands_at p r = same_kind r.kind p.kind && bytes_eq r.key p.key

abbrev at : Place → List Record → Option Record
at p records = find (stands_at p) records

stands_in_order : (p : Place) (r : Record) → stands_at p r ≡ is_eq (place_order (record_place r) p)
stands_in_order p r =
    sym (is_eq_then (kind_order r.kind p.kind) (octet_order r.key p.key)
    ∙ ap (λ (b : Bool). is_eq (kind_order r.kind p.kind) && b) (is_eq-slice_cmp r.key p.key)
    ∙ ap (λ (b : Bool). b && bytes_eq r.key p.key) (is_eq_nat (number_of_kind r.kind) (number_of_kind p.kind)))

its_place : (p : Place) (r : Record) → stands_at p r ≡ true → record_place r ≡ p
its_place p r e =
    let parts = and_parts (same_kind r.kind p.kind) (bytes_eq r.key p.key) e in
    let kinds = one_kind r.kind p.kind parts.0 in
    let keys = (bytes_eq-Decides r.key p.key).0 parts.1 in
    λ i. record { kind = kinds i; key = keys i }

passed : {X : Type 0} (t : X → Bool) (x : X) (xs ys : List X) (b : Bool) → t x ≡ b → (find t xs ≡ None → find t (xs ++ ys) ≡ find t ys)
    → (if b then Some x else find t xs) ≡ None → (if b then Some x else find t (xs ++ ys)) ≡ find t ys
passed t x xs ys true e rest none = cc
passed t x xs ys false e rest none = rest none

none_before : {X : Type 0} (t : X → Bool) (xs ys : List X) → find t xs ≡ None → find t (xs ++ ys) ≡ find t ys
none_before t [] ys none = refl
none_before t (x ∷ xs) ys none = passed t x xs ys (t x) refl (none_before t xs ys) none

past_step : {X : Type 0} (t : X → Bool) (x : X) (xs ys : List X) (b : Bool) → find t (xs ++ ys) ≡ find t xs
    → (if b then Some x else find t (xs ++ ys)) ≡ (if b then Some x else find t xs)
past_step t x xs ys true rest = refl
past_step t x xs ys false rest = rest

none_past : {X : Type 0} (t : X → Bool) (xs ys : List X) → find t ys ≡ None → find t (xs ++ ys) ≡ find t xs
none_past t [] ys none = none
none_past t (x ∷ xs) ys none = past_step t x xs ys (t x) (none_past t xs ys none)

-- records on one side of a place, of which those at another all are, or none
module _ (p q : Place) (side : Ordering → Bool) (records : List Record) where
  abbrev beside : List Record
  beside = filter (λ (r : Record). side (place_order (record_place r) p)) records

  all_beside : side (place_order q p) ≡ true → at q beside ≡ at q records
  all_beside is =
      found_filtered (stands_at q) (λ (r : Record). side (place_order (record_place r) p))
      (λ r e. ap (λ (o : Place). side (place_order o p)) (its_place q r e) ∙ is) records

  none_beside : side (place_order q p) ≡ false → at q beside ≡ None
  none_beside is =
      none_filtered (stands_at q) (λ (r : Record). side (place_order (record_place r) p))
      (λ r e. ap (λ (o : Place). side (place_order o p)) (its_place q r e) ∙ is) records

-- what an edit leaves at a place, the records before it and those past it
abbrev around : Place → List Record → List Record → List Record
around p left records = (records_before p records ++ left) ++ records_past p records

itself : (p : Place) → is_eq (place_order p p) ≡ true
itself p =
    is_eq_then (kind_order p.kind p.kind) (octet_order p.key p.key)
    ∙ ap (λ (b : Bool). is_eq (kind_order p.kind p.kind) && b) (is_eq-slice_cmp p.key p.key ∙ (bytes_eq-Decides p.key p.key).1 refl)
    ∙ ap (λ (b : Bool). b && true) (is_eq_nat (number_of_kind p.kind) (number_of_kind p.kind) ∙ its_kind p.kind p.kind refl)

equal_from : (o : Ordering) → is_eq o ≡ true → o ≡ Equal
equal_from Less e = absurd cc
equal_from Equal e = refl
equal_from Greater e = absurd cc

same_place : (p : Place) → place_order p p ≡ Equal
same_place p = equal_from (place_order p p) (itself p)

found_here : (p : Place) (left records : List Record) → at p (around p left records) ≡ at p left
found_here p left records =
    none_past (stands_at p) (records_before p records ++ left) (records_past p records) (none_beside p p is_gt records (ap is_gt (same_place p)))
    ∙ none_before (stands_at p) (records_before p records) left (none_beside p p is_lt records (ap is_lt (same_place p)))

found_by : (p q : Place) (left records : List Record) (o : Ordering) → place_order q p ≡ o → is_eq o ≡ false → at q left ≡ None
    → at q (around p left records) ≡ at q records
found_by p q left records Less is other none =
    none_past (stands_at q) (records_before p records ++ left) (records_past p records) (none_beside p q is_gt records (ap is_gt is))
    ∙ none_past (stands_at q) (records_before p records) left none ∙ all_beside p q is_lt records (ap is_lt is)
found_by p q left records Equal is other none = absurd cc
found_by p q left records Greater is other none =
    none_before (stands_at q) (records_before p records ++ left) (records_past p records)
    (none_past (stands_at q) (records_before p records) left none ∙ none_beside p q is_lt records (ap is_lt is))
    ∙ all_beside p q is_gt records (ap is_gt is)

found_elsewhere : (p q : Place) (left records : List Record) → is_eq (place_order q p) ≡ false → at q left ≡ None
    → at q (around p left records) ≡ at q records
found_elsewhere p q left records other none = found_by p q left records (place_order q p) refl other none

none_alone : (q : Place) (r : Record) → is_eq (place_order (record_place r) q) ≡ false → at q (r ∷ []) ≡ None
none_alone q r other = rw (stands_in_order q r, other) refl

alone : (p : Place) (r : Record) → record_place r ≡ p → at p (r ∷ []) ≡ Some r
alone p r is =
    let here : stands_at p r ≡ true = stands_in_order p r ∙ ap (λ (o : Place). is_eq (place_order o p)) is ∙ itself p in
    rw here refl

-- ---- a record that is put

pub put_here : (r : Record) (records : List Record) → record_at r.kind r.key (edited_by (Put r) records) ≡ Some r
unfolding record_at edited_by
put_here r records = found_here (record_place r) (r ∷ []) records ∙ alone (record_place r) r refl

apart_back : (a b : Place) → is_eq (place_order a b) ≡ false → is_eq (place_order b a) ≡ false
apart_back a b e = by (is_eq (place_order b a)) refl
  where
    by : (c : Bool) → is_eq (place_order b a) ≡ c → is_eq (place_order b a) ≡ false
    by false is = is
    by true is =
        let r : Record = record { kind = b.kind; key = b.key; above = []; octets = []; started = false } in
        let same : b ≡ a = its_place a r (stands_in_order a r ∙ is) in
        absurd (cc (sym e ∙ ap (λ (o : Place). is_eq (place_order a o)) same ∙ itself a))

pub put_elsewhere : (r : Record) (q : Place) (records : List Record) → is_eq (place_order q (record_place r)) ≡ false
    → record_at q.kind q.key (edited_by (Put r) records) ≡ record_at q.kind q.key records
unfolding record_at edited_by
put_elsewhere r q records other =
    found_elsewhere (record_place r) q (r ∷ []) records other (none_alone q r (apart_back q (record_place r) other))

-- ---- entries that are started

abbrev entry_at : List ℕ → Place
entry_at id = record { kind = Entry; key = id }

left_here : (id : List ℕ) (o : Option Record) → StandsAt (entry_at id) o → (records : List Record) → record_at Entry id records ≡ o
    → at (entry_at id) (records_after_edit (Start id) records) ≡ option_map as_started o
left_here id None stands records is = rw is refl
left_here id (Some r) stands records is = rw is (alone (entry_at id) (as_started r) stands)

left_elsewhere : (id : List ℕ) (q : Place) → is_eq (place_order q (entry_at id)) ≡ false → (o : Option Record) → StandsAt (entry_at id) o
    → (records : List Record) → record_at Entry id records ≡ o → at q (records_after_edit (Start id) records) ≡ None
left_elsewhere id q other None stands records is = rw is refl
left_elsewhere id q other (Some r) stands records is =
    rw is (none_alone q (as_started r) (ap (λ (o : Place). is_eq (place_order o q)) stands ∙ apart_back q (entry_at id) other))

found_at : (p : Place) (records : List Record) → record_at p.kind p.key records ≡ at p records
unfolding record_at
found_at p records = refl

start_here : (id : List ℕ) (records : List Record) → record_at Entry id (edited_by (Start id) records) ≡ option_map as_started (record_at Entry id records)
unfolding edited_by
start_here id records =
    found_at (entry_at id) (edited_by (Start id) records) ∙ found_here (entry_at id) (records_after_edit (Start id) records) records
    ∙ left_here id (record_at Entry id records) (stands_there (entry_at id) records) records refl

start_elsewhere : (id : List ℕ) (q : Place) (records : List Record) → is_eq (place_order q (entry_at id)) ≡ false
    → record_at q.kind q.key (edited_by (Start id) records) ≡ record_at q.kind q.key records
unfolding edited_by
start_elsewhere id q records other =
    found_at q (edited_by (Start id) records)
    ∙ found_elsewhere (entry_at id) q (records_after_edit (Start id) records) records other
    (left_elsewhere id q other (record_at Entry id records) (stands_there (entry_at id) records) records refl) ∙ sym (found_at q records)

abbrev started_if : Bool → Record → Record
started_if b r = record r { started = r.started || b }

if_none : (o : Option Record) → o ≡ option_map (started_if false) o
if_none None = refl
if_none (Some r) = (let e = or_none r.started in λ i. Some (record r { started = e i }))
  where
    or_none : (b : Bool) → b ≡ (b || false)
    or_none true = refl
    or_none false = refl

once_more : (b : Bool) (o : Option Record) → option_map (started_if b) (option_map as_started o) ≡ option_map (started_if true) o
once_more b None = refl
once_more b (Some r) = (let e = or_true r.started in λ i. Some (record r { started = e i }))
  where
    or_true : (a : Bool) → true ≡ (a || true)
    or_true true = refl
    or_true false = refl

module _ (id : List ℕ) where
  start_step : (key : List ℕ) (keys : List (List ℕ)) (records : List Record) (b : Bool) → bytes_eq id key ≡ b
      → record_at Entry id (records_after_edits (map Start keys) (edited_by (Start key) records))
      ≡ option_map (started_if (list_any (bytes_eq id) keys)) (record_at Entry id (edited_by (Start key) records))
      → record_at Entry id (records_after_edits (map Start keys) (edited_by (Start key) records))
      ≡ option_map (started_if (b || list_any (bytes_eq id) keys)) (record_at Entry id records)
  start_step key keys records true is rest =
      let same : id ≡ key = (bytes_eq-Decides id key).0 is in
      let here : record_at Entry id (edited_by (Start key) records) ≡ option_map as_started (record_at Entry id records) =
      ap (λ (k : List ℕ). record_at Entry id (edited_by (Start k) records)) (sym same) ∙ start_here id records in
      rest ∙ ap (option_map (started_if (list_any (bytes_eq id) keys))) here
      ∙ once_more (list_any (bytes_eq id) keys) (record_at Entry id records)
  start_step key keys records false is rest =
      let apart : is_eq (place_order (entry_at id) (entry_at key)) ≡ false = is_eq-slice_cmp id key ∙ is in
      rest ∙ ap (option_map (started_if (list_any (bytes_eq id) keys))) (start_elsewhere key (entry_at id) records apart)

  starts_here : (keys : List (List ℕ)) (records : List Record)
      → record_at Entry id (records_after_edits (map Start keys) records) ≡ option_map (started_if (list_any (bytes_eq id) keys)) (record_at Entry id records)
  starts_here [] records = if_none (record_at Entry id records)
  starts_here (key ∷ keys) records =
      start_step key keys records (bytes_eq id key) refl (starts_here keys (edited_by (Start key) records))

starts_elsewhere : (keys : List (List ℕ)) (q : Place) (records : List Record) → ((key : List ℕ) → is_eq (place_order q (entry_at key)) ≡ false)
    → record_at q.kind q.key (records_after_edits (map Start keys) records) ≡ record_at q.kind q.key records
starts_elsewhere [] q records other = refl
starts_elsewhere (key ∷ keys) q records other =
    starts_elsewhere keys q (edited_by (Start key) records) other ∙ start_elsewhere key q records (other key)

-- ---- the edits of a new step

is_true : (b c : Bool) (o : Option Record) → (is_some o ≡ true → b ≡ c) → option_map (started_if b) o ≡ option_map (started_if c) o
is_true b c None same = refl
is_true b c (Some r) same = ap (λ (x : Bool). Some (started_if x r)) (same refl)

pub apart : (a b : Place) → (a.kind ≡ b.kind → a.key ≡ b.key → ⊥) → is_eq (place_order a b) ≡ false
apart a b differ = by (is_eq (place_order a b)) refl
  where
    by : (c : Bool) → is_eq (place_order a b) ≡ c → is_eq (place_order a b) ≡ false
    by false is = is
    by true is =
        let r : Record = record { kind = a.kind; key = a.key; above = []; octets = []; started = false } in
        let same : a ≡ b = its_place b r (stands_in_order b r ∙ is) in
        absurd (differ (ap (λ (p : Place). p.kind) same) (ap (λ (p : Place). p.key) same))

started_is : (d : ElementList) (id : List ℕ) (o : Option Record) → StandsAt (entry_at id) o
    → option_map (started_if (names d id)) o ≡ option_map (started_by d) o
started_is d id None stands = refl
started_is d id (Some r) stands =
    ap (λ (k : List ℕ). Some (started_if (names d k) r)) (sym (ap (λ (p : Place). p.key) stands))

module _ (records : List Record) (uid : List ℕ) (d : ElementList) where
  abbrev after : List Record
  after = records_after_edits (creation records uid d) records

  abbrev with_step : List Record
  with_step = edited_by (Put (step_record uid d)) records

  abbrev keys : List (List ℕ)
  keys = entries_named records d

  entry_apart : (id : List ℕ) → is_eq (place_order (entry_at id) (record_place (step_record uid d))) ≡ false
  entry_apart id = apart (entry_at id) (record_place (step_record uid d)) (λ kinds. absurd cc)

  entries_after : (id : List ℕ) → record_at Entry id after ≡ option_map (started_by d) (record_at Entry id records)
  entries_after id =
      let found = record_at Entry id records in
      starts_here id keys with_step ∙ ap (option_map (started_if (list_any (bytes_eq id) keys))) (put_elsewhere (step_record uid d) (entry_at id) records (entry_apart id))
      ∙ is_true (list_any (bytes_eq id) keys) (names d id) found (λ there. is_named d id records ∙ ap (λ (b : Bool). b && names d id) there)
      ∙ started_is d id found (stands_there (entry_at id) records)

  others_after : (kind : Kind) (key : List ℕ) → kind ≢ Entry → (kind ≡ Step → key ≢ uid) → record_at kind key after ≡ record_at kind key records
  others_after kind key no_entry other =
      let q : Place = record { kind = kind; key = key } in
      starts_elsewhere keys q with_step (λ id. apart q (entry_at id) (λ kinds same. no_entry kinds))
      ∙ put_elsewhere (step_record uid d) q records (apart q (record_place (step_record uid d)) (λ kinds same. other kinds same))

  step_after : record_at Step uid after ≡ Some (step_record uid d)
  step_after =
      let q : Place = record_place (step_record uid d) in
      starts_elsewhere keys q with_step (λ id. apart q (entry_at id) (λ kinds same. absurd cc)) ∙ put_here (step_record uid d) records

  pub is_created : IsCreated records after uid d
  is_created = record { kept = step_after; entries = entries_after; others = others_after }

-- ---- an N-CREATE that is accepted

accepted_step : (b : Bool) (status : ℕ) (o : Option ℕ) (edits : List Edit) → status ≢ success
    → (refusal_or (if b then Some status else o) (success, edits)).0 ≡ success
    → ((refusal_or o (success, edits)).0 ≡ success → (refusal_or o (success, edits)).1 ≡ edits)
    → (refusal_or (if b then Some status else o) (success, edits)).1 ≡ edits
accepted_step true status o edits failure is rest = absurd (failure is)
accepted_step false status o edits failure is rest = rest is

pub accepted : (refusals : List (Bool × ℕ)) (edits : List Edit) → AllByRecursion (λ (r : Bool × ℕ). r.1 ≢ success) refusals
    → (refusal_or (first_refusal refusals) (success, edits)).0 ≡ success → (refusal_or (first_refusal refusals) (success, edits)).1 ≡ edits
accepted [] edits failures is = refl
accepted (r ∷ refusals) edits failures is =
    accepted_step r.0 r.1 (first_refusal refusals) edits failures.0 is (accepted refusals edits failures.1)

pub created_is : (limits : Limits) (records : List Record) (message : Message) (syntax : Syntax) → (create_outcome limits records message syntax).0 ≡ success
    → IsCreated records (records_after_edits (create_outcome limits records message syntax).1 records) message.command.sop_instance
    (result_unwrap_or (data_set_read syntax message.octets) no_elements)
unfolding create_outcome
created_is limits records message syntax is =
    let data_set = data_set_read syntax message.octets in
    let d = result_unwrap_or data_set no_elements in
    let uid = message.command.sop_instance in
    let edits = creation records uid d in
    let made = accepted (creation_refusals limits records message data_set) edits
    ((λ e. cc), ((λ e. cc), ((λ e. cc), ((λ e. cc), ((λ e. cc), ((λ e. cc), ((λ e. cc), ((λ e. cc), tt)))))))) is in
    subst (λ (es : List Edit). IsCreated records (records_after_edits es records) uid d) (sym made) (is_created records uid d)
