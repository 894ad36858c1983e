-- The ids that a step names, in their order, and the entries that are kept under them.
use Rattle.std.proofs.Common.{◌≡◌, ◌+◌, ℕ, Bool, true, false, ◌&&◌, ◌||◌, List, [], ◌∷◌, ◌++◌, map, filter, find, length, is_some, Ok, append-nil, append_assoc, inl, inr, refl, sym, ◌∙◌, ap, arith, if◌then◌else◌}
use Rattle.std.specs.Global.{Vec}
use Rattle.std.specs.BTreeSet.{insert_key}
use Rattle.std.specs.List.{AllByRecursion, list_any}
use Rattle.std.specs.List.Sorted.{IsStrictlySortedBy}
use Rattle.std.specs.Ordering.{match_ordering, is_eq}
use Rattle.std.specs.Str.{bytes_eq}
use Rattle.std.specs.declared.cmp.Ordering.{Ordering}
use Rattle.std.specs.declared.cmp.Ordering.TheVariants.{Less, Equal, Greater}
use Rattle.std.proofs.lemmas.Bool.{and_parts}
use Rattle.std.proofs.lemmas.Cmp.{nat_list_cmp_total}
use Rattle.std.proofs.lemmas.Map.Text.{is_eq-slice_cmp}
use Rattle.std.proofs.lemmas.Slice.Eq.{bytes_eq-Decides}
use Rattle.dq_list.specs.Octets.{octets_of_vectors}
use Rattle.dq_list.specs.Among.{IsAmong}
use Rattle.dq_list.proofs.Among.{among_filter, filtered_from}
use Rattle.dq_dataset.specs.Tree.{ElementList}
use Rattle.dq_tables.specs.declared.row.Kind.TheVariants.{Entry}
use Rattle.dq_tables.specs.declared.row.Row.{Row}
use Rattle.dq_tables.specs.Rows.{Record, octet_order, IsRising, of}
use Rattle.dq_tables.specs.Lookups.{same_kind, record_at, row_at, records_of}
use Rattle.dq_tables.specs.Records.{AreInOrder}
use Rattle.dq_tables.specs.StartedEntries.{names, entries_named}
use Rattle.dq_tables.proofs.RecordLists.{listed_in_order, in_order_filter}
use Rattle.dq_tables.proofs.Order.{each_filtered}
use Rattle.dq_tables.proofs.RisingLists.{Rises, only_one}
use Rattle.dq_archive.proofs.Lookups.{there_own}
use Rattle.dq_mpps.specs.Views.{AreNamed, ids_kept}

-- ---- a set of ids

abbrev vec_order : Vec ℕ → Vec ℕ → Ordering
vec_order a b = octet_order a.items b.items

sorted_past : (v : Vec ℕ) (vs : List (Vec ℕ)) → AllByRecursion (λ (w : Vec ℕ). vec_order v w ≡ Less) vs
    → AllByRecursion (λ (id : List ℕ). octet_order v.items id ≡ Less) (octets_of_vectors vs)
sorted_past v [] all = tt
sorted_past v (w ∷ vs) all = (all.0, sorted_past v vs all.1)

sorted_octets : (vs : List (Vec ℕ)) → IsStrictlySortedBy vec_order vs → IsStrictlySortedBy octet_order (octets_of_vectors vs)
unfolding IsStrictlySortedBy
sorted_octets [] sorted = tt
sorted_octets (v ∷ vs) sorted = (sorted_past v vs sorted.0, sorted_octets vs sorted.1)

abbrev is_in : List ℕ → List (List ℕ) → Bool
is_in id ids = list_any (bytes_eq id) ids

same_items : (a b : List ℕ) → octet_order a b ≡ Equal → a ≡ b
same_items a b e = (bytes_eq-Decides a b).0 (sym (is_eq-slice_cmp a b) ∙ ap is_eq e)

or_same : (a b c d : Bool) → d ≡ (b || c) → (a || d) ≡ (b || (a || c))
or_same true true c d h = refl
or_same true false c d h = refl
or_same false b c d h = h

again : (a b : Bool) → (a || b) ≡ (a || (a || b))
again true b = refl
again false b = refl

put_by : (o : Ordering) (id : List ℕ) (new first : Vec ℕ) (others put : List (Vec ℕ)) → vec_order new first ≡ o
    → is_in id (octets_of_vectors put) ≡ (bytes_eq id new.items || is_in id (octets_of_vectors others))
    → is_in id (octets_of_vectors (match_ordering o (new ∷ (first ∷ others)) (first ∷ others) (first ∷ put)))
    ≡ (bytes_eq id new.items || (bytes_eq id first.items || is_in id (octets_of_vectors others)))
put_by Less id new first others put is rest = refl
put_by Equal id new first others put is rest =
    again (bytes_eq id first.items) (is_in id (octets_of_vectors others))
    ∙ ap (λ (o : List ℕ). bytes_eq id o || (bytes_eq id first.items || is_in id (octets_of_vectors others))) (sym (same_items new.items first.items is))
put_by Greater id new first others put is rest =
    or_same (bytes_eq id first.items) (bytes_eq id new.items) (is_in id (octets_of_vectors others)) (is_in id (octets_of_vectors put)) rest

put_in : (id : List ℕ) (new : Vec ℕ) (set : List (Vec ℕ)) → is_in id (octets_of_vectors (insert_key vec_order set new)) ≡ (bytes_eq id new.items || is_in id (octets_of_vectors set))
put_in id new [] = refl
put_in id new (first ∷ others) =
    put_by (vec_order new first) id new first others (insert_key vec_order others new) refl (put_in id new others)

-- what is in the set or still to come
pub record SoFar (set : List (Vec ℕ)) (left named : List (List ℕ)) : Type 0 where
  pub in_order : IsStrictlySortedBy vec_order set
  pub same : (id : List ℕ) → (is_in id (octets_of_vectors set) || is_in id left) ≡ is_in id named

regroup : (a b c : Bool) → ((a || b) || c) ≡ (b || (a || c))
regroup true true c = refl
regroup true false c = refl
regroup false b c = refl

-- stays so where the first that is to come is put into the set
pub one_more : (before after : List (Vec ℕ)) (new : Vec ℕ) (first : List ℕ) (left others named : List (List ℕ)) → after ≡ insert_key vec_order before new
    → IsStrictlySortedBy vec_order after → new.items ≡ first → left ≡ first ∷ others → SoFar before left named → SoFar after others named
one_more before after new first left others named put sorted is next so_far = record {
  in_order = sorted;
  same = λ id.
      (λ i. (ap (λ (vs : List (Vec ℕ)). is_in id (octets_of_vectors vs)) put ∙ put_in id new before) i || is_in id others)
      ∙ regroup (bytes_eq id new.items) (is_in id (octets_of_vectors before)) (is_in id others)
      ∙ (λ i. is_in id (octets_of_vectors before) || (bytes_eq id (is i) || is_in id others))
      ∙ ap (λ (ids : List (List ℕ)). is_in id (octets_of_vectors before) || is_in id ids) (sym next) ∙ so_far.same id;
}

or_none : (b : Bool) → b ≡ (b || false)
or_none true = refl
or_none false = refl

pub all_in : (step : ElementList) (set : List (Vec ℕ)) (left named : List (List ℕ)) → left ≡ [] → ((id : List ℕ) → is_in id named ≡ names step id)
    → SoFar set left named → AreNamed step (octets_of_vectors set)
all_in step set left named none those so_far = record {
  in_order = sorted_octets set so_far.in_order;
  same = λ id. or_none (is_in id (octets_of_vectors set)) ∙ ap (λ (ids : List (List ℕ)). is_in id (octets_of_vectors set) || is_in id ids) (sym none)
      ∙ so_far.same id ∙ those id;
}

-- ---- the entries under them

abbrev ComesBefore : List ℕ → List ℕ → Type 0
ComesBefore a b = octet_order a b ≡ Less

not_both : (a b : List ℕ) → ComesBefore a b → ComesBefore b a → ⊥
not_both a b less more = absurd (cc (sym (nat_list_cmp_total.antisymm b a), more))

abbrev InOrder : List (List ℕ) → Type 0
InOrder ids = Rises ComesBefore not_both ids

rises : (ids : List (List ℕ)) → IsStrictlySortedBy octet_order ids → InOrder ids
unfolding IsStrictlySortedBy
rises [] sorted = tt
rises (id ∷ ids) sorted = (sorted.0, rises ids sorted.1)

rises_by : (p : List ℕ → Bool) (id : List ℕ) (kept : List (List ℕ)) (b : Bool) → AllByRecursion (ComesBefore id) kept → InOrder kept
    → InOrder (if b then id ∷ kept else kept)
rises_by p id kept true later rest = (later, rest)
rises_by p id kept false later rest = rest

rises_filtered : (p : List ℕ → Bool) (ids : List (List ℕ)) → InOrder ids → InOrder (filter p ids)
rises_filtered p [] rising = tt
rises_filtered p (id ∷ ids) rising =
    rises_by p id (filter p ids) (p id) (each_filtered (ComesBefore id) p ids rising.0) (rises_filtered p ids rising.1)

abbrev keys_of : List Record → List (List ℕ)
keys_of records = map (λ (r : Record). r.key) records

keys_past : (k : List ℕ) (records : List Record) → AllByRecursion (λ (s : Record). octet_order k s.key ≡ Less) records
    → AllByRecursion (ComesBefore k) (keys_of records)
keys_past k [] all = tt
keys_past k (r ∷ records) all = (all.0, keys_past k records all.1)

keys_rise : (records : List Record) → AreInOrder records → InOrder (keys_of records)
keys_rise [] ordered = tt
keys_rise (r ∷ records) ordered = (keys_past r.key records ordered.0, keys_rise records ordered.1)

-- an id is among ids
in_step : (id first : List ℕ) (ids : List (List ℕ)) (b : Bool) → bytes_eq id first ≡ b → (b || is_in id ids) ≡ true → (is_in id ids ≡ true → IsAmong id ids)
    → IsAmong id (first ∷ ids)
in_step id first ids true e h rest = inl (sym ((bytes_eq-Decides id first).0 e))
in_step id first ids false e h rest = inr (rest h)

in_among : (id : List ℕ) (ids : List (List ℕ)) → is_in id ids ≡ true → IsAmong id ids
in_among id [] h = absurd cc
in_among id (first ∷ ids) h = in_step id first ids (bytes_eq id first) refl h (in_among id ids)

or_right : (a b : Bool) → b ≡ true → (a || b) ≡ true
or_right true b h = refl
or_right false b h = h

among_in : (id : List ℕ) (ids : List (List ℕ)) → IsAmong id ids → is_in id ids ≡ true
among_in id [] h = absurd h
among_in id (first ∷ ids) (inl e) = (λ i. (bytes_eq-Decides id first).1 (sym e) i || is_in id ids)
among_in id (first ∷ ids) (inr h) = or_right (bytes_eq id first) (is_in id ids) (among_in id ids h)

-- the ids of the entries that a step names are those that it names and under which an entry is kept
module _ (step : ElementList) (id : List ℕ) where
  abbrev kept : List Record → List (List ℕ)
  kept entries = keys_of (filter (λ (r : Record). names step r.key) entries)

  abbrev found_there : List Record → Bool
  found_there records = is_some (find (λ (r : Record). same_kind r.kind Entry && bytes_eq r.key id) records)

  abbrev entries : List Record → List Record
  entries records = filter (λ (r : Record). same_kind r.kind Entry) records

  and_none : (a b : Bool) → b ≡ false → (a && b) ≡ false
  and_none true b h = h
  and_none false b h = refl

  flip : (a b : List ℕ) (c : Bool) → bytes_eq a b ≡ c → bytes_eq b a ≡ c
  flip a b true e = (bytes_eq-Decides b a).1 (sym ((bytes_eq-Decides a b).0 e))
  flip a b false e = not_same (bytes_eq b a) refl
    where
      not_same : (c : Bool) → bytes_eq b a ≡ c → bytes_eq b a ≡ false
      not_same true f = absurd (cc (sym e ∙ (bytes_eq-Decides a b).1 (sym ((bytes_eq-Decides b a).0 f))))
      not_same false f = f

  named_step : (x : Record) (xs : List Record) (kind named here : Bool) → same_kind x.kind Entry ≡ kind → names step x.key ≡ named → bytes_eq x.key id ≡ here
      → is_in id (kept (entries xs)) ≡ (found_there xs && names step id)
      → is_in id (kept (entries (x ∷ xs))) ≡ (found_there (x ∷ xs) && names step id)
  named_step x xs false named here k n h rest = rw k rest
  named_step x xs true true true k n h rest =
      let its : names step id ≡ true = ap (names step) (sym ((bytes_eq-Decides x.key id).0 h)) ∙ n in
      rw (k, n, h, flip x.key id true h) (sym its)
  named_step x xs true true false k n h rest = rw (k, n, h, flip x.key id false h) rest
  named_step x xs true false true k n h rest =
      let its : names step id ≡ false = ap (names step) (sym ((bytes_eq-Decides x.key id).0 h)) ∙ n in
      rw (k, n, h) (rest ∙ and_none (found_there xs) (names step id) its ∙ sym its)
  named_step x xs true false false k n h rest = rw (k, n, h) rest

  named_by : (records : List Record) → is_in id (kept (entries records)) ≡ (found_there records && names step id)
  named_by [] = refl
  named_by (x ∷ xs) = named_step x xs (same_kind x.kind Entry) (names step x.key) (bytes_eq x.key id) refl refl refl (named_by xs)

  pub is_named : (records : List Record) → is_in id (entries_named records step) ≡ (is_some (record_at Entry id records) && names step id)
  unfolding entries_named records_of record_at
  is_named records = named_by records

and_true : (a b : Bool) → a ≡ true → b ≡ true → (a && b) ≡ true
and_true true b h k = k
and_true false b h k = absurd cc

pub kept_is_named : (name : List ℕ) (rows : List Row) (step : ElementList) (ids : List (List ℕ)) → IsRising rows → AreNamed step ids
    → ids_kept (of name rows) ids ≡ entries_named (of name rows) step
unfolding entries_named
kept_is_named name rows step ids rising named =
    let records = of name rows in
    let there = λ (id : List ℕ). is_some (record_at Entry id records) in
    let whole = length (filter there ids) + length (entries_named records step) in
    only_one ComesBefore not_both whole (ids_kept records ids) (entries_named records step)
    (rises_filtered there ids (rises ids named.in_order))
    (keys_rise _ (in_order_filter (λ (r : Record). names step r.key) (records_of Entry records) (listed_in_order Entry name rows rising)))
    (λ id h. inl (to id h)) (λ id h. inl (from id h)) (omega arith) (omega arith)
  where
    to : (id : List ℕ) → IsAmong id (ids_kept (of name rows) ids) → IsAmong id (entries_named (of name rows) step)
    to id h =
        let both = filtered_from (λ (k : List ℕ). is_some (record_at Entry k (of name rows))) id ids h in
        in_among id (entries_named (of name rows) step)
        (is_named step id (of name rows) ∙ and_true (is_some (record_at Entry id (of name rows))) (names step id) both.1
        (sym (named.same id) ∙ among_in id ids both.0))

    from : (id : List ℕ) → IsAmong id (entries_named (of name rows) step) → IsAmong id (ids_kept (of name rows) ids)
    from id h =
        let both = and_parts (is_some (record_at Entry id (of name rows))) (names step id)
        (sym (is_named step id (of name rows)) ∙ among_in id (entries_named (of name rows) step) h) in
        among_filter (λ (k : List ℕ). is_some (record_at Entry k (of name rows))) id ids (in_among id ids (named.same id ∙ both.1)) both.0

-- ---- looking them up

-- the keys that were found so far, and those of the ids that are left
abbrev pub KeptSoFar : List (List ℕ) → List (List ℕ) → List (List ℕ) → List Record → Type 0
KeptSoFar keys left whole records = keys ++ ids_kept records left ≡ ids_kept records whole

moved_on : (keys others : List (List ℕ)) (id : List ℕ) (b : Bool)
    → (keys ++ (if b then id ∷ [] else [])) ++ others ≡ keys ++ (if b then id ∷ others else others)
moved_on keys others id true = append_assoc keys (id ∷ []) others
moved_on keys others id false = ap (λ (ks : List (List ℕ)). ks ++ others) (append-nil keys)

pub looked_up : (keys keys' : List (List ℕ)) (before after : List (Vec ℕ)) (id : Vec ℕ) (octets : List ℕ) (whole : List (List ℕ)) (b : Bool)
    → before ≡ id ∷ after → octets ≡ id.items → keys' ≡ keys ++ (if b then id.items ∷ [] else []) → (records : List Record)
    → KeptSoFar keys (octets_of_vectors before) whole records → b ≡ is_some (record_at Entry octets records) → KeptSoFar keys' (octets_of_vectors after) whole records
looked_up keys keys' before after id octets whole b next same put records so_far found =
    let kept : is_some (record_at Entry id.items records) ≡ b = ap (λ (k : List ℕ). is_some (record_at Entry k records)) (sym same) ∙ sym found in
    ap (λ (ks : List (List ℕ)). ks ++ ids_kept records (octets_of_vectors after)) put ∙ moved_on keys (ids_kept records (octets_of_vectors after)) id.items b
    ∙ ap (λ (c : Bool). keys ++ (if c then id.items ∷ ids_kept records (octets_of_vectors after) else ids_kept records (octets_of_vectors after))) (sym kept)
    ∙ ap (λ (vs : List (Vec ℕ)). keys ++ ids_kept records (octets_of_vectors vs)) (sym next) ∙ so_far

all_of : {X : Type 0} (P : X → Type 0) (xs : List X) → ((x : X) → IsAmong x xs → P x) → AllByRecursion P xs
all_of P [] each = tt
all_of P (x ∷ xs) each = (each x (inl refl), all_of P xs (λ y h. each y (inr h)))

-- a row is there of each entry that a step names
pub named_are_there : (name : List ℕ) (rows : List Row) (step : ElementList)
    → AllByRecursion (λ (id : List ℕ). is_some (row_at Entry name id rows) ≡ true) (entries_named (of name rows) step)
named_are_there name rows step =
    all_of (λ (id : List ℕ). is_some (row_at Entry name id rows) ≡ true) (entries_named (of name rows) step)
    (λ id h. there_own Entry name id rows
    ∙ (and_parts (is_some (record_at Entry id (of name rows))) (names step id)
    (sym (is_named step id (of name rows)) ∙ among_in id (entries_named (of name rows) step) h)).0)
