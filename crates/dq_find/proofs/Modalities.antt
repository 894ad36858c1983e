-- Modalities in Study: in order, and exactly those of the series.
use Rattle.std.proofs.Common.{◌≡◌, ℕ, zero, suc, ◌⊎◌, ◌≤◌, inl, inr, List, [], ◌∷◌, ◌++◌, take, length, refl, sym, ap, ◌∙◌, subst, arith}
use Rattle.std.specs.declared.cmp.Ordering.{Ordering}
use Rattle.std.specs.declared.cmp.Ordering.TheVariants.{Less, Equal, Greater}
use Rattle.std.specs.Ordering.{is_eq, ordering_reverse}
use Rattle.std.specs.List.{AllByRecursion, flat_map}
use Rattle.std.specs.List.Sorted.{IsStrictlySortedBy}
use Rattle.std.proofs.lemmas.Cmp.{nat_list_cmp_total}
use Rattle.std.proofs.lemmas.Map.Text.{is_eq-slice_cmp}
use Rattle.std.proofs.lemmas.Slice.Eq.{bytes_eq-Decides}
use Rattle.dq_list.specs.Among.{IsAmong}
use Rattle.dq_tables.proofs.RisingLists.{Rises, HaveTheirs, each_among, only_one}
use Rattle.dq_tables.specs.Rows.{Record, octet_order}
use Rattle.dq_tables.specs.Records.{data_set_of}
use Rattle.dq_tables.proofs.Order.{each_weaker}
use Rattle.dq_find.specs.ComputedKeys.{value_inserted, put_in_order, all_in_order, modalities_in}
use Rattle.dq_find.specs.Modalities.{modality_limit, modalities_of, IsModalityOf, IsPast, AreModalities}

abbrev Values : Type 0
Values = List (List ℕ)

abbrev pub IsInOrder : Values → Type 0
IsInOrder values = IsStrictlySortedBy octet_order values

abbrev pub IsBefore : List ℕ → List ℕ → Type 0
IsBefore a b = octet_order a b ≡ Less

-- ---- a value in its place

same_value : (a b : List ℕ) → octet_order a b ≡ Equal → a ≡ b
same_value a b e = (bytes_eq-Decides a b).0 (sym (is_eq-slice_cmp a b) ∙ ap is_eq e)

comes_before : (a b : List ℕ) → octet_order a b ≡ Greater → IsBefore b a
comes_before a b e = nat_list_cmp_total.antisymm b a ∙ ap ordering_reverse e

placed_from : (o : Ordering) (x value y : List ℕ) (ys put : Values) → (IsAmong x put → (value ≡ x) ⊎ IsAmong x ys) → IsAmong x (value_inserted o value y ys put)
    → (value ≡ x) ⊎ IsAmong x (y ∷ ys)
placed_from Less x value y ys put rest h = h
placed_from Equal x value y ys put rest h = inr h
placed_from Greater x value y ys put rest (inl e) = inr (inl e)
placed_from Greater x value y ys put rest (inr h) = elim (rest h) [ inl e ↦ inl e | inr k ↦ inr (inr k) ]

put_from : (x value : List ℕ) (ys : Values) → IsAmong x (put_in_order value ys) → (value ≡ x) ⊎ IsAmong x ys
unfolding put_in_order
put_from x value [] h = h
put_from x value (y ∷ ys) h = placed_from (octet_order value y) x value y ys (put_in_order value ys) (put_from x value ys) h

placed_to : (o : Ordering) (x value y : List ℕ) (ys put : Values) → octet_order value y ≡ o → ((value ≡ x) ⊎ IsAmong x ys → IsAmong x put)
    → (value ≡ x) ⊎ IsAmong x (y ∷ ys) → IsAmong x (value_inserted o value y ys put)
placed_to Less x value y ys put is rest h = h
placed_to Equal x value y ys put is rest (inl e) = inl (sym (same_value value y is) ∙ e)
placed_to Equal x value y ys put is rest (inr h) = h
placed_to Greater x value y ys put is rest (inl e) = inr (rest (inl e))
placed_to Greater x value y ys put is rest (inr (inl e)) = inl e
placed_to Greater x value y ys put is rest (inr (inr h)) = inr (rest (inr h))

put_to : (x value : List ℕ) (ys : Values) → (value ≡ x) ⊎ IsAmong x ys → IsAmong x (put_in_order value ys)
unfolding put_in_order
put_to x value [] h = h
put_to x value (y ∷ ys) h = placed_to (octet_order value y) x value y ys (put_in_order value ys) refl (put_to x value ys) h

each_placed : (P : List ℕ → Type 0) (o : Ordering) (value y : List ℕ) (ys put : Values) → P value → AllByRecursion P (y ∷ ys) → AllByRecursion P put
    → AllByRecursion P (value_inserted o value y ys put)
each_placed P Less value y ys put p all rest = (p, all)
each_placed P Equal value y ys put p all rest = all
each_placed P Greater value y ys put p all rest = (all.0, rest)

each_put : (P : List ℕ → Type 0) (value : List ℕ) (ys : Values) → P value → AllByRecursion P ys → AllByRecursion P (put_in_order value ys)
unfolding put_in_order
each_put P value [] p all = (p, tt)
each_put P value (y ∷ ys) p all = each_placed P (octet_order value y) value y ys (put_in_order value ys) p all (each_put P value ys p all.1)

placed_in_order : (o : Ordering) (value y : List ℕ) (ys : Values) → octet_order value y ≡ o → IsInOrder (y ∷ ys) → IsInOrder (put_in_order value ys)
    → IsInOrder (value_inserted o value y ys (put_in_order value ys))
unfolding IsStrictlySortedBy
placed_in_order Less value y ys is ordered rest =
    ((is, each_weaker (IsBefore y) (IsBefore value) (λ x less. nat_list_cmp_total.trans value y x is less) ys ordered.0), ordered)
placed_in_order Equal value y ys is ordered rest = ordered
placed_in_order Greater value y ys is ordered rest = (each_put (IsBefore y) value ys (comes_before value y is) ordered.0, rest)

put_stays : (value : List ℕ) (ys : Values) → IsInOrder ys → IsInOrder (put_in_order value ys)
unfolding put_in_order IsStrictlySortedBy
put_stays value [] ordered = (tt, tt)
put_stays value (y ∷ ys) ordered = placed_in_order (octet_order value y) value y ys refl ordered (put_stays value ys ordered.1)

-- ---- all values in their places

pub all_stays : (values ys : Values) → IsInOrder ys → IsInOrder (all_in_order values ys)
unfolding all_in_order
all_stays [] ys ordered = ordered
all_stays (value ∷ values) ys ordered = all_stays values (put_in_order value ys) (put_stays value ys ordered)

pub all_from : (x : List ℕ) (values ys : Values) → IsAmong x (all_in_order values ys) → IsAmong x values ⊎ IsAmong x ys
unfolding all_in_order
all_from x [] ys h = inr h
all_from x (value ∷ values) ys h = grind (arith, put_from, all_from x values (put_in_order value ys) h)

pub all_to : (x : List ℕ) (values ys : Values) → IsAmong x values ⊎ IsAmong x ys → IsAmong x (all_in_order values ys)
unfolding all_in_order
all_to x [] ys (inl h) = absurd h
all_to x [] ys (inr h) = h
all_to x (value ∷ values) ys (inl (inl e)) = all_to x values (put_in_order value ys) (inr (put_to x value ys (inl e)))
all_to x (value ∷ values) ys (inl (inr h)) = all_to x values (put_in_order value ys) (inl h)
all_to x (value ∷ values) ys (inr h) = all_to x values (put_in_order value ys) (inr (put_to x value ys (inr h)))

-- ---- the first of them

each_first : (P : List ℕ → Type 0) (n : ℕ) (xs : Values) → AllByRecursion P xs → AllByRecursion P (take n xs)
each_first P zero xs all = tt
each_first P (suc n) [] all = tt
each_first P (suc n) (x ∷ xs) all = (all.0, each_first P n xs all.1)

first_in_order : (n : ℕ) (xs : Values) → IsInOrder xs → IsInOrder (take n xs)
unfolding IsStrictlySortedBy
first_in_order zero xs ordered = tt
first_in_order (suc n) [] ordered = tt
first_in_order (suc n) (x ∷ xs) ordered = (each_first (IsBefore x) n xs ordered.0, first_in_order n xs ordered.1)

first_from : (x : List ℕ) (n : ℕ) (xs : Values) → IsAmong x (take n xs) → IsAmong x xs
first_from x zero xs h = absurd h
first_from x (suc n) [] h = absurd h
first_from x (suc n) (y ∷ ys) (inl e) = inl e
first_from x (suc n) (y ∷ ys) (inr h) = inr (first_from x n ys h)

abbrev IsPastFirst : ℕ → Values → List ℕ → Type 0
IsPastFirst n told x = (length told ≡ n) × AllByRecursion (λ (one : List ℕ). IsBefore one x) told

first_or_past : (x : List ℕ) (n : ℕ) (xs : Values) → IsInOrder xs → IsAmong x xs → IsAmong x (take n xs) ⊎ IsPastFirst n (take n xs) x
unfolding IsStrictlySortedBy
first_or_past x zero xs ordered h = inr (refl, tt)
first_or_past x (suc n) [] ordered h = absurd h
first_or_past x (suc n) (y ∷ ys) ordered (inl e) = inl (inl e)
first_or_past x (suc n) (y ∷ ys) ordered (inr h) =
    elim (first_or_past x n ys ordered.1 h) [
      | inl k ↦ inl (inr k)
      | inr past ↦ inr (ap suc past.0, (each_among (IsBefore y) x ys ordered.0 h, past.1))
    ]

-- ---- of some series

among_either : (x : List ℕ) (xs ys : Values) → IsAmong x (xs ++ ys) → IsAmong x xs ⊎ IsAmong x ys
among_either x [] ys h = inr h
among_either x (y ∷ xs) ys (inl e) = inl (inl e)
among_either x (y ∷ xs) ys (inr h) = elim (among_either x xs ys h) [ inl k ↦ inl (inr k) | inr k ↦ inr k ]

among_joined : (x : List ℕ) (xs ys : Values) → IsAmong x xs ⊎ IsAmong x ys → IsAmong x (xs ++ ys)
among_joined x [] ys (inl h) = absurd h
among_joined x [] ys (inr h) = h
among_joined x (y ∷ xs) ys (inl (inl e)) = inl e
among_joined x (y ∷ xs) ys (inl (inr h)) = inr (among_joined x xs ys (inl h))
among_joined x (y ∷ xs) ys (inr h) = inr (among_joined x xs ys (inr h))

abbrev held : Record → Values
held r = modalities_of (data_set_of r.octets)

series_from : (x : List ℕ) (series : List Record) → IsAmong x (flat_map held series) → IsModalityOf series x
series_from x [] h = absurd h
series_from x (r ∷ rs) h =
    elim (among_either x (held r) (flat_map held rs) h) [
      | inl k ↦ (r, inl refl, k)
      | inr k ↦ let one = series_from x rs k in (one.0, inr one.1, one.2)
    ]

series_to : (x : List ℕ) (series : List Record) (r : Record) → IsAmong r series → IsAmong x (held r) → IsAmong x (flat_map held series)
series_to x [] r h k = absurd h
series_to x (s ∷ rs) r (inl e) k = among_joined x (held s) (flat_map held rs) (inl (subst (λ (q : Record). IsAmong x (held q)) (sym e) k))
series_to x (s ∷ rs) r (inr h) k = among_joined x (held s) (flat_map held rs) (inr (series_to x rs r h k))

-- ---- what is told

all_told : (series : List Record) → IsInOrder (all_in_order (flat_map held series) [])
unfolding IsStrictlySortedBy
all_told series = all_stays (flat_map held series) [] tt

told_in_order : (series : List Record) → IsStrictlySortedBy octet_order (modalities_in series)
unfolding modalities_in
told_in_order series = first_in_order modality_limit (all_in_order (flat_map held series) []) (all_told series)

told_own : (series : List Record) (value : List ℕ) → IsAmong value (modalities_in series) → IsModalityOf series value
unfolding modalities_in
told_own series value h =
    elim (all_from value (flat_map held series) [] (first_from value modality_limit (all_in_order (flat_map held series) []) h)) [
      | inl k ↦ series_from value series k
      | inr none ↦ absurd none
    ]

told_all : (series : List Record) (value : List ℕ) → IsModalityOf series value → IsAmong value (modalities_in series) ⊎ IsPast (modalities_in series) value
unfolding modalities_in
told_all series value h =
    first_or_past value modality_limit (all_in_order (flat_map held series) []) (all_told series)
    (all_to value (flat_map held series) [] (inl (series_to value series h.0 h.1 h.2)))

first_few : (n : ℕ) (xs : Values) → length (take n xs) ≤ n
first_few zero xs = omega arith
first_few (suc n) [] = omega arith
first_few (suc n) (x ∷ xs) = (let few = first_few n xs in omega (arith, few))

told_few : (series : List Record) → length (modalities_in series) ≤ modality_limit
unfolding modalities_in
told_few series = first_few modality_limit (all_in_order (flat_map held series) [])

pub are_modalities : (series : List Record) → AreModalities series (modalities_in series)
are_modalities series = record { in_order = told_in_order series; own = told_own series; few = told_few series; all = told_all series }

-- ---- no others are

not_both : (a b : List ℕ) → IsBefore a b → IsBefore b a → ⊥
not_both a b less more = absurd (cc (sym (nat_list_cmp_total.antisymm b a), more))

rises : (values : Values) → IsInOrder values → Rises IsBefore not_both values
unfolding IsStrictlySortedBy
rises [] ordered = tt
rises (x ∷ xs) ordered = (ordered.0, rises xs ordered.1)

theirs : (series : List Record) (told others : Values) → AreModalities series told → AreModalities series others
    → HaveTheirs IsBefore not_both modality_limit told others
theirs series told others are those value h = those.all value (are.own value h)

pub modalities_alone : (series : List Record) (told : Values) → AreModalities series told → told ≡ modalities_in series
modalities_alone series told are =
    let those = are_modalities series in
    only_one IsBefore not_both modality_limit told (modalities_in series) (rises told are.in_order) (rises (modalities_in series) those.in_order)
    (theirs series told (modalities_in series) are those) (theirs series (modalities_in series) told those are) are.few those.few
