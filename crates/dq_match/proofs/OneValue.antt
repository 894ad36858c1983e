-- A key with one value that stands alone, against a record's element with one value: it is met by
-- that value. A key without wild cards is then that value, and a date is not outside the key.
use Rattle.std.proofs.Common.{◌≡◌, ℕ, ℤ, ◌≤ℤ◌, int_le, Bool, true, false, ◌||◌, ◌&&◌, List, [], ◌∷◌, find, Option, Some, None, is_some, unwrap_or, option_map, inl, inr, refl, sym, ap, subst, ◌∙◌, cond, arith}
use Rattle.std.specs.List.{AllByRecursion}
use Rattle.std.specs.Str.{bytes_eq}
use Rattle.std.proofs.lemmas.Bool.{and_parts}
use Rattle.std.proofs.lemmas.Bool.Decides.{nat_tests}
use Rattle.std.proofs.lemmas.Int.{ints}
use Rattle.std.proofs.lemmas.Slice.Eq.{bytes_eq-Decides}
use Rattle.dq_list.specs.Among.{IsAmong}
use Rattle.dq_list.specs.Lengths.{is_empty}
use Rattle.dq_vr.specs.declared.Tag.{Tag}
use Rattle.dq_vr.specs.declared.Vr.{Vr}
use Rattle.dq_vr.specs.declared.Vr.TheVariants.{DA, LO, SH, UN}
use Rattle.dq_vr.specs.Dictionary.{known_vr}
use Rattle.dq_vr.specs.Vr.{is_text}
use Rattle.dq_value.specs.Digits.{◌>>=◌}
use Rattle.dq_value.specs.Day.{date_in, day}
use Rattle.dq_value.specs.Parts.{element_values, sole}
use Rattle.dq_value.specs.Range.{Ends, halves, behind, ends_of_halves, range_ends}
use Rattle.dq_value.specs.Trimming.{is_padded}
use Rattle.dq_dataset.specs.declared.data_set.Element.{Element}
use Rattle.dq_dataset.specs.declared.data_set.Value.{Value}
use Rattle.dq_dataset.specs.declared.data_set.Value.TheVariants.{Octets, Items}
use Rattle.dq_dataset.specs.Tree.{ElementList}
use Rattle.dq_dataset.specs.View.{elements_of, has_tag}
use Rattle.dq_dataset.specs.Values.{element_at, element_octets, values_of, values_in, sole_at}
use Rattle.dq_dataset.proofs.KnownVrs.{HasKnownVr}
use Rattle.dq_match.specs.declared.keys.Nesting.{Nesting}
use Rattle.dq_match.specs.StandardMatching.{EachIsMet}
use Rattle.dq_match.specs.Keys.{is_tag}
use Rattle.dq_match.specs.Matching.{period, is_matched_elsewhere, meets}
use Rattle.dq_match.specs.Ranges.{Bounds, bound, bounds_of_ends, bounds_by_ends, bounds, single, unless_open, has_day, both, date_meets}
use Rattle.dq_match.specs.SeveralValues.{is_plain}
use Rattle.dq_match.specs.Values.{is_same, is_asterisk, is_universal, octets_meet, some_meet, value_meets, matching_of}
use Rattle.dq_match.specs.Wildcards.{any_run}
use Rattle.dq_match.proofs.SeveralValues.{plain_meets}

-- ---- an element with one value

pub same_tag : (a b : Tag) → is_tag a b ≡ true → a ≡ b
same_tag a b h = grind (arith, nat_tests)

-- the element with a tag has a VR, and octets that hold exactly one value
pub record HasOne (vr : Vr) (tag : Tag) (d : ElementList) (value : List ℕ) : Type 0 where
  pub element : Element
  pub octets : List ℕ
  pub there : element_at tag d ≡ Some element
  pub among : IsAmong element (elements_of d)
  pub tagged : element.tag ≡ tag
  pub vr_is : element.vr ≡ vr
  pub holds : element.value ≡ Octets octets
  pub one : element_values vr octets ≡ value ∷ []

pub sole_is : {X : Type 0} (values : List X) (one : X) → sole values ≡ Some one → values ≡ one ∷ []
sole_is [] one h = absurd cc
sole_is (x ∷ []) one h = cc
sole_is (x ∷ (y ∷ others)) one h = absurd cc

module _ (P : Element → Type 0) (p : Element → Bool) (e : Element) where
  found_by : (x : Element) (xs : List Element) (b : Bool) → p x ≡ b → P x → (find p xs ≡ Some e → IsAmong e xs × P e × (p e ≡ true))
      → cond b (Some x) (find p xs) ≡ Some e → IsAmong e (x ∷ xs) × P e × (p e ≡ true)
  found_by x xs true is here rest h = (let same : x ≡ e = cc in (inl same, subst P same here, ap p (sym same) ∙ is))
  found_by x xs false is here rest h = let found = rest h in (inr found.0, found.1, found.2)

  pub found_has : (xs : List Element) → AllByRecursion P xs → find p xs ≡ Some e → IsAmong e xs × P e × (p e ≡ true)
  found_has [] all h = absurd cc
  found_has (x ∷ xs) all h = found_by x xs (p x) refl all.0 (found_has xs all.1) h

module _ (vr : Vr) (tag : Tag) (known : known_vr tag ≡ Some vr) (d : ElementList) (all : AllByRecursion HasKnownVr (elements_of d)) (value : List ℕ) where
  one_by : (e : Element) (v : Value) → element_at tag d ≡ Some e → e.value ≡ v → sole (values_of e.vr v) ≡ Some value → HasOne vr tag d value
  one_by e (Octets octets) there holds is =
      let facts = found_has HasKnownVr (has_tag tag) e (elements_of d) all there in
      let tagged = same_tag e.tag tag facts.2 in
      let vr_is : e.vr ≡ vr = facts.1 octets holds ∙ ap (λ (t : Tag). unwrap_or (known_vr t) UN) tagged ∙ ap (λ (v : Option Vr). unwrap_or v UN) known in
      record {
        element = e;
        octets = octets;
        there = there;
        among = facts.0;
        tagged = tagged;
        vr_is = vr_is;
        holds = holds;
        one = ap (λ (v : Vr). element_values v octets) (sym vr_is) ∙ sole_is (element_values e.vr octets) value is;
      }
  one_by e (Items items) there holds is = absurd cc

  one_in : (found : Option Element) → element_at tag d ≡ found → sole (values_in found) ≡ Some value → HasOne vr tag d value
  one_in None there is = absurd cc
  one_in (Some e) there is = one_by e e.value there refl is

  pub one_at : sole_at tag d ≡ Some value → HasOne vr tag d value
  unfolding sole_at
  one_at = one_in (element_at tag d) refl

-- ---- one value that is asked for, against one value

abbrev pub is_met_by : Vr → List ℕ → List ℕ → Bool
is_met_by vr key value = (is_padded vr && is_same key (any_run ∷ [])) || value_meets (matching_of vr) key value

met_alike : (vr : Vr) (asked said key value : List ℕ) → element_values vr asked ≡ key ∷ [] → element_values vr said ≡ value ∷ []
    → octets_meet vr asked said ≡ is_met_by vr key value
unfolding octets_meet is_universal
met_alike vr asked said key value one two =
    (λ i. ((is_empty (one i) || (is_padded vr && is_asterisk (one i))) || is_empty (two i)) || some_meet (matching_of vr) (one i) (two i))
    ∙ alone (is_padded vr && is_same key (any_run ∷ [])) (value_meets (matching_of vr) key value)
  where
    alone : (a b : Bool) → (((false || a) || false) || ((b || false) || false)) ≡ (a || b)
    alone true b = refl
    alone false true = refl
    alone false false = refl

pub meets_octets : (key : Element) (held : Option Element) (octets : List ℕ) → key.value ≡ Octets octets
    → meets key held ≡ octets_meet key.vr octets (element_octets held)
meets_octets key held octets is = rw is refl

-- the record's element stands in its data set `d`, beside what else is met
pub one_met : (vr : Vr) (tag : Tag) → known_vr tag ≡ Some vr → (place : Nesting) (keys d held : ElementList)
    → AllByRecursion HasKnownVr (elements_of keys) → AllByRecursion HasKnownVr (elements_of d) → element_at tag held ≡ element_at tag d
    → EachIsMet place keys held → is_matched_elsewhere place (is_some (period keys held)) tag ≡ false
    → (asked said : List ℕ) → sole_at tag keys ≡ Some asked → sole_at tag d ≡ Some said → is_met_by vr asked said ≡ true
one_met vr tag known place keys d held known_keys known_held same each alone asked said wanted there =
    let key = one_at vr tag known keys known_keys asked wanted in
    let one = one_at vr tag known d known_held said there in
    let met = each key.element key.among (ap (is_matched_elsewhere place (is_some (period keys held))) key.tagged ∙ alone) in
    let at : element_at key.element.tag held ≡ Some one.element = ap (λ (t : Tag). element_at t held) key.tagged ∙ same ∙ one.there in
    let octets : element_octets (Some one.element) ≡ one.octets = rw one.holds refl in
    sym (met_alike vr key.octets one.octets asked said key.one one.one)
    ∙ sym (ap (λ (o : Option Element). meets key.element o) at ∙ meets_octets key.element (Some one.element) key.octets key.holds
    ∙ (λ i. octets_meet (key.vr_is i) key.octets (octets i))) ∙ met

-- ---- text without wild cards

is_asterisk_then : (key : List ℕ) → is_same key (any_run ∷ []) ≡ true → key ≡ any_run ∷ []
is_asterisk_then key h = (bytes_eq-Decides key (any_run ∷ [])).0 h

plain_is_none : (b : Bool) (key : List ℕ) → is_same key (any_run ∷ []) ≡ b → is_plain key ≡ true → b ≡ false
plain_is_none true key is plain = absurd (let wrong : is_plain (any_run ∷ []) ≡ true = ap is_plain (sym (is_asterisk_then key is)) ∙ plain in cc)
plain_is_none false key is plain = refl

pub plain_long : (key value : List ℕ) → is_plain key ≡ true → is_met_by LO key value ≡ true → bytes_eq key value ≡ true
unfolding is_padded is_text matching_of
plain_long key value plain met =
    sym (λ i. plain_is_none (is_same key (any_run ∷ [])) key refl plain i || plain_meets key value plain i) ∙ met

pub plain_short : (key value : List ℕ) → is_plain key ≡ true → is_met_by SH key value ≡ true → bytes_eq key value ≡ true
unfolding is_padded is_text matching_of
plain_short key value plain met =
    sym (λ i. plain_is_none (is_same key (any_run ∷ [])) key refl plain i || plain_meets key value plain i) ∙ met

-- ---- dates

-- the ends of a range, and of one date the date
abbrev pub ends_asked : List ℕ → Ends
ends_asked key = unwrap_or (range_ends key) (Some key, Some key)

-- a date is not before the first end nor after the last, where these are dates
pub record IsBetween (both_ends : Ends) (value : List ℕ) : Type 0 where
  pub from : (first : List ℕ) (x y : ℤ) → both_ends.0 ≡ Some first → day first ≡ Some x → day value ≡ Some y → x ≤ℤ y
  pub until : (last : List ℕ) (x y : ℤ) → both_ends.1 ≡ Some last → day last ≡ Some x → day value ≡ Some y → y ≤ℤ x

le_true : (a b : ℤ) → int_le a b ≡ true → a ≤ℤ b
le_true a b h = grind (arith, ints)

module _ (value : List ℕ) (y : ℤ) (at : day value ≡ Some y) where
  first_by : (end : Option (List ℕ)) (bounded : Option ℤ) → bound day end ≡ Some bounded
      → ((x : ℤ) → bounded ≡ Some x → x ≤ℤ y) → (first : List ℕ) (x z : ℤ) → end ≡ Some first → day first ≡ Some x → day value ≡ Some z → x ≤ℤ z
  first_by end bounded is le first x z there read found = grind (arith, nat_tests)

  last_by : (end : Option (List ℕ)) (bounded : Option ℤ) → bound day end ≡ Some bounded
      → ((x : ℤ) → bounded ≡ Some x → y ≤ℤ x) → (last : List ℕ) (x z : ℤ) → end ≡ Some last → day last ≡ Some x → day value ≡ Some z → z ≤ℤ x
  last_by end bounded is le last x z there read found = grind (arith, nat_tests)

  open_le : (test : ℤ → Bool) (P : ℤ → Type 0) → ((x : ℤ) → test x ≡ true → P x) → (bounded : Option ℤ) → unless_open test bounded ≡ true
      → (x : ℤ) → bounded ≡ Some x → P x
  open_le test P means None h x is = absurd cc
  open_le test P means (Some z) h x is = (let same : z ≡ x = cc in subst P same (means z h))

  between_by : (found : Ends) (p q : Option (Option ℤ)) (from_test until_test : ℤ → Bool) → bound day found.0 ≡ p → bound day found.1 ≡ q
      → ((x : ℤ) → from_test x ≡ true → x ≤ℤ y) → ((x : ℤ) → until_test x ≡ true → y ≤ℤ x)
      → (days : Bounds ℤ) → p >>= (λ from. q >>= (λ to. Some (from, to))) ≡ Some days
      → unless_open from_test days.0 ≡ true → unless_open until_test days.1 ≡ true → IsBetween found value
  between_by found None q from_test until_test first last froms untils days is a b = absurd cc
  between_by found (Some from) None from_test until_test first last froms untils days is a b = absurd cc
  between_by found (Some from) (Some to) from_test until_test first last froms untils days is a b =
      let same : (from, to) ≡ days = cc in
      record {
        from = first_by found.0 from first (open_le from_test (λ x. x ≤ℤ y) froms from (ap (λ (d : Bounds ℤ). unless_open from_test d.0) same ∙ a));
        until = last_by found.1 to last (open_le until_test (λ x. y ≤ℤ x) untils to (ap (λ (d : Bounds ℤ). unless_open until_test d.1) same ∙ b));
      }

  in_days : (found : Ends) (days : Bounds ℤ) → bounds_of_ends day found ≡ Some days → has_day days y ≡ true → IsBetween found value
  in_days found days is h = grind (arith, nat_tests, and_parts, between_by, le_true)

no_date : (octets : List ℕ) (x : ℤ) → octets ≡ any_run ∷ [] → day octets ≡ Some x → ⊥
unfolding day date_in
no_date octets x is h = (let none : None ≡ Some x = sym (ap day is) ∙ h in cc none)

-- an asterisk asks for all dates
all_between : (value : List ℕ) → IsBetween (ends_asked (any_run ∷ [])) value
unfolding range_ends ends_of_halves halves behind
all_between value = record {
  from = λ first x y there read found. absurd (no_date first x (cc (sym there)) read);
  until = λ last x y there read found. absurd (no_date last x (cc (sym there)) read);
}

module _ (key value : List ℕ) where
  abbrev either : Option Ends → Ends
  either found = unwrap_or found (Some key, Some key)

  undated : (range : Option (Bounds ℤ)) → both has_day range None ≡ true → ⊥
  undated None h = cc h
  undated (Some days) h = cc h

  module _ (y : ℤ) (at : day value ≡ Some y) where
    on_day : (read : Option ℤ) → day key ≡ read → both has_day (option_map single read) (Some y) ≡ true → IsBetween (Some key, Some key) value
    on_day None is h = absurd cc
    on_day (Some x) is h = in_days value y at (Some key, Some key) (single x) (rw is refl) h

    in_range : (found : Ends) (range : Option (Bounds ℤ)) → bounds_of_ends day found ≡ range → both has_day range (Some y) ≡ true → IsBetween found value
    in_range found None is h = absurd cc
    in_range found (Some days) is h = in_days value y at found days is h

  by_ends : (found : Option Ends) (date : Option ℤ) → day value ≡ date → both has_day (bounds_by_ends day key found) date ≡ true
      → IsBetween (either found) value
  by_ends found None at h = absurd (undated (bounds_by_ends day key found) h)
  by_ends None (Some y) at h = on_day y at (day key) refl h
  by_ends (Some found) (Some y) at h = in_range y at found (bounds_of_ends day found) refl h

  date_met : date_meets key value ≡ true → IsBetween (ends_asked key) value
  unfolding date_meets bounds
  date_met h = by_ends (range_ends key) (day value) refl h

  by_asterisk : (b : Bool) → is_same key (any_run ∷ []) ≡ b → (b || date_meets key value) ≡ true → IsBetween (ends_asked key) value
  by_asterisk true is h = subst (λ (k : List ℕ). IsBetween (ends_asked k) value) (sym (is_asterisk_then key is)) (all_between value)
  by_asterisk false is h = date_met h

  pub date_between : is_met_by DA key value ≡ true → IsBetween (ends_asked key) value
  unfolding is_padded is_text matching_of
  date_between h = by_asterisk (is_same key (any_run ∷ [])) refl h
