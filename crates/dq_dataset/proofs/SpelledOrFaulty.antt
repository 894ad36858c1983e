-- Octets spell elements or have a first fault, and reading answers which.
use Rattle.std.proofs.Common.{◌≡◌, ℕ, zero, suc, ◌+◌, ◌-◌, ◌<◌, ◌≤◌, Bool, true, false, List, [], ◌∷◌, ◌++◌, length, take, drop, Option, Some, None, Result, Ok, Err, refl, sym, ap, subst, ◌∙◌, arith, inl, inr, ◌⊎◌}
use Rattle.std.proofs.lemmas.Bool.{ltb-true, leb-true}
use Rattle.std.proofs.lemmas.List.{take-append-drop, length-take, length-append, append-nil}
use Rattle.dq_dataset.proofs.Types.{Tag, Vr, ReadFault, Syntax, Bound, Filled, Delimited, Content, Plain, Sequence, Header, Value, Octets, Items, ElementList, no_elements}
use Rattle.dq_vr.specs.Dictionary.{known_vr}
use Rattle.dq_dataset.specs.Rules.{vr_of, padded_value, fits_enclosing}
use Rattle.dq_dataset.specs.DataSetReader.{may_nest, length_of, header_at, item_header_at, value_by, readers, data_set_read}
use Rattle.dq_dataset.specs.Grammar.{IsHeader, Spells, no_more, more, SpellsValue, plain, nested, SpellsItems, no_item, one_item, bound_of, HasExtent, without_group_length, IsSpelled}
use Rattle.dq_dataset.specs.Faults.{ends_here, HasReach, HasFault, at_header, in_value, after_element, ItemsHaveFault, at_item, in_item, after_item, IsFaulty}
use Rattle.dq_dataset.proofs.Fields.{IsBytes, IsBytes-drop, IsBytes-take, ok_is, err_is, no_fault, Takes, Takes-then}
use Rattle.dq_dataset.proofs.Headers.{ReadsHeader, header_takes, header_long, ReadsItem, item_takes, item_long, Trails, end_takes}
use Rattle.dq_dataset.proofs.HeaderFaults.{fault_of, header_faults_are, item_faults_are, an_end_here}
use Rattle.dq_dataset.proofs.SpelledIsRead.{value_again, spelled_is_read}
use Rattle.dq_dataset.proofs.FaultyIsRead.{items_in_value, items_fail, faulty_is_read}

-- ---- one or the other

-- the front of the octets spells x
pub record Reads (X : Type 0) (Spelt : List ℕ → X → Type 0) (bytes : List ℕ) (x : X) (rest : List ℕ) : Type 0 where
  pub octets : List ℕ
  pub takes : Takes bytes octets rest
  pub spells : Spelt octets x

reads : {X : Type 0} {Spelt : List ℕ → X → Type 0} {bytes : List ℕ} {x : X} {rest : List ℕ} (octets : List ℕ)
    → Takes bytes octets rest → Spelt octets x → Reads X Spelt bytes x rest
reads octets takes spells = record { octets = octets; takes = takes; spells = spells }

takes_all : (a x b y c z d : List ℕ) → Takes a x b → Takes b y c → Takes c z d → Takes a (x ++ (y ++ z)) d
takes_all a x b y c z d p q r = Takes-then a x b (y ++ z) d p (Takes-then b y c z d q r)

abbrev Told : (X : Type 0) → (Bound → List ℕ → X → Type 0) → (Bound → List ℕ → ReadFault → Type 0) → Bound → List ℕ → Type 0
Told X Spelt Faulty bound bytes =
    ((x : X) × (rest : List ℕ) × Trails bound rest × Reads X (Spelt bound) bytes x rest) ⊎ ((f : ReadFault) × Faulty bound bytes f)

abbrev ElementsTold : Syntax → ℕ → Option Tag → Bound → List ℕ → Type 0
ElementsTold syntax levels last = Told ElementList (λ bound o d. Spells bound syntax levels last o d) (λ bound o f. HasFault bound syntax levels last o f)

abbrev ItemsTold : Syntax → ℕ → Bound → List ℕ → Type 0
ItemsTold syntax levels = Told (List ElementList) (λ bound o ds. SpellsItems bound syntax levels o ds) (λ bound o f. ItemsHaveFault bound syntax levels o f)

pub record AreTold (n : ℕ) : Type 0 where
  pub elements : (syntax : Syntax) (levels : ℕ) (last : Option Tag) (bound : Bound) (bytes : List ℕ) → IsBytes bytes → length bytes < n
      → ElementsTold syntax levels last bound bytes
  pub items : (syntax : Syntax) (levels : ℕ) (bound : Bound) (bytes : List ℕ) → IsBytes bytes → length bytes < n → ItemsTold syntax levels bound bytes

-- ---- what a length measures, or what ends with an end of its own

-- the first octets, of which there are enough
taken : (n : ℕ) (bytes : List ℕ) → IsBytes bytes → fits_enclosing (Some n) bytes ≡ true → Takes bytes (take n bytes) (drop n bytes) × (length (take n bytes) ≡ n)
taken n bytes ok enough =
    let le : n ≤ length bytes = leb-true n (length bytes) enough in
    (record { parts = sym (take-append-drop n bytes); rest_fits = IsBytes-drop n bytes ok }, omega (arith, length-take n bytes))

-- what fills the octets is all of them
pub filled : (bytes octets rest : List ℕ) → bytes ≡ octets ++ rest → rest ≡ [] → octets ≡ bytes
filled bytes octets rest e none = sym (e ∙ ap (λ (x : List ℕ). octets ++ x) none ∙ append-nil octets)

pub record FaultyBody (Faulty : List ℕ → ReadFault → Type 0) (extent : Option ℕ) (bytes : List ℕ) : Type 0 where
  pub value : List ℕ
  pub rest : List ℕ
  pub parts : bytes ≡ value ++ rest
  pub reach : HasReach extent value rest
  pub fault : ReadFault
  pub faulty : Faulty value fault

module _ (X : Type 0) (Spelt : Bound → List ℕ → X → Type 0) (Faulty : Bound → List ℕ → ReadFault → Type 0) (n : ℕ)
    (told : (bound : Bound) (bytes : List ℕ) → IsBytes bytes → length bytes < n → Told X Spelt Faulty bound bytes) where
  pub body_told : (extent : Option ℕ) (bytes : List ℕ) → fits_enclosing extent bytes ≡ true → IsBytes bytes → length bytes < n
      → ((x : X) × (rest : List ℕ) × Reads X (λ o y. HasExtent extent o × Spelt (bound_of extent) o y) bytes x rest)
      ⊎ FaultyBody (Faulty (bound_of extent)) extent bytes
  body_told (Some k) bytes enough ok lt =
      let t = taken k bytes ok enough in
      elim (told Filled (take k bytes) (IsBytes-take k bytes ok) (omega (arith, length-take k bytes))) [
        | inl s ↦
            let all = filled (take k bytes) s.3.octets s.1 s.3.takes.parts s.2 in
            inl (s.0, drop k bytes, reads (take k bytes) t.0 (t.1, subst (λ (o : List ℕ). Spelt Filled o s.0) all s.3.spells))
        | inr f ↦ inr (record { value = take k bytes; rest = drop k bytes; parts = t.0.parts; reach = t.1; fault = f.0; faulty = f.1 })
      ]
  body_told None bytes enough ok lt =
      elim (told Delimited bytes ok lt) [
        | inl s ↦ inl (s.0, s.1, reads s.3.octets s.3.takes (tt, s.3.spells))
        | inr f ↦ inr (record { value = bytes; rest = []; parts = sym (append-nil bytes); reach = refl; fault = f.0; faulty = f.1 })
      ]

-- ---- values

abbrev pub ReadsValue : ℕ → Vr → Content → List ℕ → Value → List ℕ → Type 0
ReadsValue levels vr content = Reads Value (λ o x. SpellsValue levels vr content o x)

-- a value that is faulty holds items
record FaultyValue (levels : ℕ) (content : Content) (bytes : List ℕ) : Type 0 where
  inner : Syntax
  extent : Option ℕ
  is : content ≡ Sequence inner extent
  body : FaultyBody (λ o f. ItemsHaveFault (bound_of extent) inner (levels - 1) o f) extent bytes

faulty_value : (bound : Bound) (syntax : Syntax) (levels : ℕ) (last : Option Tag) (bytes : List ℕ) (h : Header) (behind : List ℕ)
    → ReadsHeader syntax levels last bytes h behind → (bad : FaultyValue levels h.content behind) → HasFault bound syntax levels last bytes bad.body.fault
faulty_value bound syntax levels last bytes h behind header bad =
    in_value bound syntax levels last bytes bad.body.fault h.tag bad.inner bad.extent header.octets bad.body.value bad.body.rest header.placed
    (subst (λ (c : Content). IsHeader syntax h.tag c header.octets) bad.is header.header)
    (ltb-true 0 levels (subst (λ (c : Content). may_nest levels c ≡ true) bad.is header.nests)) bad.body.reach bad.body.faulty
    (header.takes.parts ∙ ap (λ (x : List ℕ). header.octets ++ x) bad.body.parts)

abbrev ValueTold : ℕ → Vr → Content → List ℕ → Type 0
ValueTold levels vr content bytes = ((held : Value) × (rest : List ℕ) × ReadsValue levels vr content bytes held rest) ⊎ FaultyValue levels content bytes

module _ (n : ℕ) (told : AreTold n) where
  value_told : (levels : ℕ) (vr : Vr) (content : Content) (bytes : List ℕ) → may_nest levels content ≡ true → fits_enclosing (length_of content) bytes ≡ true
      → IsBytes bytes → length bytes < n → ValueTold levels vr content bytes
  value_told levels vr (Plain k) bytes nests enough ok lt =
      let t = taken k bytes ok enough in
      inl (Octets (padded_value vr (take k bytes)), drop k bytes, reads (take k bytes) t.0 (plain levels vr k (take k bytes) t.1))
  value_told zero vr (Sequence inner extent) bytes nests enough ok lt = absurd (omega (arith, ltb-true 0 0 nests))
  value_told (suc levels) vr (Sequence inner extent) bytes nests enough ok lt =
      let one_less : suc levels - 1 ≡ levels = omega arith in
      elim (body_told _ _ _ n (told.items inner (suc levels - 1)) extent bytes enough ok lt) [
        | inl s ↦
            let items = subst (λ (k : ℕ). SpellsItems (bound_of extent) inner k s.2.octets s.0) one_less s.2.spells.1 in
            inl (Items s.0, s.1, reads s.2.octets s.2.takes (nested levels vr inner extent s.2.octets s.0 s.2.spells.0 items))
        | inr bad ↦ inr (record { inner = inner; extent = extent; is = refl; body = bad })
      ]

  -- ---- elements

  module _ (bound : Bound) (syntax : Syntax) (levels : ℕ) (last : Option Tag) (bytes : List ℕ) (ok : IsBytes bytes) (lt : length bytes < suc n) where
    after_value : (h : Header) (behind : List ℕ) → ReadsHeader syntax levels last bytes h behind → (held : Value) (rest : List ℕ)
        → ReadsValue levels h.vr h.content behind held rest → ElementsTold syntax levels last bound bytes
    after_value h behind header held rest value =
        let parts : bytes ≡ header.octets ++ (value.octets ++ rest) = header.takes.parts ∙ ap (λ (x : List ℕ). header.octets ++ x) value.takes.parts in
        let spelled : SpellsValue levels (vr_of (known_vr h.tag) h.content) h.content value.octets held =
        subst (λ (x : Vr). SpellsValue levels x h.content value.octets held) header.vr value.spells in
        let shorter : length rest < n =
        omega (arith, ap length parts, length-append {A = ℕ}, header_long syntax h.tag h.content header.octets header.header) in
        elim (told.elements syntax levels (Some h.tag) bound rest value.takes.rest_fits shorter) [
          | inl s ↦
              let all = header.octets ++ (value.octets ++ s.3.octets) in
              let d = without_group_length h.tag (vr_of (known_vr h.tag) h.content) held s.0 in
              let spells = more bound syntax levels last all d h.tag h.content header.octets value.octets s.3.octets held s.0
              header.placed header.header spelled s.3.spells refl refl in
              inl (d, s.1, s.2, reads all (takes_all bytes header.octets behind value.octets rest s.3.octets s.1 header.takes value.takes s.3.takes) spells)
          | inr f ↦
              let faulty = after_element bound syntax levels last bytes f.0 h.tag h.content header.octets value.octets rest held
              header.placed header.header spelled f.1 parts in
              inr (f.0, faulty)
        ]

    after_header : (h : Header) (behind : List ℕ) → ReadsHeader syntax levels last bytes h behind × (fits_enclosing (length_of h.content) behind ≡ true)
        → ElementsTold syntax levels last bound bytes
    after_header h behind (header, whole) =
        let shorter : length behind < n =
        omega (arith, ap length header.takes.parts, length-append header.octets behind, header_long syntax h.tag h.content header.octets header.header) in
        elim (value_told levels h.vr h.content behind header.nests whole header.takes.rest_fits shorter) [
          | inl v ↦ after_value h behind header v.0 v.1 v.2
          | inr bad ↦ inr (bad.body.fault, faulty_value bound syntax levels last bytes h behind header bad)
        ]

    elements_told : (ended : Bool) → ends_here bound 0xE00D bytes ≡ ended → (r : Result (Header × List ℕ) ReadFault) → header_at syntax levels last bytes ≡ r
        → ElementsTold syntax levels last bound bytes
    elements_told true is r e =
        let end = an_end_here bound 0xE00D bytes is in
        let t = end_takes bound 0xE00D bytes end.0 ok end.1 in
        inl (no_elements, end.0, t.trails, reads t.octets t.takes (no_more bound syntax levels last t.octets t.is_end))
    elements_told false is (Err f) e =
        inr (f, at_header bound syntax levels last bytes f is (sym (header_faults_are syntax levels last bytes) ∙ ap fault_of e))
    elements_told false is (Ok h) e = after_header h.0 h.1 (header_takes syntax levels last bytes h.0 h.1 ok e)

  -- ---- items

  module _ (bound : Bound) (syntax : Syntax) (levels : ℕ) (bytes : List ℕ) (ok : IsBytes bytes) (lt : length bytes < suc n) where
    after_content : (extent : Option ℕ) (behind : List ℕ) → ReadsItem bytes extent behind → (first : ElementList) (rest : List ℕ)
        → Reads ElementList (λ o d. HasExtent extent o × Spells (bound_of extent) syntax levels None o d) behind first rest
        → ItemsTold syntax levels bound bytes
    after_content extent behind header first rest value =
        let parts : bytes ≡ header.octets ++ (value.octets ++ rest) = header.takes.parts ∙ ap (λ (x : List ℕ). header.octets ++ x) value.takes.parts in
        let shorter : length rest < n =
        omega (arith, ap length parts, length-append {A = ℕ}, item_long extent header.octets header.header) in
        elim (told.items syntax levels bound rest value.takes.rest_fits shorter) [
          | inl s ↦
              let all = header.octets ++ (value.octets ++ s.3.octets) in
              let takes = takes_all bytes header.octets behind value.octets rest s.3.octets s.1 header.takes value.takes s.3.takes in
              let spells = one_item bound syntax levels all extent header.octets value.octets s.3.octets first s.0
              header.header value.spells.0 value.spells.1 s.3.spells refl in
              inl (first ∷ s.0, s.1, s.2, reads all takes spells)
          | inr f ↦
              let faulty = after_item bound syntax levels bytes f.0 extent header.octets value.octets rest first
              header.header value.spells.0 value.spells.1 f.1 parts in
              inr (f.0, faulty)
        ]

    items_told : (ended : Bool) → ends_here bound 0xE0DD bytes ≡ ended → (r : Result (Option ℕ × List ℕ) ReadFault) → item_header_at bytes ≡ r
        → ItemsTold syntax levels bound bytes
    items_told true is r e =
        let end = an_end_here bound 0xE0DD bytes is in
        let t = end_takes bound 0xE0DD bytes end.0 ok end.1 in
        inl ([], end.0, t.trails, reads t.octets t.takes (no_item bound syntax levels t.octets t.is_end))
    items_told false is (Err f) e = inr (f, at_item bound syntax levels bytes f is (sym (item_faults_are bytes) ∙ ap fault_of e))
    items_told false is (Ok h) e =
        let (header, whole) = item_takes bytes h.0 h.1 ok e in
        let shorter : length h.1 < n =
        omega (arith, ap length header.takes.parts, length-append header.octets h.1, item_long h.0 header.octets header.header) in
        elim (body_told _ _ _ n (told.elements syntax levels None) h.0 h.1 whole header.takes.rest_fits shorter) [
          | inl v ↦ after_content h.0 h.1 header v.0 v.1 v.2
          | inr bad ↦
              let parts = header.takes.parts ∙ ap (λ (x : List ℕ). header.octets ++ x) bad.parts in
              inr (bad.fault, in_item bound syntax levels bytes bad.fault h.0 header.octets bad.value bad.rest header.header bad.reach bad.faulty parts)
        ]

pub are_told : (n : ℕ) → AreTold n
are_told zero =
    record { elements = λ syntax levels last bound bytes ok lt. absurd (omega arith); items = λ syntax levels bound bytes ok lt. absurd (omega arith) }
are_told (suc n) = record {
  elements = λ syntax levels last bound bytes ok lt.
      elements_told n (are_told n) bound syntax levels last bytes ok lt (ends_here bound 0xE00D bytes) refl (header_at syntax levels last bytes) refl;
  items = λ syntax levels bound bytes ok lt.
      items_told n (are_told n) bound syntax levels bytes ok lt (ends_here bound 0xE0DD bytes) refl (item_header_at bytes) refl;
}

-- octets spell a data set, or have a first fault
pub one_of_both : (syntax : Syntax) (octets : List ℕ) → IsBytes octets
    → ((d : ElementList) × IsSpelled syntax octets d) ⊎ ((f : ReadFault) × IsFaulty syntax octets f)
one_of_both syntax octets ok =
    elim ((are_told (length octets + 1)).elements syntax 16 None Filled octets ok (omega arith)) [
      | inl s ↦ inl (s.0, subst (λ (o : List ℕ). IsSpelled syntax o s.0) (filled octets s.3.octets s.1 s.3.takes.parts s.2) s.3.spells)
      | inr f ↦ inr f
    ]

-- ---- what reading answers

-- what is read is spelled
pub reading_is_spelled : (syntax : Syntax) (octets : List ℕ) (d : ElementList) → IsBytes octets → data_set_read syntax octets ≡ Ok d → IsSpelled syntax octets d
reading_is_spelled syntax octets d ok e =
    elim (one_of_both syntax octets ok) [
      | inl s ↦ subst (λ (x : ElementList). IsSpelled syntax octets x) (ok_is s.0 d (sym (spelled_is_read syntax octets s.0 s.1) ∙ e)) s.1
      | inr f ↦ absurd (no_fault d f.0 (sym e ∙ faulty_is_read syntax octets f.0 f.1))
    ]

-- an error is the first fault
pub read_is_faulty : (syntax : Syntax) (octets : List ℕ) (f : ReadFault) → IsBytes octets → data_set_read syntax octets ≡ Err f → IsFaulty syntax octets f
read_is_faulty syntax octets f ok e =
    elim (one_of_both syntax octets ok) [
      | inl s ↦ absurd (no_fault s.0 f (sym (spelled_is_read syntax octets s.0 s.1) ∙ e))
      | inr g ↦ subst (λ (x : ReadFault). IsFaulty syntax octets x) (err_is {A = ElementList} g.0 f (sym (faulty_is_read syntax octets g.0 g.1) ∙ e)) g.1
    ]

-- the same of a value behind a header
module _ (levels : ℕ) (vr : Vr) (content : Content) (bytes : List ℕ)
    (nests : may_nest levels content ≡ true) (enough : fits_enclosing (length_of content) bytes ≡ true) (ok : IsBytes bytes) where
  abbrev answer : Result (Value × List ℕ) ReadFault
  answer = value_by (readers (length bytes + 1)) levels vr content bytes

  told : ValueTold levels vr content bytes
  told = value_told (length bytes + 1) (are_told (length bytes + 1)) levels vr content bytes nests enough ok (omega arith)

  one_more : (r : Result (Value × List ℕ) ReadFault) → value_by (readers (suc (length bytes))) levels vr content bytes ≡ r → answer ≡ r
  one_more r e =
      let plus : length bytes + 1 ≡ suc (length bytes) = omega arith in
      ap (λ (n : ℕ). value_by (readers n) levels vr content bytes) plus ∙ e

  spelled_value : (held : Value) (rest : List ℕ) → ReadsValue levels vr content bytes held rest → answer ≡ Ok (held, rest)
  spelled_value held rest r =
      one_more _ (ap (value_by (readers (suc (length bytes))) levels vr content) r.takes.parts
      ∙ value_again levels vr content r.octets held r.spells rest (length bytes) (omega (arith, ap length r.takes.parts)))

  value_failed : (bad : FaultyValue levels content bytes) → answer ≡ Err bad.body.fault
  value_failed bad =
      let b = bad.body in
      one_more _ ((λ i. value_by (readers (suc (length bytes))) levels vr (bad.is i) (b.parts i))
      ∙ items_in_value levels vr bad.inner bad.extent b.value b.rest b.fault b.reach
      (items_fail (bound_of bad.extent) bad.inner (levels - 1) b.value b.fault b.faulty) (length bytes) (omega (arith, ap length b.parts)))

  pub value_takes : (held : Value) (rest : List ℕ) → answer ≡ Ok (held, rest) → ReadsValue levels vr content bytes held rest
  value_takes held rest e =
      elim told [
        | inl v ↦ subst (λ (p : Value × List ℕ). ReadsValue levels vr content bytes p.0 p.1)
            (ok_is (v.0, v.1) (held, rest) (sym (spelled_value v.0 v.1 v.2) ∙ e)) v.2
        | inr bad ↦ absurd (no_fault (held, rest) bad.body.fault (sym e ∙ value_failed bad))
      ]

  value_faulty : (f : ReadFault) → answer ≡ Err f → (bad : FaultyValue levels content bytes) × (bad.body.fault ≡ f)
  value_faulty f e =
      elim told [
        | inl v ↦ absurd (no_fault (v.0, v.1) f (sym (spelled_value v.0 v.1 v.2) ∙ e))
        | inr bad ↦ (bad, err_is {A = Value × List ℕ} bad.body.fault f (sym (value_failed bad) ∙ e))
      ]

pub in_a_value : (bound : Bound) (syntax : Syntax) (levels : ℕ) (last : Option Tag) (bytes : List ℕ) (h : Header) (behind : List ℕ) (f : ReadFault)
    → ReadsHeader syntax levels last bytes h behind × (fits_enclosing (length_of h.content) behind ≡ true)
    → value_by (readers (length behind + 1)) levels h.vr h.content behind ≡ Err f
    → HasFault bound syntax levels last bytes f
in_a_value bound syntax levels last bytes h behind f (header, whole) e =
    let v = value_faulty levels h.vr h.content behind header.nests whole header.takes.rest_fits f e in
    subst (λ (x : ReadFault). HasFault bound syntax levels last bytes x) v.1 (faulty_value bound syntax levels last bytes h behind header v.0)
