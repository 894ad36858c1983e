-- A data set that meets the keys passes, as its elements are lent.
use Rattle.std.proofs.Common.{◌≡◌, ℕ, Bool, true, false, not, ◌||◌, ◌&&◌, List, [], ◌∷◌, Some, None, Option, Result, Ok, Err, inl, inr, refl, sym, ap, subst, ◌∙◌, arith, find}
use Rattle.std.proofs.lemmas.Bool.{cond-true, cond-false, and_parts}
use Rattle.std.proofs.lemmas.Bool.Decides.{nat_tests}
use Rattle.std.specs.List.{list_all}
use Rattle.std.specs.Result.{result_unwrap_or}
use Rattle.dq_list.specs.Among.{IsAmong}
use Rattle.dq_vr.specs.declared.Tag.{Tag}
use Rattle.dq_vr.specs.declared.Vr.{Vr}
use Rattle.dq_vr.specs.declared.Vr.TheVariants.{SQ}
use Rattle.dq_vr.specs.Tag.{is_below}
use Rattle.dq_dataset.specs.declared.fault.ReadFault.{ReadFault}
use Rattle.dq_dataset.specs.declared.header.Syntax.TheVariants.{Explicit}
use Rattle.dq_dataset.specs.declared.data_set.Element.{Element}
use Rattle.dq_dataset.specs.declared.data_set.Value.{Value}
use Rattle.dq_dataset.specs.declared.data_set.Value.TheVariants.{Octets, Items}
use Rattle.dq_dataset.specs.Tree.{ElementList, no_elements, element, sequence}
use Rattle.dq_dataset.specs.View.{elements_of, has_tag}
use Rattle.dq_dataset.specs.Values.{element_at, element_octets}
use Rattle.dq_dataset.specs.Rules.{follows}
use Rattle.dq_dataset.specs.Facts.{AreElements, IsDataSet}
use Rattle.dq_dataset.specs.Grammar.{IsSpelled}
use Rattle.dq_dataset.specs.DataSetReader.{data_set_read}
use Rattle.dq_dataset.specs.Lending.{Spelled}
use Rattle.dq_dataset.specs.Agreement.{IsLentValue, IsLent, Lends, AgreesWith}
use Rattle.dq_match.specs.Values.{octets_meet}
use Rattle.dq_match.specs.Keys.{is_tag}
use Rattle.dq_match.specs.Matching.{meets}
use Rattle.dq_match.specs.AsLent.{is_left, is_met_at_once, are_the_value, value_asked, is_met_by, meets_keys, all_meet}
use Rattle.dq_match.proofs.Alone.{all_pass, each_of}
use Rattle.dq_match.proofs.KnownKeys.{same_tag}
use Rattle.dq_match.proofs.Showing.{ValueFacts, IfFound, found_facts}
use Rattle.dq_match.proofs.DataSets.{follows-trans}

-- ---- octets with a fault meet all keys

faulty_meets : (later : List Tag) (keys : List Element) (met : Bool) (fault : ReadFault) (xs : List (Result Spelled ReadFault)) (es : List Element)
    → Lends xs es (Err fault ∷ []) → all_meet later keys met xs ≡ true
faulty_meets later keys met fault xs [] h = ap (all_meet later keys met) h
faulty_meets later keys met fault [] (e ∷ es) h = absurd h
faulty_meets later keys met fault (Ok x ∷ xs) (e ∷ es) h = faulty_meets later keys (met && meets_keys later keys x) fault xs es h.1
faulty_meets later keys met fault (Err f ∷ xs) (e ∷ es) h = absurd h

-- ---- tags rise, so that an element is the one that is found by its tag

all_above : (levels : ℕ) (last : Option Tag) (d : ElementList) → AreElements levels last d → (e : Element) → IsAmong e (elements_of d)
    → follows last e.tag ≡ true
all_above levels last no_elements h e a = absurd a
all_above levels last (element t v o rest) h e (inl is) = subst (λ (k : Element). follows last k.tag ≡ true) is h.0.rises
all_above levels last (element t v o rest) h e (inr a) = follows-trans last t e.tag h.0.rises (all_above levels (Some t) rest h.2 e a)
all_above levels last (sequence t v items rest) h e (inl is) = subst (λ (k : Element). follows last k.tag ≡ true) is h.0.rises
all_above levels last (sequence t v items rest) h e (inr a) = follows-trans last t e.tag h.0.rises (all_above levels (Some t) rest h.4 e a)

itself : (t : Tag) → is_tag t t ≡ true
itself t = grind (arith, nat_tests)

not_itself : (a b : Tag) → is_below a b ≡ true → is_tag a b ≡ false
unfolding is_below
not_itself a b h = grind (arith, nat_tests)

found : (levels : ℕ) (last : Option Tag) (d : ElementList) → AreElements levels last d → (e : Element) → IsAmong e (elements_of d)
    → element_at e.tag d ≡ Some e
found levels last no_elements h e a = absurd a
found levels last (element t v o rest) h e (inl is) =
    cond-true (is_tag t e.tag) _ (find (has_tag e.tag) (elements_of rest)) (subst (λ (k : Element). is_tag t k.tag ≡ true) is (itself t))
    ∙ ap Some is
found levels last (element t v o rest) h e (inr a) =
    cond-false (is_tag t e.tag) _ (find (has_tag e.tag) (elements_of rest)) (not_itself t e.tag (all_above levels (Some t) rest h.2 e a))
    ∙ found levels (Some t) rest h.2 e a
found levels last (sequence t v items rest) h e (inl is) =
    cond-true (is_tag t e.tag) _ (find (has_tag e.tag) (elements_of rest)) (subst (λ (k : Element). is_tag t k.tag ≡ true) is (itself t))
    ∙ ap Some is
found levels last (sequence t v items rest) h e (inr a) =
    cond-false (is_tag t e.tag) _ (find (has_tag e.tag) (elements_of rest)) (not_itself t e.tag (all_above levels (Some t) rest h.4 e a))
    ∙ found levels (Some t) rest h.4 e a

-- ---- a key that is met by an element is met as it is lent

no_sequence : (vr : Vr) (octets : List ℕ) → vr ≡ SQ → are_the_value vr octets ≡ true → ⊥
no_sequence vr octets seq plain =
    let none : false ≡ true = ap (λ (v : Vr). are_the_value v octets) (sym seq) ∙ plain in cc

-- the value of an element that is no sequence, and even, is what is lent
lent_value : (x : Spelled) (e : Element) (v : Value) → e.value ≡ v → IsLentValue x v → ValueFacts 16 e.tag x.vr v
    → are_the_value x.vr x.octets ≡ true
    → element_octets (Some e) ≡ x.octets
lent_value x e (Octets held) is lent seq plain = grind (arith, nat_tests, and_parts, cond-true)
lent_value x e (Items items) is lent seq plain = absurd (no_sequence x.vr x.octets seq.0.is_sq plain)

asked : (later : List Tag) (x : Spelled) (key : Element) (v : Value) (e : Element) → element_octets (Some e) ≡ x.octets
    → meets (record key { value = v }) (Some e) ≡ true → value_asked v key.vr x.octets ≡ true
asked later x key (Octets octets) e same met = ap (octets_meet key.vr octets) (sym same) ∙ met
asked later x key (Items items) e same met = refl

module _ (later : List Tag) (d : ElementList) (facts : IsDataSet d) where
  facts_at : (e : Element) → IsAmong e (elements_of d) → ValueFacts 16 e.tag e.vr e.value
  facts_at e among = (subst (IfFound 16 e.tag) (found 16 None d facts e among) (found_facts 16 None e.tag d facts)).1

  met_by : (x : Spelled) (e key : Element) → IsLent x e → IsAmong e (elements_of d) → are_the_value x.vr x.octets ≡ true → is_met_at_once later d key ≡ true
      → (b c : Bool) → is_tag key.tag x.tag ≡ b → is_left later key.tag ≡ c → is_met_by later x key ≡ true
  met_by x e key lent among plain met false c tag left = ap (λ (b : Bool). not (b && not (is_left later key.tag)) || value_asked key.value key.vr x.octets) tag
  met_by x e key lent among plain met true true tag left =
      (λ i. not (tag i && not (left i)) || value_asked key.value key.vr x.octets)
  met_by x e key lent among plain met true false tag left =
      let at : element_at key.tag d ≡ Some e = ap (λ (t : Tag). element_at t d) (same_tag key.tag x.tag tag ∙ lent.tag) ∙ found 16 None d facts e among in
      let meets_it : meets key (Some e) ≡ true = ap (meets key) (sym at) ∙ sym (ap (λ (b : Bool). b || meets key (element_at key.tag d)) left) ∙ met in
      (λ i. not (tag i && not (left i)) || value_asked key.value key.vr x.octets)
      ∙ asked later x key key.value e
      (lent_value x e e.value refl lent.value (subst (λ (vr : Vr). ValueFacts 16 e.tag vr e.value) (sym lent.vr)
      (facts_at e among)) plain) meets_it

  one_by : (x : Spelled) (e : Element) (keys : List Element) → IsLent x e → IsAmong e (elements_of d) → list_all (is_met_at_once later d) keys ≡ true
      → (b : Bool) → are_the_value x.vr x.octets ≡ b → meets_keys later keys x ≡ true
  one_by x e keys lent among met true plain =
      (λ i. not (plain i) || list_all (is_met_by later x) keys)
      ∙ all_pass (is_met_by later x) keys (λ key a. met_by x e key lent among plain
      (each_of (is_met_at_once later d) keys met key a) _ _ refl refl)
  one_by x e keys lent among met false plain = (λ i. not (plain i) || list_all (is_met_by later x) keys)

  each_by : (keys : List Element) → list_all (is_met_at_once later d) keys ≡ true → (xs : List (Result Spelled ReadFault)) (es : List Element) → Lends xs es []
      → ((e : Element) → IsAmong e es → IsAmong e (elements_of d)) → all_meet later keys true xs ≡ true
  each_by keys met xs [] h within = ap (all_meet later keys true) h
  each_by keys met [] (e ∷ es) h within = absurd h
  each_by keys met (Ok x ∷ xs) (e ∷ es) h within =
      ap (λ (b : Bool). all_meet later keys b xs) (one_by x e keys h.0 (within e (inl refl)) met _ refl)
      ∙ each_by keys met xs es h.1 (λ f a. within f (inr a))
  each_by keys met (Err f ∷ xs) (e ∷ es) h within = absurd h

-- ---- the octets of a data set, and others

module _ (later : List Tag) (keys : List Element) (octets : List ℕ) (xs : List (Result Spelled ReadFault))
    (facts : (d : ElementList) → IsSpelled Explicit octets d → IsDataSet d)
    (reads : (d : ElementList) → IsSpelled Explicit octets d → data_set_read Explicit octets ≡ Ok d) where
  pub passes : AgreesWith Explicit octets xs → list_all (is_met_at_once later (result_unwrap_or (data_set_read Explicit octets) no_elements)) keys ≡ true
      → all_meet later keys true xs ≡ true
  passes (inl one) met = grind (arith, nat_tests, each_by)
  passes (inr none) met = faulty_meets later keys true none.1 xs (elements_of none.0) none.3
