-- What is lent agrees with what is read.
use Rattle.std.proofs.Common.{◌≡◌, ℕ, zero, suc, ◌-◌, ◌≤◌, Bool, true, false, cond, eqb, List, [], ◌∷◌, ◌++◌, length, take, Option, Some, None, Result, Ok, Err, refl, sym, ap, subst, ◌∙◌, append_assoc, arith, inl, inr, ◌⊎◌}
use Rattle.std.specs.Int.{w32, to_le_bytes}
use Rattle.std.proofs.lemmas.Bool.{eqb-true}
use Rattle.std.proofs.lemmas.List.{take_at, length-append}
use Rattle.dq_list.specs.Octets.{AreOctets}
use Rattle.dq_dataset.proofs.Types.{Tag, Vr, ReadFault, Syntax, Bound, Filled, Delimited, Content, Header, Element, Value, ElementList, no_elements}
use Rattle.dq_vr.specs.Dictionary.{known_vr}
use Rattle.dq_dataset.specs.View.{elements_of, with_value}
use Rattle.dq_dataset.specs.Rules.{padded_value, vr_of}
use Rattle.dq_dataset.specs.DataSetReader.{length_of}
use Rattle.dq_dataset.specs.Grammar.{Spells, no_more, more, SpellsValue, plain, nested, SpellsItems, no_item, one_item, delimiter, without_group_length}
use Rattle.dq_dataset.specs.Faults.{HasFault, after_element}
use Rattle.dq_dataset.specs.Lending.{Spelled, spelled_as, octets_before_rest, next_at, lent_after, lent_in, lent_elements}
use Rattle.dq_dataset.specs.Agreement.{IsLentValue, IsLent, Lends, FaultAfter, at_once, after_one, AgreesWith}
use Rattle.dq_dataset.proofs.Views.{elements_of-with_value}
use Rattle.dq_dataset.proofs.LentLemmas.{Found, Lent, NextReads, next_reads, next_shorter}
use Rattle.dq_dataset.proofs.LentFaults.{next_is_spelled, next_is_faulty}
use Rattle.dq_dataset.proofs.SpelledOrFaulty.{ReadsValue}

-- ---- values

record Undelimited (syntax : Syntax) (levels : ℕ) (octets : List ℕ) (items : List ElementList) : Type 0 where
  front : List ℕ
  end : List ℕ
  whole : octets ≡ front ++ end
  eight : length end ≡ 8
  spells : SpellsItems Filled syntax levels front items

-- items with an end of their own, without it
undelimited : (bound : Bound) (syntax : Syntax) (levels : ℕ) (octets : List ℕ) (items : List ElementList) → SpellsItems bound syntax levels octets items
    → bound ≡ Delimited → Undelimited syntax levels octets items
undelimited Filled syntax levels octets items spells e = absurd cc
undelimited Delimited syntax levels octets items (no_item _ _ _ _ end) e =
    record { front = []; end = delimiter 0xE0DD ++ to_le_bytes w32 0; whole = end; eight = refl; spells = no_item Filled syntax levels [] refl }
undelimited Delimited syntax levels octets items (one_item _ _ _ _ extent header value rest first others is_header has first_spelled others_spelled whole) e =
    let u = undelimited Delimited syntax levels rest others others_spelled refl in
    record {
      front = header ++ (value ++ u.front);
      end = u.end;
      whole = whole ∙ ap (λ (x : List ℕ). header ++ (value ++ x)) u.whole ∙ ap (λ (x : List ℕ). header ++ x) (sym (append_assoc value u.front u.end))
          ∙ sym (append_assoc header (value ++ u.front) u.end);
      eight = u.eight;
      spells = one_item Filled syntax levels (header ++ (value ++ u.front)) extent header value u.front first others is_header has first_spelled u.spells refl;
    }

-- what is lent of a value, of which the octets are known
lent_value : (levels : ℕ) (vr : Vr) (content : Content) (octets : List ℕ) (held : Value) (rest : List ℕ) → SpellsValue levels vr content octets held
    → levels ≡ 16
    → (outer : Syntax) (tag : Tag)
    → IsLentValue (spelled_as outer (record { tag = tag; vr = vr; content = content }) (octets_before_rest (length_of content) (octets ++ rest) rest)) held
lent_value levels vr content octets held rest (plain _ _ n _ len) e outer tag = ap (padded_value vr) (sym (take_at octets rest n len))
lent_value levels vr content octets held rest (nested fewer _ syntax (Some n) _ items has spells) e outer tag =
    let depth : fewer ≡ 15 = omega (arith, e) in
    subst (λ (x : List ℕ). SpellsItems Filled syntax 15 x items) (sym (take_at octets rest n has))
    (subst (λ (k : ℕ). SpellsItems Filled syntax k octets items) depth spells)
lent_value levels vr content octets held rest (nested fewer _ syntax None _ items has spells) e outer tag =
    let depth : fewer ≡ 15 = omega (arith, e) in
    let u = undelimited Delimited syntax fewer octets items spells refl in
    let count : length u.front ≡ length (octets ++ rest) - length rest - 8 =
    omega (arith, length-append octets rest, ap length u.whole, length-append u.front u.end, u.eight) in
    let all : octets ++ rest ≡ u.front ++ (u.end ++ rest) = ap (λ (x : List ℕ). x ++ rest) u.whole ∙ append_assoc u.front u.end rest in
    let same : take (length (octets ++ rest) - length rest - 8) (octets ++ rest) ≡ u.front =
    ap (take (length (octets ++ rest) - length rest - 8)) all ∙ take_at u.front (u.end ++ rest) (length (octets ++ rest) - length rest - 8) count in
    subst (λ (x : List ℕ). SpellsItems Filled syntax 15 x items) (sym same) (subst (λ (k : ℕ). SpellsItems Filled syntax k u.front items) depth u.spells)

read_value : (outer : Syntax) (h : Header) (behind : List ℕ) (held : Value) (rest : List ℕ) → ReadsValue 16 h.vr h.content behind held rest
    → IsLentValue (spelled_as outer h (octets_before_rest (length_of h.content) behind rest)) held
read_value outer h behind held rest r =
    subst (λ (x : List ℕ). IsLentValue (spelled_as outer h (octets_before_rest (length_of h.content) x rest)) held) (sym r.takes.parts)
    (lent_value 16 h.vr h.content r.octets held rest r.spells refl outer h.tag)

-- ---- one step

-- of the octets after a tag
abbrev Agrees : Syntax → Option Tag → List ℕ → Lent → Type 0
Agrees syntax last octets lent =
    ((d : ElementList) × Spells Filled syntax 16 last octets d × Lends lent (elements_of d) [])
    ⊎ ((d : ElementList) × (fault : ReadFault) × FaultAfter syntax last octets d fault × Lends lent (elements_of d) (Err fault ∷ []))

kept_lends : (b : Bool) (x : Spelled) (tag : Tag) (vr : Vr) (held : Value) (others : ElementList) (later end : Lent)
    → IsLent x (record { tag = tag; vr = vr; value = held }) → Lends later (elements_of others) end
    → Lends (cond b later (Ok x ∷ later)) (elements_of (cond b others (with_value (record { tag = tag; vr = vr; value = held }) held others))) end
kept_lends true x tag vr held others later end is h = h
kept_lends false x tag vr held others later end is h =
    subst (λ (es : List Element). Lends (Ok x ∷ later) es end) (sym (elements_of-with_value tag vr held others)) (is, h)

module _ (n : ℕ) (syntax : Syntax) (last : Option Tag) (octets : List ℕ) (ok : AreOctets octets) where
  -- an element is lent, and what follows agrees
  element_agrees : (found : Found) → NextReads syntax last octets found
      → Agrees syntax (Some found.0.0.tag) found.1 (lent_in n syntax (Some found.0.0.tag) found.1)
      → Agrees syntax last octets (lent_after syntax (lent_in n syntax) (Ok found))
  element_agrees found (behind, header, held, value, is) others =
      let h = found.0.0 in
      let parts : octets ≡ header.octets ++ (value.octets ++ found.1) = header.takes.parts ∙ ap (λ (x : List ℕ). header.octets ++ x) value.takes.parts in
      let vr = vr_of (known_vr h.tag) h.content in
      let spelled : SpellsValue 16 vr h.content value.octets held = subst (λ (x : Vr). SpellsValue 16 x h.content value.octets held) header.vr value.spells in
      let read = subst (λ (o : List ℕ). IsLentValue (spelled_as syntax h o) held) (sym is) (read_value syntax h behind held found.1 value) in
      let same : IsLent (spelled_as syntax h found.0.1) (record { tag = h.tag; vr = vr; value = held }) = record { tag = refl; vr = header.vr; value = read } in
      let all = λ (d : ElementList). without_group_length h.tag vr held d in
      let lends = λ (d : ElementList) (end : Lent). kept_lends (eqb h.tag.element 0) (spelled_as syntax h found.0.1) h.tag vr held d
      (lent_in n syntax (Some h.tag) found.1) end same in
      elim others [
        | inl whole ↦
            let spells = more Filled syntax 16 last octets (all whole.0) h.tag h.content header.octets value.octets found.1 held whole.0
            header.placed header.header spelled whole.1 parts refl in
            inl (all whole.0, spells, lends whole.0 [] whole.2)
        | inr faulty ↦
            let after = after_one syntax last octets (all faulty.0) faulty.1 h.tag h.content header.octets value.octets found.1 held faulty.0
            header.placed header.header spelled faulty.2 parts refl in
            inr (all faulty.0, faulty.1, after, lends faulty.0 (Err faulty.1 ∷ []) faulty.3)
      ]

  -- where the next fails, no element stands
  fault_agrees : (f : ReadFault) → eqb (length octets) 0 ≡ false → next_at syntax last octets ≡ Err f → Agrees syntax last octets (Err f ∷ [])
  fault_agrees f some e =
      let none = at_once syntax last octets f (λ tag content header value rest held placed is_header spells parts.
      next_is_spelled syntax last octets f tag content header value rest held placed is_header spells parts e) in
      inr (no_elements, f, none (next_is_faulty syntax last octets f ok some e), refl)

empty_agrees : (syntax : Syntax) (last : Option Tag) (octets : List ℕ) → length octets ≡ 0 → Agrees syntax last octets []
empty_agrees syntax last [] e = inl (no_elements, no_more Filled syntax 16 last [] refl, refl)
empty_agrees syntax last (x ∷ octets) e = absurd (omega (arith, e))

abbrev AgreesIn : ℕ → Syntax → Type 0
AgreesIn n syntax = (last : Option Tag) (octets : List ℕ) → AreOctets octets → length octets ≤ n → Agrees syntax last octets (lent_in n syntax last octets)

next_agrees : (n : ℕ) (syntax : Syntax) (ih : AgreesIn n syntax) (last : Option Tag) (octets : List ℕ) (ok : AreOctets octets) → length octets ≤ suc n
    → eqb (length octets) 0 ≡ false
    → (r : Result Found ReadFault) → next_at syntax last octets ≡ r → Agrees syntax last octets (lent_after syntax (lent_in n syntax) r)
next_agrees n syntax ih last octets ok le some (Err f) e = fault_agrees n syntax last octets ok f some e
next_agrees n syntax ih last octets ok le some (Ok found) e =
    let shorter = next_shorter syntax last octets found ok e in
    element_agrees n syntax last octets ok found (next_reads syntax last octets found ok e)
    (ih (Some found.0.0.tag) found.1 shorter.0 (omega (arith, shorter.1)))

by_length : (n : ℕ) (syntax : Syntax) (ih : AgreesIn n syntax) (last : Option Tag) (octets : List ℕ) (ok : AreOctets octets) → length octets ≤ suc n
    → (b : Bool) → eqb (length octets) 0 ≡ b
    → Agrees syntax last octets (cond b [] (lent_after syntax (lent_in n syntax) (next_at syntax last octets)))
by_length n syntax ih last octets ok le true e = empty_agrees syntax last octets (eqb-true (length octets) 0 e)
by_length n syntax ih last octets ok le false e = next_agrees n syntax ih last octets ok le e (next_at syntax last octets) refl

agrees_in : (n : ℕ) (syntax : Syntax) → AgreesIn n syntax
unfolding lent_in
agrees_in zero syntax last octets ok le = empty_agrees syntax last octets (omega arith)
agrees_in (suc n) syntax last octets ok le = by_length n syntax (agrees_in n syntax) last octets ok le (eqb (length octets) 0) refl

-- one is lent for each element, and then the first fault
pub lent_agrees : (syntax : Syntax) (octets : List ℕ) → AreOctets octets → AgreesWith syntax octets (lent_elements syntax octets)
lent_agrees syntax octets ok = agrees_in (length octets) syntax None octets ok (omega arith)

-- ---- what stands before the fault

pub front_before : (syntax : Syntax) (last : Option Tag) (octets : List ℕ) (d : ElementList) (fault : ReadFault) → FaultAfter syntax last octets d fault
    → (front : List ℕ) × (rest : List ℕ) × (octets ≡ front ++ rest) × Spells Filled syntax 16 last front d
front_before syntax last octets d fault (at_once _ _ _ _ none faulty) = ([], octets, refl, no_more Filled syntax 16 last [] refl)
front_before syntax last octets d fault (after_one _ _ _ _ _ tag content header value rest held others placed is_header spells later e1 e2) =
    let f = front_before syntax (Some tag) rest others fault later in
    let all : octets ≡ (header ++ (value ++ f.0)) ++ f.1 = e1 ∙ ap (λ (x : List ℕ). header ++ (value ++ x)) f.2 ∙ simp append_assoc in
    let front = header ++ (value ++ f.0) in
    (front, f.1, all, more Filled syntax 16 last front d tag content header value f.0 held others placed is_header spells f.3 refl e2)

pub fault_after : (syntax : Syntax) (last : Option Tag) (octets : List ℕ) (d : ElementList) (fault : ReadFault) → FaultAfter syntax last octets d fault
    → HasFault Filled syntax 16 last octets fault
fault_after syntax last octets d fault (at_once _ _ _ _ none faulty) = faulty
fault_after syntax last octets d fault (after_one _ _ _ _ _ tag content header value rest held others placed is_header spells later e1 e2) =
    after_element Filled syntax 16 last octets fault tag content header value rest held placed is_header spells
    (fault_after syntax (Some tag) rest others fault later) e1
