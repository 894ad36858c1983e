-- What a header that came makes of a walk.
use Rattle.std.proofs.Common.{◌≡◌, ◌≢◌, ℕ, ◌-◌, ◌<◌, ◌^◌, true, false, List, [], ◌∷◌, ◌++◌, length, reverse, Option, Some, None, Ok, Err, refl, sym, ap, subst, ◌∙◌, lit<, arith, inl, inr, ◌⊎◌}
use Rattle.std.proofs.lemmas.Bool.{lt-leb, ne_eqb}
use Rattle.std.proofs.lemmas.List.{length-append, append-nil}
use Rattle.dq_dataset.proofs.Types.{Tag, ReadFault, Truncated, Syntax, Filled, Delimited, Header, no_elements}
use Rattle.dq_dataset.specs.declared.sieve.walk.Reach.{Reach}
use Rattle.dq_dataset.specs.declared.sieve.walk.Reach.TheVariants.{Measured, Within, Endless}
use Rattle.dq_dataset.specs.declared.sieve.walk.Cursor.{Cursor}
use Rattle.dq_dataset.specs.declared.sieve.walk.Cursor.TheVariants.{InItems, InElements}
use Rattle.dq_dataset.specs.declared.sieve.walk.Walk.{Walk}
use Rattle.dq_dataset.specs.declared.sieve.walk.WalkStep.TheVariants.{Failed}
use Rattle.dq_dataset.specs.Rules.{fits_enclosing}
use Rattle.dq_dataset.specs.DataSetReader.{front_at, item_front_at, end_at, may_nest, length_of}
use Rattle.dq_dataset.specs.Grammar.{IsPlaced, IsHeader, IsItemHeader, no_more, no_item, IsEnd}
use Rattle.dq_dataset.specs.Faults.{ends_here}
use Rattle.dq_dataset.specs.Sifting.{bound_by, until_of, Finishes, IsSplitByReach, LeadsTo, WalkLeads, AreNested, HasCome, HasEnd, LeadsOn, opened_reach, opened_left, StaysWithin, HasNoRoom, place_of_value}
use Rattle.dq_dataset.proofs.Fields.{IsBytes}
use Rattle.dq_dataset.proofs.Headers.{front_takes, item_front_takes, end_takes}
use Rattle.dq_dataset.proofs.Fronts.{front_is_all, item_front_is_all, open_here, front_fault_stays, item_fault_stays, part_is_open, item_part_is_open, unfit, item_unfit, not_some, end_is_all}
use Rattle.dq_dataset.proofs.Walks.{Around, failed, cut_off}
use Rattle.dq_dataset.proofs.Entering.{element_entered, item_entered, value_place, value_reach}
use Rattle.dq_dataset.proofs.Nesting.{nested_inside, left_after}
use Rattle.dq_dataset.proofs.WalkSteps.{come_within, come_some}

-- ---- what is too long

no_room_by : (reach : Reach) (extent : Option ℕ) (left : ℕ) (front t beyond : List ℕ) → HasNoRoom reach extent (left - length front)
    → IsSplitByReach reach left (front ++ t) beyond → fits_enclosing extent t ≡ false
no_room_by reach extent left front t beyond over limit = grind (arith, lt-leb, length-append)

-- ---- ends

-- an end of its own takes all that came
end_takes_all : (element : ℕ) (before : List ℕ) (octet : ℕ) (front rest : List ℕ) → element < 2 ^ 16 → IsBytes front → front ≡ before ++ octet ∷ []
    → ends_here Delimited element before ≡ false → end_at Delimited element front ≡ Ok (Some rest) → IsEnd Delimited element front
end_takes_all element before octet front rest lt ok is none e =
    let nothing = end_is_all element before octet rest lt (subst IsBytes is ok) none
    (subst (λ (x : List ℕ). end_at Delimited element x ≡ Ok (Some rest)) is e) in
    let t = end_takes Delimited element front rest ok e in
    let all : front ≡ t.octets = t.takes.parts ∙ ap (λ (x : List ℕ). t.octets ++ x) nothing ∙ append-nil t.octets in
    subst (λ (x : List ℕ). IsEnd Delimited element x) (sym all) t.is_end

pub filled_has_no_end : (element : ℕ) (front rest : List ℕ) → 0 < length front → end_at Filled element front ≡ Ok (Some rest) → ⊥
filled_has_no_end element front rest some e = not_some Filled element front rest (ne_eqb (length front) 0 (λ none. omega arith)) e

-- ---- items

module _ (walk : Walk) (syntax : Syntax) (levels : ℕ) (reach : Reach) (come : HasCome walk) (place_is : walk.place ≡ InItems syntax levels reach)
    (ok : IsBytes walk.front.items) where
  abbrev front : List ℕ
  front = walk.front.items

  part : item_front_at come.before ≡ Err Truncated
  part = rw place_is at come.part

  within : Around reach walk.left (length front)
  within = rw place_is at (come_within walk come)

  item_end_by : (at : Reach) (rest : List ℕ) → reach ≡ at → end_at (bound_by at) 0xE0DD front ≡ Ok (Some rest)
      → Finishes (InItems syntax levels at) front × ((at ≡ Within (until_of at)) ⊎ (at ≡ Endless))
  item_end_by (Measured until) rest same e = absurd (filled_has_no_end 0xE0DD front rest (come_some walk come) e)
  item_end_by (Within until) rest same e =
      let end = end_takes_all 0xE0DD come.before come.octet front rest (lit< tt) ok come.is (item_part_is_open Delimited come.before (inl refl) part) e in
      (([], no_item Delimited syntax levels front end), inl refl)
  item_end_by Endless rest same e =
      let end = end_takes_all 0xE0DD come.before come.octet front rest (lit< tt) ok come.is (item_part_is_open Delimited come.before (inl refl) part) e in
      (([], no_item Delimited syntax levels front end), inr refl)

  pub item_ends : (rest : List ℕ) → end_at (bound_by reach) 0xE0DD front ≡ Ok (Some rest) → HasEnd walk.place front
  item_ends rest e = let h = item_end_by reach rest refl e in record { ends = rw place_is h.0; reach = rw place_is h.1 }

  pub item_fails : (fault : ReadFault) (missing : ℕ) → missing ≡ walk.left - length front
      → ((rest : List ℕ) → end_at (bound_by reach) 0xE0DD front ≡ Ok (Some rest) → ⊥)
      → item_front_at front ≡ Err fault → fault ≢ Truncated → LeadsOn walk [] (Failed fault missing)
  item_fails fault missing missing_is none e other = record {
    sound = tt;
    leads = λ octets end leads. rw place_is
        (failed (InItems syntax levels reach) (reverse walk.around.items) walk.left front octets fault end within
        (λ t beyond limit. item_fault_stays (bound_by reach) syntax levels front t fault (open_here (bound_by reach) 0xE0DD front none) e other)
        (rw missing_is at leads));
  }

  whole_item : (extent : Option ℕ) (rest : List ℕ) → item_front_at front ≡ Ok (extent, rest) → IsItemHeader extent front
  whole_item extent rest e =
      let nothing = item_front_is_all come.before come.octet extent rest (subst IsBytes come.is ok) part
      (subst (λ (x : List ℕ). item_front_at x ≡ Ok (extent, rest)) come.is e) in
      let t = item_front_takes front extent rest ok e in
      let all : front ≡ t.octets = t.takes.parts ∙ ap (λ (x : List ℕ). t.octets ++ x) nothing ∙ append-nil t.octets in
      subst (λ (x : List ℕ). IsItemHeader extent x) (sym all) t.header

  pub item_too_long : (extent : Option ℕ) (rest : List ℕ) (after : ℕ) → item_front_at front ≡ Ok (extent, rest) → after ≡ walk.left - length front
      → HasNoRoom reach extent after → LeadsOn walk [] (Failed Truncated 0)
  item_too_long extent rest after e after_is over = record {
    sound = tt;
    leads = λ octets end leads. rw place_is
        (cut_off (InItems syntax levels reach) (reverse walk.around.items) walk.left 0 front octets end within
        (λ t beyond limit. item_unfit (bound_by reach) syntax levels extent front t (whole_item extent rest e)
        (no_room_by reach extent walk.left front t beyond (rw after_is at over) limit)) leads);
  }

  module _ (extent : Option ℕ) (rest : List ℕ) (after : ℕ) (e : item_front_at front ≡ Ok (extent, rest)) (after_is : after ≡ walk.left - length front)
      (room : StaysWithin reach extent after) (inner : Reach) (now : ℕ) (inner_is : inner ≡ opened_reach reach extent after)
      (now_is : now ≡ opened_left reach extent after) where
    abbrev item_inner : Cursor
    item_inner = InElements syntax levels None inner

    pub item_nested : AreNested now (item_inner ∷ InItems syntax levels reach ∷ reverse walk.around.items)
    item_nested =
        let lies = rw place_is at come.nested.0 in
        let others = rw place_is at come.nested.1 in
        rw now_is (nested_inside walk.left after (length front) item_inner (InItems syntax levels reach) (reverse walk.around.items) reach extent
        inner_is refl (rw after_is (left_after reach walk.left (length front) within)) room within lies others)

    pub item_leads : (octets : List ℕ) (end : Option ReadFault) → LeadsTo now (item_inner ∷ InItems syntax levels reach ∷ reverse walk.around.items) octets end
        → WalkLeads walk octets end
    item_leads octets end leads =
        rw place_is
        (item_entered syntax levels extent reach front walk.left after (whole_item extent rest e)
        (rw after_is (left_after reach walk.left (length front) within))
        room (reverse walk.around.items) octets end (rw (now_is, inner_is) at leads))

-- ---- elements

module _ (walk : Walk) (syntax : Syntax) (levels : ℕ) (last : Option Tag) (reach : Reach) (come : HasCome walk)
    (place_is : walk.place ≡ InElements syntax levels last reach) (ok : IsBytes walk.front.items) where
  abbrev came : List ℕ
  came = walk.front.items

  element_part : front_at syntax levels last come.before ≡ Err Truncated
  element_part = rw place_is at come.part

  element_within : Around reach walk.left (length came)
  element_within = rw place_is at (come_within walk come)

  element_end_by : (at : Reach) (rest : List ℕ) → end_at (bound_by at) 0xE00D came ≡ Ok (Some rest)
      → Finishes (InElements syntax levels last at) came × ((at ≡ Within (until_of at)) ⊎ (at ≡ Endless))
  element_end_by (Measured until) rest e = absurd (filled_has_no_end 0xE00D came rest (come_some walk come) e)
  element_end_by (Within until) rest e =
      let end = end_takes_all 0xE00D come.before come.octet came rest (lit< tt) ok come.is
      (part_is_open Delimited syntax levels last come.before (inl refl) element_part) e in
      ((no_elements, no_more Delimited syntax levels last came end), inl refl)
  element_end_by Endless rest e =
      let end = end_takes_all 0xE00D come.before come.octet came rest (lit< tt) ok come.is
      (part_is_open Delimited syntax levels last come.before (inl refl) element_part) e in
      ((no_elements, no_more Delimited syntax levels last came end), inr refl)

  pub element_ends_here : (rest : List ℕ) → end_at (bound_by reach) 0xE00D came ≡ Ok (Some rest) → HasEnd walk.place came
  element_ends_here rest e = let h = element_end_by reach rest e in record { ends = rw place_is h.0; reach = rw place_is h.1 }

  pub element_fails : (fault : ReadFault) (missing : ℕ) → missing ≡ walk.left - length came
      → ((rest : List ℕ) → end_at (bound_by reach) 0xE00D came ≡ Ok (Some rest) → ⊥)
      → front_at syntax levels last came ≡ Err fault → fault ≢ Truncated → LeadsOn walk [] (Failed fault missing)
  element_fails fault missing missing_is none e other = record {
    sound = tt;
    leads = λ octets end leads. rw place_is
        (failed (InElements syntax levels last reach) (reverse walk.around.items) walk.left came octets fault end element_within
        (λ t beyond limit. front_fault_stays (bound_by reach) syntax levels last came t fault (open_here (bound_by reach) 0xE00D came none) e other)
        (rw missing_is at leads));
  }

-- the header of an element that came whole
pub record WholeHeader (syntax : Syntax) (levels : ℕ) (last : Option Tag) (front : List ℕ) (header : Header) : Type 0 where
  pub placed : IsPlaced last header.tag
  pub is_header : IsHeader syntax header.tag header.content front
  pub nests : may_nest levels header.content ≡ true

pub whole_header : (syntax : Syntax) (levels : ℕ) (last : Option Tag) (before : List ℕ) (octet : ℕ) (front : List ℕ) (header : Header) (rest : List ℕ)
    → front ≡ before ++ octet ∷ [] → front_at syntax levels last before ≡ Err Truncated → IsBytes front
    → front_at syntax levels last front ≡ Ok (header, rest) → WholeHeader syntax levels last front header
whole_header syntax levels last before octet front header rest is part ok e =
    let nothing = front_is_all syntax levels last before octet header rest (subst IsBytes is ok) part
    (subst (λ (x : List ℕ). front_at syntax levels last x ≡ Ok (header, rest)) is e) in
    let t = front_takes syntax levels last front header rest ok e in
    let all : front ≡ t.octets = t.takes.parts ∙ ap (λ (x : List ℕ). t.octets ++ x) nothing ∙ append-nil t.octets in
    record {
      placed = t.placed;
      is_header = subst (λ (x : List ℕ). IsHeader syntax header.tag header.content x) (sym all) t.header;
      nests = t.nests;
    }

module _ (walk : Walk) (syntax : Syntax) (levels : ℕ) (last : Option Tag) (reach : Reach) (come : HasCome walk)
    (place_is : walk.place ≡ InElements syntax levels last reach) (ok : IsBytes walk.front.items) (header : Header) (rest : List ℕ)
    (e : front_at syntax levels last walk.front.items ≡ Ok (header, rest)) where
  whole : WholeHeader syntax levels last walk.front.items header
  whole = whole_header syntax levels last come.before come.octet walk.front.items header rest come.is (rw place_is at come.part) ok e

  abbrev octets_of_header : List ℕ
  octets_of_header = walk.front.items

  header_within : Around reach walk.left (length octets_of_header)
  header_within = rw place_is at (come_within walk come)

  pub element_too_long : (after : ℕ) → after ≡ walk.left - length octets_of_header → HasNoRoom reach (length_of header.content) after
      → LeadsOn walk [] (Failed Truncated 0)
  element_too_long after after_is over = record {
    sound = tt;
    leads = λ octets end leads. rw place_is
        (cut_off (InElements syntax levels last reach) (reverse walk.around.items) walk.left 0 octets_of_header octets end header_within
        (λ t beyond limit. unfit (bound_by reach) syntax levels last header.tag header.content octets_of_header t whole.placed whole.is_header whole.nests
        (no_room_by reach (length_of header.content) walk.left octets_of_header t beyond (rw after_is at over) limit)) leads);
  }

  module _ (after : ℕ) (after_is : after ≡ walk.left - length octets_of_header) (room : StaysWithin reach (length_of header.content) after)
      (inner : Reach) (now : ℕ) (inner_is : inner ≡ opened_reach reach (length_of header.content) after)
      (now_is : now ≡ opened_left reach (length_of header.content) after) where
    abbrev behind : Cursor
    behind = InElements syntax levels (Some header.tag) reach

    pub element_nested : AreNested now (place_of_value header.content levels inner ∷ behind ∷ reverse walk.around.items)
    element_nested =
        let lies = rw place_is at come.nested.0 in
        let others = rw place_is at come.nested.1 in
        rw (now_is, inner_is) (nested_inside walk.left after (length octets_of_header) (value_place header.content levels reach after) behind
        (reverse walk.around.items) reach (length_of header.content) (value_reach header.content levels reach after) refl
        (rw after_is (left_after reach walk.left (length octets_of_header) header_within)) room header_within lies others)

    pub element_leads : (octets : List ℕ) (end : Option ReadFault)
        → LeadsTo now (place_of_value header.content levels inner ∷ behind ∷ reverse walk.around.items) octets end → WalkLeads walk octets end
    element_leads octets end leads =
        rw place_is
        (element_entered syntax levels last header.tag header.content reach octets_of_header walk.left after whole.placed whole.is_header whole.nests
        (rw after_is (left_after reach walk.left (length octets_of_header) header_within)) room (reverse walk.around.items) octets end
        (rw (now_is, inner_is) at leads))
