-- Entering a value behind its header, taken backwards.
use Rattle.std.proofs.Common.{◌≡◌, ℕ, zero, suc, ◌+◌, ◌-◌, ◌≤◌, ◌<◌, true, false, List, [], ◌∷◌, ◌++◌, length, take, drop, Option, Some, None, refl, sym, subst, append_assoc, arith, inl, inr, ◌⊎◌}
use Rattle.std.proofs.lemmas.Bool.{lt-leb, ltb-true}
use Rattle.std.proofs.lemmas.List.{length-append, append-nil, length-take, take-append-drop}
use Rattle.dq_dataset.proofs.Types.{Tag, Vr, ReadFault, Truncated, Syntax, Bound, Content, Plain, Sequence, Value, Items, ElementList}
use Rattle.dq_dataset.specs.declared.sieve.walk.Reach.{Reach}
use Rattle.dq_dataset.specs.declared.sieve.walk.Reach.TheVariants.{Measured, Within, Endless}
use Rattle.dq_dataset.specs.declared.sieve.walk.Cursor.{Cursor}
use Rattle.dq_dataset.specs.declared.sieve.walk.Cursor.TheVariants.{InItems, InElements}
use Rattle.dq_vr.specs.Dictionary.{known_vr}
use Rattle.dq_dataset.specs.Rules.{vr_of, fits_enclosing}
use Rattle.dq_dataset.specs.DataSetReader.{may_nest, length_of}
use Rattle.dq_dataset.specs.Grammar.{IsPlaced, IsHeader, IsItemHeader, Spells, more, SpellsValue, plain, nested, one_item, bound_of, HasExtent, without_group_length}
use Rattle.dq_dataset.specs.Faults.{HasFault, HasReach, in_value, after_element, in_item, after_item}
use Rattle.dq_dataset.specs.Sifting.{reach_of, bound_by, until_of, Finishes, HasFirstFault, Extends, IsSplitByReach, Leads, LeadsTo, opened_reach, opened_left, StaysWithin, place_of_value}
use Rattle.dq_dataset.proofs.Fronts.{unfit, item_unfit}

-- ---- entering a value

-- how many octets of the outermost length are left after a header
abbrev pub Behind : Reach → ℕ → ℕ → ℕ → Type 0
Behind Endless left header after = (left ≡ 0) × (after ≡ 0)
Behind (Measured until) left header after = header + after ≡ left
Behind (Within until) left header after = header + after ≡ left

pub value_extent : (reach : Reach) (extent : Option ℕ) (after : ℕ) (v : List ℕ) → StaysWithin reach extent after
    → Extends (opened_reach reach extent after) (opened_left reach extent after) v → HasExtent extent v
value_extent reach extent after v room extends = grind arith

module _ (header v w : List ℕ) where
  parts_length : length (header ++ (v ++ w)) ≡ length header + length v + length w
  parts_length = omega (arith, length-append header (v ++ w), length-append v w)

  extends_around : (reach : Reach) (extent : Option ℕ) (left after : ℕ) → Behind reach left (length header) after → StaysWithin reach extent after
      → Extends (opened_reach reach extent after) (opened_left reach extent after) v → Extends reach (opened_left reach extent after - length v) w
      → Extends reach left (header ++ (v ++ w))
  extends_around reach extent left after behind room value others = grind (arith, parts_length)

  limit_around : (reach : Reach) (extent : Option ℕ) (left after : ℕ) (beyond : List ℕ) → Behind reach left (length header) after → StaysWithin reach extent after
      → Extends (opened_reach reach extent after) (opened_left reach extent after) v → IsSplitByReach reach (opened_left reach extent after - length v) w beyond
      → IsSplitByReach reach left (header ++ (v ++ w)) beyond
  limit_around reach extent left after beyond behind room value others = grind (arith, parts_length)

  left_behind : (reach : Reach) (extent : Option ℕ) (left after : ℕ) → Behind reach left (length header) after → StaysWithin reach extent after
      → Extends (opened_reach reach extent after) (opened_left reach extent after) v
      → opened_left reach extent after - length v - length w ≡ left - length (header ++ (v ++ w))
  left_behind reach extent left after behind room value = grind (arith, parts_length)

-- what of the octets behind a faulty value is within reach around it
pub record Reached (reach : Reach) (extent : Option ℕ) (left : ℕ) (header v beyond : List ℕ) : Type 0 where
  pub w : List ℕ
  pub others : List ℕ
  pub parts : beyond ≡ w ++ others
  pub has : HasReach extent v w
  pub limit : IsSplitByReach reach left (header ++ (v ++ w)) others

reached_by : (until n left after : ℕ) (header v beyond : List ℕ) → length header + after ≡ left → n + until ≤ after → length v + (after - n) ≡ after
    → after ≤ length (v ++ beyond) → length (header ++ (v ++ take (after - n - until) beyond)) + until ≡ left
reached_by until n left after header v beyond behind room limit enough =
    omega (arith, parts_length header v (take (after - n - until) beyond), length-append v beyond, length-take (after - n - until) beyond)

pub reached : (reach : Reach) (extent : Option ℕ) (left after : ℕ) (header v beyond : List ℕ) → Behind reach left (length header) after
    → StaysWithin reach extent after
    → IsSplitByReach (opened_reach reach extent after) (opened_left reach extent after) v beyond → opened_left reach extent after ≤ length (v ++ beyond)
    → Reached reach extent left header v beyond
reached (Measured until) None left after header v beyond behind room limit enough =
    record { w = []; others = beyond; parts = refl; has = refl; limit = omega (arith, parts_length header v []) }
reached (Within until) None left after header v beyond behind room limit enough =
    record { w = []; others = beyond; parts = refl; has = refl; limit = omega (arith, parts_length header v []) }
reached Endless None left after header v beyond behind room limit enough =
    record { w = []; others = beyond; parts = refl; has = refl; limit = limit }
reached (Measured until) (Some n) left after header v beyond behind room limit enough =
    let k = after - n - until in
    record {
      w = take k beyond;
      others = drop k beyond;
      parts = sym (take-append-drop k beyond);
      has = omega arith;
      limit = reached_by until n left after header v beyond behind room limit enough;
    }
reached (Within until) (Some n) left after header v beyond behind room limit enough =
    let k = after - n - until in
    record {
      w = take k beyond;
      others = drop k beyond;
      parts = sym (take-append-drop k beyond);
      has = omega arith;
      limit = reached_by until n left after header v beyond behind room limit enough;
    }
reached Endless (Some n) left after header v beyond behind room limit enough =
    record { w = beyond; others = []; parts = sym (append-nil beyond); has = omega arith; limit = refl }

pub parts_behind : (header octets v rest w others : List ℕ) → octets ≡ v ++ rest → rest ≡ w ++ others → header ++ octets ≡ (header ++ (v ++ w)) ++ others
parts_behind header octets v rest w others p q = rw (p, q) (simp append_assoc)

enough_around : (reach : Reach) (extent : Option ℕ) (left after : ℕ) (header octets : List ℕ) → Behind reach left (length header) after
    → opened_left reach extent after ≤ length octets → left ≤ length (header ++ octets)
enough_around reach extent left after header octets behind enough = grind (arith, length-append)

-- a value of which octets are missing, and then they are missing around it, or the length does not fit
short_value : (reach : Reach) (extent : Option ℕ) (left after : ℕ) (header octets : List ℕ) → Behind reach left (length header) after
    → length octets < opened_left reach extent after
    → (length (header ++ octets) < left) ⊎ ((left ≡ 0) × (reach ≡ Endless) × (fits_enclosing extent octets ≡ false))
short_value reach extent left after header octets behind short = grind (arith, length-append, lt-leb)

-- a value behind a header, with what follows it
module _ (reach : Reach) (extent : Option ℕ) (header : List ℕ) (left after : ℕ) (around behind inner : Cursor)
    (around_is : reach_of around ≡ reach) (behind_is : reach_of behind ≡ reach) (inner_is : reach_of inner ≡ opened_reach reach extent after)
    (header_behind : Behind reach left (length header) after) (room : StaysWithin reach extent after)
    (ends : (v w : List ℕ) → HasExtent extent v → Finishes inner v → Finishes behind w → Finishes around (header ++ (v ++ w)))
    (inside : (v w : List ℕ) (f : ReadFault) → HasReach extent v w → HasFirstFault inner v f → HasFirstFault around (header ++ (v ++ w)) f)
    (later : (v w : List ℕ) (f : ReadFault) → HasExtent extent v → Finishes inner v → HasFirstFault behind w f → HasFirstFault around (header ++ (v ++ w)) f)
    (too_long : (t : List ℕ) → fits_enclosing extent t ≡ false → HasFirstFault around (header ++ t) Truncated) where
  abbrev now : ℕ
  now = opened_left reach extent after

  leads_in : (outside : List Cursor) (octets : List ℕ) (end : Option ReadFault) → now ≤ length octets → Leads now (inner ∷ behind ∷ outside) octets end
      → Leads left (around ∷ outside) (header ++ octets) end
  leads_in outside octets end enough (inl s) =
      let r = reached reach extent left after header s.near s.beyond header_behind room (rw inner_is at s.limit) (rw s.parts at enough) in
      inl (record {
        near = header ++ (s.near ++ r.w);
        beyond = r.others;
        parts = parts_behind header octets s.near s.beyond r.w r.others s.parts r.parts;
        limit = rw around_is r.limit;
        fault = s.fault;
        stops = inside s.near r.w s.fault r.has s.stops;
        is = s.is;
      })
  leads_in outside octets end enough (inr (v, rest, parts, extends, is, inl s)) =
      let value = rw inner_is at extends in
      inl (record {
        near = header ++ (v ++ s.near);
        beyond = s.beyond;
        parts = parts_behind header octets v rest s.near s.beyond parts s.parts;
        limit = rw around_is (limit_around header v s.near reach extent left after s.beyond header_behind room value (rw behind_is at s.limit));
        fault = s.fault;
        stops = later v s.near s.fault (value_extent reach extent after v room value) is s.stops;
        is = s.is;
      })
  leads_in outside octets end enough (inr (v, rest, parts, extends, is, inr (w, others, behind_parts, behind_extends, behind_ends, leads))) =
      let value = rw inner_is at extends in
      inr (
        header ++ (v ++ w),
        others,
        parts_behind header octets v rest w others parts behind_parts,
        rw around_is (extends_around header v w reach extent left after header_behind room value (rw behind_is at behind_extends)),
        ends v w (value_extent reach extent after v room value) is behind_ends,
        subst (λ (n : ℕ). Leads n outside others end) (left_behind header v w reach extent left after header_behind room value) leads,
      )

  pushed : (outside : List Cursor) (octets : List ℕ) (end : Option ReadFault) → LeadsTo now (inner ∷ behind ∷ outside) octets end
      → LeadsTo left (around ∷ outside) (header ++ octets) end
  pushed outside octets end (inr (enough, leads)) =
      inr (enough_around reach extent left after header octets header_behind enough, leads_in outside octets end enough leads)
  pushed outside octets end (inl (short, cut)) =
      elim (short_value reach extent left after header octets header_behind short) [
        | inl less ↦ inl (less, cut)
        | inr over ↦ inr (
          omega (arith, over.0),
          inl (record {
            near = header ++ octets;
            beyond = [];
            parts = sym (append-nil (header ++ octets));
            limit = rw (around_is, over.1) refl;
            fault = Truncated;
            stops = too_long octets over.2;
            is = cut;
          }),
        )
      ]

-- ---- behind the header of an element

opened_bound : (reach : Reach) (extent : Option ℕ) (after : ℕ) → bound_by (opened_reach reach extent after) ≡ bound_of extent
opened_bound reach extent after = grind arith

opened_until : (reach : Reach) (n after : ℕ) → Measured (until_of (opened_reach reach (Some n) after)) ≡ opened_reach reach (Some n) after
opened_until reach n after = grind arith

abbrev pub value_place : Content → ℕ → Reach → ℕ → Cursor
value_place content levels reach after = place_of_value content levels (opened_reach reach (length_of content) after)

pub value_reach : (content : Content) (levels : ℕ) (reach : Reach) (after : ℕ)
    → reach_of (value_place content levels reach after) ≡ opened_reach reach (length_of content) after
value_reach (Plain n) levels reach after = opened_until reach n after
value_reach (Sequence syntax extent) levels reach after = refl

-- what ends the place of a value is spelled
pub value_spelled : (levels : ℕ) (vr : Vr) (content : Content) (reach : Reach) (after : ℕ) (v : List ℕ) → may_nest levels content ≡ true
    → HasExtent (length_of content) v → Finishes (value_place content levels reach after) v → (held : Value) × SpellsValue levels vr content v held
value_spelled levels vr (Plain n) reach after v nests has is = (_, plain levels vr n v has)
value_spelled zero vr (Sequence syntax extent) reach after v nests has is = absurd (omega (arith, ltb-true 0 0 nests))
value_spelled (suc fewer) vr (Sequence syntax extent) reach after v nests has (items, spells) =
    let one_less : suc fewer - 1 ≡ fewer = omega arith in
    (Items items, nested fewer vr syntax extent v items has (rw (one_less, opened_bound reach extent after) at spells))

-- a fault in the place of a value is one of the element
pub value_stops : (bound : Bound) (syntax : Syntax) (levels : ℕ) (last : Option Tag) (tag : Tag) (content : Content) (reach : Reach) (after : ℕ)
    (header v w : List ℕ) (f : ReadFault) → IsPlaced last tag → IsHeader syntax tag content header → may_nest levels content ≡ true
    → HasReach (length_of content) v w → HasFirstFault (value_place content levels reach after) v f → HasFault bound syntax levels last (header ++ (v ++ w)) f
value_stops bound syntax levels last tag (Plain n) reach after header v w f placed is_header nests has stops = absurd stops
value_stops bound syntax levels last tag (Sequence inner extent) reach after header v w f placed is_header nests has stops =
    in_value bound syntax levels last (header ++ (v ++ w)) f tag inner extent header v w placed is_header (ltb-true 0 levels nests) has
    (rw (opened_bound reach extent after) at stops) refl

module _ (syntax : Syntax) (levels : ℕ) (last : Option Tag) (tag : Tag) (content : Content) (reach : Reach) (header : List ℕ) (left after : ℕ)
    (placed : IsPlaced last tag) (is_header : IsHeader syntax tag content header) (nests : may_nest levels content ≡ true)
    (header_behind : Behind reach left (length header) after) (room : StaysWithin reach (length_of content) after) where
  abbrev vr : Vr
  vr = vr_of (known_vr tag) content

  element_ends : (v w : List ℕ) → HasExtent (length_of content) v → Finishes (value_place content levels reach after) v
      → Finishes (InElements syntax levels (Some tag) reach) w → Finishes (InElements syntax levels last reach) (header ++ (v ++ w))
  element_ends v w has is (others, spells) =
      let value = value_spelled levels vr content reach after v nests has is in (
        without_group_length tag vr value.0 others,
        more (bound_by reach) syntax levels last (header ++ (v ++ w)) (without_group_length tag vr value.0 others) tag content header v w value.0 others
            placed is_header value.1 spells refl refl,
      )

  element_later : (v w : List ℕ) (f : ReadFault) → HasExtent (length_of content) v → Finishes (value_place content levels reach after) v
      → HasFirstFault (InElements syntax levels (Some tag) reach) w f → HasFirstFault (InElements syntax levels last reach) (header ++ (v ++ w)) f
  element_later v w f has is stops =
      let value = value_spelled levels vr content reach after v nests has is in
      after_element (bound_by reach) syntax levels last (header ++ (v ++ w)) f tag content header v w value.0 placed is_header value.1 stops refl

  pub element_entered : (outside : List Cursor) (octets : List ℕ) (end : Option ReadFault)
      → LeadsTo (opened_left reach (length_of content) after)
      (value_place content levels reach after ∷ InElements syntax levels (Some tag) reach ∷ outside) octets end
      → LeadsTo left (InElements syntax levels last reach ∷ outside) (header ++ octets) end
  element_entered =
      pushed reach (length_of content) header left after (InElements syntax levels last reach) (InElements syntax levels (Some tag) reach)
      (value_place content levels reach after) refl refl (value_reach content levels reach after) header_behind room element_ends
      (λ v w f. value_stops (bound_by reach) syntax levels last tag content reach after header v w f placed is_header nests) element_later
      (λ t. unfit (bound_by reach) syntax levels last tag content header t placed is_header nests)

-- ---- behind the header of an item

module _ (syntax : Syntax) (levels : ℕ) (extent : Option ℕ) (reach : Reach) (header : List ℕ) (left after : ℕ)
    (is_header : IsItemHeader extent header)
    (header_behind : Behind reach left (length header) after) (room : StaysWithin reach extent after) where
  abbrev item_place : Cursor
  item_place = InElements syntax levels None (opened_reach reach extent after)

  item_spelled : (v : List ℕ) (d : ElementList) → Spells (bound_by (opened_reach reach extent after)) syntax levels None v d
      → Spells (bound_of extent) syntax levels None v d
  item_spelled v d spells = rw (opened_bound reach extent after) at spells

  item_ends : (v w : List ℕ) → HasExtent extent v → Finishes item_place v → Finishes (InItems syntax levels reach) w
      → Finishes (InItems syntax levels reach) (header ++ (v ++ w))
  item_ends v w has (first, first_spells) (others, spells) = (
    first ∷ others,
    one_item (bound_by reach) syntax levels (header ++ (v ++ w)) extent header v w first others is_header has
        (item_spelled v first first_spells) spells refl,
  )

  item_inside : (v w : List ℕ) (f : ReadFault) → HasReach extent v w → HasFirstFault item_place v f → HasFirstFault (InItems syntax levels reach) (header ++ (v ++ w)) f
  item_inside v w f has stops =
      in_item (bound_by reach) syntax levels (header ++ (v ++ w)) f extent header v w is_header has (rw (opened_bound reach extent after) at stops) refl

  item_later : (v w : List ℕ) (f : ReadFault) → HasExtent extent v → Finishes item_place v → HasFirstFault (InItems syntax levels reach) w f
      → HasFirstFault (InItems syntax levels reach) (header ++ (v ++ w)) f
  item_later v w f has (first, first_spells) stops =
      after_item (bound_by reach) syntax levels (header ++ (v ++ w)) f extent header v w first is_header has (item_spelled v first first_spells) stops refl

  pub item_entered : (outside : List Cursor) (octets : List ℕ) (end : Option ReadFault)
      → LeadsTo (opened_left reach extent after) (item_place ∷ InItems syntax levels reach ∷ outside) octets end
      → LeadsTo left (InItems syntax levels reach ∷ outside) (header ++ octets) end
  item_entered =
      pushed reach extent header left after (InItems syntax levels reach) (InItems syntax levels reach) item_place refl refl refl header_behind room
      item_ends item_inside item_later (λ t. item_unfit (bound_by reach) syntax levels extent header t is_header)
