-- The canonical spelling of a data set is at most twice as long as any other.
use Rattle.std.proofs.Common.{◌≡◌, ℕ, ◌+◌, ◌*◌, ◌%◌, ◌^◌, ◌<◌, ◌≤◌, Bool, true, false, cond, ltb, List, [], ◌∷◌, ◌++◌, length, Option, Some, None, sym, subst, arith}
use Rattle.std.specs.Prelude.{nat_eq}
use Rattle.std.proofs.lemmas.List.{length-append}
use Rattle.dq_dataset.proofs.Types.{Tag, Vr, LengthForm, Two, Four, Syntax, Implicit, Explicit, Bound, Content, Value, Octets, Items, ElementList, ItemList, item}
use Rattle.dq_vr.specs.Dictionary.{known_vr}
use Rattle.dq_vr.specs.Vr.{length_form_of}
use Rattle.dq_dataset.specs.View.{items_of, with_value}
use Rattle.dq_dataset.specs.Rules.{vr_of, padded_value, pad_of}
use Rattle.dq_dataset.specs.Canonical.{header_octets, item_header_of, canonical, canonical_items, HasLengths, ItemsHaveLengths}
use Rattle.dq_dataset.specs.Grammar.{Spells, no_more, more, SpellsValue, plain, nested, SpellsItems, no_item, one_item, bound_of, IsSpelled}
use Rattle.dq_dataset.proofs.Headers.{header_long, item_long}
use Rattle.dq_dataset.proofs.Counted.{after_tag, implicit_header, explicit_header, item_header}

short_choice : (b : Bool) → cond b 8 4 ≤ 8
short_choice true = omega arith
short_choice false = omega arith

after_tag_short : (form : LengthForm) (n : ℕ) → after_tag form n ≤ 8
after_tag_short Two n = short_choice (ltb 65534 n)
after_tag_short Four n = omega arith

length-header_of : (syntax : Syntax) (tag : Tag) (vr : Vr) (n : ℕ) → length (header_octets syntax tag vr n) ≤ 12
length-header_of Implicit tag vr n = omega (arith, implicit_header tag vr n)
length-header_of Explicit tag vr n = omega (arith, explicit_header tag vr n, after_tag_short (length_form_of vr) n)

length-padded_by : (b : Bool) (octets : List ℕ) (pad : ℕ) → length (cond b octets (octets ++ pad ∷ [])) ≤ length octets + 1
length-padded_by true octets pad = omega arith
length-padded_by false octets pad = rw length-append (omega arith)

length-padded : (vr : Vr) (octets : List ℕ) → length (padded_value vr octets) ≤ length octets + 1
length-padded vr octets = length-padded_by (nat_eq (length octets % 2) 0) octets (pad_of vr)

-- the canonical spelling, beside octets that spell the same
pub record IsShort (to : Syntax) (octets : List ℕ) (d : ElementList) : Type 0 where
  pub twice : length (canonical to d) ≤ 2 * length octets
  pub lengths : length octets < 2 ^ 31 → HasLengths to d

record AreShort (to : Syntax) (octets : List ℕ) (items : ItemList) : Type 0 where
  twice : length (canonical_items to items) ≤ 2 * length octets
  lengths : length octets < 2 ^ 31 → ItemsHaveLengths to items

abbrev ValueIsShort : Syntax → List ℕ → Value → Type 0
ValueIsShort to octets (Octets held) = length held ≤ length octets + 1
ValueIsShort to octets (Items items) = AreShort to octets (items_of items)

three : (a b c : List ℕ) → length (a ++ (b ++ c)) ≡ length a + (length b + length c)
three a b c = simp length-append

three_left : (a b c : List ℕ) → length ((a ++ b) ++ c) ≡ (length a + length b) + length c
three_left a b c = simp length-append

with_value_short : (to : Syntax) (tag : Tag) (vr : Vr) (held : Value) (others : ElementList) (header value rest : List ℕ) → 8 ≤ length header
    → ValueIsShort to value held → IsShort to rest others
    → IsShort to (header ++ (value ++ rest)) (with_value (record { tag = tag; vr = vr; value = held }) held others)
with_value_short to tag vr (Octets held) others header value rest long short tail =
    let all = three header value rest in
    let h = length-header_of to tag vr (length held) in
    let written = three_left (header_octets to tag vr (length held)) held (canonical to others) in
    record {
      twice = omega (arith, all, h, written, tail.twice);
      lengths = λ small. (omega (arith, all), tail.lengths (omega (arith, all)));
    }
with_value_short to tag vr (Items items) others header value rest long short tail =
    let octets = canonical_items to (items_of items) in
    let all = three header value rest in
    let h = length-header_of to tag vr (length octets) in
    let written = three_left (header_octets to tag vr (length octets)) octets (canonical to others) in
    record {
      twice = omega (arith, all, h, written, tail.twice, short.twice);
      lengths = λ small. (omega (arith, all, short.twice), short.lengths (omega (arith, all)), tail.lengths (omega (arith, all)));
    }

kept_short : (b : Bool) (to : Syntax) (tag : Tag) (vr : Vr) (held : Value) (others : ElementList) (header value rest : List ℕ) → 8 ≤ length header
    → ValueIsShort to value held → IsShort to rest others
    → IsShort to (header ++ (value ++ rest)) (cond b others (with_value (record { tag = tag; vr = vr; value = held }) held others))
kept_short true to tag vr held others header value rest long short tail =
    let all = three header value rest in
    record { twice = omega (arith, all, tail.twice); lengths = λ small. tail.lengths (omega (arith, all)) }
kept_short false to tag vr held others header value rest long short tail = with_value_short to tag vr held others header value rest long short tail

one_item_short : (to : Syntax) (first : ElementList) (others : ItemList) (header value rest : List ℕ) → 8 ≤ length header → IsShort to value first
    → AreShort to rest others
    → AreShort to (header ++ (value ++ rest)) (item first others)
one_item_short to first others header value rest long short tail =
    let octets = canonical to first in
    let all = three header value rest in
    let h = item_header (length octets) in
    let written = three_left (item_header_of (length octets)) octets (canonical_items to others) in
    record {
      twice = omega (arith, all, h, written, tail.twice, short.twice);
      lengths = λ small. (omega (arith, all, short.twice), short.lengths (omega (arith, all)), tail.lengths (omega (arith, all)));
    }

mutual
  elements_short : (to : Syntax) (bound : Bound) (syntax : Syntax) (levels : ℕ) (last : Option Tag) (octets : List ℕ) (d : ElementList)
      → Spells bound syntax levels last octets d → IsShort to octets d
  elements_short to bound syntax levels last octets d (no_more _ _ _ _ _ end) = record { twice = omega arith; lengths = λ small. tt }
  elements_short to bound syntax levels last octets d
      (more _ _ _ _ _ _ tag content header value rest held others placed is_header value_spelled others_spelled e1 e2) =
      subst (λ (o : List ℕ). IsShort to o d) (sym e1) (subst (λ (x : ElementList). IsShort to (header ++ (value ++ rest)) x) (sym e2)
      (kept_short (nat_eq tag.element 0) to tag (vr_of (known_vr tag) content) held others header value rest (header_long syntax tag content header is_header)
      (value_short to levels (vr_of (known_vr tag) content) content value held value_spelled)
      (elements_short to bound syntax levels (Some tag) rest others others_spelled)))

  value_short : (to : Syntax) (levels : ℕ) (vr : Vr) (content : Content) (octets : List ℕ) (held : Value) → SpellsValue levels vr content octets held
      → ValueIsShort to octets held
  value_short to levels vr content octets held (plain _ _ n _ len) = length-padded vr octets
  value_short to levels vr content octets held (nested fewer _ inner extent _ items has spells) =
      items_short to (bound_of extent) inner fewer octets items spells

  items_short : (to : Syntax) (bound : Bound) (syntax : Syntax) (levels : ℕ) (octets : List ℕ) (ds : List ElementList)
      → SpellsItems bound syntax levels octets ds → AreShort to octets (items_of ds)
  items_short to bound syntax levels octets ds (no_item _ _ _ _ end) = record { twice = omega arith; lengths = λ small. tt }
  items_short to bound syntax levels octets ds (one_item _ _ _ _ extent header value rest first others is_header has first_spelled others_spelled e) =
      subst (λ (o : List ℕ). AreShort to o (item first (items_of others))) (sym e)
      (one_item_short to first (items_of others) header value rest (item_long extent header is_header)
      (elements_short to (bound_of extent) syntax levels None value first first_spelled)
      (items_short to bound syntax levels rest others others_spelled))

pub spelled_is_short : (to syntax : Syntax) (octets : List ℕ) (d : ElementList) → IsSpelled syntax octets d → IsShort to octets d
spelled_is_short to syntax octets d spells = elements_short to _ _ _ _ octets d spells
