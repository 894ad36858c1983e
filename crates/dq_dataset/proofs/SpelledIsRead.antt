-- What is spelled is read.
use Rattle.std.proofs.Common.{◌≡◌, ℕ, zero, suc, ◌+◌, ◌-◌, ◌≤◌, Bool, true, false, cond, eqb, List, [], ◌∷◌, ◌++◌, length, Option, Some, None, Ok, refl, sym, ap, subst, ◌∙◌, append_assoc, lit<, arith}
use Rattle.std.proofs.lemmas.Bool.{le-leb, lt-ltb}
use Rattle.std.proofs.lemmas.List.{take_at, drop_at, length-append, append-nil}
use Rattle.dq_dataset.proofs.Types.{Tag, Vr, Syntax, Bound, Filled, Content, Plain, Sequence, Element, Value, Octets, Items, ElementList, no_elements}
use Rattle.dq_vr.specs.Dictionary.{known_vr}
use Rattle.dq_dataset.specs.View.{elements_of, with_value}
use Rattle.dq_dataset.specs.Rules.{vr_of, padded_value}
use Rattle.dq_dataset.specs.DataSetReader.{may_nest, length_of, fits_enclosing, value_by, element_by, elements_after, elements_by, content_by, item_by, items_after, items_by, readers, data_set_read}
use Rattle.dq_dataset.specs.Grammar.{IsHeader, IsPlaced, IsEnd, IsItemHeader, Spells, no_more, more, SpellsValue, plain, nested, SpellsItems, no_item, one_item, bound_of, HasExtent, without_group_length, IsSpelled}
use Rattle.dq_dataset.proofs.Views.{as_elements-elements_of, elements_of-with_value}
use Rattle.dq_dataset.proofs.Headers.{header_again, header_long, item_again, item_long, Trails, end_again, no_end_before, no_end_before_item}

pub extent_fits : (extent : Option ℕ) (octets rest : List ℕ) → HasExtent extent octets → fits_enclosing extent (octets ++ rest) ≡ true
extent_fits None octets rest has = refl
extent_fits (Some n) octets rest has = le-leb n (length (octets ++ rest)) (omega (arith, length-append octets rest))

-- a sequence may be nested here, and the length is no longer than what is left
pub value_nests : (levels : ℕ) (vr : Vr) (content : Content) (octets : List ℕ) (held : Value) → SpellsValue levels vr content octets held
    → may_nest levels content ≡ true
value_nests levels vr content octets held (plain _ _ n _ len) = refl
value_nests levels vr content octets held (nested fewer _ syntax extent _ items has spells) = lt-ltb 0 (suc fewer) (omega arith)

pub value_fits : (levels : ℕ) (vr : Vr) (content : Content) (octets : List ℕ) (held : Value) (rest : List ℕ) → SpellsValue levels vr content octets held
    → fits_enclosing (length_of content) (octets ++ rest) ≡ true
value_fits levels vr content octets held rest (plain _ _ n _ len) = extent_fits (Some n) octets rest len
value_fits levels vr content octets held rest (nested fewer _ syntax extent _ items has spells) = extent_fits extent octets rest has

-- reading the octets with what follows them
abbrev pub ElementsAgain : Bound → Syntax → ℕ → Option Tag → List ℕ → ElementList → Type 0
ElementsAgain bound syntax levels last octets d =
    (t : List ℕ) → Trails bound t → (m : ℕ) → length (octets ++ t) ≤ m
    → (readers (suc m)).elements bound syntax levels last (octets ++ t) ≡ Ok (elements_of d, t)

abbrev pub ItemsAgain : Bound → Syntax → ℕ → List ℕ → List ElementList → Type 0
ItemsAgain bound syntax levels octets ds =
    (t : List ℕ) → Trails bound t → (m : ℕ) → length (octets ++ t) ≤ m → (readers (suc m)).items bound syntax levels (octets ++ t) ≡ Ok (ds, t)

abbrev pub ValueAgain : ℕ → Vr → Content → List ℕ → Value → Type 0
ValueAgain levels vr content octets held =
    (t : List ℕ) (m : ℕ) → length (octets ++ t) ≤ m → value_by (readers (suc m)) levels vr content (octets ++ t) ≡ Ok (held, t)

nested_again : (fewer : ℕ) (vr : Vr) (syntax : Syntax) (extent : Option ℕ) (octets : List ℕ) (items : List ElementList) → HasExtent extent octets
    → ItemsAgain (bound_of extent) syntax fewer octets items → ValueAgain (suc fewer) vr (Sequence syntax extent) octets (Items items)
unfolding value_by
nested_again fewer vr syntax None octets items has again t m le =
    let one_less : suc fewer - 1 ≡ fewer = omega arith in
    rw (one_less, again t tt m le) refl
nested_again fewer vr syntax (Some n) octets items has again t m le =
    let one_less : suc fewer - 1 ≡ fewer = omega arith in
    let alone : (readers (suc m)).items Filled syntax fewer octets ≡ Ok (items, []) =
    ap (λ (x : List ℕ). (readers (suc m)).items Filled syntax fewer x) (sym (append-nil octets))
    ∙ again [] refl m (omega (arith, length-append octets t, ap length (append-nil octets))) in
    rw (one_less, take_at octets t n has, drop_at octets t n has, alone) refl

pub kept_elements : (tag : Tag) (vr : Vr) (held : Value) (others : ElementList) (b : Bool)
    → cond b (elements_of others) (record { tag = tag; vr = vr; value = held } ∷ elements_of others)
    ≡ elements_of (cond b others (with_value (record { tag = tag; vr = vr; value = held }) held others))
kept_elements tag vr held others true = refl
kept_elements tag vr held others false = sym (elements_of-with_value tag vr held others)

more_again : (bound : Bound) (syntax : Syntax) (levels : ℕ) (last : Option Tag) (tag : Tag) (content : Content) (header value rest : List ℕ) (held : Value)
    (others : ElementList)
    → IsPlaced last tag → IsHeader syntax tag content header → SpellsValue levels (vr_of (known_vr tag) content) content value held
    → ValueAgain levels (vr_of (known_vr tag) content) content value held → ElementsAgain bound syntax levels (Some tag) rest others
    → ElementsAgain bound syntax levels last (header ++ (value ++ rest)) (without_group_length tag (vr_of (known_vr tag) content) held others)
unfolding readers elements_by element_by elements_after
more_again bound syntax levels last tag content header value rest held others placed is_header spells value_again others_again t trails zero le =
    absurd (omega (arith, header_long syntax tag content header is_header, length-append header (value ++ rest), length-append (header ++ (value ++ rest)) t))
more_again bound syntax levels last tag content header value rest held others placed is_header spells value_again others_again t trails (suc m) le =
    let all : (header ++ (value ++ rest)) ++ t ≡ header ++ (value ++ (rest ++ t)) = simp append_assoc in
    let eight = header_long syntax tag content header is_header in
    let shorter : length (value ++ (rest ++ t)) ≤ m = omega (arith, ap length all, length-append header (value ++ (rest ++ t))) in
    let no_end = no_end_before bound last syntax tag content header (value ++ (rest ++ t)) placed is_header in
    let the_header = header_again syntax levels last tag content header (value ++ (rest ++ t)) placed is_header
    (value_nests levels (vr_of (known_vr tag) content) content value held spells)
    (value_fits levels (vr_of (known_vr tag) content) content value held (rest ++ t) spells) in
    let the_value = value_again (rest ++ t) m (omega (arith, shorter)) in
    let the_others = others_again t trails m (omega (arith, shorter, length-append value (rest ++ t))) in
    rw (all, no_end, the_header, the_value, the_others)
    (ap (λ (es : List Element). Ok (es, t)) (kept_elements tag (vr_of (known_vr tag) content) held others (eqb tag.element 0)))

no_more_again : (bound : Bound) (syntax : Syntax) (levels : ℕ) (last : Option Tag) (octets : List ℕ) → IsEnd bound 0xE00D octets
    → ElementsAgain bound syntax levels last octets no_elements
unfolding readers elements_by element_by elements_after
no_more_again bound syntax levels last octets end t trails m le = rw (end_again bound 0xE00D octets t (lit< tt) end trails) refl

pub content_again : (syntax : Syntax) (levels : ℕ) (extent : Option ℕ) (octets : List ℕ) (d : ElementList) → HasExtent extent octets
    → ElementsAgain (bound_of extent) syntax levels None octets d
    → (t : List ℕ) (m : ℕ) → length (octets ++ t) ≤ m → content_by (readers (suc m)) syntax levels extent (octets ++ t) ≡ Ok (elements_of d, t)
unfolding content_by
content_again syntax levels None octets d has again t m le = again t tt m le
content_again syntax levels (Some n) octets d has again t m le =
    let alone : (readers (suc m)).elements Filled syntax levels None octets ≡ Ok (elements_of d, []) =
    ap (λ (x : List ℕ). (readers (suc m)).elements Filled syntax levels None x) (sym (append-nil octets))
    ∙ again [] refl m (omega (arith, length-append octets t, ap length (append-nil octets))) in
    rw (take_at octets t n has, drop_at octets t n has, alone) refl

one_item_again : (bound : Bound) (syntax : Syntax) (levels : ℕ) (extent : Option ℕ) (header value rest : List ℕ) (first : ElementList)
    (others : List ElementList)
    → IsItemHeader extent header → HasExtent extent value → ElementsAgain (bound_of extent) syntax levels None value first
    → ItemsAgain bound syntax levels rest others
    → ItemsAgain bound syntax levels (header ++ (value ++ rest)) (first ∷ others)
unfolding readers items_by item_by items_after
one_item_again bound syntax levels extent header value rest first others is_header has first_again others_again t trails zero le =
    absurd (omega (arith, item_long extent header is_header, length-append header (value ++ rest), length-append (header ++ (value ++ rest)) t))
one_item_again bound syntax levels extent header value rest first others is_header has first_again others_again t trails (suc m) le =
    let all : (header ++ (value ++ rest)) ++ t ≡ header ++ (value ++ (rest ++ t)) = simp append_assoc in
    let eight = item_long extent header is_header in
    let shorter : length (value ++ (rest ++ t)) ≤ m = omega (arith, ap length all, length-append header (value ++ (rest ++ t))) in
    let no_end = no_end_before_item bound extent header (value ++ (rest ++ t)) is_header in
    let the_header = item_again extent header (value ++ (rest ++ t)) is_header (extent_fits extent value (rest ++ t) has) in
    let the_first = content_again syntax levels extent value first has first_again (rest ++ t) m (omega (arith, shorter)) in
    let the_others = others_again t trails m (omega (arith, shorter, length-append value (rest ++ t))) in
    rw (all, no_end, the_header, the_first, the_others) (ap (λ (d : ElementList). Ok (d ∷ others, t)) (as_elements-elements_of first))

no_item_again : (bound : Bound) (syntax : Syntax) (levels : ℕ) (octets : List ℕ) → IsEnd bound 0xE0DD octets → ItemsAgain bound syntax levels octets []
unfolding readers items_by item_by items_after
no_item_again bound syntax levels octets end t trails m le = rw (end_again bound 0xE0DD octets t (lit< tt) end trails) refl

plain_again : (levels : ℕ) (vr : Vr) (n : ℕ) (octets : List ℕ) → length octets ≡ n → ValueAgain levels vr (Plain n) octets (Octets (padded_value vr octets))
unfolding value_by
plain_again levels vr n octets len t m le = rw (take_at octets t n len, drop_at octets t n len) refl

mutual
  pub elements_again : (bound : Bound) (syntax : Syntax) (levels : ℕ) (last : Option Tag) (octets : List ℕ) (d : ElementList)
      → Spells bound syntax levels last octets d
      → ElementsAgain bound syntax levels last octets d
  elements_again bound syntax levels last octets d (no_more _ _ _ _ _ end) = no_more_again bound syntax levels last octets end
  elements_again bound syntax levels last octets d (more _ _ _ _ _ _ tag content header value rest held others placed is_header value_spelled others_spelled e1
      e2) =
      subst (λ (o : List ℕ). ElementsAgain bound syntax levels last o d) (sym e1)
      (subst (λ (x : ElementList). ElementsAgain bound syntax levels last (header ++ (value ++ rest)) x) (sym e2)
      (more_again bound syntax levels last tag content header value rest held others placed is_header value_spelled
      (value_again levels (vr_of (known_vr tag) content) content value held value_spelled)
      (elements_again bound syntax levels (Some tag) rest others others_spelled)))

  pub value_again : (levels : ℕ) (vr : Vr) (content : Content) (octets : List ℕ) (held : Value) → SpellsValue levels vr content octets held
      → ValueAgain levels vr content octets held
  value_again levels vr content octets held (plain _ _ n _ len) = plain_again levels vr n octets len
  value_again levels vr content octets held (nested fewer _ syntax extent _ items has spells) =
      nested_again fewer vr syntax extent octets items has (items_again (bound_of extent) syntax fewer octets items spells)

  pub items_again : (bound : Bound) (syntax : Syntax) (levels : ℕ) (octets : List ℕ) (ds : List ElementList) → SpellsItems bound syntax levels octets ds
      → ItemsAgain bound syntax levels octets ds
  items_again bound syntax levels octets ds (no_item _ _ _ _ end) = no_item_again bound syntax levels octets end
  items_again bound syntax levels octets ds (one_item _ _ _ _ extent header value rest first others is_header has first_spelled others_spelled e) =
      subst (λ (o : List ℕ). ItemsAgain bound syntax levels o (first ∷ others)) (sym e)
      (one_item_again bound syntax levels extent header value rest first others is_header has
      (elements_again (bound_of extent) syntax levels None value first first_spelled)
      (items_again bound syntax levels rest others others_spelled))

-- what is spelled is read
pub spelled_is_read : (syntax : Syntax) (octets : List ℕ) (d : ElementList) → IsSpelled syntax octets d → data_set_read syntax octets ≡ Ok d
unfolding data_set_read
spelled_is_read syntax octets d spells =
    let again = elements_again Filled syntax 16 None octets d spells [] refl (length octets) (omega (arith, ap length (append-nil octets))) in
    let plus : length octets + 1 ≡ suc (length octets) = omega arith in
    let whole : (readers (length octets + 1)).elements Filled syntax 16 None octets ≡ Ok (elements_of d, []) =
    ap (λ (n : ℕ). (readers n).elements Filled syntax 16 None octets) plus
    ∙ ap (λ (x : List ℕ). (readers (suc (length octets))).elements Filled syntax 16 None x) (sym (append-nil octets)) ∙ again in
    rw whole (ap (λ (x : ElementList). Ok x) (as_elements-elements_of d))
