-- What is spelled has the facts of every data set.
use Rattle.std.proofs.Common.{◌≡◌, ℕ, suc, ◌-◌, ◌%◌, ◌<◌, Bool, true, false, not, cond, ◌&&◌, ◌||◌, List, [], ◌∷◌, ◌++◌, length, Option, Some, None, Ok, Err, refl, sym, subst, arith, inl, inr, ◌⊎◌}
use Rattle.std.specs.Prelude.{is_none, nat_eq}
use Rattle.std.proofs.lemmas.Bool.{eqb-true, eqb-false, or_right}
use Rattle.std.proofs.lemmas.Bool.Decides.{nat_tests}
use Rattle.std.proofs.lemmas.List.{length-append}
use Rattle.dq_dataset.proofs.Types.{Tag, Vr, BadUndefined, Syntax, Implicit, Explicit, Bound, Content, Plain, Sequence, Value, Octets, Items, ElementList, no_elements, element, sequence}
use Rattle.dq_vr.specs.Dictionary.{known_vr}
use Rattle.dq_vr.specs.Tag.{is_below}
use Rattle.dq_dataset.specs.View.{items_of, with_value}
use Rattle.dq_dataset.specs.Rules.{is_sequence, agrees, content_of, vr_of, padded_value, pad_of}
use Rattle.dq_dataset.specs.DataSetReader.{follows}
use Rattle.dq_dataset.specs.Grammar.{IsHeader, IsPlaced, IsSpelling, Spells, no_more, more, SpellsValue, plain, nested, SpellsItems, no_item, one_item, bound_of, IsSpelled}
use Rattle.dq_dataset.proofs.Fields.{done}
use Rattle.dq_dataset.specs.Facts.{IsElementTag, IsPlain, IsSequence, AreElements, AreItems, IsDataSet}

-- ---- the order of tags

pub below_then : (a b c : Tag) → is_below a b ≡ true → is_below b c ≡ true → is_below a c ≡ true
unfolding is_below
below_then a b c e f = grind (arith, nat_tests)

pub follows-trans : (last : Option Tag) (tag next : Tag) → follows last tag ≡ true → follows (Some tag) next ≡ true → follows last next ≡ true
follows-trans None tag next e f = refl
follows-trans (Some last) tag next e f = below_then last tag next e f

-- an element's tag, behind another one
pub behind_another : (last next : Option Tag) (tag : Tag) → follows next tag ≡ true → IsElementTag last tag → IsElementTag next tag
behind_another last next tag rises h = record { rises = rises; no_delimiter = h.no_delimiter; no_length = h.no_length; group = h.group; number = h.number }

earlier : (last : Option Tag) (tag next : Tag) → follows last tag ≡ true → IsElementTag (Some tag) next → IsElementTag last next
earlier last tag next e h = behind_another (Some tag) last next (follows-trans last tag next e h.rises) h

-- what stands after a tag stands after an earlier one
pub after_earlier : (levels : ℕ) (last : Option Tag) (tag : Tag) (d : ElementList) → follows last tag ≡ true → AreElements levels (Some tag) d
    → AreElements levels last d
after_earlier levels last tag no_elements e h = tt
after_earlier levels last tag (element t vr octets rest) e h = (earlier last tag t e h.0, h.1, h.2)
after_earlier levels last tag (sequence t vr items rest) e h = (earlier last tag t e h.0, h.1, h.2, h.3, h.4)

-- ---- VRs

plain_some : (a b : Bool) (n m : ℕ) → cond a (done (Sequence Explicit (Some n))) (cond b (Ok (Sequence Implicit (Some n))) (Ok (Plain n))) ≡ Ok (Plain m)
    → b ≡ false
plain_some false false n m e = refl
plain_some a b n m e = absurd cc

plain_none : (a b c : Bool) (m : ℕ)
    → cond a (done (Sequence Explicit None)) (cond b (Ok (Sequence Implicit None)) (cond c (Ok (Sequence Implicit None)) (Err BadUndefined))) ≡ Ok (Plain m)
    → b ≡ false
plain_none false false c m e = refl
plain_none a b c m e = absurd cc

-- octets stand after no known sequence
plain_is_no_sequence : (known spelled : Option Vr) (extent : Option ℕ) (n : ℕ) → content_of known spelled extent ≡ Ok (Plain n) → is_sequence known ≡ false
unfolding content_of
plain_is_no_sequence known spelled extent n e = grind (arith, nat_tests, plain_some, plain_none)

sequence_some : (a b c : Bool) (n : ℕ) (s : Syntax) (x : Option ℕ) → (b ≡ true) ⊎ ((c || not a) ≡ true)
    → cond a (done (Sequence Explicit (Some n))) (cond b (Ok (Sequence Implicit (Some n))) (Ok (Plain n))) ≡ Ok (Sequence s x) → (c || b) ≡ true
sequence_some a b c n s x h e = grind (arith, nat_tests, or_right)

sequence_none : (a b c u : Bool) (s : Syntax) (x : Option ℕ) → (b ≡ true) ⊎ ((c || not a) ≡ true)
    → cond a (done (Sequence Explicit None)) (cond b (Ok (Sequence Implicit None)) (cond (c && u) (Ok (Sequence Implicit None)) (Err BadUndefined)))
    ≡ Ok (Sequence s x) → (c || b) ≡ true
sequence_none a b c u s x h e = grind (arith, nat_tests, or_right)

agrees_means : (b u c a : Bool) → cond b u (c || not a) ≡ true → (b ≡ true) ⊎ ((c || not a) ≡ true)
agrees_means true u c a e = inl refl
agrees_means false u c a e = inr e

spelling_agrees : (syntax : Syntax) (known spelled : Option Vr) (extent : Option ℕ) (behind : List ℕ) → IsSpelling syntax known spelled extent behind
    → (is_sequence known ≡ true) ⊎ ((is_none known || not (is_sequence spelled)) ≡ true)
unfolding agrees
spelling_agrees syntax known spelled extent behind h = grind (arith, nat_tests, or_right, agrees_means)

-- items stand after a known sequence or an unknown tag
sequence_is_allowed : (known spelled : Option Vr) (extent : Option ℕ) (s : Syntax) (x : Option ℕ) → (is_sequence known ≡ true)
    ⊎ ((is_none known || not (is_sequence spelled)) ≡ true)
    → content_of known spelled extent ≡ Ok (Sequence s x) → (is_none known || is_sequence known) ≡ true
unfolding content_of
sequence_is_allowed known spelled extent s x h e = grind (arith, nat_tests, sequence_some, sequence_none)

-- ---- values

even_by : (b : Bool) (octets : List ℕ) (pad : ℕ) → nat_eq (length octets % 2) 0 ≡ b → length (cond b octets (octets ++ pad ∷ [])) % 2 ≡ 0
even_by true octets pad e = eqb-true (length octets % 2) 0 e
even_by false octets pad e = let odd = eqb-false (length octets % 2) 0 e in rw length-append (omega arith)

even-padded : (vr : Vr) (octets : List ℕ) → length (padded_value vr octets) % 2 ≡ 0
even-padded vr octets = even_by (nat_eq (length octets % 2) 0) octets (pad_of vr) refl

-- what a value has
abbrev pub IsValue : ℕ → Tag → Vr → Value → Type 0
IsValue levels tag vr (Octets octets) = IsPlain tag vr octets
IsValue levels tag vr (Items items) = IsSequence tag vr × (0 < levels) × AreItems (levels - 1) (items_of items)

pub with_value_is : (levels : ℕ) (last : Option Tag) (tag : Tag) (vr : Vr) (held : Value) (others : ElementList) → IsElementTag last tag
    → IsValue levels tag vr held → AreElements levels (Some tag) others
    → AreElements levels last (with_value (record { tag = tag; vr = vr; value = held }) held others)
with_value_is levels last tag vr (Octets octets) others t v rest = (t, v, rest)
with_value_is levels last tag vr (Items items) others t v rest = (t, v.0, v.1, v.2, rest)

kept_is : (b : Bool) (levels : ℕ) (last : Option Tag) (tag : Tag) (vr : Vr) (held : Value) (others : ElementList) → nat_eq tag.element 0 ≡ b → IsPlaced last tag
    → IsValue levels tag vr held
    → AreElements levels (Some tag) others → AreElements levels last (cond b others (with_value (record { tag = tag; vr = vr; value = held }) held others))
kept_is true levels last tag vr held others e placed v rest = after_earlier levels last tag others placed.rises rest
kept_is false levels last tag vr held others e placed v rest = grind (arith, nat_tests, with_value_is, eqb-false)

mutual
  pub elements_are : (bound : Bound) (syntax : Syntax) (levels : ℕ) (last : Option Tag) (octets : List ℕ) (d : ElementList)
      → Spells bound syntax levels last octets d → AreElements levels last d
  elements_are bound syntax levels last octets d (no_more _ _ _ _ _ end) = tt
  elements_are bound syntax levels last octets d (more _ _ _ _ _ _ tag content header value rest held others placed is_header value_spelled others_spelled e1
      e2) =
      subst (λ (x : ElementList). AreElements levels last x) (sym e2)
      (kept_is (nat_eq tag.element 0) levels last tag (vr_of (known_vr tag) content) held others refl placed
      (value_is syntax tag header (vr_of (known_vr tag) content) levels content value held value_spelled is_header refl)
      (elements_are bound syntax levels (Some tag) rest others others_spelled))

  value_is : (syntax : Syntax) (tag : Tag) (header : List ℕ) (vr : Vr) (levels : ℕ) (content : Content) (octets : List ℕ) (held : Value)
      → SpellsValue levels vr content octets held
      → IsHeader syntax tag content header → vr ≡ vr_of (known_vr tag) content → IsValue levels tag vr held
  value_is syntax tag header vr levels content octets held (plain _ _ n _ len) is_header e =
      grind (arith, nat_tests, plain_is_no_sequence, even-padded)
  value_is syntax tag header vr levels content octets held (nested fewer _ inner extent _ items has spells) is_header e =
      let one_less : suc fewer - 1 ≡ fewer = omega arith in (
        record {
          is_sq = e;
          allowed = sequence_is_allowed (known_vr tag) is_header.spelled is_header.extent inner extent
              (spelling_agrees syntax (known_vr tag) is_header.spelled is_header.extent is_header.behind is_header.spelling) is_header.allowed;
        },
        omega arith,
        rw one_less (items_are (bound_of extent) inner fewer octets items spells),
      )

  items_are : (bound : Bound) (syntax : Syntax) (levels : ℕ) (octets : List ℕ) (ds : List ElementList) → SpellsItems bound syntax levels octets ds
      → AreItems levels (items_of ds)
  items_are bound syntax levels octets ds (no_item _ _ _ _ end) = tt
  items_are bound syntax levels octets ds (one_item _ _ _ _ extent header value rest first others is_header has first_spelled others_spelled e) =
      (elements_are (bound_of extent) syntax levels None value first first_spelled, items_are bound syntax levels rest others others_spelled)

-- what is spelled is a data set
pub spelled_is_sound : (syntax : Syntax) (octets : List ℕ) (d : ElementList) → IsSpelled syntax octets d → IsDataSet d
spelled_is_sound syntax octets d spells = elements_are _ _ _ _ _ _ spells
