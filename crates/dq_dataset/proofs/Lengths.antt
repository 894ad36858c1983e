-- A length that is written after what it measures.
use Rattle.std.proofs.Common.{◌≡◌, ℕ, zero, suc, ◌-◌, ◌<◌, ◌≤◌, List, [], ◌∷◌, ◌++◌, length, get_or, take, drop, Some, Option, refl, sym, ap, subst, ◌∙◌, append_assoc, arith}
use Rattle.std.specs.Int.{w32, to_le_bytes}
use Rattle.std.proofs.lemmas.List.{take_at, drop_at, length-append, append-nil}
use Rattle.dq_dataset.proofs.Types.{Tag, Vr, SQ, Syntax, Implicit, Explicit, Element, Value, Octets, Items, ElementList, no_elements}
use Rattle.dq_vr.specs.Vr.{length_form_of, letters_of}
use Rattle.dq_dataset.specs.View.{as_elements, items_of}
use Rattle.dq_dataset.specs.Canonical.{tag_octets, vr_and_length, header_octets, item_header_of, canonical_items}
use Rattle.dq_dataset.specs.Grammar.{delimiter}
use Rattle.dq_dataset.specs.Facts.{AreElements}
use Rattle.dq_dataset.specs.Parts.{canonical_element, has_sequence_vr, HasSequenceVr}
use Rattle.dq_dataset.proofs.Edits.{facts-parts}
use Rattle.dq_dataset.proofs.SpelledIsSound.{IsValue}

-- the octets of a header before its length
abbrev front_of : Syntax → Tag → List ℕ
front_of Implicit tag = tag_octets tag
front_of Explicit tag = tag_octets tag ++ (letters_of SQ ++ (0 ∷ 0 ∷ []))

header_parts : (syntax : Syntax) (tag : Tag) (n : ℕ) → header_octets syntax tag SQ n ≡ front_of syntax tag ++ to_le_bytes w32 n
unfolding header_octets vr_and_length length_form_of
header_parts Implicit tag n = refl
header_parts Explicit tag n = simp append_assoc

item_parts : (n : ℕ) → item_header_of n ≡ delimiter 0xE000 ++ to_le_bytes w32 n
unfolding item_header_of
item_parts n = refl

-- four octets before a place are replaced
closing : (front place body out four : List ℕ) (start : ℕ) → out ≡ (front ++ place) ++ body → length place ≡ 4 → start ≡ length (front ++ place)
    → take (start - 4) out ++ (four ++ drop start out) ≡ front ++ (four ++ body)
closing front place body out four start parts four_long at = grind (arith, length-append, append_assoc, take_at, drop_at)

-- a header with the length of what stands after it, in place of 0
module _ (header : ℕ → List ℕ) (front : List ℕ) (parts : (n : ℕ) → header n ≡ front ++ to_le_bytes w32 n)
    (old first : List ℕ) (begun : first ≡ old ++ header 0) where
  first_is : first ≡ (old ++ front) ++ to_le_bytes w32 0
  first_is = begun ∙ ap (λ (x : List ℕ). old ++ x) (parts 0) ∙ sym (append_assoc old front (to_le_bytes w32 0))

  closed_by : (body out : List ℕ) (start n : ℕ) → out ≡ first ++ body → start ≡ length first → n ≡ length body
      → take (start - 4) out ++ (to_le_bytes w32 n ++ drop start out) ≡ old ++ (header (length body) ++ body)
  closed_by body out start n whole at count =
      closing (old ++ front) (to_le_bytes w32 0) body out (to_le_bytes w32 n) start (whole ∙ ap (λ (x : List ℕ). x ++ body) first_is) refl
      (at ∙ ap length first_is)
      ∙ append_assoc old front (to_le_bytes w32 n ++ body)
      ∙ ap (λ (x : List ℕ). old ++ x) (sym (append_assoc front (to_le_bytes w32 n) body)
      ∙ ap (λ (x : List ℕ). x ++ body) (sym (parts n) ∙ ap header count))

  started_by : 4 ≤ length first
  started_by = omega (arith, ap length first_is, length-append (old ++ front) (to_le_bytes w32 0))

pub sequence_closed : (syntax : Syntax) (tag : Tag) (old first : List ℕ) → first ≡ old ++ header_octets syntax tag SQ 0 → (body out : List ℕ) (start n : ℕ)
    → out ≡ first ++ body → start ≡ length first → n ≡ length body
    → take (start - 4) out ++ (to_le_bytes w32 n ++ drop start out) ≡ old ++ (header_octets syntax tag SQ (length body) ++ body)
sequence_closed syntax tag = closed_by (header_octets syntax tag SQ) (front_of syntax tag) (header_parts syntax tag)

pub item_closed : (old first : List ℕ) → first ≡ old ++ item_header_of 0 → (body out : List ℕ) (start n : ℕ)
    → out ≡ first ++ body → start ≡ length first → n ≡ length body
    → take (start - 4) out ++ (to_le_bytes w32 n ++ drop start out) ≡ old ++ (item_header_of (length body) ++ body)
item_closed = closed_by item_header_of (delimiter 0xE000) item_parts

pub sequence_start : (syntax : Syntax) (tag : Tag) (old first : List ℕ) → first ≡ old ++ header_octets syntax tag SQ 0 → 4 ≤ length first
sequence_start syntax tag = started_by (header_octets syntax tag SQ) (front_of syntax tag) (header_parts syntax tag)

pub item_start : (old first : List ℕ) → first ≡ old ++ item_header_of 0 → 4 ≤ length first
item_start = started_by item_header_of (delimiter 0xE000) item_parts

value_has_vr : (tag : Tag) (vr : Vr) (x : Value) → IsValue 16 tag vr x → has_sequence_vr vr x
value_has_vr tag vr (Octets octets) h = tt
value_has_vr tag vr (Items items) h = h.0.is_sq

-- items of a data set have the VR SQ
pub element_has_vr : (i : ℕ) (last : Option Tag) (es : List Element) (e : Element) → AreElements 16 last (as_elements es) → i < length es → e ≡ get_or es i e
    → HasSequenceVr e
element_has_vr i last [] e h lt is = absurd (omega arith)
element_has_vr zero last (x ∷ es) e h lt is = subst HasSequenceVr (sym is) (value_has_vr x.tag x.vr x.value (facts-parts 16 last x es h).1)
element_has_vr (suc i) last (x ∷ es) e h lt is = element_has_vr i (Some x.tag) es e (facts-parts 16 last x es h).2 (omega arith) is

-- a sequence's vr, and its spelling
pub vr_is : (vr : Vr) (x : Value) (items : List ElementList) → has_sequence_vr vr x → x ≡ Items items → vr ≡ SQ
vr_is vr x items h is = subst (λ (y : Value). has_sequence_vr vr y) is h

pub canonical-sequence : (s : Syntax) (e : Element) (items : List ElementList) → e.value ≡ Items items → e.vr ≡ SQ
    → canonical_element s e ≡ header_octets s e.tag SQ (length (canonical_items s (items_of items))) ++ canonical_items s (items_of items)
canonical-sequence s e items is vr = grind (arith, no_elements, append_assoc, append-nil)
