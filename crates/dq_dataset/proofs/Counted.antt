-- Lengths of canonical spellings, counted up to FFFFFFFFH.
use Rattle.std.proofs.Common.{◌≡◌, ℕ, ◌+◌, ◌<◌, ◌≤◌, min, Bool, true, false, cond, ltb, List, ◌++◌, length, get_or, drop, refl, sym, ap, ◌∙◌, arith, ◌↔◌}
use Rattle.std.specs.Int.{w16, to_le_bytes}
use Rattle.std.proofs.lemmas.List.{length-append}
use Rattle.std.proofs.lemmas.Bool.Decides.{nat_tests}
use Rattle.dq_vr.specs.declared.Tag.{Tag}
use Rattle.dq_vr.specs.declared.Vr.{Vr}
use Rattle.dq_vr.specs.declared.Vr.TheVariants.{UN}
use Rattle.dq_vr.specs.declared.LengthForm.{LengthForm}
use Rattle.dq_vr.specs.declared.LengthForm.TheVariants.{Two, Four}
use Rattle.dq_vr.specs.Vr.{length_form_of, letters_of}
use Rattle.dq_dataset.specs.declared.header.Syntax.{Syntax}
use Rattle.dq_dataset.specs.declared.header.Syntax.TheVariants.{Implicit, Explicit}
use Rattle.dq_dataset.specs.declared.data_set.Element.{Element}
use Rattle.dq_dataset.specs.declared.data_set.Value.{Value}
use Rattle.dq_dataset.specs.declared.data_set.Value.TheVariants.{Octets, Items}
use Rattle.dq_dataset.specs.Tree.{ElementList, no_elements, element, sequence, ItemList, no_items, item}
use Rattle.dq_dataset.specs.View.{as_elements, items_of, with_value}
use Rattle.dq_dataset.specs.Canonical.{tag_octets, long_length, vr_and_length, header_octets, item_header_of, canonical, canonical_items, HasLengths, ItemsHaveLengths}
use Rattle.dq_dataset.proofs.WrittenIsSpelled.{two_letters}
use Rattle.dq_dataset.specs.Lengths.{value_octet_count}
use Rattle.dq_dataset.proofs.Places.{from_place}

-- ---- headers

letters : (vr : Vr) → length (letters_of vr) ≡ 2
letters vr = ap length (two_letters vr).are

by_length : (b : Bool) (vr : Vr) (n : ℕ) → length (cond b (letters_of UN ++ long_length n) (letters_of vr ++ to_le_bytes w16 n)) ≡ cond b 8 4
by_length true vr n = omega (arith, length-append (letters_of UN) (long_length n), letters UN)
by_length false vr n = omega (arith, length-append (letters_of vr) (to_le_bytes w16 n), letters vr)

abbrev pub after_tag : LengthForm → ℕ → ℕ
after_tag Two n = cond (ltb 65534 n) 8 4
after_tag Four n = 8

after_tag_is : (form : LengthForm) (vr : Vr) (n : ℕ) → length (vr_and_length form vr n) ≡ after_tag form n
unfolding vr_and_length
after_tag_is Two vr n = by_length (ltb 65534 n) vr n
after_tag_is Four vr n = omega (arith, length-append (letters_of vr) (long_length n), letters vr)

pub implicit_header : (tag : Tag) (vr : Vr) (n : ℕ) → length (header_octets Implicit tag vr n) ≡ 8
unfolding header_octets
implicit_header tag vr n = refl

pub explicit_header : (tag : Tag) (vr : Vr) (n : ℕ) → length (header_octets Explicit tag vr n) ≡ 4 + after_tag (length_form_of vr) n
unfolding header_octets
explicit_header tag vr n = omega (arith, length-append (tag_octets tag) (vr_and_length (length_form_of vr) vr n), after_tag_is (length_form_of vr) vr n)

pub short_header : (tag : Tag) (vr : Vr) (n : ℕ) → length_form_of vr ≡ Two → n ≤ 65534 → length (header_octets Explicit tag vr n) ≡ 8
short_header tag vr n form le = grind (arith, nat_tests, explicit_header)

pub un_header : (tag : Tag) (vr : Vr) (n : ℕ) → length_form_of vr ≡ Two → 65534 < n → length (header_octets Explicit tag vr n) ≡ 12
un_header tag vr n form lt = grind (arith, nat_tests, explicit_header)

pub long_header : (tag : Tag) (vr : Vr) (n : ℕ) → length_form_of vr ≡ Four → length (header_octets Explicit tag vr n) ≡ 12
long_header tag vr n form = explicit_header tag vr n ∙ ap (λ (f : LengthForm). 4 + after_tag f n) form

pub item_header : (n : ℕ) → length (item_header_of n) ≡ 8
unfolding item_header_of
item_header n = refl

-- a length past FFFFFFFFH has the header of FFFFFFFFH
after_tag_cut : (form : LengthForm) (n : ℕ) → after_tag form (min n 0xFFFFFFFF) ≡ after_tag form n
after_tag_cut Two n = grind (arith, nat_tests)
after_tag_cut Four n = refl

header_cut : (syntax : Syntax) (tag : Tag) (vr : Vr) (n : ℕ) → length (header_octets syntax tag vr (min n 0xFFFFFFFF)) ≡ length (header_octets syntax tag vr n)
header_cut Implicit tag vr n = implicit_header tag vr (min n 0xFFFFFFFF) ∙ sym (implicit_header tag vr n)
header_cut Explicit tag vr n =
    explicit_header tag vr (min n 0xFFFFFFFF) ∙ ap (λ (k : ℕ). 4 + k) (after_tag_cut (length_form_of vr) n) ∙ sym (explicit_header tag vr n)

-- ---- one element or item more

abbrev one : Tag → Vr → Value → Element
one tag vr value = record { tag = tag; vr = vr; value = value }

pub value_length : (s : Syntax) (t : Tag) (v : Vr) (x : Value) (rest : ElementList)
    → length (canonical s (with_value (one t v x) x rest)) ≡ length (header_octets s t v (value_octet_count s x)) + value_octet_count s x + length (canonical s rest)
value_length s t v x rest = grind (arith, nat_tests, length-append)

pub element_counted : (s : Syntax) (all : List Element) (i total : ℕ) (e : Element) (header octets : ℕ) → i < length all → e ≡ get_or all i e
    → octets ≡ min (value_octet_count s e.value) 0xFFFFFFFF → header ≡ length (header_octets s e.tag e.vr octets)
    → min (total + length (canonical s (as_elements (drop i all)))) 0xFFFFFFFF ≡ min (length (canonical s (as_elements all))) 0xFFFFFFFF
    → min (min (min (total + header) 0xFFFFFFFF + octets) 0xFFFFFFFF + length (canonical s (as_elements (drop (i + 1) all)))) 0xFFFFFFFF
    ≡ min (length (canonical s (as_elements all))) 0xFFFFFFFF
element_counted s all i total e header octets lt is cut head so_far =
    grind (arith, nat_tests, from_place, value_length, header_cut)

pub item_counted : (s : Syntax) (all : List ElementList) (i total : ℕ) (d : ElementList) (octets : ℕ) → i < length all → d ≡ get_or all i d
    → octets ≡ min (length (canonical s d)) 0xFFFFFFFF
    → min (total + length (canonical_items s (items_of (drop i all)))) 0xFFFFFFFF ≡ min (length (canonical_items s (items_of all))) 0xFFFFFFFF
    → min (min (min (total + 8) 0xFFFFFFFF + octets) 0xFFFFFFFF + length (canonical_items s (items_of (drop (i + 1) all)))) 0xFFFFFFFF
    ≡ min (length (canonical_items s (items_of all))) 0xFFFFFFFF
item_counted s all i total d octets lt is cut so_far = grind (arith, nat_tests, from_place, length-append, item_header)

-- ---- what is short as a whole is short in its parts

mutual
  pub short_elements : (s : Syntax) (d : ElementList) → length (canonical s d) < 0xFFFFFFFF → HasLengths s d
  short_elements s no_elements lt = tt
  short_elements s (element t v o rest) lt =
      let whole = length-append (header_octets s t v (length o) ++ o) (canonical s rest) in
      let front = length-append (header_octets s t v (length o)) o in
      (omega (arith, whole, front), short_elements s rest (omega (arith, whole)))
  short_elements s (sequence t v items rest) lt =
      let body = canonical_items s items in
      let whole = length-append (header_octets s t v (length body) ++ body) (canonical s rest) in
      let front = length-append (header_octets s t v (length body)) body in
      let short : length body < 0xFFFFFFFF = omega (arith, whole, front) in
      (short, short_items s items short, short_elements s rest (omega (arith, whole)))

  short_items : (s : Syntax) (items : ItemList) → length (canonical_items s items) < 0xFFFFFFFF → ItemsHaveLengths s items
  short_items s no_items lt = tt
  short_items s (item d rest) lt =
      let body = canonical s d in
      let whole = length-append (item_header_of (length body) ++ body) (canonical_items s rest) in
      let front = length-append (item_header_of (length body)) body in
      let short : length body < 0xFFFFFFFF = omega (arith, whole, front) in
      (short, short_elements s d short, short_items s rest (omega (arith, whole)))

first_has_length : (s : Syntax) (t : Tag) (v : Vr) (x : Value) (rest : ElementList)
    → HasLengths s (with_value (one t v x) x rest) → (value_octet_count s x < 0xFFFFFFFF) × HasLengths s rest
first_has_length s t v (Octets o) rest h = h
first_has_length s t v (Items ds) rest h = (h.0, h.2)

all_have_lengths : (s : Syntax) (t : Tag) (v : Vr) (x : Value) (rest : ElementList)
    → value_octet_count s x < 0xFFFFFFFF → HasLengths s rest → HasLengths s (with_value (one t v x) x rest)
all_have_lengths s t v (Octets o) rest lt h = (lt, h)
all_have_lengths s t v (Items ds) rest lt h = (lt, short_items s (items_of ds) lt, h)

module _ (s : Syntax) (all : List Element) (i : ℕ) (e : Element) (lt : i < length all) (is : e ≡ get_or all i e)
    (so_far : HasLengths s (as_elements (drop i all)) ↔ HasLengths s (as_elements all)) where
  pub lengths_from : value_octet_count s e.value < 0xFFFFFFFF → HasLengths s (as_elements (drop (i + 1) all)) ↔ HasLengths s (as_elements all)
  lengths_from short = grind (arith, nat_tests, from_place, all_have_lengths, first_has_length)
