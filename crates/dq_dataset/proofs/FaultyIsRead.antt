-- Reading answers the first fault.
use Rattle.std.proofs.Common.{◌≡◌, ℕ, zero, suc, ◌+◌, ◌-◌, ◌≤◌, true, List, ◌++◌, length, Option, Some, None, Result, Ok, Err, refl, sym, ap, subst, ◌∙◌, arith, inl, inr}
use Rattle.std.proofs.lemmas.Bool.{lt-ltb, eqb-true, ne_eqb}
use Rattle.std.proofs.lemmas.List.{take_at, length-append, append-nil}
use Rattle.dq_dataset.proofs.Types.{Tag, Vr, ReadFault, Syntax, Bound, Filled, Content, Sequence, Value, ElementList}
use Rattle.dq_vr.specs.Dictionary.{known_vr}
use Rattle.dq_dataset.specs.Rules.{vr_of}
use Rattle.dq_dataset.specs.DataSetReader.{may_nest, length_of, fits_enclosing, header_at, item_header_at, end_at, value_by, element_by, elements_after, elements_by, content_by, item_by, items_after, items_by, readers, data_set_read}
use Rattle.dq_dataset.specs.Grammar.{IsHeader, IsPlaced, IsItemHeader, bound_of}
use Rattle.dq_dataset.specs.Faults.{first_of, header_faults, item_faults, HasReach, HasFault, at_header, in_value, after_element, ItemsHaveFault, at_item, in_item, after_item, IsFaulty}
use Rattle.dq_dataset.proofs.Headers.{header_again, header_long, item_again, item_long, no_end_before, no_end_before_item}
use Rattle.dq_dataset.proofs.HeaderFaults.{fault_of, header_faults_are, item_faults_are, NoEnd, no_end_here}
use Rattle.dq_dataset.proofs.SpelledIsRead.{extent_fits, value_nests, value_fits, value_again, elements_again, content_again}

-- what names a fault is that fault
some_fault : {X : Type 0} (r : Result X ReadFault) (f : ReadFault) → fault_of r ≡ Some f → r ≡ Err f
some_fault (Ok x) f e = absurd cc
some_fault (Err g) f e = let same : g ≡ f = cc in ap (λ (x : ReadFault). Err x) same

abbrev ElementsFail : Bound → Syntax → ℕ → Option Tag → List ℕ → ReadFault → Type 0
ElementsFail bound syntax levels last octets f = (m : ℕ) → length octets ≤ m → (readers (suc m)).elements bound syntax levels last octets ≡ Err f

abbrev ItemsFail : Bound → Syntax → ℕ → List ℕ → ReadFault → Type 0
ItemsFail bound syntax levels octets f = (m : ℕ) → length octets ≤ m → (readers (suc m)).items bound syntax levels octets ≡ Err f

-- ---- at a header

header_fails : (bound : Bound) (syntax : Syntax) (levels : ℕ) (last : Option Tag) (octets : List ℕ) (f : ReadFault) → NoEnd bound 0xE00D octets
    → first_of (header_faults syntax levels last octets) ≡ Some f → ElementsFail bound syntax levels last octets f
unfolding readers elements_by element_by
header_fails bound syntax levels last octets f (inl none) first m le =
    rw (none, some_fault (header_at syntax levels last octets) f (header_faults_are syntax levels last octets ∙ first)) refl
header_fails bound syntax levels last octets f (inr (inl short)) first m le = grind arith
header_fails bound syntax levels last octets f (inr (inr bad)) first m le = grind arith

item_fails : (bound : Bound) (syntax : Syntax) (levels : ℕ) (octets : List ℕ) (f : ReadFault) → NoEnd bound 0xE0DD octets
    → first_of (item_faults octets) ≡ Some f → ItemsFail bound syntax levels octets f
unfolding readers items_by item_by
item_fails bound syntax levels octets f (inl none) first m le =
    rw (none, some_fault (item_header_at octets) f (item_faults_are octets ∙ first)) refl
item_fails bound syntax levels octets f (inr (inl short)) first m le = grind arith
item_fails bound syntax levels octets f (inr (inr bad)) first m le = grind (arith, eqb-true, ne_eqb)

-- ---- behind a header

-- the header, and no end before it
module _ (bound : Bound) (syntax : Syntax) (levels : ℕ) (last : Option Tag) (tag : Tag) (content : Content) (header behind : List ℕ)
    (placed : IsPlaced last tag) (is_header : IsHeader syntax tag content header) (nests : may_nest levels content ≡ true)
    (whole : fits_enclosing (length_of content) behind ≡ true) where
  no_end : end_at bound 0xE00D (header ++ behind) ≡ Ok None
  no_end = no_end_before bound last syntax tag content header behind placed is_header

  the_header : header_at syntax levels last (header ++ behind) ≡ Ok (record { tag = tag; vr = vr_of (known_vr tag) content; content = content }, behind)
  the_header = header_again syntax levels last tag content header behind placed is_header nests whole

  value_fails : (f : ReadFault) → ((m : ℕ) → length behind ≤ m → value_by (readers (suc m)) levels (vr_of (known_vr tag) content) content behind ≡ Err f)
      → ElementsFail bound syntax levels last (header ++ behind) f
  unfolding readers elements_by element_by
  value_fails f fails zero le = absurd (omega (arith, header_long syntax tag content header is_header, length-append header behind))
  value_fails f fails (suc m) le = grind (arith, header_long, length-append, no_end, the_header)

  others_fail : (f : ReadFault) (held : Value) (rest : List ℕ) → length rest ≤ length behind
      → ((m : ℕ) → length behind ≤ m → value_by (readers (suc m)) levels (vr_of (known_vr tag) content) content behind ≡ Ok (held, rest))
      → ElementsFail bound syntax levels (Some tag) rest f → ElementsFail bound syntax levels last (header ++ behind) f
  unfolding readers elements_by element_by elements_after
  others_fail f held rest le' read fails zero le = absurd (omega (arith, header_long syntax tag content header is_header, length-append header behind))
  others_fail f held rest le' read fails (suc m) le = grind (arith, header_long, length-append, no_end, the_header)

reach_fits : (extent : Option ℕ) (value rest : List ℕ) → HasReach extent value rest → fits_enclosing extent (value ++ rest) ≡ true
reach_fits None value rest has = refl
reach_fits (Some n) value rest has = extent_fits (Some n) value rest has

pub items_in_value : (levels : ℕ) (vr : Vr) (inner : Syntax) (extent : Option ℕ) (value rest : List ℕ) (f : ReadFault) → HasReach extent value rest
    → ItemsFail (bound_of extent) inner (levels - 1) value f → (m : ℕ) → length (value ++ rest) ≤ m
    → value_by (readers (suc m)) levels vr (Sequence inner extent) (value ++ rest) ≡ Err f
unfolding value_by
items_in_value levels vr inner None value rest f has fails m le = grind (arith, append-nil, length-append)
items_in_value levels vr inner (Some n) value rest f has fails m le =
    rw (take_at value rest n has, fails m (omega (arith, length-append value rest))) refl

module _ (bound : Bound) (syntax : Syntax) (levels : ℕ) (extent : Option ℕ) (header behind : List ℕ) (is_header : IsItemHeader extent header)
    (whole : fits_enclosing extent behind ≡ true) where
  no_item_end : end_at bound 0xE0DD (header ++ behind) ≡ Ok None
  no_item_end = no_end_before_item bound extent header behind is_header

  content_fails : (f : ReadFault) → ((m : ℕ) → length behind ≤ m → content_by (readers (suc m)) syntax levels extent behind ≡ Err f)
      → ItemsFail bound syntax levels (header ++ behind) f
  unfolding readers items_by item_by
  content_fails f fails zero le = absurd (omega (arith, item_long extent header is_header, length-append header behind))
  content_fails f fails (suc m) le =
      let shorter : length behind ≤ m = omega (arith, item_long extent header is_header, length-append header behind) in
      rw (no_item_end, item_again extent header behind is_header whole, fails m shorter) refl

  other_items_fail : (f : ReadFault) (d : ElementList) (rest : List ℕ) → length rest ≤ length behind
      → ((m : ℕ) → length behind ≤ m → (read : List _) × (content_by (readers (suc m)) syntax levels extent behind ≡ Ok (read, rest)))
      → ItemsFail bound syntax levels rest f → ItemsFail bound syntax levels (header ++ behind) f
  unfolding readers items_by item_by items_after
  other_items_fail f d rest le' read fails zero le = absurd (omega (arith, item_long extent header is_header, length-append header behind))
  other_items_fail f d rest le' read fails (suc m) le =
      let shorter : length behind ≤ m = omega (arith, item_long extent header is_header, length-append header behind) in
      let first = read m shorter in
      rw (no_item_end, item_again extent header behind is_header whole, first.1, fails m (omega arith)) refl

pub elements_in_item : (syntax : Syntax) (levels : ℕ) (extent : Option ℕ) (value rest : List ℕ) (f : ReadFault) → HasReach extent value rest
    → ElementsFail (bound_of extent) syntax levels None value f → (m : ℕ) → length (value ++ rest) ≤ m
    → content_by (readers (suc m)) syntax levels extent (value ++ rest) ≡ Err f
unfolding content_by
elements_in_item syntax levels None value rest f has fails m le = grind (arith, append-nil, length-append)
elements_in_item syntax levels (Some n) value rest f has fails m le =
    rw (take_at value rest n has, fails m (omega (arith, length-append value rest))) refl

mutual
  pub elements_fail : (bound : Bound) (syntax : Syntax) (levels : ℕ) (last : Option Tag) (octets : List ℕ) (f : ReadFault)
      → HasFault bound syntax levels last octets f
      → ElementsFail bound syntax levels last octets f
  elements_fail bound syntax levels last octets f (at_header _ _ _ _ _ _ open_here first) =
      header_fails bound syntax levels last octets f (no_end_here bound 0xE00D octets open_here) first
  elements_fail bound syntax levels last octets f (in_value _ _ _ _ _ _ tag inner extent header value rest placed is_header lt has faulty e) =
      subst (λ (o : List ℕ). ElementsFail bound syntax levels last o f) (sym e)
      (value_fails bound syntax levels last tag (Sequence inner extent) header (value ++ rest) placed is_header (lt-ltb 0 levels lt)
      (reach_fits extent value rest has) f
      (items_in_value levels (vr_of (known_vr tag) (Sequence inner extent)) inner extent value rest f has
      (items_fail (bound_of extent) inner (levels - 1) value f faulty)))
  elements_fail bound syntax levels last octets f (after_element _ _ _ _ _ _ tag content header value rest held placed is_header spells faulty e) =
      subst (λ (o : List ℕ). ElementsFail bound syntax levels last o f) (sym e)
      (others_fail bound syntax levels last tag content header (value ++ rest) placed is_header
      (value_nests levels (vr_of (known_vr tag) content) content value held spells)
      (value_fits levels (vr_of (known_vr tag) content) content value held rest spells) f held rest (omega (arith, length-append value rest))
      (value_again levels (vr_of (known_vr tag) content) content value held spells rest) (elements_fail bound syntax levels (Some tag) rest f faulty))

  pub items_fail : (bound : Bound) (syntax : Syntax) (levels : ℕ) (octets : List ℕ) (f : ReadFault) → ItemsHaveFault bound syntax levels octets f
      → ItemsFail bound syntax levels octets f
  items_fail bound syntax levels octets f (at_item _ _ _ _ _ open_here first) =
      item_fails bound syntax levels octets f (no_end_here bound 0xE0DD octets open_here) first
  items_fail bound syntax levels octets f (in_item _ _ _ _ _ extent header value rest is_header has faulty e) =
      subst (λ (o : List ℕ). ItemsFail bound syntax levels o f) (sym e)
      (content_fails bound syntax levels extent header (value ++ rest) is_header (reach_fits extent value rest has) f
      (elements_in_item syntax levels extent value rest f has (elements_fail (bound_of extent) syntax levels None value f faulty)))
  items_fail bound syntax levels octets f (after_item _ _ _ _ _ extent header value rest first is_header has spells faulty e) =
      subst (λ (o : List ℕ). ItemsFail bound syntax levels o f) (sym e)
      (other_items_fail bound syntax levels extent header (value ++ rest) is_header (extent_fits extent value rest has) f first rest
      (omega (arith, length-append value rest))
      (λ m le. (_, content_again syntax levels extent value first has (elements_again (bound_of extent) syntax levels None value first spells) rest m le))
      (items_fail bound syntax levels rest f faulty))

-- reading answers the first fault
pub faulty_is_read : (syntax : Syntax) (octets : List ℕ) (f : ReadFault) → IsFaulty syntax octets f → data_set_read syntax octets ≡ Err f
unfolding data_set_read
faulty_is_read syntax octets f faulty =
    let one_more : length octets + 1 ≡ suc (length octets) = omega arith in
    rw (one_more, elements_fail Filled syntax 16 None octets f faulty (length octets) (omega arith)) refl
