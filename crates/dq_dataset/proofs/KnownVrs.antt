-- An element of octets that is read has the dictionary's VR.
use Rattle.std.proofs.Common.{◌≡◌, ℕ, zero, suc, ◌-◌, Bool, true, false, not, eqb, List, ◌∷◌, take, drop, Option, Some, None, Result, Ok, refl, subst, ◌∙◌, cond, unwrap_or, arith}
use Rattle.std.specs.List.{AllByRecursion}
use Rattle.dq_vr.specs.Dictionary.{known_vr}
use Rattle.dq_dataset.specs.Rules.{vr_of, content_of, padded_value}
use Rattle.dq_dataset.proofs.Types.{Tag, Vr, UN, ReadFault, Truncated, TagOrder, BadItem, TooDeep, Syntax, Bound, Filled, Delimited, Content, Plain, Sequence, Header, Element, Value, Octets, Items, ElementList, no_elements, element, sequence, ItemList, no_items, item}
use Rattle.dq_dataset.specs.Facts.{AreElements, AreItems}
use Rattle.dq_dataset.specs.View.{as_elements, elements_of, list_of}
use Rattle.dq_dataset.specs.DataSetReader.{◌>>=◌, Readers, check, may_nest, length_of, unless_ended, tag_at, spelling_at, follows, fits_enclosing, front_at, header_at, item_header_at, end_at, value_by, element_by, elements_after, elements_by, content_by, item_by, items_after, items_by, readers, data_set_read}
use Rattle.dq_dataset.proofs.Fields.{bind_ok, ok_is}
use Rattle.dq_dataset.proofs.Headers.{fits_step, content_step, spelling_step, rises_step, placed_step, tag_step}
use Rattle.dq_dataset.proofs.Views.{elements_of-as_elements}

abbrev pub HasKnownVr : Element → Type 0
HasKnownVr e = (octets : List ℕ) → e.value ≡ Octets octets → e.vr ≡ unwrap_or (known_vr e.tag) UN

-- the VR of a header
header_vr : (syntax : Syntax) (levels : ℕ) (last : Option Tag) (octets rest : List ℕ) (h : Header) → header_at syntax levels last octets ≡ Ok (h, rest)
    → h.vr ≡ vr_of (known_vr h.tag) h.content
unfolding header_at front_at
header_vr syntax levels last octets rest h e =
    let whole = bind_ok (front_at syntax levels last octets) fits_step (h, rest) e in
    let fit = bind_ok (check (fits_enclosing (length_of whole.0.0.content) whole.0.1) Truncated) (λ ok. Ok whole.0) (h, rest) whole.2 in
    let a = bind_ok (tag_at octets) (tag_step syntax levels last) (h, rest) (whole.1 ∙ fit.2) in
    let tag = a.0.0 in
    let b = bind_ok (check (not (eqb tag.group 0xFFFE)) BadItem) (placed_step syntax levels last tag a.0.1) (h, rest) a.2 in
    let c = bind_ok (check (follows last tag) TagOrder) (rises_step syntax levels tag a.0.1) (h, rest) b.2 in
    let d = bind_ok (spelling_at syntax (known_vr tag) a.0.1) (spelling_step levels tag) (h, rest) c.2 in
    let f = bind_ok (content_of (known_vr tag) d.0.0.0 d.0.0.1) (content_step levels tag d.0.1) (h, rest) d.2 in
    let made : Header = record { tag = tag; vr = vr_of (known_vr tag) f.0; content = f.0 } in
    let g = bind_ok (check (may_nest levels f.0) TooDeep) (λ shallow. Ok (made, d.0.1)) (h, rest) f.2 in
    subst (λ (p : Header × List ℕ). p.0.vr ≡ vr_of (known_vr p.0.tag) p.0.content) (ok_is (made, d.0.1) (h, rest) g.2) refl

abbrev pub made_of : Header → Value → Element
made_of h v = record { tag = h.tag; vr = h.vr; value = v }

-- items are no octets
no_octets : (tag : Tag) (vr : Vr) (items : List ElementList) → HasKnownVr (record { tag = tag; vr = vr; value = Items items })
no_octets tag vr items octets same = absurd cc

value_of : (next : Readers) (levels : ℕ) (vr : Vr) (content : Content) (octets rest : List ℕ) (tag : Tag) (v : Value) → vr ≡ vr_of (known_vr tag) content
    → value_by next levels vr content octets ≡ Ok (v, rest) → HasKnownVr (record { tag = tag; vr = vr; value = v })
unfolding value_by
value_of next levels vr content octets rest tag v is e = grind (arith, bind_ok, ok_is, no_octets)

abbrev Read : Type 0
Read = Option (Header × Value) × List ℕ

abbrev value_step : Header → Value × List ℕ → Result Read ReadFault
value_step header value = Ok (Some (header, value.0), value.1)

abbrev header_step : Readers → ℕ → Header × List ℕ → Result Read ReadFault
header_step next levels header = value_by next levels header.0.vr header.0.content header.1 >>= value_step header.0

abbrev Elements : Type 0
Elements = List Element × List ℕ

-- what each element that is read has, where each value that is read of its header gives it
module _ (P : Element → Type 0)
    (gives : (n levels : ℕ) (syntax : Syntax) (last : Option Tag) (octets left rest : List ℕ) (h : Header) (v : Value)
    → header_at syntax levels last octets ≡ Ok (h, left) → value_by (readers n) levels h.vr h.content left ≡ Ok (v, rest) → P (made_of h v)) where
  abbrev IfRead : Option (Header × Value) → Type 0
  IfRead None = Unit {0}
  IfRead (Some first) = P (made_of first.0 first.1)

  more_read : (n : ℕ) (syntax : Syntax) (levels : ℕ) (last : Option Tag) (octets rest : List ℕ) (first : Option (Header × Value))
      → (header_at syntax levels last octets >>= header_step (readers n) levels) ≡ Ok (first, rest) → IfRead first
  more_read n syntax levels last octets rest first e = grind (arith, bind_ok, ok_is)

  unless_read : (end : Option (List ℕ)) (more : Result Read ReadFault) (first : Option (Header × Value)) (rest : List ℕ)
      → (more ≡ Ok (first, rest) → IfRead first) → unless_ended end more ≡ Ok (first, rest) → IfRead first
  unless_read (Some left) more first rest reads e = subst (λ (p : Read). IfRead p.0) (ok_is (None, left) (first, rest) e) tt
  unless_read None more first rest reads e = reads e

  element_read : (n : ℕ) (bound : Bound) (syntax : Syntax) (levels : ℕ) (last : Option Tag) (octets rest : List ℕ) (first : Option (Header × Value))
      → element_by (readers n) bound syntax levels last octets ≡ Ok (first, rest) → IfRead first
  unfolding element_by
  element_read n bound syntax levels last octets rest first e = grind (arith, bind_ok, unless_read, more_read)

  kept_by : (b : Bool) (e : Element) (others : List Element) → P e → AllByRecursion P others → AllByRecursion P (cond b others (e ∷ others))
  kept_by true e others one all = all
  kept_by false e others one all = (one, all)

  -- what follows an element
  after_read : (next : Readers) (bound : Bound) (syntax : Syntax) (levels : ℕ) (first : Option (Header × Value)) (octets rest : List ℕ) (es : List Element)
      → ((last : Option Tag) (left : List ℕ) (others : List Element) (behind : List ℕ) → next.elements bound syntax levels last left ≡ Ok (others, behind)
      → AllByRecursion P others)
      → IfRead first → elements_after next bound syntax levels first octets ≡ Ok (es, rest) → AllByRecursion P es
  unfolding elements_after
  after_read next bound syntax levels first octets rest es reads is e = grind (arith, ok_is, bind_ok, kept_by)

  elements_read : (n : ℕ) (bound : Bound) (syntax : Syntax) (levels : ℕ) (last : Option Tag) (octets : List ℕ) (es : List Element) (rest : List ℕ)
      → (readers n).elements bound syntax levels last octets ≡ Ok (es, rest) → AllByRecursion P es
  unfolding readers elements_by
  elements_read zero bound syntax levels last octets es rest e = absurd cc
  elements_read (suc n) bound syntax levels last octets es rest e =
      let first = bind_ok (element_by (readers n) bound syntax levels last octets) (λ (x : Read). elements_after (readers n) bound syntax levels x.0 x.1)
      (es, rest) e in
      after_read (readers n) bound syntax levels first.0.0 first.0.1 rest es (elements_read n bound syntax levels)
      (element_read n bound syntax levels last octets first.0.1 first.0.0 first.1) first.2

  all_read : (syntax : Syntax) (octets : List ℕ) (d : ElementList) → data_set_read syntax octets ≡ Ok d → AllByRecursion P (elements_of d)
  unfolding data_set_read
  all_read syntax octets d e = grind (arith, bind_ok, ok_is, elements_of-as_elements, elements_read)

known_given : (n levels : ℕ) (syntax : Syntax) (last : Option Tag) (octets left rest : List ℕ) (h : Header) (v : Value)
    → header_at syntax levels last octets ≡ Ok (h, left) → value_by (readers n) levels h.vr h.content left ≡ Ok (v, rest) → HasKnownVr (made_of h v)
known_given n levels syntax last octets left rest h v header value =
    value_of (readers n) levels h.vr h.content left rest h.tag v (header_vr syntax levels last octets left h header) value

pub read_has_known_vrs : (syntax : Syntax) (octets : List ℕ) (d : ElementList) → data_set_read syntax octets ≡ Ok d → AllByRecursion HasKnownVr (elements_of d)
read_has_known_vrs syntax octets d e = all_read HasKnownVr known_given syntax octets d e

-- ---- inside items

abbrev pub HaveKnownVrs : ElementList → Type 0
HaveKnownVrs d = AllByRecursion HasKnownVr (elements_of d)

-- each item of a value has them
abbrev pub HasKnownInside : Value → Type 0
HasKnownInside (Octets octets) = Unit {0}
HasKnownInside (Items items) = AllByRecursion HaveKnownVrs items

abbrev ItemRead : Type 0
ItemRead = Option ElementList × List ℕ

abbrev ItemsRead : Type 0
ItemsRead = List ElementList × List ℕ

abbrev IfItem : Option ElementList → Type 0
IfItem None = Unit {0}
IfItem (Some d) = HaveKnownVrs d

content_read : (n levels : ℕ) (syntax : Syntax) (extent : Option ℕ) (octets rest : List ℕ) (es : List Element)
    → content_by (readers n) syntax levels extent octets ≡ Ok (es, rest) → AllByRecursion HasKnownVr es
unfolding content_by
content_read n levels syntax (Some count) octets rest es e =
    let elements = bind_ok ((readers n).elements Filled syntax levels None (take count octets)) (λ (x : Elements). Ok (x.0, drop count octets)) (es, rest) e in
    subst (λ (p : Elements). AllByRecursion HasKnownVr p.0) (ok_is (elements.0.0, drop count octets) (es, rest) elements.2)
    (elements_read HasKnownVr known_given n Filled syntax levels None (take count octets) elements.0.0 elements.0.1 elements.1)
content_read n levels syntax None octets rest es e = elements_read HasKnownVr known_given n Delimited syntax levels None octets es rest e

abbrev item_step : Elements → Result ItemRead ReadFault
item_step x = Ok (Some (as_elements x.0), x.1)

more_items : (n levels : ℕ) (syntax : Syntax) (octets rest : List ℕ) (first : Option ElementList)
    → (item_header_at octets >>= λ header. content_by (readers n) syntax levels header.0 header.1 >>= item_step) ≡ Ok (first, rest) → IfItem first
more_items n levels syntax octets rest first e = grind (arith, bind_ok, ok_is, elements_of-as_elements, content_read)

unless_item : (end : Option (List ℕ)) (more : Result ItemRead ReadFault) (first : Option ElementList) (rest : List ℕ)
    → (more ≡ Ok (first, rest) → IfItem first) → unless_ended end more ≡ Ok (first, rest) → IfItem first
unless_item (Some left) more first rest reads e = subst (λ (p : ItemRead). IfItem p.0) (ok_is (None, left) (first, rest) e) tt
unless_item None more first rest reads e = reads e

items_from : (next : Readers) (bound : Bound) (syntax : Syntax) (levels : ℕ) (first : Option ElementList) (octets rest : List ℕ) (ds : List ElementList)
    → ((left : List ℕ) (others : List ElementList) (behind : List ℕ) → next.items bound syntax levels left ≡ Ok (others, behind) → AllByRecursion HaveKnownVrs others)
    → IfItem first → items_after next bound syntax levels first octets ≡ Ok (ds, rest) → AllByRecursion HaveKnownVrs ds
unfolding items_after
items_from next bound syntax levels first octets rest ds reads is e = grind (arith, ok_is, bind_ok)

items_read : (n : ℕ) (bound : Bound) (syntax : Syntax) (levels : ℕ) (octets : List ℕ) (ds : List ElementList) (rest : List ℕ)
    → (readers n).items bound syntax levels octets ≡ Ok (ds, rest) → AllByRecursion HaveKnownVrs ds
unfolding readers items_by item_by
items_read zero bound syntax levels octets ds rest e = absurd cc
items_read (suc n) bound syntax levels octets ds rest e =
    let first = bind_ok (item_by (readers n) bound syntax levels octets) (λ (x : ItemRead). items_after (readers n) bound syntax levels x.0 x.1) (ds, rest) e in
    let more = item_header_at octets >>= λ (header : Option ℕ × List ℕ). content_by (readers n) syntax levels header.0 header.1 >>= item_step in
    let end = bind_ok (end_at bound 0xE0DD octets) (λ (x : Option (List ℕ)). unless_ended x more) (first.0.0, first.0.1) first.1 in
    items_from (readers n) bound syntax levels first.0.0 first.0.1 rest ds (items_read n bound syntax levels)
    (unless_item end.0 more first.0.0 first.0.1 (more_items n levels syntax octets first.0.1 first.0.0) end.2) first.2

inside_given : (n levels : ℕ) (syntax : Syntax) (last : Option Tag) (octets left rest : List ℕ) (h : Header) (v : Value)
    → header_at syntax levels last octets ≡ Ok (h, left) → value_by (readers n) levels h.vr h.content left ≡ Ok (v, rest) → HasKnownInside v
unfolding value_by
inside_given n levels syntax last octets left rest h v header value = by_content h.content value
  where
    by_content : (content : Content) → value_by (readers n) levels h.vr content left ≡ Ok (v, rest) → HasKnownInside v
    by_content (Plain count) e =
        subst (λ (p : Value × List ℕ). HasKnownInside p.0) (ok_is (Octets (padded_value h.vr (take count left)), drop count left) (v, rest) e) tt
    by_content (Sequence to (Some count)) e =
        let items = bind_ok ((readers n).items Filled to (levels - 1) (take count left)) (λ (x : ItemsRead). Ok (Items x.0, drop count left)) (v, rest) e in
        subst (λ (p : Value × List ℕ). HasKnownInside p.0) (ok_is (Items items.0.0, drop count left) (v, rest) items.2)
        (items_read n Filled to (levels - 1) (take count left) items.0.0 items.0.1 items.1)
    by_content (Sequence to None) e =
        let items = bind_ok ((readers n).items Delimited to (levels - 1) left) (λ (x : ItemsRead). Ok (Items x.0, x.1)) (v, rest) e in
        subst (λ (p : Value × List ℕ). HasKnownInside p.0) (ok_is (Items items.0.0, items.0.1) (v, rest) items.2)
        (items_read n Delimited to (levels - 1) left items.0.0 items.0.1 items.1)

pub read_has_known_inside : (syntax : Syntax) (octets : List ℕ) (d : ElementList) → data_set_read syntax octets ≡ Ok d
    → AllByRecursion (λ (e : Element). HasKnownInside e.value) (elements_of d)
read_has_known_inside syntax octets d e = all_read (λ (e : Element). HasKnownInside e.value) inside_given syntax octets d e

-- each of a data set has it too
pub facts_give_known_vrs : (levels : ℕ) (last : Option Tag) (d : ElementList) → AreElements levels last d → AllByRecursion HasKnownVr (elements_of d)
facts_give_known_vrs levels last no_elements h = tt
facts_give_known_vrs levels last (element t v o rest) h = (λ octets same. h.1.by_dictionary, facts_give_known_vrs levels (Some t) rest h.2)
facts_give_known_vrs levels last (sequence t v items rest) h = (no_octets t v (list_of items), facts_give_known_vrs levels (Some t) rest h.4)

items_known : (levels : ℕ) (items : ItemList) → AreItems levels items → AllByRecursion HaveKnownVrs (list_of items)
items_known levels no_items h = tt
items_known levels (item d rest) h = (facts_give_known_vrs levels None d h.0, items_known levels rest h.1)

pub facts_give_known_inside : (levels : ℕ) (last : Option Tag) (d : ElementList) → AreElements levels last d
    → AllByRecursion (λ (e : Element). HasKnownInside e.value) (elements_of d)
facts_give_known_inside levels last no_elements h = tt
facts_give_known_inside levels last (element t v o rest) h = (tt, facts_give_known_inside levels (Some t) rest h.2)
facts_give_known_inside levels last (sequence t v items rest) h = (items_known (levels - 1) items h.3, facts_give_known_inside levels (Some t) rest h.4)
