-- The canonical spelling spells its data set.
use Rattle.std.proofs.Common.{◌≡◌, ◌≢◌, eq-eqb, ℕ, zero, suc, ◌-◌, ◌%◌, ◌<◌, ◌≤◌, Bool, true, false, cond, ltb, ◌||◌, List, [], ◌∷◌, ◌++◌, length, get_or, Option, Some, None, Ok, refl, sym, ap, subst, ◌∙◌, append_assoc, arith}
use Rattle.std.specs.Prelude.{is_none, unwrap_or}
use Rattle.std.specs.Int.{w16, w32, to_le_bytes}
use Rattle.std.proofs.lemmas.Bool.{ltb-false, ne_eqb, or_right}
use Rattle.dq_dataset.proofs.Types.{Content, Tag, Vr, AE, SQ, UN, LengthForm, Two, Four, Syntax, Implicit, Explicit, Filled, Plain, Sequence, Value, Octets, Items, ElementList, no_elements, element, sequence, ItemList, no_items, item}
use Rattle.dq_vr.specs.Dictionary.{known_vr}
use Rattle.dq_vr.specs.Vr.{length_form_of, letters_of, vr_with_letters}
use Rattle.dq_dataset.specs.View.{list_of, with_value}
use Rattle.dq_dataset.specs.Rules.{is_sequence, agrees, content_of, padded_value}
use Rattle.dq_dataset.specs.Canonical.{tag_octets, long_length, vr_and_length, header_octets, item_header_of, canonical, canonical_items, HasLengths, ItemsHaveLengths}
use Rattle.dq_dataset.specs.Grammar.{IsLengthBehind, IsSpelling, IsHeader, IsPlaced, IsItemHeader, Spells, no_more, more, SpellsValue, plain, nested, SpellsItems, no_item, one_item, without_group_length, IsSpelled}
use Rattle.dq_dataset.specs.Facts.{IsElementTag, IsPlain, IsSequence, AreElements, AreItems, IsDataSet}
use Rattle.dq_dataset.specs.Written.{IsReadBack, HaveKnownSequences}
use Rattle.dq_dataset.proofs.Views.{items_of-list_of}

-- of items
abbrev AreReadBack : Syntax → ItemList → Type 0
AreReadBack Explicit items = Unit {0}
AreReadBack Implicit items = HaveKnownSequences items

-- each VR is named by its letters
abbrev pub LettersName : Type 0
LettersName = (vr : Vr) → vr_with_letters (letters_of vr) ≡ Some vr

-- the two letters of a VR
pub record HasLetters (vr : Vr) : Type 0 where
  pub first : ℕ
  pub second : ℕ
  pub are : letters_of vr ≡ first ∷ second ∷ []

pub two_letters : (vr : Vr) → HasLetters vr
unfolding letters_of
two_letters AE = record { first = 65; second = 69; are = refl }
two_letters vr = record { first = get_or (letters_of vr) 0 0; second = get_or (letters_of vr) 1 0; are = refl }

-- ---- headers

long_after : (n : ℕ) → n < 0xFFFFFFFF → IsLengthBehind Four (Some n) (long_length n)
long_after n lt = (0 ∷ 0 ∷ [], refl, to_le_bytes w32 n, (lt, refl), refl)

short_after : (n : ℕ) → n ≤ 65534 → IsLengthBehind Two (Some n) (to_le_bytes w16 n)
short_after n le = (omega arith, refl)

content_plain : (known spelled : Option Vr) (n : ℕ) → is_sequence spelled ≡ false → is_sequence known ≡ false → content_of known spelled (Some n) ≡ Ok (Plain n)
unfolding content_of
content_plain known spelled n a b = rw (a, b) refl

agrees_un : (known : Option Vr) → is_sequence known ≡ false → agrees known UN ≡ true
unfolding agrees
agrees_un known e = rw e (or_right (is_none known) true refl)

agrees_own : (known : Option Vr) → is_sequence known ≡ false → agrees known (unwrap_or known UN) ≡ true
unfolding agrees
agrees_own None e = refl
agrees_own (Some vr) e = rw e refl

own_is_no_sequence : (known : Option Vr) → is_sequence known ≡ false → is_sequence (Some (unwrap_or known UN)) ≡ false
own_is_no_sequence None e = refl
own_is_no_sequence (Some vr) e = e

sq_agrees : (b c : Bool) → (c || b) ≡ true → cond b true (c || false) ≡ true
sq_agrees b c e = grind arith

agrees_sq : (known : Option Vr) → (is_none known || is_sequence known) ≡ true → agrees known SQ ≡ true
unfolding agrees
agrees_sq known e = sq_agrees (is_sequence known) (is_none known) e

-- the VR is that of the data set, and no sequence's
abbrev IsOwn : Tag → Vr → Type 0
IsOwn tag vr = (vr ≡ unwrap_or (known_vr tag) UN) × (is_sequence (known_vr tag) ≡ false)

header_with : (syntax : Syntax) (tag : Tag) (content : Content) (spelled : Option Vr) (n : ℕ) (behind : List ℕ)
    → content_of (known_vr tag) spelled (Some n) ≡ Ok content → IsSpelling syntax (known_vr tag) spelled (Some n) behind
    → IsHeader syntax tag content (tag_octets tag ++ behind)
header_with syntax tag content spelled n behind allowed spelling =
    record { spelled = spelled; extent = Some n; allowed = allowed; behind = behind; spelling = spelling; whole = refl }

module _ (named : LettersName) where
  spelled_as : (known : Option Vr) (vr : Vr) (n : ℕ) (behind : List ℕ) → agrees known vr ≡ true → IsLengthBehind (length_form_of vr) (Some n) behind
      → IsSpelling Explicit known (Some vr) (Some n) (letters_of vr ++ behind)
  spelled_as known vr n behind agreed is =
      let l = two_letters vr in
      (agreed, l.first, l.second, ap vr_with_letters (sym l.are) ∙ named vr, behind, is, ap (λ (x : List ℕ). x ++ behind) l.are)

  own_header : (tag : Tag) (vr : Vr) (n : ℕ) (behind : List ℕ) → IsOwn tag vr → IsLengthBehind (length_form_of vr) (Some n) behind
      → IsHeader Explicit tag (Plain n) (tag_octets tag ++ (letters_of vr ++ behind))
  own_header tag vr n behind (own, other) is =
      let no_sequence = ap (λ (x : Vr). is_sequence (Some x)) own ∙ own_is_no_sequence (known_vr tag) other in
      header_with Explicit tag (Plain n) (Some vr) n (letters_of vr ++ behind) (content_plain (known_vr tag) (Some vr) n no_sequence other)
      (spelled_as (known_vr tag) vr n behind (ap (agrees (known_vr tag)) own ∙ agrees_own (known_vr tag) other) is)

  -- the header of a value that fits a length of 2 octets, or does not, in Explicit
  plain_short : (tag : Tag) (vr : Vr) (n : ℕ) (long : Bool) → ltb 65534 n ≡ long → length_form_of vr ≡ Two → IsOwn tag vr → n < 0xFFFFFFFF
      → IsHeader Explicit tag (Plain n) (tag_octets tag ++ cond long (letters_of UN ++ long_length n) (letters_of vr ++ to_le_bytes w16 n))
  unfolding length_form_of
  plain_short tag vr n true e form (own, other) lt =
      header_with Explicit tag (Plain n) (Some UN) n _ (content_plain (known_vr tag) (Some UN) n refl other)
      (spelled_as (known_vr tag) UN n (long_length n) (agrees_un (known_vr tag) other) (long_after n lt))
  plain_short tag vr n false e form own lt = own_header tag vr n (to_le_bytes w16 n) own (rw form (short_after n (ltb-false 65534 n e)))

  plain_explicit : (tag : Tag) (vr : Vr) (n : ℕ) (form : LengthForm) → length_form_of vr ≡ form → IsOwn tag vr → n < 0xFFFFFFFF
      → IsHeader Explicit tag (Plain n) (tag_octets tag ++ vr_and_length form vr n)
  unfolding vr_and_length
  plain_explicit tag vr n Two form own lt = plain_short tag vr n (ltb 65534 n) refl form own lt
  plain_explicit tag vr n Four form own lt = own_header tag vr n (long_length n) own (rw form (long_after n lt))

  plain_header : (syntax : Syntax) (tag : Tag) (vr : Vr) (n : ℕ) → IsOwn tag vr → n < 0xFFFFFFFF
      → IsHeader syntax tag (Plain n) (header_octets syntax tag vr n)
  unfolding header_octets
  plain_header Implicit tag vr n (own, other) lt =
      header_with Implicit tag (Plain n) None n (to_le_bytes w32 n) (content_plain (known_vr tag) None n refl other) (lt, refl)
  plain_header Explicit tag vr n own lt = plain_explicit tag vr n (length_form_of vr) refl own lt

  sequence_header : (syntax : Syntax) (tag : Tag) (n : ℕ) (rest : ElementList) (items : ItemList)
      → (is_none (known_vr tag) || is_sequence (known_vr tag)) ≡ true → IsReadBack syntax (sequence tag SQ items rest) → n < 0xFFFFFFFF
      → IsHeader syntax tag (Sequence syntax (Some n)) (header_octets syntax tag SQ n)
  unfolding header_octets vr_and_length length_form_of content_of
  sequence_header Implicit tag n rest items allowed back lt =
      header_with Implicit tag (Sequence Implicit (Some n)) None n (to_le_bytes w32 n) (rw back.0 refl) (lt, refl)
  sequence_header Explicit tag n rest items allowed back lt =
      header_with Explicit tag (Sequence Explicit (Some n)) (Some SQ) n _ refl
      (spelled_as (known_vr tag) SQ n (long_length n) (agrees_sq (known_vr tag) allowed) (long_after n lt))

  item_header : (n : ℕ) → n < 0xFFFFFFFF → IsItemHeader (Some n) (item_header_of n)
  unfolding item_header_of
  item_header n lt = record { four = to_le_bytes w32 n; is_length = (lt, refl); whole = refl }

  -- ---- elements

  placed : (last : Option Tag) (tag : Tag) → IsElementTag last tag → IsPlaced last tag
  placed last tag h = record { rises = h.rises; no_delimiter = h.no_delimiter; group = h.group; number = h.number }

  even_value : (levels : ℕ) (vr : Vr) (octets : List ℕ) → length octets % 2 ≡ 0 → SpellsValue levels vr (Plain (length octets)) octets (Octets octets)
  even_value levels vr octets e =
      let same : padded_value vr octets ≡ octets = rw (eq-eqb (length octets % 2) 0 e) refl in
      subst (λ (x : List ℕ). SpellsValue levels vr (Plain (length octets)) octets (Octets x)) same (plain levels vr (length octets) octets refl)

  not_dropped : (tag : Tag) (vr : Vr) (held : Value) (rest : ElementList) → tag.element ≢ 0
      → with_value (record { tag = tag; vr = vr; value = held }) held rest ≡ without_group_length tag vr held rest
  not_dropped tag vr held rest ne = rw (ne_eqb tag.element 0 ne) refl

  back_rest : (syntax : Syntax) (tag : Tag) (vr : Vr) (items : ItemList) (rest : ElementList) → IsReadBack syntax (sequence tag vr items rest)
      → IsReadBack syntax rest × AreReadBack syntax items
  back_rest Implicit tag vr items rest h = (h.2, h.1)
  back_rest Explicit tag vr items rest h = (tt, tt)

  back_plain : (syntax : Syntax) (tag : Tag) (vr : Vr) (octets : List ℕ) (rest : ElementList) → IsReadBack syntax (element tag vr octets rest)
      → IsReadBack syntax rest
  back_plain Implicit tag vr octets rest h = h
  back_plain Explicit tag vr octets rest h = tt

  back_item : (syntax : Syntax) (d : ElementList) (rest : ItemList) → AreReadBack syntax (item d rest) → IsReadBack syntax d × AreReadBack syntax rest
  back_item Implicit d rest h = h
  back_item Explicit d rest h = (tt, tt)

  plain_spelled : (syntax : Syntax) (levels : ℕ) (last : Option Tag) (tag : Tag) (vr : Vr) (octets : List ℕ) (rest : ElementList) → IsElementTag last tag
      → IsPlain tag vr octets → length octets < 0xFFFFFFFF
      → Spells Filled syntax levels (Some tag) (canonical syntax rest) rest
      → Spells Filled syntax levels last (canonical syntax (element tag vr octets rest)) (element tag vr octets rest)
  plain_spelled syntax levels last tag vr octets rest t p lt spells =
      more Filled syntax levels last (canonical syntax (element tag vr octets rest)) (element tag vr octets rest) tag (Plain (length octets))
      (header_octets syntax tag vr (length octets)) octets (canonical syntax rest) (Octets octets) rest
      (placed last tag t) (plain_header syntax tag vr (length octets) (p.by_dictionary, p.no_sequence) lt)
      (even_value levels (unwrap_or (known_vr tag) UN) octets p.even) spells
      (append_assoc (header_octets syntax tag vr (length octets)) octets (canonical syntax rest))
      (not_dropped tag vr (Octets octets) rest t.no_length ∙ ap (λ (x : Vr). without_group_length tag x (Octets octets) rest) p.by_dictionary)

  nested_spelled : (syntax : Syntax) (levels : ℕ) (last : Option Tag) (tag : Tag) (vr : Vr) (items : ItemList) (rest : ElementList) → IsElementTag last tag
      → IsSequence tag vr → 0 < levels
      → length (canonical_items syntax items) < 0xFFFFFFFF → IsReadBack syntax (sequence tag vr items rest)
      → SpellsItems Filled syntax (levels - 1) (canonical_items syntax items) (list_of items)
      → Spells Filled syntax levels (Some tag) (canonical syntax rest) rest
      → Spells Filled syntax levels last (canonical syntax (sequence tag vr items rest)) (sequence tag vr items rest)
  nested_spelled syntax zero last tag vr items rest t p some lt back inner spells = absurd (omega arith)
  nested_spelled syntax (suc fewer) last tag vr items rest t p some lt back inner spells =
      let one_less : suc fewer - 1 ≡ fewer = omega arith in
      let octets = canonical_items syntax items in
      let back_sq = subst (λ (x : Vr). IsReadBack syntax (sequence tag x items rest)) p.is_sq back in
      let head = subst (λ (x : Vr). IsHeader syntax tag (Sequence syntax (Some (length octets))) (header_octets syntax tag x (length octets))) (sym p.is_sq)
      (sequence_header syntax tag (length octets) rest items p.allowed back_sq lt) in
      let value = nested fewer SQ syntax (Some (length octets)) octets (list_of items) refl
      (subst (λ (k : ℕ). SpellsItems Filled syntax k octets (list_of items)) one_less inner) in
      more Filled syntax (suc fewer) last (canonical syntax (sequence tag vr items rest)) (sequence tag vr items rest) tag
      (Sequence syntax (Some (length octets)))
      (header_octets syntax tag vr (length octets)) octets (canonical syntax rest) (Items (list_of items)) rest
      (placed last tag t) head value spells
      (append_assoc (header_octets syntax tag vr (length octets)) octets (canonical syntax rest))
      (ap (λ (x : ItemList). sequence tag vr x rest) (sym (items_of-list_of items)) ∙ not_dropped tag vr (Items (list_of items)) rest t.no_length
      ∙ ap (λ (x : Vr). without_group_length tag x (Items (list_of items)) rest) p.is_sq)

  mutual
    written : (syntax : Syntax) (levels : ℕ) (last : Option Tag) (d : ElementList) → AreElements levels last d → HasLengths syntax d → IsReadBack syntax d
        → Spells Filled syntax levels last (canonical syntax d) d
    written syntax levels last no_elements facts lengths back = no_more Filled syntax levels last [] refl
    written syntax levels last (element tag vr octets rest) facts lengths back =
        plain_spelled syntax levels last tag vr octets rest facts.0 facts.1 lengths.0
        (written syntax levels (Some tag) rest facts.2 lengths.1 (back_plain syntax tag vr octets rest back))
    written syntax levels last (sequence tag vr items rest) facts lengths back =
        nested_spelled syntax levels last tag vr items rest facts.0 facts.1 facts.2 lengths.0 back
        (items_written syntax (levels - 1) items facts.3 lengths.1 (back_rest syntax tag vr items rest back).1)
        (written syntax levels (Some tag) rest facts.4 lengths.2 (back_rest syntax tag vr items rest back).0)

    items_written : (syntax : Syntax) (levels : ℕ) (items : ItemList) → AreItems levels items → ItemsHaveLengths syntax items → AreReadBack syntax items
        → SpellsItems Filled syntax levels (canonical_items syntax items) (list_of items)
    items_written syntax levels no_items facts lengths back = no_item Filled syntax levels [] refl
    items_written syntax levels (item d rest) facts lengths back =
        one_item Filled syntax levels (canonical_items syntax (item d rest)) (Some (length (canonical syntax d))) (item_header_of (length (canonical syntax d)))
        (canonical syntax d) (canonical_items syntax rest) d (list_of rest)
        (item_header (length (canonical syntax d)) lengths.0) refl (written syntax levels None d facts.0 lengths.1 (back_item syntax d rest back).0)
        (items_written syntax levels rest facts.1 lengths.2 (back_item syntax d rest back).1)
        (append_assoc (item_header_of (length (canonical syntax d))) (canonical syntax d) (canonical_items syntax rest))

  -- what is written spells its data set
  pub written_is_spelled : (syntax : Syntax) (d : ElementList) → IsDataSet d → HasLengths syntax d → IsReadBack syntax d
      → IsSpelled syntax (canonical syntax d) d
  written_is_spelled syntax d facts lengths back = written syntax 16 None d facts lengths back
