-- Headers, and the ends of elements and items: what is read is spelled so, and what is spelled so is read.
use Rattle.std.proofs.Common.{◌≡◌, ℕ, suc, ◌^◌, ◌<◌, ◌≤◌, Bool, true, false, not, cond, ltb, eqb, eq-eqb, ◌&&◌, List, [], ◌∷◌, ◌++◌, length, take, Option, Some, None, Result, Ok, refl, sym, ap, subst, ◌∙◌, append_assoc, lit<, arith}
use Rattle.std.specs.Int.{w16, w32, from_le_bytes, to_le_bytes}
use Rattle.std.proofs.lemmas.Bool.{le-ltb, eqb-true, eqb-false, ne_eqb, not-true, and_parts}
use Rattle.std.proofs.lemmas.List.{drop_at, length-append, nil_from_length}
use Rattle.dq_dataset.proofs.Types.{Tag, Vr, LengthForm, Two, Four, ReadFault, Truncated, BadVr, TagOrder, BadItem, TooDeep, Syntax, Implicit, Explicit, Bound, Filled, Delimited, Content, Header}
use Rattle.dq_vr.specs.Dictionary.{known_vr}
use Rattle.dq_vr.specs.Vr.{length_form_of, vr_with_letters}
use Rattle.dq_dataset.specs.Rules.{agrees, content_of, vr_of}
use Rattle.dq_dataset.specs.DataSetReader.{◌>>=◌, check, number_at, tag_at, long_length_at, length_at, vr_or_fault, vr_at, spelling_at, follows, may_nest, length_of, fits_enclosing, front_at, header_at, item_front_at, item_header_at, end_at}
use Rattle.dq_dataset.specs.Canonical.{tag_octets}
use Rattle.dq_dataset.specs.Grammar.{IsLengthBehind, IsSpelling, IsHeader, IsPlaced, IsItemHeader, IsEnd, delimiter}
use Rattle.dq_dataset.proofs.Fields.{IsBytes, bind_ok, check_ok, ok_is, Takes, Takes-then, wide16, wide32, number_takes, number_again, length_takes, length_again, length_four, tag_takes, tag_again}

IsBytes-rest : (b : ℕ) (bytes : List ℕ) → IsBytes (b ∷ bytes) → IsBytes bytes
IsBytes-rest b bytes h i = h (suc i)

-- ---- the length after letters

behind_takes : (form : LengthForm) (bytes : List ℕ) (extent : Option ℕ) (rest : List ℕ) → IsBytes bytes → length_at form bytes ≡ Ok (extent, rest)
    → (behind : List ℕ) × IsLengthBehind form extent behind × Takes bytes behind rest
unfolding length_at
behind_takes Two bytes extent rest ok e =
    let b = bind_ok (number_at w16 bytes) (λ n. Ok (Some n.0, n.1)) (extent, rest) e in
    let t = number_takes w16 (2 ^ 16) wide16 bytes b.0.0 b.0.1 ok b.1 in
    subst (λ (p : Option ℕ × List ℕ). (behind : List ℕ) × IsLengthBehind Two p.0 behind × Takes bytes behind p.1) (ok_is (Some b.0.0, b.0.1) (extent, rest) b.2)
    (to_le_bytes w16 b.0.0, (t.1, refl), t.0)
behind_takes Four bytes extent rest ok e =
    let b = bind_ok (number_at w16 bytes) (λ n. long_length_at n.1) (extent, rest) e in
    let t = number_takes w16 (2 ^ 16) wide16 bytes b.0.0 b.0.1 ok b.1 in
    let l = length_takes b.0.1 extent rest t.0.rest_fits b.2 in
    (to_le_bytes w16 b.0.0 ++ l.0, (to_le_bytes w16 b.0.0, refl, l.0, l.1, refl), Takes-then bytes (to_le_bytes w16 b.0.0) b.0.1 l.0 rest t.0 l.2)

reserved_again : (reserved rest : List ℕ) → length reserved ≡ 2 → number_at w16 (reserved ++ rest) ≡ Ok (from_le_bytes w16 (take 2 (reserved ++ rest)), rest)
reserved_again reserved rest two =
    let long : ltb (length (reserved ++ rest)) 2 ≡ false = le-ltb _ _ (omega (arith, length-append reserved rest)) in
    rw (long, drop_at reserved rest 2 two) refl

after_again : (form : LengthForm) (extent : Option ℕ) (behind rest : List ℕ) → IsLengthBehind form extent behind
    → length_at form (behind ++ rest) ≡ Ok (extent, rest)
unfolding length_at
after_again Two None behind rest h = absurd h
after_again Two (Some n) behind rest (lt, e) = rw (e, number_again w16 (2 ^ 16) wide16 n rest lt) refl
after_again Four extent behind rest (reserved, two, four, is, e) =
    rw (e, append_assoc reserved four rest, reserved_again reserved (four ++ rest) two) (length_again extent four rest is)

-- ---- the VR and the length

vr_named : (a b : ℕ) (bytes : List ℕ) (vr : Vr) (rest : List ℕ) (o : Option Vr) → vr_with_letters (a ∷ b ∷ []) ≡ o → vr_or_fault o bytes ≡ Ok (vr, rest)
    → (x : ℕ) × (y : ℕ) × (vr_with_letters (x ∷ y ∷ []) ≡ Some vr) × (a ∷ b ∷ bytes ≡ x ∷ y ∷ rest)
unfolding vr_or_fault
vr_named a b bytes vr rest None i h = absurd cc
vr_named a b bytes vr rest (Some v) i h = grind (arith, ok_is)

vr_takes : (bytes : List ℕ) (vr : Vr) (rest : List ℕ) → vr_at bytes ≡ Ok (vr, rest) → (a : ℕ) × (b : ℕ) × (vr_with_letters (a ∷ b ∷ []) ≡ Some vr)
    × (bytes ≡ a ∷ b ∷ rest)
unfolding vr_at
vr_takes bytes vr rest e = grind (arith, vr_named)

vr_again : (a b : ℕ) (rest : List ℕ) (vr : Vr) → vr_with_letters (a ∷ b ∷ []) ≡ Some vr → vr_at (a ∷ b ∷ rest) ≡ Ok (vr, rest)
unfolding vr_at vr_or_fault
vr_again a b rest vr e = rw e refl

abbrev length_step : Vr → Option ℕ × List ℕ → Result ((Option Vr × Option ℕ) × List ℕ) ReadFault
length_step vr n = Ok ((Some vr, n.0), n.1)

abbrev agreed_step : Vr × List ℕ → Unit {0} → Result ((Option Vr × Option ℕ) × List ℕ) ReadFault
agreed_step vr agreed = length_at (length_form_of vr.0) vr.1 >>= length_step vr.0

abbrev vr_step : Option Vr → Vr × List ℕ → Result ((Option Vr × Option ℕ) × List ℕ) ReadFault
vr_step known vr = check (agrees known vr.0) BadVr >>= agreed_step vr

pub spelling_takes : (syntax : Syntax) (known : Option Vr) (bytes : List ℕ) (spelled : Option Vr) (extent : Option ℕ) (rest : List ℕ) → IsBytes bytes
    → spelling_at syntax known bytes ≡ Ok ((spelled, extent), rest) → (behind : List ℕ) × IsSpelling syntax known spelled extent behind
    × Takes bytes behind rest
unfolding spelling_at
spelling_takes Implicit known bytes spelled extent rest ok e =
    let b = bind_ok (long_length_at bytes) (λ n. Ok ((None, n.0), n.1)) ((spelled, extent), rest) e in
    let l = length_takes bytes b.0.0 b.0.1 ok b.1 in
    subst (λ (p : (Option Vr × Option ℕ) × List ℕ). (behind : List ℕ) × IsSpelling Implicit known p.0.0 p.0.1 behind × Takes bytes behind p.1)
    (ok_is ((None, b.0.0), b.0.1) ((spelled, extent), rest) b.2) l
spelling_takes Explicit known bytes spelled extent rest ok e =
    let v = bind_ok (vr_at bytes) (vr_step known) ((spelled, extent), rest) e in
    let vr = v.0.0 in
    let c = check_ok (agrees known vr) BadVr (agreed_step v.0) ((spelled, extent), rest) v.2 in
    let b = bind_ok (length_at (length_form_of vr) v.0.1) (length_step vr) ((spelled, extent), rest) c.1 in
    let letters = vr_takes bytes vr v.0.1 v.1 in
    let rest_ok : IsBytes v.0.1 = IsBytes-rest letters.1 v.0.1 (IsBytes-rest letters.0 (letters.1 ∷ v.0.1) (subst IsBytes letters.3 ok)) in
    let l = behind_takes (length_form_of vr) v.0.1 b.0.0 b.0.1 rest_ok b.1 in
    let parts = letters.3 ∙ ap (λ (x : List ℕ). letters.0 ∷ letters.1 ∷ x) l.2.parts in
    subst (λ (p : (Option Vr × Option ℕ) × List ℕ). (behind : List ℕ) × IsSpelling Explicit known p.0.0 p.0.1 behind × Takes bytes behind p.1)
    (ok_is ((Some vr, b.0.0), b.0.1) ((spelled, extent), rest) b.2)
    (letters.0 ∷ letters.1 ∷ l.0, (c.0, letters.0, letters.1, letters.2, l.0, l.1, refl), record { parts = parts; rest_fits = l.2.rest_fits })

pub spelling_again : (syntax : Syntax) (known spelled : Option Vr) (extent : Option ℕ) (behind rest : List ℕ) → IsSpelling syntax known spelled extent behind
    → spelling_at syntax known (behind ++ rest) ≡ Ok ((spelled, extent), rest)
unfolding spelling_at
spelling_again Implicit known None extent behind rest h = rw (length_again extent behind rest h) refl
spelling_again Implicit known (Some vr) extent behind rest h = absurd h
spelling_again Explicit known None extent behind rest h = absurd h
spelling_again Explicit known (Some vr) extent behind rest (agreed, a, b, named, more, is, e) =
    rw (e, vr_again a b (more ++ rest) vr named, agreed, after_again (length_form_of vr) extent more rest is) refl

after_long : (form : LengthForm) (extent : Option ℕ) (behind : List ℕ) → IsLengthBehind form extent behind → 2 ≤ length behind
after_long form extent behind h = grind (arith, length-append)

pub spelling_long : (syntax : Syntax) (known spelled : Option Vr) (extent : Option ℕ) (behind : List ℕ) → IsSpelling syntax known spelled extent behind
    → 4 ≤ length behind
spelling_long syntax known spelled extent behind h = grind (arith, length_four, after_long)

-- ---- the header of an element

abbrev pub header_of : Tag → Content → Header
header_of tag content = record { tag = tag; vr = vr_of (known_vr tag) content; content = content }

abbrev pub content_step : ℕ → Tag → List ℕ → Content → Result (Header × List ℕ) ReadFault
content_step levels tag rest content = check (may_nest levels content) TooDeep >>= λ shallow. Ok (header_of tag content, rest)

abbrev pub spelling_step : ℕ → Tag → (Option Vr × Option ℕ) × List ℕ → Result (Header × List ℕ) ReadFault
spelling_step levels tag spelling = content_of (known_vr tag) spelling.0.0 spelling.0.1 >>= content_step levels tag spelling.1

abbrev pub rises_step : Syntax → ℕ → Tag → List ℕ → Unit {0} → Result (Header × List ℕ) ReadFault
rises_step syntax levels tag rest rises = spelling_at syntax (known_vr tag) rest >>= spelling_step levels tag

abbrev pub placed_step : Syntax → ℕ → Option Tag → Tag → List ℕ → Unit {0} → Result (Header × List ℕ) ReadFault
placed_step syntax levels last tag rest placed = check (follows last tag) TagOrder >>= rises_step syntax levels tag rest

abbrev pub tag_step : Syntax → ℕ → Option Tag → Tag × List ℕ → Result (Header × List ℕ) ReadFault
tag_step syntax levels last tag = check (not (eqb tag.0.group 0xFFFE)) BadItem >>= placed_step syntax levels last tag.0 tag.1

abbrev pub fits_step : Header × List ℕ → Result (Header × List ℕ) ReadFault
fits_step h = check (fits_enclosing (length_of h.0.content) h.1) Truncated >>= λ whole. Ok h

-- a header that was read
pub record ReadsHeader (syntax : Syntax) (levels : ℕ) (last : Option Tag) (bytes : List ℕ) (read : Header) (rest : List ℕ) : Type 0 where
  pub octets : List ℕ
  pub takes : Takes bytes octets rest
  pub placed : IsPlaced last read.tag
  pub header : IsHeader syntax read.tag read.content octets
  pub vr : read.vr ≡ vr_of (known_vr read.tag) read.content
  pub nests : may_nest levels read.content ≡ true

pub front_takes : (syntax : Syntax) (levels : ℕ) (last : Option Tag) (bytes : List ℕ) (header : Header) (rest : List ℕ) → IsBytes bytes
    → front_at syntax levels last bytes ≡ Ok (header, rest) → ReadsHeader syntax levels last bytes header rest
unfolding front_at
front_takes syntax levels last bytes header rest ok e =
    let a = bind_ok (tag_at bytes) (tag_step syntax levels last) (header, rest) e in
    let tag = a.0.0 in
    let b = check_ok (not (eqb tag.group 0xFFFE)) BadItem (placed_step syntax levels last tag a.0.1) (header, rest) a.2 in
    let c = check_ok (follows last tag) TagOrder (rises_step syntax levels tag a.0.1) (header, rest) b.1 in
    let d = bind_ok (spelling_at syntax (known_vr tag) a.0.1) (spelling_step levels tag) (header, rest) c.1 in
    let f = bind_ok (content_of (known_vr tag) d.0.0.0 d.0.0.1) (content_step levels tag d.0.1) (header, rest) d.2 in
    let g = check_ok (may_nest levels f.0) TooDeep (λ shallow. Ok (header_of tag f.0, d.0.1)) (header, rest) f.2 in
    let t = tag_takes bytes tag a.0.1 ok a.1 in
    let s = spelling_takes syntax (known_vr tag) a.0.1 d.0.0.0 d.0.0.1 d.0.1 t.0.rest_fits d.1 in
    let found : ReadsHeader syntax levels last bytes (header_of tag f.0) d.0.1 = record {
      octets = tag_octets tag ++ s.0;
      takes = Takes-then bytes (tag_octets tag) a.0.1 s.0 d.0.1 t.0 s.2;
      placed = record { rises = c.0; no_delimiter = eqb-false tag.group 0xFFFE (not-true _ b.0); group = t.1; number = t.2 };
      header = record { spelled = d.0.0.0; extent = d.0.0.1; allowed = f.1; behind = s.0; spelling = s.1; whole = refl };
      vr = refl;
      nests = g.0;
    } in
    subst (λ (p : Header × List ℕ). ReadsHeader syntax levels last bytes p.0 p.1) (ok_is (header_of tag f.0, d.0.1) (header, rest) g.1) found

pub front_again : (syntax : Syntax) (levels : ℕ) (last : Option Tag) (tag : Tag) (content : Content) (octets rest : List ℕ)
    → IsPlaced last tag → IsHeader syntax tag content octets → may_nest levels content ≡ true
    → front_at syntax levels last (octets ++ rest) ≡ Ok (header_of tag content, rest)
unfolding front_at
front_again syntax levels last tag content octets rest placed header nests =
    grind (arith, length-append, spelling_long, append_assoc, ne_eqb, tag_again, spelling_again)

pub header_takes : (syntax : Syntax) (levels : ℕ) (last : Option Tag) (bytes : List ℕ) (header : Header) (rest : List ℕ) → IsBytes bytes
    → header_at syntax levels last bytes ≡ Ok (header, rest)
    → ReadsHeader syntax levels last bytes header rest × (fits_enclosing (length_of header.content) rest ≡ true)
unfolding header_at
header_takes syntax levels last bytes header rest ok e = grind (arith, bind_ok, check_ok, ok_is, front_takes)

pub header_again : (syntax : Syntax) (levels : ℕ) (last : Option Tag) (tag : Tag) (content : Content) (octets rest : List ℕ)
    → IsPlaced last tag → IsHeader syntax tag content octets → may_nest levels content ≡ true → fits_enclosing (length_of content) rest ≡ true
    → header_at syntax levels last (octets ++ rest) ≡ Ok (header_of tag content, rest)
unfolding header_at
header_again syntax levels last tag content octets rest placed header nests whole =
    rw (front_again syntax levels last tag content octets rest placed header nests, whole) refl

-- a header has at least 8 octets
pub header_long : (syntax : Syntax) (tag : Tag) (content : Content) (octets : List ℕ) → IsHeader syntax tag content octets → 8 ≤ length octets
header_long syntax tag content octets header = grind (arith, spelling_long, length-append)

-- ---- the header of an item

abbrev pub item_length_step : Option ℕ × List ℕ → Result (Option ℕ × List ℕ) ReadFault
item_length_step n = check (fits_enclosing n.0 n.1) Truncated >>= λ whole. Ok n

abbrev item_step : Tag × List ℕ → Result (Option ℕ × List ℕ) ReadFault
item_step tag = check (eqb tag.0.group 0xFFFE && eqb tag.0.element 0xE000) BadItem >>= λ is_item. long_length_at tag.1

pub delimiter_is : (tag : Tag) (element : ℕ) → (eqb tag.group 0xFFFE && eqb tag.element element) ≡ true → tag ≡ record { group = 0xFFFE; element = element }
delimiter_is tag element e = grind (arith, and_parts, eqb-true)

pub record ReadsItem (bytes : List ℕ) (extent : Option ℕ) (rest : List ℕ) : Type 0 where
  pub octets : List ℕ
  pub takes : Takes bytes octets rest
  pub header : IsItemHeader extent octets

pub item_front_takes : (bytes : List ℕ) (extent : Option ℕ) (rest : List ℕ) → IsBytes bytes → item_front_at bytes ≡ Ok (extent, rest)
    → ReadsItem bytes extent rest
unfolding item_front_at
item_front_takes bytes extent rest ok e =
    let a = bind_ok (tag_at bytes) item_step (extent, rest) e in
    let c = check_ok (eqb a.0.0.group 0xFFFE && eqb a.0.0.element 0xE000) BadItem (λ is_item. long_length_at a.0.1) (extent, rest) a.2 in
    let t = tag_takes bytes a.0.0 a.0.1 ok a.1 in
    let l = length_takes a.0.1 extent rest t.0.rest_fits c.1 in
    let is = delimiter_is a.0.0 0xE000 c.0 in
    record {
      octets = tag_octets a.0.0 ++ l.0;
      takes = Takes-then bytes (tag_octets a.0.0) a.0.1 l.0 rest t.0 l.2;
      header = record { four = l.0; is_length = l.1; whole = ap (λ (x : Tag). tag_octets x ++ l.0) is };
    }

pub item_front_again : (extent : Option ℕ) (octets rest : List ℕ) → IsItemHeader extent octets
    → item_front_at (octets ++ rest) ≡ Ok (extent, rest)
unfolding item_front_at
item_front_again extent octets rest header =
    let item : Tag = record { group = 0xFFFE; element = 0xE000 } in
    let long : 4 ≤ length (header.four ++ rest) = omega (arith, length-append header.four rest, length_four extent header.four header.is_length) in
    let e : octets ++ rest ≡ tag_octets item ++ (header.four ++ rest) = ap (λ (x : List ℕ). x ++ rest) header.whole
    ∙ append_assoc (tag_octets item) header.four rest in
    rw (e, tag_again item (header.four ++ rest) (lit< tt) (lit< tt) long, length_again extent header.four rest header.is_length) refl

pub item_takes : (bytes : List ℕ) (extent : Option ℕ) (rest : List ℕ) → IsBytes bytes → item_header_at bytes ≡ Ok (extent, rest)
    → ReadsItem bytes extent rest × (fits_enclosing extent rest ≡ true)
unfolding item_header_at
item_takes bytes extent rest ok e = grind (arith, bind_ok, check_ok, ok_is, item_front_takes)

pub item_again : (extent : Option ℕ) (octets rest : List ℕ) → IsItemHeader extent octets → fits_enclosing extent rest ≡ true
    → item_header_at (octets ++ rest) ≡ Ok (extent, rest)
unfolding item_header_at
item_again extent octets rest header whole = rw (item_front_again extent octets rest header, whole) refl

pub item_long : (extent : Option ℕ) (octets : List ℕ) → IsItemHeader extent octets → 8 ≤ length octets
item_long extent octets header =
    omega (arith, ap length header.whole, length-append (delimiter 0xE000) header.four, length_four extent header.four header.is_length)

-- ---- ends

-- what may be left after a bound: nothing where the octets are filled
abbrev pub Trails : Bound → List ℕ → Type 0
Trails Filled rest = rest ≡ []
Trails Delimited rest = Unit {0}

filled_end : (b : Bool) (bytes rest : List ℕ) → cond b (Some bytes) None ≡ Some rest → (b ≡ true) × (bytes ≡ rest)
filled_end true bytes rest e = (refl, cc)
filled_end false bytes rest e = absurd cc

abbrev pub zero_step : ℕ × List ℕ → Result (Option (List ℕ)) ReadFault
zero_step n = check (eqb n.0 0) BadItem >>= λ ok. Ok (Some n.1)

abbrev pub end_step : ℕ → Tag × List ℕ → Result (Option (List ℕ)) ReadFault
end_step end tag = cond (eqb tag.0.group 0xFFFE && eqb tag.0.element end) (number_at w32 tag.1 >>= zero_step) (Ok None)

delimited_end : (b : Bool) (r : Result (Option (List ℕ)) ReadFault) (rest : List ℕ) → cond b r (Ok None) ≡ Ok (Some rest) → (b ≡ true) × (r ≡ Ok (Some rest))
delimited_end true r rest e = (refl, e)
delimited_end false r rest e = absurd cc

pub record ReadsEnd (bound : Bound) (end : ℕ) (bytes rest : List ℕ) : Type 0 where
  pub octets : List ℕ
  pub takes : Takes bytes octets rest
  pub is_end : IsEnd bound end octets
  pub trails : Trails bound rest

pub end_takes : (bound : Bound) (end : ℕ) (bytes rest : List ℕ) → IsBytes bytes → end_at bound end bytes ≡ Ok (Some rest) → ReadsEnd bound end bytes rest
unfolding end_at
end_takes Filled end bytes rest ok e =
    let f = filled_end (eqb (length bytes) 0) bytes rest (ok_is _ _ e) in
    let none = nil_from_length bytes (eqb-true (length bytes) 0 f.0) in
    record { octets = []; takes = record { parts = f.1; rest_fits = subst IsBytes f.1 ok }; is_end = refl; trails = sym f.1 ∙ none }
end_takes Delimited end bytes rest ok e =
    let a = bind_ok (tag_at bytes) (end_step end) (Some rest) e in
    let d = delimited_end (eqb a.0.0.group 0xFFFE && eqb a.0.0.element end) (number_at w32 a.0.1 >>= zero_step) rest a.2 in
    let n = bind_ok (number_at w32 a.0.1) zero_step (Some rest) d.1 in
    let z = check_ok (eqb n.0.0 0) BadItem (λ ok. Ok (Some n.0.1)) (Some rest) n.2 in
    let t = tag_takes bytes a.0.0 a.0.1 ok a.1 in
    let v = number_takes w32 (2 ^ 32) wide32 a.0.1 n.0.0 n.0.1 t.0.rest_fits n.1 in
    let is = delimiter_is a.0.0 end d.0 in
    let zero_is = eqb-true n.0.0 0 z.0 in
    let both = Takes-then bytes (tag_octets a.0.0) a.0.1 (to_le_bytes w32 n.0.0) n.0.1 t.0 v.0 in
    let left = ok_is (Some n.0.1) (Some rest) z.1 in
    let same : n.0.1 ≡ rest = cc in
    record {
      octets = tag_octets a.0.0 ++ to_le_bytes w32 n.0.0;
      takes = subst (λ (x : List ℕ). Takes bytes (tag_octets a.0.0 ++ to_le_bytes w32 n.0.0) x) same both;
      is_end = λ i. tag_octets (is i) ++ to_le_bytes w32 (zero_is i);
      trails = tt;
    }

pub end_again : (bound : Bound) (end : ℕ) (octets rest : List ℕ) → end < 2 ^ 16 → IsEnd bound end octets → Trails bound rest
    → end_at bound end (octets ++ rest) ≡ Ok (Some rest)
unfolding end_at
end_again Filled end octets rest lt is trails = rw (is, trails) refl
end_again Delimited end octets rest lt is trails =
    let tag : Tag = record { group = 0xFFFE; element = end } in
    let long : 4 ≤ length (to_le_bytes w32 0 ++ rest) = omega (arith, length-append (to_le_bytes w32 0) rest) in
    let e : octets ++ rest ≡ tag_octets tag ++ (to_le_bytes w32 0 ++ rest) = ap (λ (x : List ℕ). x ++ rest) is
    ∙ append_assoc (tag_octets tag) (to_le_bytes w32 0) rest in
    let same : eqb end end ≡ true = eq-eqb end end refl in
    rw (e, tag_again tag (to_le_bytes w32 0 ++ rest) (lit< tt) lt long, same, number_again w32 (2 ^ 32) wide32 0 rest (lit< tt)) refl

-- no end stands where another tag does
end_other : (bound : Bound) (end : ℕ) (tag : Tag) (behind : List ℕ) → tag.group < 2 ^ 16 → tag.element < 2 ^ 16 → 4 ≤ length behind
    → (eqb tag.group 0xFFFE && eqb tag.element end) ≡ false → end_at bound end (tag_octets tag ++ behind) ≡ Ok None
unfolding end_at
end_other Filled end tag behind g n long other = grind (arith, ne_eqb, length-append)
end_other Delimited end tag behind g n long other = rw (tag_again tag behind g n long, other) refl

-- where a header stands, nothing ends
pub no_end_before : (bound : Bound) (last : Option Tag) (syntax : Syntax) (tag : Tag) (content : Content) (header behind : List ℕ)
    → IsPlaced last tag → IsHeader syntax tag content header → end_at bound 0xE00D (header ++ behind) ≡ Ok None
no_end_before bound last syntax tag content header behind placed h =
    grind (arith, spelling_long, ne_eqb, append_assoc, end_other, length-append)

pub no_end_before_item : (bound : Bound) (extent : Option ℕ) (header behind : List ℕ)
    → IsItemHeader extent header → end_at bound 0xE0DD (header ++ behind) ≡ Ok None
no_end_before_item bound extent header behind h =
    let four = length_four extent h.four h.is_length in
    let item : Tag = record { group = 0xFFFE; element = 0xE000 } in
    ap (end_at bound 0xE0DD) (ap (λ (x : List ℕ). x ++ behind) h.whole ∙ append_assoc (tag_octets item) h.four behind)
    ∙ end_other bound 0xE0DD item (h.four ++ behind) (lit< tt) (lit< tt) (omega (arith, length-append h.four behind, four)) refl
