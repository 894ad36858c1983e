-- Numbers, tags and lengths that are read are spelled so, and what is spelled so is read.
use Rattle.std.proofs.Common.{◌≡◌, ℕ, ◌+◌, ◌^◌, ◌<◌, ◌≤◌, Bool, true, false, cond, ltb, eqb, List, ◌++◌, length, get_or, take, drop, Option, Some, None, Result, Ok, Err, refl, sym, ap, subst, ◌∙◌, append_assoc, lit<, arith, inl, inr, ◌⊎◌}
use Rattle.std.specs.Int.{Width, w16, w32, byte_len, from_le_bytes, to_le_bytes}
use Rattle.std.proofs.lemmas.Bool.{cases_lt, ltb-false, le-ltb, eqb-true, eqb-false, ne_eqb}
use Rattle.std.proofs.lemmas.List.{take_at, drop_at, take-append-drop, length-append, length-take, get_or-drop, get_or-take, get_or_past}
use Rattle.std.proofs.lemmas.Nat.{le_bytes_2, le_bytes_4, from_le_bytes-to_le_bytes_2, from_le_bytes-to_le_bytes_4}
use Rattle.dq_dataset.proofs.Types.{Tag, ReadFault, Truncated}
use Rattle.dq_dataset.specs.DataSetReader.{◌>>=◌, check, number_at, tag_at, long_length_at}
use Rattle.dq_dataset.specs.Canonical.{tag_octets}
use Rattle.dq_dataset.specs.Grammar.{IsLength}

abbrev pub IsBytes : List ℕ → Type 0
IsBytes bytes = (i : ℕ) → get_or bytes i 0 < 256

pub IsBytes-drop : (n : ℕ) (bytes : List ℕ) → IsBytes bytes → IsBytes (drop n bytes)
IsBytes-drop n bytes h i = rw get_or-drop (h (n + i))

pub IsBytes-take : (n : ℕ) (bytes : List ℕ) → IsBytes bytes → IsBytes (take n bytes)
IsBytes-take n bytes h i = grind (arith, cases_lt, get_or-take, get_or_past, length-take)

-- the value of a step that did not fail
pub bind_ok : {A B : Type 0} (r : Result A ReadFault) (f : A → Result B ReadFault) (y : B) → (r >>= f) ≡ Ok y → (x : A) × (r ≡ Ok x) × (f x ≡ Ok y)
bind_ok (Ok x) f y e = (x, refl, e)
bind_ok (Err d) f y e = absurd cc

-- the fault of a step, or of what follows it
pub bind_err : {A B : Type 0} (r : Result A ReadFault) (k : A → Result B ReadFault) (f : ReadFault) → (r >>= k) ≡ Err f
    → (r ≡ Err f) ⊎ ((x : A) × (r ≡ Ok x) × (k x ≡ Err f))
bind_err (Ok x) k f e = inr (x, refl, e)
bind_err (Err g) k f e = inl (let same : g ≡ f = cc in ap (λ (x : ReadFault). Err x) same)

-- a test that did not fail
pub unless_ok : {A : Type 0} (b : Bool) (d : ReadFault) (r : Result A ReadFault) (y : A) → cond b (Err d) r ≡ Ok y → (b ≡ false) × (r ≡ Ok y)
unless_ok true d r y e = absurd cc
unless_ok false d r y e = (refl, e)

abbrev pub done : {A : Type 0} → A → Result A ReadFault
done x = Ok x

pub ok_is : {A : Type 0} (x y : A) → done x ≡ done y → x ≡ y
ok_is x y e = cc

abbrev failed : (A : Type 0) → ReadFault → Result A ReadFault
failed A f = Err f

pub err_is : {A : Type 0} (f g : ReadFault) → failed A f ≡ failed A g → f ≡ g
err_is f g e = cc

pub no_fault : {A : Type 0} (x : A) (f : ReadFault) → done x ≡ Err f → ⊥
no_fault x f e = absurd cc

-- what a reader took from the front
pub record Takes (bytes text rest : List ℕ) : Type 0 where
  pub parts : bytes ≡ text ++ rest
  pub rest_fits : IsBytes rest

pub Takes-then : (a x b y c : List ℕ) → Takes a x b → Takes b y c → Takes a (x ++ y) c
Takes-then a x b y c p q = record { parts = p.parts ∙ ap (λ (t : List ℕ). x ++ t) q.parts ∙ sym (append_assoc x y c); rest_fits = q.rest_fits }

-- ---- numbers

pub record IsWide (w : Width) (limit : ℕ) : Type 0 where
  pub len : (n : ℕ) → length (to_le_bytes w n) ≡ byte_len w
  pub back : (bytes : List ℕ) → length bytes ≡ byte_len w → IsBytes bytes → to_le_bytes w (from_le_bytes w bytes) ≡ bytes
  pub again : (n : ℕ) → n < limit → from_le_bytes w (to_le_bytes w n) ≡ n
  pub below : (bytes : List ℕ) → IsBytes bytes → from_le_bytes w bytes < limit

pub wide16 : IsWide w16 (2 ^ 16)
wide16 = record {
  len = λ n. refl;
  back = λ bytes len fits. le_bytes_2 bytes _ len fits refl;
  again = λ n lt. from_le_bytes-to_le_bytes_2 n lt;
  below = λ bytes fits. omega (arith, fits 0, fits 1);
}

pub wide32 : IsWide w32 (2 ^ 32)
wide32 = record {
  len = λ n. refl;
  back = λ bytes len fits. le_bytes_4 bytes _ len fits refl;
  again = λ n lt. from_le_bytes-to_le_bytes_4 n lt;
  below = λ bytes fits. omega (arith, fits 0, fits 1, fits 2, fits 3);
}

pub number_takes : (w : Width) (limit : ℕ) (wide : IsWide w limit) (bytes : List ℕ) (n : ℕ) (rest : List ℕ) → IsBytes bytes → number_at w bytes ≡ Ok (n, rest)
    → Takes bytes (to_le_bytes w n) rest × (n < limit)
number_takes w limit wide bytes n rest fits e =
    let text = take (byte_len w) bytes in
    let g = unless_ok (ltb (length bytes) (byte_len w)) Truncated (Ok (from_le_bytes w text, drop (byte_len w) bytes)) (n, rest) e in
    let long : byte_len w ≤ length bytes = ltb-false _ _ g.0 in
    let ok = IsBytes-take (byte_len w) bytes fits in
    let front = wide.back text (omega (arith, length-take (byte_len w) bytes)) ok in
    subst (λ (p : ℕ × List ℕ). Takes bytes (to_le_bytes w p.0) p.1 × (p.0 < limit)) (ok_is (from_le_bytes w text, drop (byte_len w) bytes) (n, rest) g.1)
    (record { parts = rw front (sym (take-append-drop (byte_len w) bytes)); rest_fits = IsBytes-drop (byte_len w) bytes fits }, wide.below text ok)

pub number_again : (w : Width) (limit : ℕ) (wide : IsWide w limit) (n : ℕ) (rest : List ℕ) → n < limit → number_at w (to_le_bytes w n ++ rest) ≡ Ok (n, rest)
number_again w limit wide n rest lt =
    let len = wide.len n in
    let long : ltb (length (to_le_bytes w n ++ rest)) (byte_len w) ≡ false = le-ltb _ _ (omega (arith, length-append (to_le_bytes w n) rest)) in
    rw (long, take_at (to_le_bytes w n) rest (byte_len w) len, drop_at (to_le_bytes w n) rest (byte_len w) len, wide.again n lt) refl

-- ---- tests

pub check_ok : {B : Type 0} (b : Bool) (d : ReadFault) (f : Unit {0} → Result B ReadFault) (y : B) → (check b d >>= f) ≡ Ok y → (b ≡ true) × (f tt ≡ Ok y)
check_ok true d f y e = (refl, e)
check_ok false d f y e = absurd cc

-- ---- lengths

abbrev extent_of : Bool → ℕ → Option ℕ
extent_of b n = cond b None (Some n)

IsLength-number : (n : ℕ) (b : Bool) → eqb n 0xFFFFFFFF ≡ b → n < 2 ^ 32 → IsLength (extent_of b n) (to_le_bytes w32 n)
IsLength-number n true e lt = ap (to_le_bytes w32) (eqb-true n 0xFFFFFFFF e)
IsLength-number n false e lt = let ne = eqb-false n 0xFFFFFFFF e in (omega arith, refl)

pub length_takes : (bytes : List ℕ) (extent : Option ℕ) (rest : List ℕ) → IsBytes bytes → long_length_at bytes ≡ Ok (extent, rest)
    → (four : List ℕ) × IsLength extent four × Takes bytes four rest
unfolding long_length_at
length_takes bytes extent rest fits e =
    let b = bind_ok (number_at w32 bytes) (λ n. Ok (extent_of (eqb n.0 0xFFFFFFFF) n.0, n.1)) (extent, rest) e in
    let t = number_takes w32 (2 ^ 32) wide32 bytes b.0.0 b.0.1 fits b.1 in
    let n = b.0.0 in
    let is = IsLength-number n (eqb n 0xFFFFFFFF) refl t.1 in
    subst (λ (p : Option ℕ × List ℕ). (four : List ℕ) × IsLength p.0 four × Takes bytes four p.1)
    (ok_is (extent_of (eqb n 0xFFFFFFFF) n, b.0.1) (extent, rest) b.2) (to_le_bytes w32 n, is, t.0)

pub length_again : (extent : Option ℕ) (four rest : List ℕ) → IsLength extent four → long_length_at (four ++ rest) ≡ Ok (extent, rest)
unfolding long_length_at
length_again None four rest e = rw (e, number_again w32 (2 ^ 32) wide32 0xFFFFFFFF rest (lit< tt)) refl
length_again (Some n) four rest (lt, e) = grind (arith, ne_eqb, number_again, wide32)

pub length_four : (extent : Option ℕ) (four : List ℕ) → IsLength extent four → length four ≡ 4
length_four None four e = ap length e
length_four (Some n) four e = ap length e.1

-- ---- tags

abbrev tag_number : ℕ → ℕ × List ℕ → Result (Tag × List ℕ) ReadFault
tag_number group number = Ok (record { group = group; element = number.0 }, number.1)

abbrev tag_group : ℕ × List ℕ → Result (Tag × List ℕ) ReadFault
tag_group group = number_at w16 group.1 >>= tag_number group.0

pub tag_takes : (bytes : List ℕ) (tag : Tag) (rest : List ℕ) → IsBytes bytes → tag_at bytes ≡ Ok (tag, rest)
    → Takes bytes (tag_octets tag) rest × (tag.group < 2 ^ 16) × (tag.element < 2 ^ 16)
unfolding tag_at
tag_takes bytes tag rest fits e =
    let u = unless_ok (ltb (length bytes) 8) Truncated (number_at w16 bytes >>= tag_group) (tag, rest) e in
    let a = bind_ok (number_at w16 bytes) tag_group (tag, rest) u.1 in
    let b = bind_ok (number_at w16 a.0.1) (tag_number a.0.0) (tag, rest) a.2 in
    let t = number_takes w16 (2 ^ 16) wide16 bytes a.0.0 a.0.1 fits a.1 in
    let v = number_takes w16 (2 ^ 16) wide16 a.0.1 b.0.0 b.0.1 t.0.rest_fits b.1 in
    let both = Takes-then bytes (to_le_bytes w16 a.0.0) a.0.1 (to_le_bytes w16 b.0.0) b.0.1 t.0 v.0 in
    let same = ok_is (record { group = a.0.0; element = b.0.0 }, b.0.1) (tag, rest) b.2 in
    subst (λ (p : Tag × List ℕ). Takes bytes (tag_octets p.0) p.1 × (p.0.group < 2 ^ 16) × (p.0.element < 2 ^ 16)) same (both, t.1, v.1)

pub tag_again : (tag : Tag) (rest : List ℕ) → tag.group < 2 ^ 16 → tag.element < 2 ^ 16 → 4 ≤ length rest → tag_at (tag_octets tag ++ rest) ≡ Ok (tag, rest)
unfolding tag_at
tag_again tag rest g e long = grind (arith, le-ltb, length-append, number_again, wide16)
