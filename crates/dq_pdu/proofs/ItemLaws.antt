-- Items and presentation data values: what is read is spelled so, and what is spelled so is read.
use Rattle.std.proofs.Common.{◌≡◌, ℕ, ◌+◌, ◌-◌, ◌/◌, ◌%◌, ◌≤◌, eqb, ltb, List, [], ◌∷◌, ◌++◌, length, take, drop, Some, refl, sym, ap, subst, arith, length-append}
use Rattle.std.specs.Prelude.{◌||◌}
use Rattle.std.specs.Int.{w16, w32, from_be_bytes}
use Rattle.std.proofs.lemmas.Bool.{ltb-false, le-ltb, or_parts}
use Rattle.std.proofs.lemmas.List.{take-append-drop, length-take-le, take_at, drop_at}
use Rattle.dq_pdu.specs.declared.pdu_reader.Item.{Item}
use Rattle.dq_pdu.specs.declared.pdu.Pdv.{Pdv}
use Rattle.dq_pdu.specs.Octets.{Fills, parts_of}
use Rattle.dq_pdu.specs.Spelling.{IsItem, IsPdv}
use Rattle.dq_pdu.specs.PduReader.{item_at, pdv_at}
use Rattle.dq_pdu.specs.Shrinking.{test_held, item_shrinks, pdv_shrinks}
use Rattle.dq_pdu.proofs.PartLaws.{Sound, Complete, fills_from, parts_from, fills_once}

abbrev pub IsSpelledAt : {A : Type 0} → (A → List ℕ → Type 0) → List ℕ → A × List ℕ → Type 0
IsSpelledAt Part octets x = (front : List ℕ) × (octets ≡ front ++ x.1) × Part x.0 front

-- ---- items

item_spelled : (octets : List ℕ) (x : Item × List ℕ) → item_at octets ≡ Some x → IsSpelledAt IsItem octets x
unfolding item_at
item_spelled [] x e = absurd cc
item_spelled (a ∷ []) x e = absurd cc
item_spelled (a ∷ b ∷ []) x e = absurd cc
item_spelled (a ∷ b ∷ c ∷ []) x e = absurd cc
item_spelled (a ∷ b ∷ c ∷ d ∷ rest) x e =
    let n = from_be_bytes w16 (c ∷ d ∷ []) in
    let g = test_held (ltb (length (a ∷ b ∷ c ∷ d ∷ rest)) 4 || ltb (length rest) n) (record { kind = a; octets = take n rest }, drop n rest) x e in
    let t = or_parts (ltb (length (a ∷ b ∷ c ∷ d ∷ rest)) 4) (ltb (length rest) n) g.0 in
    let long : n ≤ length rest = ltb-false _ _ t.1 in
    subst (IsSpelledAt IsItem (a ∷ b ∷ c ∷ d ∷ rest)) g.1 (
      a ∷ b ∷ c ∷ d ∷ take n rest,
      ap (λ (r : List ℕ). a ∷ b ∷ c ∷ d ∷ r) (sym (take-append-drop n rest)),
      record { reserved = b; size = c ∷ d ∷ []; spelled = refl; sized = record { wide = refl; value = sym (length-take-le n rest long) } },
    )

pub item_sound : Sound IsItem item_at
item_sound octets item behind e = item_spelled octets (item, behind) e

item_read : (kind b : ℕ) (size octets behind : List ℕ) → length size ≡ 2 → from_be_bytes w16 size ≡ length octets
    → item_at (kind ∷ b ∷ (size ++ octets) ++ behind) ≡ Some (record { kind = kind; octets = octets }, behind)
unfolding item_at
item_read kind b [] octets behind two n = absurd (omega arith)
item_read kind b (c ∷ []) octets behind two n = absurd (omega arith)
item_read kind b (c ∷ d ∷ []) octets behind two n = grind (arith, le-ltb, length-append, take_at, drop_at)
item_read kind b (c ∷ d ∷ f ∷ fs) octets behind two n = absurd (omega arith)

pub item_complete : Complete IsItem item_at
item_complete item front behind is = grind (arith, item_read)

pub items_fill : (octets : List ℕ) (items : List Item) → parts_of item_at octets ≡ Some items → Fills IsItem items octets
items_fill octets items e = fills_from IsItem item_at item_sound octets items e

pub items_read : (items : List Item) (octets : List ℕ) → Fills IsItem items octets → parts_of item_at octets ≡ Some items
items_read items octets fills = parts_from IsItem item_at item_shrinks item_complete items octets fills

pub items_once : (items others : List Item) (octets : List ℕ) → Fills IsItem items octets → Fills IsItem others octets → items ≡ others
items_once items others octets f g = fills_once IsItem item_at item_shrinks item_complete items others octets f g

-- ---- presentation data values

abbrev value_of : ℕ → ℕ → List ℕ → Pdv
value_of context control octets = record { context = context; command = eqb (control % 2) 1; last = eqb (control / 2 % 2) 1; octets = octets }

pdv_spelled : (octets : List ℕ) (x : Pdv × List ℕ) → pdv_at octets ≡ Some x → IsSpelledAt IsPdv octets x
unfolding pdv_at
pdv_spelled [] x e = absurd cc
pdv_spelled (a ∷ []) x e = absurd cc
pdv_spelled (a ∷ b ∷ []) x e = absurd cc
pdv_spelled (a ∷ b ∷ c ∷ []) x e = absurd cc
pdv_spelled (a ∷ b ∷ c ∷ d ∷ []) x e = absurd cc
pdv_spelled (a ∷ b ∷ c ∷ d ∷ f ∷ []) x e = absurd cc
pdv_spelled (a ∷ b ∷ c ∷ d ∷ f ∷ h ∷ rest) x e =
    let n = from_be_bytes w32 (a ∷ b ∷ c ∷ d ∷ []) in
    let whole = a ∷ b ∷ c ∷ d ∷ f ∷ h ∷ rest in
    let g = test_held ((ltb (length whole) 6 || ltb n 2) || ltb (length (f ∷ h ∷ rest)) n) (value_of f h (take (n - 2) rest), drop (n - 2) rest) x e in
    let t = or_parts (ltb (length whole) 6 || ltb n 2) (ltb (length (f ∷ h ∷ rest)) n) g.0 in
    let s = or_parts (ltb (length whole) 6) (ltb n 2) t.0 in
    let two : 2 ≤ n = ltb-false _ _ s.1 in
    let long : n ≤ length (f ∷ h ∷ rest) = ltb-false _ _ t.1 in
    let size : n ≡ length (take (n - 2) rest) + 2 = omega (arith, two, long, length-take-le (n - 2) rest (omega (arith, two, long))) in
    subst (IsSpelledAt IsPdv whole) g.1 (
      a ∷ b ∷ c ∷ d ∷ f ∷ h ∷ take (n - 2) rest,
      ap (λ (r : List ℕ). a ∷ b ∷ c ∷ d ∷ f ∷ h ∷ r) (sym (take-append-drop (n - 2) rest)),
      record { control = h; size = a ∷ b ∷ c ∷ d ∷ []; spelled = refl; sized = record { wide = refl; value = size }; command = refl; last = refl },
    )

pub pdv_sound : Sound IsPdv pdv_at
pdv_sound octets value behind e = pdv_spelled octets (value, behind) e

pdv_read : (context control : ℕ) (size octets behind : List ℕ) → length size ≡ 4 → from_be_bytes w32 size ≡ length octets + 2
    → pdv_at ((size ++ context ∷ control ∷ octets) ++ behind) ≡ Some (value_of context control octets, behind)
unfolding pdv_at
pdv_read context control [] octets behind four n = absurd (omega arith)
pdv_read context control (a ∷ []) octets behind four n = absurd (omega arith)
pdv_read context control (a ∷ b ∷ []) octets behind four n = absurd (omega arith)
pdv_read context control (a ∷ b ∷ c ∷ []) octets behind four n = absurd (omega arith)
pdv_read context control (a ∷ b ∷ c ∷ d ∷ []) octets behind four n = grind (arith, le-ltb, length-append, take_at, drop_at)
pdv_read context control (a ∷ b ∷ c ∷ d ∷ f ∷ fs) octets behind four n = absurd (omega arith)

pub pdv_complete : Complete IsPdv pdv_at
pdv_complete value front behind is = grind (arith, pdv_read, length-append)

pub values_fill : (octets : List ℕ) (values : List Pdv) → parts_of pdv_at octets ≡ Some values → Fills IsPdv values octets
values_fill octets values e = fills_from IsPdv pdv_at pdv_sound octets values e

pub values_read : (values : List Pdv) (octets : List ℕ) → Fills IsPdv values octets → parts_of pdv_at octets ≡ Some values
values_read values octets fills = parts_from IsPdv pdv_at pdv_shrinks pdv_complete values octets fills
