-- A device of the proofs: what a reader of a part leaves is shorter than what it read.
use Rattle.std.proofs.Common.{◌≡◌, ℕ, ◌-◌, ◌<◌, ◌≤◌, Bool, true, false, cond, ltb, List, length, take, drop, Option, Some, None, refl, ap, arith, length-drop}
use Rattle.std.specs.Prelude.{◌||◌}
use Rattle.std.specs.Int.{w16, w32, from_be_bytes}
use Rattle.std.proofs.lemmas.Bool.{ltb-false, or_parts}
use Rattle.dq_pdu.specs.declared.pdu_reader.Item.{Item}
use Rattle.dq_pdu.specs.declared.pdu.Pdv.{Pdv}
use Rattle.dq_pdu.specs.PduReader.{item_at, pdv_at}

abbrev pub Shrinks : {A : Type 0} → (List ℕ → Option (A × List ℕ)) → Type 0
Shrinks {A} part =
    (octets : List ℕ) (x : A × List ℕ) → part octets ≡ Some x → length x.1 < length octets

-- a test that did not fail
pub test_held : {A : Type 0} (b : Bool) (x y : A) → cond b None (Some x) ≡ Some y → (b ≡ false) × (x ≡ y)
test_held true x y e = absurd cc
test_held false x y e = (refl, cc)

pub item_shrinks : Shrinks item_at
unfolding item_at
item_shrinks octets x e =
    let size = from_be_bytes w16 (take 2 (drop 2 octets)) in
    let g = test_held (ltb (length octets) 4 || ltb (length (drop 4 octets)) size) _ x e in
    let t = or_parts (ltb (length octets) 4) (ltb (length (drop 4 octets)) size) g.0 in
    let long : 4 ≤ length octets = ltb-false _ _ t.0 in
    let rest-is : drop size (drop 4 octets) ≡ x.1 = ap (λ (p : Item × List ℕ). p.1) g.1 in
    rw (← rest-is) (omega (arith, length-drop size (drop 4 octets), length-drop 4 octets))

pub pdv_shrinks : Shrinks pdv_at
unfolding pdv_at
pdv_shrinks octets x e =
    let size = from_be_bytes w32 (take 4 octets) in
    let g = test_held ((ltb (length octets) 6 || ltb size 2) || ltb (length (drop 4 octets)) size) _ x e in
    let t = or_parts (ltb (length octets) 6 || ltb size 2) (ltb (length (drop 4 octets)) size) g.0 in
    let s = or_parts (ltb (length octets) 6) (ltb size 2) t.0 in
    let long : 6 ≤ length octets = ltb-false _ _ s.0 in
    let rest-is : drop (size - 2) (drop 6 octets) ≡ x.1 = ap (λ (p : Pdv × List ℕ). p.1) g.1 in
    rw (← rest-is) (omega (arith, length-drop (size - 2) (drop 6 octets), length-drop 6 octets))
