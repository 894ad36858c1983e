-- The letters of the VRs.
use Rattle.std.proofs.Common.{◌≡◌, ℕ, Bool, true, false, List, [], ◌∷◌, Some, Option, refl, sym, cond, nat_eq}
use Rattle.std.specs.Cmp.Lexicographic.{pointwise, bytes_decides}
use Rattle.dq_vr.specs.declared.Vr.{Vr}
use Rattle.dq_vr.specs.declared.Vr.TheVariants.{AE, AS, AT, CS, DA, DS, DT, FD, FL, IS, LO, LT, OB, OD, OF, OL, OV, OW, PN, SH, SL, SQ, SS, ST, SV, TM, UC, UI, UL, UN, UR, US, UT, UV}
use Rattle.dq_vr.specs.Vr.{every_vr, vr_among, letters_of, vr_with_letters}

pub named : (vr : Vr) → vr_with_letters (letters_of vr) ≡ Some vr
unfolding vr_with_letters vr_among every_vr letters_of
named AE = refl
named AS = refl
named AT = refl
named CS = refl
named DA = refl
named DS = refl
named DT = refl
named FD = refl
named FL = refl
named IS = refl
named LO = refl
named LT = refl
named OB = refl
named OD = refl
named OF = refl
named OL = refl
named OV = refl
named OW = refl
named PN = refl
named SH = refl
named SL = refl
named SQ = refl
named SS = refl
named ST = refl
named SV = refl
named TM = refl
named UC = refl
named UI = refl
named UL = refl
named UN = refl
named UR = refl
named US = refl
named UT = refl
named UV = refl

own_case : (b : Bool) (x vr : Vr) (letters : List ℕ) (rest : Option Vr) → b ≡ pointwise nat_eq (letters_of x) letters
    → (rest ≡ Some vr → letters_of vr ≡ letters) → cond b (Some x) rest ≡ Some vr → letters_of vr ≡ letters
own_case true x vr letters rest same later e =
    let is_it : letters_of x ≡ letters = (bytes_decides (letters_of x) letters).0 (sym same) in
    let is_x : x ≡ vr = cc in
    cc
own_case false x vr letters rest same later e = later e

own_among : (xs : List Vr) (vr : Vr) (letters : List ℕ) → vr_among xs letters ≡ Some vr → letters_of vr ≡ letters
unfolding vr_among
own_among [] vr letters e = absurd (cc)
own_among (x ∷ xs) vr letters e = own_case _ x vr letters (vr_among xs letters) refl (own_among xs vr letters) e

pub own : (vr : Vr) (letters : List ℕ) → vr_with_letters letters ≡ Some vr → letters_of vr ≡ letters
unfolding vr_with_letters
own vr letters e = own_among every_vr vr letters e
