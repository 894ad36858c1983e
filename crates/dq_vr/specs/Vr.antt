-- Value representations: their letters, which of them hold text, and how an explicit spelling gives
-- their length.
use Rattle.std.specs.Prelude.{ℕ, Bool, true, false, List, [], ◌∷◌, Option, Some, None, nat_eq, codes, if◌then◌else◌}
use Rattle.std.specs.Cmp.Lexicographic.{pointwise}
use Rattle.dq_vr.specs.declared.Vr.{Vr}
use Rattle.dq_vr.specs.declared.Vr.TheVariants.{AE, AS, AT, CS, DA, DS, DT, FD, FL, IS, LO, LT, OB, OD, OF, OL, OV, OW, PN, SH, SL, SQ, SS, ST, SV, TM, UC, UI, UL, UN, UR, US, UT, UV}
use Rattle.dq_vr.specs.declared.LengthForm.{LengthForm}
use Rattle.dq_vr.specs.declared.LengthForm.TheVariants.{Two, Four}

-- the length field in an explicit spelling (PS3.5 section 7.1.2, tables 7.1-1 and 7.1-2)
unfoldable pub length_form_of : Vr → LengthForm
length_form_of OB = Four
length_form_of OD = Four
length_form_of OF = Four
length_form_of OL = Four
length_form_of OV = Four
length_form_of OW = Four
length_form_of SQ = Four
length_form_of SV = Four
length_form_of UC = Four
length_form_of UN = Four
length_form_of UR = Four
length_form_of UT = Four
length_form_of UV = Four
length_form_of _ = Two

-- the VRs whose values are character strings (PS3.5 section 6.2, table 6.2-1), UI apart
unfoldable pub is_text : Vr → Bool
is_text AE = true
is_text AS = true
is_text CS = true
is_text DA = true
is_text DS = true
is_text DT = true
is_text IS = true
is_text LO = true
is_text LT = true
is_text PN = true
is_text SH = true
is_text ST = true
is_text TM = true
is_text UC = true
is_text UR = true
is_text UT = true
is_text _ = false

-- the two letters that name a VR, as an explicit spelling has them (PS3.5 sections 6.2 and 7.1.2)
unfoldable pub letters_of : Vr → List ℕ
letters_of AE = codes "AE"
letters_of AS = codes "AS"
letters_of AT = codes "AT"
letters_of CS = codes "CS"
letters_of DA = codes "DA"
letters_of DS = codes "DS"
letters_of DT = codes "DT"
letters_of FD = codes "FD"
letters_of FL = codes "FL"
letters_of IS = codes "IS"
letters_of LO = codes "LO"
letters_of LT = codes "LT"
letters_of OB = codes "OB"
letters_of OD = codes "OD"
letters_of OF = codes "OF"
letters_of OL = codes "OL"
letters_of OV = codes "OV"
letters_of OW = codes "OW"
letters_of PN = codes "PN"
letters_of SH = codes "SH"
letters_of SL = codes "SL"
letters_of SQ = codes "SQ"
letters_of SS = codes "SS"
letters_of ST = codes "ST"
letters_of SV = codes "SV"
letters_of TM = codes "TM"
letters_of UC = codes "UC"
letters_of UI = codes "UI"
letters_of UL = codes "UL"
letters_of UN = codes "UN"
letters_of UR = codes "UR"
letters_of US = codes "US"
letters_of UT = codes "UT"
letters_of UV = codes "UV"

-- every VR once, by letter
unfoldable pub every_vr : List Vr
every_vr =
    AE ∷ AS ∷ AT ∷ CS ∷ DA ∷ DS ∷ DT ∷ FD ∷ FL ∷ IS ∷ LO ∷ LT ∷ OB ∷ OD ∷ OF ∷ OL ∷ OV ∷
    OW ∷ PN ∷ SH ∷ SL ∷ SQ ∷ SS ∷ ST ∷ SV ∷ TM ∷ UC ∷ UI ∷ UL ∷ UN ∷ UR ∷ US ∷ UT ∷ UV ∷ []

-- the first VR of a list with these letters
unfoldable pub vr_among : List Vr → List ℕ → Option Vr
vr_among [] letters = None
vr_among (vr ∷ others) letters =
    if pointwise nat_eq (letters_of vr) letters then Some vr else vr_among others letters

-- the VR that two letters name
unfoldable pub vr_with_letters : List ℕ → Option Vr
vr_with_letters letters = vr_among every_vr letters
