-- The VR of an element in a data set, and what its value holds (PS3.5 sections 6.2.2, 7.1 and 7.5).
use Rattle.std.specs.Prelude.{ℕ, Bool, true, false, not, Option, Some, None, is_none, unwrap_or, Result, Ok, Err, List, [], ◌∷◌, ◌++◌, length, nat_le, ◌%◌, ◌==◌, ◌||◌, ◌&&◌, if◌then◌else◌}
use Rattle.dq_vr.specs.declared.Tag.{Tag}
use Rattle.dq_vr.specs.declared.Vr.{Vr}
use Rattle.dq_vr.specs.declared.Vr.TheVariants.{SQ, UN}
use Rattle.dq_vr.specs.Tag.{is_below}
use Rattle.dq_vr.specs.Vr.{is_text}
use Rattle.dq_dataset.specs.declared.fault.ReadFault.{ReadFault}
use Rattle.dq_dataset.specs.declared.fault.ReadFault.TheVariants.{BadUndefined}
use Rattle.dq_dataset.specs.declared.header.Syntax.TheVariants.{Implicit, Explicit}
use Rattle.dq_dataset.specs.declared.header.Content.{Content}
use Rattle.dq_dataset.specs.declared.header.Content.TheVariants.{Plain, Sequence}

abbrev pub is_sequence : Option Vr → Bool
is_sequence (Some SQ) = true
is_sequence _ = false

abbrev pub is_unknown : Option Vr → Bool
is_unknown (Some UN) = true
is_unknown _ = false

-- A known sequence is spelled SQ or UN, and no other known tag is spelled SQ.
unfoldable pub agrees : Option Vr → Vr → Bool
agrees known spelled =
    if is_sequence known then is_sequence (Some spelled) || is_unknown (Some spelled)
    else (is_none known || not (is_sequence (Some spelled)))

-- The content of the value of a tag, by the dictionary's VR, the spelled one and the length. SQ is followed by items in
-- the same syntax. Items in Implicit follow UN for a known sequence and UN of undefined length, and also, if no VR is
-- spelled, a known sequence and an unknown tag of undefined length. No other length may be undefined.
unfoldable pub content_of : Option Vr → Option Vr → Option ℕ → Result Content ReadFault
content_of known spelled (Some n) =
    if is_sequence spelled then Ok (Sequence Explicit (Some n))
    else (if is_sequence known then Ok (Sequence Implicit (Some n)) else Ok (Plain n))
content_of known spelled None =
    if is_sequence spelled then Ok (Sequence Explicit None)
    else (if is_sequence known then Ok (Sequence Implicit None)
    else (if is_none known && (is_none spelled || is_unknown spelled)
    then Ok (Sequence Implicit None) else Err BadUndefined))

-- A known tag has the dictionary's VR, whatever was spelled. An unknown one is SQ where it holds
-- items, else UN.
abbrev pub vr_of : Option Vr → Content → Vr
vr_of known (Plain n) = unwrap_or known UN
vr_of known (Sequence syntax length) = SQ

-- The octet that fills up a value of odd length (PS3.5 section 6.2): a space in text, else 00H.
abbrev pub pad_of : Vr → ℕ
pad_of vr = if is_text vr then 0x20 else 0

abbrev pub padded_value : Vr → List ℕ → List ℕ
padded_value vr value = if length value % 2 == 0 then value else value ++ pad_of vr ∷ []

-- Tags rise.
abbrev pub follows : Option Tag → Tag → Bool
follows None tag = true
follows (Some last) tag = is_below last tag

-- A defined length stays within what is left of the octets that enclose it.
abbrev pub fits_enclosing : Option ℕ → List ℕ → Bool
fits_enclosing None octets = true
fits_enclosing (Some n) octets = nat_le n (length octets)
