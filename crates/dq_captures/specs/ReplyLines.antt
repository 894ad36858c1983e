-- The printed line of a reply.
use Rattle.std.specs.Prelude.{ℕ, Bool, if◌then◌else◌, List, [], ◌∷◌, ◌++◌, codes}
use Rattle.std.specs.Fmt.{decimal}
use Rattle.std.specs.List.{flat_map}
use Rattle.hex.specs.Hex.{encode_lower}
use Rattle.dq_core.specs.declared.event.Reply.{Reply}
use Rattle.dq_core.specs.declared.event.Reply.TheVariants.{Octets, Done, Refused, Ignored}
use Rattle.dq_captures.specs.Captures.{line_feed}

-- a hyphen for no octets, else hexadecimal digits
abbrev pub octets_text : List ℕ → List ℕ
octets_text [] = codes "-"
octets_text (octet ∷ octets) = encode_lower (octet ∷ octets)

-- the end of a line, in which it is told whether the connection is closed
abbrev pub reply_line_end : Bool → List ℕ
reply_line_end close = if close then codes " close" ++ line_feed ∷ [] else line_feed ∷ []

-- `N HEX`, and ` close` where the connection is closed
abbrev pub octets_line : ℕ → List ℕ → Bool → List ℕ
octets_line number octets close =
    (decimal number ++ codes " ") ++ (octets_text octets ++ reply_line_end close)

-- a text, and a number after it
abbrev pub numbered_line : List ℕ → ℕ → List ℕ
numbered_line text number = text ++ (decimal number ++ line_feed ∷ [])

-- `N HEX`, and ` close` where the connection is closed; `done`; `refused N`; `ignored`
abbrev pub printed_line : Reply → List ℕ
printed_line (Octets number octets close) = octets_line number octets close
printed_line Done = codes "done" ++ line_feed ∷ []
printed_line (Refused number) = numbered_line (codes "refused ") number
printed_line Ignored = codes "ignored" ++ line_feed ∷ []

-- a line for each reply
abbrev pub reply_lines : List Reply → List ℕ
reply_lines replies = flat_map printed_line replies
