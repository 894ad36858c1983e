-- The data elements that this server knows, with the value representation (VR) that the data
-- dictionary gives each (PS3.6, chapter 6, the columns Tag and VR): the code's table.
use Rattle.std.specs.Prelude.{List, [], ◌∷◌, Option, Some, None, nat_eq, AllPairs, IsTrue, if◌then◌else◌, ◌&&◌}
use Rattle.dq_vr.specs.declared.Tag.{Tag}
use Rattle.dq_vr.specs.declared.Vr.{Vr}
use Rattle.dq_vr.specs.declared.tags.TheConstants.{DICTIONARY}
use Rattle.dq_vr.specs.Tag.{is_below}

-- A tag and its VR.
abbrev pub Entry : Type 0
Entry = Tag × Vr

unfoldable pub dictionary : List Entry
dictionary = DICTIONARY

-- the VR that a list of entries gives a tag, by its first entry for the tag
unfoldable pub vr_in : List Entry → Tag → Option Vr
vr_in [] tag = None
vr_in (entry ∷ others) tag =
    if nat_eq entry.0.group tag.group && nat_eq entry.0.element tag.element then Some entry.1
    else vr_in others tag

-- the VR of a known tag
unfoldable pub known_vr : Tag → Option Vr
known_vr tag = vr_in dictionary tag

-- each entry's tag is below the tags of all later ones
unfoldable pub Rises : List Entry → Type 0
Rises entries = AllPairs (λ earlier later. IsTrue (is_below earlier.0 later.0)) entries
