-- A tag is among two lists, one behind the other, if it is among one of them.
use Rattle.std.proofs.Common.{◌≡◌, ◌||◌, List, [], ◌∷◌, ◌++◌, refl, arith}
use Rattle.dq_vr.specs.declared.Tag.{Tag}
use Rattle.dq_match.specs.Supported.{is_tag_among}

pub among_joined : (tag : Tag) (these others : List Tag)
    → is_tag_among tag (these ++ others) ≡ (is_tag_among tag these || is_tag_among tag others)
among_joined tag [] others = refl
among_joined tag (one ∷ these) others = grind (arith, among_joined tag these others)
