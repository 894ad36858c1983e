-- The tags of what is shown.
use Rattle.std.specs.Prelude.{List, [], ◌∷◌, Option, Some, None}
use Rattle.dq_vr.specs.declared.Tag.{Tag}
use Rattle.dq_vr.specs.Tags.{specific_character_set}
use Rattle.dq_dataset.specs.declared.data_set.Element.{Element}
use Rattle.dq_dataset.specs.Tree.{ElementList, no_elements, element, sequence}

abbrev pub tags_of : ElementList → List Tag
tags_of no_elements = []
tags_of (element tag vr octets rest) = tag ∷ tags_of rest
tags_of (sequence tag vr items rest) = tag ∷ tags_of rest

-- the character set comes before them, where there is one
abbrev pub set_tags : Option Element → List Tag → List Tag
set_tags None tags = tags
set_tags (Some e) tags = specific_character_set ∷ tags
