-- Whether two elements have the same tag, VR and value, and whether a data set has an element.
-- Compared are the codes of the data sets of each alone: no two data sets have one code (`inj`,
-- where they are defined).
use Rattle.std.specs.Prelude.{Bool, true, false, ◌&&◌, [], ◌∷◌, nat_eq}
use Rattle.std.specs.List.{list_any}
use base.Stored.{Gv, gnil, gnum, gcons}
use Rattle.dq_dataset.specs.declared.data_set.Element.{Element}
use Rattle.dq_dataset.specs.Tree.{ElementList, code}
use Rattle.dq_dataset.specs.View.{as_elements, elements_of}

unfoldable pub same_code : Gv → Gv → Bool
same_code gnil gnil = true
same_code gnil (gnum n) = false
same_code gnil (gcons c d) = false
same_code (gnum m) gnil = false
same_code (gnum m) (gnum n) = nat_eq m n
same_code (gnum m) (gcons c d) = false
same_code (gcons a b) gnil = false
same_code (gcons a b) (gnum n) = false
same_code (gcons a b) (gcons c d) = same_code a c && same_code b d

unfoldable pub same_element : Element → Element → Bool
same_element e f = same_code (code (as_elements (e ∷ []))) (code (as_elements (f ∷ [])))

-- The element is one of the data set's.
abbrev pub has_element : ElementList → Element → Bool
has_element d e = list_any (λ (held : Element). same_element held e) (elements_of d)
