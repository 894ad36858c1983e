-- Cutting elements out of a data set, and merging two data sets.
use Rattle.std.specs.Prelude.{List, [], ◌∷◌, ◌++◌, Bool, filter}
use Rattle.std.specs.List.{list_any}
use Rattle.dq_vr.specs.declared.Tag.{Tag}
use Rattle.dq_vr.specs.Tag.{is_below}
use Rattle.dq_dataset.specs.declared.data_set.Element.{Element}
use Rattle.dq_dataset.specs.Tree.{ElementList}
use Rattle.dq_dataset.specs.View.{as_elements, elements_of, has_tag}

-- Whether the element's tag is among the tags.
abbrev pub is_listed : List Tag → Element → Bool
is_listed tags e = list_any (λ tag. has_tag tag e) tags

-- The elements whose tags are listed, in the order of the data set.
abbrev pub cut_out : List Tag → ElementList → ElementList
cut_out tags d = as_elements (filter (is_listed tags) (elements_of d))

-- The elements below a tag, and those above it.
abbrev pub elements_below : Tag → List Element → List Element
elements_below tag es = filter (λ e. is_below e.tag tag) es

abbrev pub elements_above : Tag → List Element → List Element
elements_above tag es = filter (λ e. is_below tag e.tag) es

-- Each element that is sent takes the place of the kept one with its tag, or a place of its own.
abbrev pub merged_elements : List Element → List Element → List Element
merged_elements kept [] = kept
merged_elements kept (e ∷ sent) =
    elements_below e.tag kept ++ e ∷ merged_elements (elements_above e.tag kept) sent

abbrev pub merged_data_set : ElementList → ElementList → ElementList
merged_data_set kept sent = as_elements (merged_elements (elements_of kept) (elements_of sent))
