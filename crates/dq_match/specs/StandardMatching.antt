-- When a record fits keys, in the words of PS3.4 section C.2.2.2 and table K.6-1.
use Rattle.std.specs.Prelude.{◌≡◌, ◌⊎◌, true, false, List, [], is_some, IfSome}
use Rattle.dq_list.specs.Among.{IsAmong}
use Rattle.dq_dataset.specs.Tree.{ElementList}
use Rattle.dq_dataset.specs.View.{elements_of}
use Rattle.dq_dataset.specs.Values.{element_at}
use Rattle.dq_dataset.specs.declared.data_set.Element.{Element}
use Rattle.dq_match.specs.declared.keys.Nesting.{Nesting}
use Rattle.dq_match.specs.declared.keys.Nesting.TheVariants.{Inner}
use Rattle.dq_match.specs.Matching.{period, is_matched_elsewhere, all_met, meets}

-- Each key that stands alone is met by the element with its tag: each but the date and the time of
-- a period.
abbrev pub EachIsMet : Nesting → ElementList → ElementList → Type 0
EachIsMet place keys held =
    (key : Element) → IsAmong key (elements_of keys)
    → is_matched_elsewhere place (is_some (period keys held)) key.tag ≡ false
    → meets key (element_at key.tag held) ≡ true

-- the start of the procedure step is in the period, where there is one
abbrev pub PeriodIsMet : ElementList → ElementList → Type 0
PeriodIsMet keys held = IfSome (period keys held) (λ inside. inside ≡ true)

-- there are no items, or one of them fits
abbrev pub SomeItemFits : ElementList → List ElementList → Type 0
SomeItemFits keys items =
    (items ≡ []) ⊎ ((d : ElementList) × IsAmong d items × (all_met Inner keys d ≡ true))
