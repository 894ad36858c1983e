-- Whether a record meets the keys of an identifier (PS3.4 section C.2.2.2).
use Rattle.dq_value.specs.Digits.{◌>>=◌}
use Rattle.std.specs.Prelude.{ℤ, Bool, true, false, not, List, Option, Some, None, ◌||◌, ◌&&◌}
use Rattle.std.specs.List.{list_any}
use Rattle.dq_list.specs.Lengths.{is_empty}
use Rattle.dq_vr.specs.declared.Tag.{Tag}
use Rattle.dq_vr.specs.Tags.{scheduled_procedure_step_start_date, scheduled_procedure_step_start_time}
use Rattle.dq_value.specs.Day.{day}
use Rattle.dq_value.specs.Time.{Span, span}
use Rattle.dq_dataset.specs.Tree.{ElementList, no_elements, element, sequence, ItemList, no_items, item}
use Rattle.dq_dataset.specs.View.{with_value}
use Rattle.dq_dataset.specs.Values.{element_at, element_octets, sole_at}
use Rattle.dq_dataset.specs.declared.data_set.Element.{Element}
use Rattle.dq_match.specs.declared.keys.Nesting.{Nesting}
use Rattle.dq_match.specs.declared.keys.Nesting.TheVariants.{Outer, Inner}
use Rattle.dq_match.specs.Values.{octets_meet}
use Rattle.dq_match.specs.Ranges.{Bounds, range_bounds, is_in_range}
use Rattle.dq_match.specs.Keys.{items_in, is_tag, is_key}

-- the ranges that ask for the start of a procedure step
unfoldable pub asked_days : ElementList → Option (Bounds ℤ)
asked_days keys = do
  octets ← sole_at scheduled_procedure_step_start_date keys
  range_bounds day octets

unfoldable pub asked_times : ElementList → Option (Bounds Span)
asked_times keys = do
  octets ← sole_at scheduled_procedure_step_start_time keys
  range_bounds span octets

-- when the procedure step of a record starts
unfoldable pub start_day : ElementList → Option ℤ
start_day held = do
  octets ← sole_at scheduled_procedure_step_start_date held
  day octets

unfoldable pub start_time : ElementList → Option Span
start_time held = do
  octets ← sole_at scheduled_procedure_step_start_time held
  span octets

-- Where a range of dates and a range of times ask for the start of a procedure step, they are one
-- period, from the first day at the first time to the last day at the last time (table K.6-1). That
-- is so where the record has one date and one time there: the answer is then whether they are in
-- the period.
unfoldable pub period : ElementList → ElementList → Option Bool
period keys held = do
  days ← asked_days keys
  times ← asked_times keys
  date ← start_day held
  time ← start_time held
  Some (is_in_range days times date time)

abbrev pub is_start : Tag → Bool
is_start tag =
    is_tag scheduled_procedure_step_start_date tag || is_tag scheduled_procedure_step_start_time tag

-- the elements that are not met each for itself: what is no key, and the date and time of a period
abbrev pub is_matched_elsewhere : Nesting → Bool → Tag → Bool
is_matched_elsewhere place joined tag = not (is_key place tag) || (joined && is_start tag)

-- a period is met too, where there is one
abbrev pub with_period : Option Bool → (Bool → Bool) → Bool
with_period None met = met false
with_period (Some in_period) met = in_period && met true

-- Every key is met by the element with its tag. A sequence key is met where one item of the record
-- meets all keys of its item; a sequence of the record without items is unknown, and meets every
-- key (C.2.2.2.6).
abbrev mutual
  pub each_met : ElementList → Nesting → ElementList → Bool → Bool
  each_met no_elements place held joined = true
  each_met (element tag vr octets rest) place held joined =
      (is_matched_elsewhere place joined tag || octets_meet vr octets (element_octets (element_at tag held)))
      && each_met rest place held joined
  each_met (sequence tag vr items rest) place held joined =
      (is_matched_elsewhere place joined tag || items_meet items (items_in (element_at tag held)))
      && each_met rest place held joined

  pub items_meet : ItemList → List ElementList → Bool
  items_meet no_items held = true
  items_meet (item keys rest) held =
      is_empty held || list_any (λ d. with_period (period keys d) (each_met keys Inner d)) held

-- a record, or an item of one, meets all keys
abbrev pub all_met : Nesting → ElementList → ElementList → Bool
all_met place keys held = with_period (period keys held) (each_met keys place held)

abbrev pub fits : ElementList → ElementList → Bool
fits identifier held = all_met Outer identifier held

-- one key is met by the element of the record with its tag
abbrev pub first_met : ElementList → Option Element → Bool
first_met no_elements held = true
first_met (element tag vr octets rest) held = octets_meet vr octets (element_octets held)
first_met (sequence tag vr items rest) held = items_meet items (items_in held)

abbrev pub meets : Element → Option Element → Bool
meets key held = first_met (with_value key key.value no_elements) held
