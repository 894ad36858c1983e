-- Keys that were read once, as the elements of their identifier.
use Rattle.std.specs.Prelude.{◌≡◌, Option, option_map}
use Rattle.jiff_core.specs.declared.civil.date.Date.{Date}
use Rattle.dq_vr.specs.declared.Vr.{Vr}
use Rattle.dq_value.specs.Time.{Span}
use Rattle.dq_dataset.specs.Tree.{ElementList}
use Rattle.dq_dataset.specs.declared.data_set.Element.{Element}
use Rattle.dq_dataset.specs.declared.data_set.Value.{Value}
use Rattle.dq_dataset.specs.declared.data_set.Value.TheVariants.{Octets, Items}
use Rattle.dq_match.specs.declared.prepared.PreparedKey.{PreparedKey}
use Rattle.dq_match.specs.declared.prepared.PreparedValue.{PreparedValue}
use Rattle.dq_match.specs.declared.prepared.PreparedValue.TheVariants.{Plain, Nested}
use Rattle.dq_match.specs.DateBounds.{days_of}
use Rattle.dq_match.specs.Matching.{asked_days, asked_times}
use Rattle.dq_match.specs.Ranges.{Bounds}

abbrev pub vr_and_value : PreparedValue → Vr × Value
vr_and_value (Plain key) = (key.0, Octets key.1)
vr_and_value (Nested vr items) = (vr, Items items)

abbrev pub element_of_key : PreparedKey → Element
element_of_key key = record {
  tag = key.tag;
  vr = (vr_and_value key.value).0;
  value = (vr_and_value key.value).1;
}

-- the ranges are those that ask for the start of a procedure step
abbrev pub AreAsked : Option (Bounds Date) → Option (Bounds Span) → ElementList → Type 0
AreAsked days times keys =
    (option_map days_of days ≡ asked_days keys) × (times ≡ asked_times keys)
