-- Whether a record's elements meet keys as they are lent, before a data set is built of them.
use Rattle.std.specs.Prelude.{ℕ, Bool, true, not, List, [], ◌∷◌, length, Some, Result, Ok, Err, ◌%◌, ◌==◌, ◌||◌, ◌&&◌}
use Rattle.std.specs.List.{list_any, list_all}
use Rattle.dq_vr.specs.declared.Tag.{Tag}
use Rattle.dq_vr.specs.declared.Vr.{Vr}
use Rattle.dq_dataset.specs.declared.fault.ReadFault.{ReadFault}
use Rattle.dq_dataset.specs.declared.data_set.Element.{Element}
use Rattle.dq_dataset.specs.declared.data_set.Value.{Value}
use Rattle.dq_dataset.specs.declared.data_set.Value.TheVariants.{Octets, Items}
use Rattle.dq_dataset.specs.Lending.{Spelled}
use Rattle.dq_dataset.specs.Rules.{is_sequence}
use Rattle.dq_dataset.specs.Tree.{ElementList}
use Rattle.dq_dataset.specs.Values.{element_at}
use Rattle.dq_match.specs.Keys.{is_tag}
use Rattle.dq_match.specs.Matching.{meets}
use Rattle.dq_match.specs.Values.{octets_meet}

-- a key is left for later
abbrev pub is_left : List Tag → Tag → Bool
is_left later tag = list_any (λ one. is_tag one tag) later

-- a data set meets a key that is not left for later
abbrev pub is_met_at_once : List Tag → ElementList → Element → Bool
is_met_at_once later held key = is_left later key.tag || meets key (element_at key.tag held)

-- the octets of a sequence, and those that lack their pad, are not the element's value
abbrev pub are_the_value : Vr → List ℕ → Bool
are_the_value vr octets = not (is_sequence (Some vr)) && (length octets % 2 == 0)

abbrev pub asks_for : List Tag → Tag → Tag → Bool
asks_for later key tag = is_tag key tag && not (is_left later key)

-- a key without items is met by octets
abbrev pub value_asked : Value → Vr → List ℕ → Bool
value_asked (Octets octets) vr held = octets_meet vr octets held
value_asked (Items items) vr held = true

abbrev pub is_met_by : List Tag → Spelled → Element → Bool
is_met_by later e key = not (asks_for later key.tag e.tag) || value_asked key.value key.vr e.octets

abbrev pub meets_keys : List Tag → List Element → Spelled → Bool
meets_keys later keys e =
    not (are_the_value e.vr e.octets) || list_all (is_met_by later e) keys

-- The following elements are met too, after those met so far. Octets with a fault spell no data
-- set: nothing is known of their record, which meets every key.
abbrev pub all_meet : List Tag → List Element → Bool → List (Result Spelled ReadFault) → Bool
all_meet later keys met [] = met
all_meet later keys met (Ok e ∷ others) =
    all_meet later keys (met && meets_keys later keys e) others
all_meet later keys met (Err fault ∷ others) = true
