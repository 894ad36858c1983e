-- Records that agree at the keys of an identifier are matched alike, and shown alike.
use Rattle.std.proofs.Common.{◌≡◌, Bool, true, false, cond, ◌||◌, ◌&&◌, Option, Some, None, refl, ap, arith}
use Rattle.dq_vr.specs.Tags.{specific_character_set, scheduled_procedure_step_start_date, scheduled_procedure_step_start_time}
use Rattle.dq_dataset.specs.declared.data_set.Value.TheVariants.{Octets}
use Rattle.dq_dataset.specs.Tree.{ElementList, no_elements, element, sequence}
use Rattle.dq_dataset.specs.Values.{element_at, element_octets, sole_at}
use Rattle.dq_match.specs.declared.keys.Nesting.{Nesting}
use Rattle.dq_match.specs.declared.keys.Nesting.TheVariants.{Outer}
use Rattle.dq_match.specs.Keys.{items_in, is_key}
use Rattle.dq_match.specs.Values.{octets_meet}
use Rattle.dq_match.specs.Matching.{period, start_day, start_time, is_matched_elsewhere, with_period, each_met, items_meet, fits}
use Rattle.dq_match.specs.Responses.{put, or_empty, shown_keys, unless_empty, put_first, shown_data_set}

abbrev pub Agree : ElementList → ElementList → ElementList → Type 0
Agree no_elements a b = Unit {0}
Agree (element tag vr octets rest) a b = (element_at tag a ≡ element_at tag b) × Agree rest a b
Agree (sequence tag vr items rest) a b = (element_at tag a ≡ element_at tag b) × Agree rest a b

each_alike : (keys : ElementList) (place : Nesting) (a b : ElementList) (joined : Bool) → Agree keys a b
    → each_met keys place a joined ≡ each_met keys place b joined
each_alike no_elements place a b joined h = refl
each_alike (element t v o rest) place a b joined h =
    λ i. (is_matched_elsewhere place joined t || octets_meet v o (element_octets (h.0 i))) && each_alike rest place a b joined h.1 i
each_alike (sequence t v items rest) place a b joined h =
    λ i. (is_matched_elsewhere place joined t || items_meet items (items_in (h.0 i))) && each_alike rest place a b joined h.1 i

period_alike : (keys a b : ElementList) → start_day a ≡ start_day b → start_time a ≡ start_time b → period keys a ≡ period keys b
unfolding period
period_alike keys a b day time = rw (day, time) refl

with_alike : (p : Option Bool) (f g : Bool → Bool) → ((joined : Bool) → f joined ≡ g joined) → with_period p f ≡ with_period p g
with_alike None f g h = h false
with_alike (Some b) f g h = ap (λ (x : Bool). b && x) (h true)

pub fits_alike : (keys a b : ElementList) → Agree keys a b → element_at scheduled_procedure_step_start_date a ≡ element_at scheduled_procedure_step_start_date b
    → element_at scheduled_procedure_step_start_time a ≡ element_at scheduled_procedure_step_start_time b → fits keys a ≡ fits keys b
unfolding start_day start_time sole_at
fits_alike keys a b h date time = grind (arith, with_alike, each_alike, period_alike)

keys_alike : (keys : ElementList) (place : Nesting) (a b : ElementList) → Agree keys a b → shown_keys keys place a ≡ shown_keys keys place b
keys_alike no_elements place a b h = refl
keys_alike (element t v o rest) place a b h =
    λ i. cond (is_key place t) (put (or_empty t v (Octets o) (h.0 i)) (keys_alike rest place a b h.1 i)) (keys_alike rest place a b h.1 i)
keys_alike (sequence t v items rest) place a b h = grind (arith, keys_alike rest place a b h.1)

pub shown_alike : (keys a b : ElementList) → Agree keys a b → element_at specific_character_set a ≡ element_at specific_character_set b
    → shown_data_set keys a ≡ shown_data_set keys b
unfolding shown_data_set
shown_alike keys a b h set = λ i. put_first (unless_empty (set i)) (keys_alike keys Outer a b h i)
