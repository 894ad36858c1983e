-- Which histories of events there are.
use Rattle.std.specs.Prelude.{ℕ, Bool, true, ◌&&◌, nat_lt, List, [], ◌∷◌, Option, Some, None}
use Rattle.dq_core.specs.declared.event.Event.{Event}
use Rattle.dq_core.specs.declared.event.Event.TheVariants.{Open}

-- a number that is above the newest one, if there is any
abbrev pub is_above : Option ℕ → ℕ → Bool
is_above None number = true
is_above (Some newest) number = nat_lt newest number

-- the number that was opened last
abbrev pub newest_after : Option ℕ → List Event → Option ℕ
newest_after newest [] = newest
newest_after newest (Open number ∷ events) = newest_after (Some number) events
newest_after newest (event ∷ events) = newest_after newest events

-- opened numbers rise strictly
abbrev pub rises_from : Option ℕ → List Event → Bool
rises_from newest [] = true
rises_from newest (Open number ∷ events) = is_above newest number && rises_from (Some number) events
rises_from newest (event ∷ events) = rises_from newest events

abbrev pub is_well_formed_history : List Event → Bool
is_well_formed_history events = rises_from None events

-- the numbers that are opened, in order
abbrev pub opened_numbers : List Event → List ℕ
opened_numbers [] = []
opened_numbers (Open number ∷ events) = number ∷ opened_numbers events
opened_numbers (event ∷ events) = opened_numbers events
