-- Where the octets on connections are cut into pieces, which is not theirs to choose.
use Rattle.std.specs.Prelude.{◌≡◌, ℕ, ◌==◌, if◌then◌else◌, List, [], ◌∷◌, ◌++◌, map}
use Rattle.dq_config.specs.declared.config.Institution.{Institution}
use Rattle.dq_config.specs.Limits.{limits_of}
use Rattle.dq_tables.specs.declared.row.Row.{Row}
use Rattle.dq_tables.specs.Rows.{of}
use Rattle.dq_core.specs.declared.event.Event.{Event}
use Rattle.dq_core.specs.declared.event.Event.TheVariants.{Piece}
use Rattle.dq_core.specs.Own.{own}
use Rattle.dq_core.specs.Renumbering.{KeepsOrder, with_other_number}

-- a piece and the next one of the same connection are one piece
abbrev pub joined_to : ℕ → List ℕ → List Event → List Event
joined_to number octets [] = Piece number octets ∷ []
joined_to number octets (Piece other more ∷ events) =
    if other == number then Piece number (octets ++ more) ∷ events
    else Piece number octets ∷ Piece other more ∷ events
joined_to number octets (event ∷ events) = Piece number octets ∷ event ∷ events

-- pieces of one connection between which nothing else comes are one piece
abbrev pub joined_pieces : List Event → List Event
joined_pieces [] = []
joined_pieces (Piece number octets ∷ events) = joined_to number octets (joined_pieces events)
joined_pieces (event ∷ events) = event ∷ joined_pieces events

-- Two histories agree for an institution on its wires: its own events are the same ones, however
-- octets are cut into pieces, once the connections of each are numbered anew, in their order.
pub record AgreeOnWires (institutions others : List Institution) (rows other_rows : List Row)
    (events other_events : List Event) (i j : Institution) (anew other_anew : ℕ → ℕ) : Type 0 where
  pub name : i.name ≡ j.name
  pub limits : limits_of i ≡ limits_of j
  pub records : of i.name rows ≡ of j.name other_rows
  pub order : KeepsOrder anew
  pub other_order : KeepsOrder other_anew
  pub own_events : joined_pieces (map (with_other_number anew) (own institutions i.name events))
      ≡ joined_pieces (map (with_other_number other_anew) (own others j.name other_events))
