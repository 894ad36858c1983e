-- Connections under other numbers: what it is that nothing depends on how they are numbered.
use Rattle.std.specs.Prelude.{◌≡◌, ℕ, ◌<◌, List, map}
use Rattle.dq_config.specs.declared.config.Institution.{Institution}
use Rattle.dq_config.specs.Limits.{limits_of}
use Rattle.dq_tables.specs.declared.row.Row.{Row}
use Rattle.dq_tables.specs.Rows.{of}
use Rattle.dq_core.specs.declared.event.Event.{Event}
use Rattle.dq_core.specs.declared.event.Event.TheVariants.{Open, Piece, End, Pull, Schedule, Withdraw}
use Rattle.dq_core.specs.declared.event.Reply.{Reply}
use Rattle.dq_core.specs.declared.event.Reply.TheVariants.{Octets, Done, Refused, Ignored}
use Rattle.dq_core.specs.Own.{own}

-- Another number for each number, in the same order.
abbrev pub KeepsOrder : (ℕ → ℕ) → Type 0
KeepsOrder another = (a b : ℕ) → a < b → another a < another b

-- an event with its connection under the other number; the console's orders are on no connection
abbrev pub with_other_number : (ℕ → ℕ) → Event → Event
with_other_number another (Open number) = Open (another number)
with_other_number another (Piece number piece) = Piece (another number) piece
with_other_number another (End number) = End (another number)
with_other_number another (Pull number) = Pull (another number)
with_other_number another (Schedule institution octets) = Schedule institution octets
with_other_number another (Withdraw institution id) = Withdraw institution id

-- a reply for that connection under the other number
abbrev pub renumbered_reply : (ℕ → ℕ) → Reply → Reply
renumbered_reply another (Octets number octets close) = Octets (another number) octets close
renumbered_reply another Done = Done
renumbered_reply another (Refused number) = Refused number
renumbered_reply another Ignored = Ignored

-- Two histories agree for an institution but for the numbers of its connections: its own events
-- are the same ones, once the connections of each history are numbered anew, in their order.
pub record AgreeButForNumbers (institutions others : List Institution)
    (rows other_rows : List Row) (events other_events : List Event) (i j : Institution)
    (anew other_anew : ℕ → ℕ) : Type 0 where
  pub name : i.name ≡ j.name
  pub limits : limits_of i ≡ limits_of j
  pub records : of i.name rows ≡ of j.name other_rows
  pub order : KeepsOrder anew
  pub other_order : KeepsOrder other_anew
  pub own_events : map (with_other_number anew) (own institutions i.name events)
      ≡ map (with_other_number other_anew) (own others j.name other_events)
