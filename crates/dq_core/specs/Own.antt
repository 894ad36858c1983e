-- An institution's own events in a history, the replies at them, and what replies send on a
-- connection.
use Rattle.std.specs.Prelude.{ℕ, Bool, false, ◌==◌, if◌then◌else◌, List, [], ◌∷◌, ◌++◌, map, filter}
use Rattle.std.specs.List.{flat_map}
use Rattle.std.specs.Str.{bytes_eq}
use Rattle.dq_config.specs.declared.config.Institution.{Institution}
use Rattle.dq_core.specs.declared.event.Event.{Event}
use Rattle.dq_core.specs.declared.event.Event.TheVariants.{Open, Piece, End, Pull, Schedule, Withdraw}
use Rattle.dq_core.specs.declared.event.Reply.{Reply}
use Rattle.dq_core.specs.declared.event.Reply.TheVariants as reply
use Rattle.dq_core.specs.Owners.{owner, is_institution}

-- the octets of the pieces on a connection before its end
abbrev pub octets_of_pieces : ℕ → List Event → List ℕ
octets_of_pieces number [] = []
octets_of_pieces number (Piece n piece ∷ events) =
    if number == n then piece ++ octets_of_pieces number events else octets_of_pieces number events
octets_of_pieces number (End n ∷ events) = if number == n then [] else octets_of_pieces number events
octets_of_pieces number (event ∷ events) = octets_of_pieces number events

-- the stream of a connection: the octets of its pieces after its opening and before its end
abbrev pub stream_of : ℕ → List Event → List ℕ
stream_of number [] = []
stream_of number (Open n ∷ events) =
    if number == n then octets_of_pieces number events else stream_of number events
stream_of number (event ∷ events) = stream_of number events

-- whether the institution with a name owns a connection in a history
abbrev pub owns : List Institution → List ℕ → List Event → ℕ → Bool
owns institutions name events number = is_institution name (owner institutions (stream_of number events))

-- whether an event is on a connection whose number passes a test, or of the console for an
-- institution whose name passes one
abbrev pub is_on : (ℕ → Bool) → (List ℕ → Bool) → Event → Bool
is_on numbers names (Open number) = numbers number
is_on numbers names (Piece number piece) = numbers number
is_on numbers names (End number) = numbers number
is_on numbers names (Pull number) = numbers number
is_on numbers names (Schedule institution octets) = names institution
is_on numbers names (Withdraw institution id) = names institution

-- An institution's own events in a history: those on the connections that it owns in this history,
-- and the console's that name it.
abbrev pub is_own_event : List Institution → List ℕ → List Event → Event → Bool
is_own_event institutions name events =
    is_on (owns institutions name events) (λ (institution : List ℕ). bytes_eq institution name)

abbrev pub own : List Institution → List ℕ → List Event → List Event
own institutions name events = filter (is_own_event institutions name events) events

-- the events on one connection
abbrev pub is_on_connection : ℕ → Event → Bool
is_on_connection number = is_on (λ (n : ℕ). n == number) (λ (institution : List ℕ). false)

-- the replies at the events that pass a test; there may be fewer replies than events
abbrev pub replies_at : (Event → Bool) → List Event → List Reply → List Reply
replies_at mine [] replies = []
replies_at mine (event ∷ events) [] = []
replies_at mine (event ∷ events) (reply ∷ replies) =
    if mine event then reply ∷ replies_at mine events replies else replies_at mine events replies

-- An output of the server on a connection: it sends an octet, or it closes the connection.
pub data Output : Type 0 where
  Octet : ℕ → Output
  Close : Output

abbrev pub close_if : Bool → List Output
close_if close = if close then Close ∷ [] else []

-- the outputs of a reply: its octets, and then the close if there is one
abbrev pub outputs_in : Reply → List Output
outputs_in (reply.Octets number octets close) = map Octet octets ++ close_if close
outputs_in other = []

-- the outputs of the replies on one connection
abbrev pub outputs_on : ℕ → List Event → List Reply → List Output
outputs_on number events replies =
    flat_map outputs_in (replies_at (is_on_connection number) events replies)
