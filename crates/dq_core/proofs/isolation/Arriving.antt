-- What comes on a connection, comes while the rows are good, and what is sent are octets.
use Rattle.std.proofs.Common.{ℕ, zero, ◌==◌, Bool, true, false, if◌then◌else◌, List, [], ◌∷◌, ◌++◌, length, drop}
use Rattle.std.specs.List.{AllByRecursion}
use Rattle.dq_core.proofs.isolation.Vocabulary.{inputs, Input, Sent, Institution, Row, Operation, after, Event, octets_of_pieces, stream_of, World, turn, world_after, BringsOctets, BringOctets, ServicesKeep, Arrival, InputAt, PageRequest, ConnectionEnd, input_arrivals, arrivals_at, arrivals}
use Rattle.dq_core.specs.declared.event.Event.TheVariants as event
use Rattle.dq_core.proofs.isolation.Octets.{Small, SmallInput, from-octets, each-joined, each-dropped, stream_inputs-small}
use Rattle.dq_core.proofs.isolation.Keeping.{Edits, Stay, stay-taken, turn-kept, history-kept, history-came}

-- ---- streams

with-piece : (b : Bool) (piece later : List ℕ) → Small piece → Small later → Small (if b then piece ++ later else later)
with-piece true piece later s t = each-joined _ piece later s t
with-piece false piece later s t = t

until-end : (b : Bool) (later : List ℕ) → Small later → Small (if b then [] else later)
until-end true later t = tt
until-end false later t = t

pieces-small : (number : ℕ) (events : List Event) → BringOctets events → Small (octets_of_pieces number events)
pieces-small number [] brings = tt
pieces-small number (event.Piece n piece ∷ events) brings =
    with-piece (number == n) piece (octets_of_pieces number events) (from-octets piece brings.0) (pieces-small number events brings.1)
pieces-small number (event.End n ∷ events) brings = until-end (number == n) (octets_of_pieces number events) (pieces-small number events brings.1)
pieces-small number (e ∷ events) brings = pieces-small number events brings.1

opened-small : (b : Bool) (pieces later : List ℕ) → Small pieces → Small later → Small (if b then pieces else later)
opened-small true pieces later s t = s
opened-small false pieces later s t = t

came-small : (number : ℕ) (events : List Event) → BringOctets events → Small (stream_of number events)
came-small number [] brings = tt
came-small number (event.Open n ∷ events) brings =
    opened-small (number == n) (octets_of_pieces number events) (stream_of number events) (pieces-small number events brings.1) (came-small number events brings.1)
came-small number (e ∷ events) brings = came-small number events brings.1

-- ---- arrivals

module _ (Good : List Row → Type 0) where
  abbrev pub IsMetAt : Arrival → Type 0
  IsMetAt (InputAt world input) = Good world.rows × SmallInput input
  IsMetAt other = Unit {0}

  brought-met : (world : World) (operations : List Operation) (xs : List Input) → Stay Good operations world.rows → AllByRecursion SmallInput xs
      → AllByRecursion IsMetAt (input_arrivals world operations xs)
  brought-met world operations [] s small = tt
  brought-met world [] (Sent m ∷ xs) s small = ((s, small.0), brought-met world [] xs s small.1)
  brought-met world (o ∷ operations) (Sent m ∷ xs) s small =
      ((s.0, small.0), brought-met (record world { rows = after o world.rows }) operations xs s.1 small.1)
  brought-met world operations (x ∷ xs) s small = ((stay-taken Good operations world.rows s zero, small.0), brought-met world operations xs s small.1)

  module _ (keep : ServicesKeep Good) (lens : Edits) (institutions : List Institution) (rows : List Row) (number : ℕ) (good : Good rows) where
    one-met : (x : Arrival) (b : Bool) → IsMetAt x → AllByRecursion IsMetAt (if b then x ∷ [] else [])
    one-met x true s = (s, tt)
    one-met x false s = tt

    event-met : (before : List Event) (e : Event) → BringOctets before → BringsOctets e
        → AllByRecursion IsMetAt (arrivals_at institutions rows number before e)
    event-met before (event.Piece n p) came brings =
        let world = world_after institutions rows before in
        let e = event.Piece n p in
        let stream = stream_of number (before ++ e ∷ []) in
        brought-met world (turn institutions world e).operations (drop (length (inputs (stream_of number before))) (inputs stream))
        (turn-kept Good keep lens institutions world e (history-came institutions rows before came) brings
        (history-kept Good keep lens institutions rows before came good).good)
        (each-dropped SmallInput (length (inputs (stream_of number before))) (inputs stream)
        (stream_inputs-small stream (came-small number (before ++ e ∷ []) (each-joined _ before (e ∷ []) came (brings, tt)))))
    event-met before (event.Pull n) came brings = one-met PageRequest (n == number) tt
    event-met before (event.End n) came brings = one-met ConnectionEnd (n == number) tt
    event-met before e came brings = tt

    pub each-met : (before events : List Event) → BringOctets before → BringOctets events
        → AllByRecursion IsMetAt (arrivals institutions rows number before events)
    each-met before [] came brings = tt
    each-met before (e ∷ events) came brings =
        each-joined _ (arrivals_at institutions rows number before e) (arrivals institutions rows number (before ++ e ∷ []) events)
        (event-met before e came brings.0) (each-met (before ++ e ∷ []) events (each-joined _ before (e ∷ []) came (brings.0, tt)) brings.1)
