-- Messages of a stream of octets have octets.
use Rattle.std.proofs.Common.{◌<◌, ℕ, zero, suc, ◌==◌, nat_lt, ◌||◌, not, Bool, true, false, if◌then◌else◌, List, [], ◌∷◌, ◌++◌, map, length, take, drop, slice_index, Option, Some, None, option_map, inl, inr, ◌+◌, arith}
use Rattle.std.specs.List.{AllByRecursion}
use Rattle.std.proofs.lemmas.Bool.{cases_Bool}
use Rattle.dq_core.proofs.isolation.Vocabulary.{AreOctets, Request, Message, agreement_of, context_ids, Input, Sent, leading_pdvs, after_leading_pdvs, closing_input, closing_inputs, inputs_past, inputs_after, misplaced_input, inputs_of_roles, inputs, inputs_added}
use Rattle.dq_list.specs.Readers.{◌>>=◌, only_if}
use Rattle.dq_list.specs.Lengths.{is_empty}
use Rattle.dq_pdu.specs.declared.pdu.Pdu.{Pdu}
use Rattle.dq_pdu.specs.declared.pdu.Pdu.TheVariants.{Request as request_pdu, Accept as accept_pdu, Reject, PData, ReleaseRq, ReleaseRp, Abort}
use Rattle.dq_pdu.specs.declared.pdu.Accept.{Accept}
use Rattle.dq_pdu.specs.declared.pdu.Pdv.{Pdv}
use Rattle.dq_assoc.specs.Roles.{Role}
use Rattle.dq_assoc.specs.Roles.{Asks, Carries, Ends}
use Rattle.dq_assoc.specs.Roles.{ReleaseAsked, AbortSent, OutOfPlace}
use Rattle.dq_pdu.specs.declared.fault.PduFault.{PduFault}
use Rattle.dq_pdu.specs.Numbers.{longest_body, pdv_header}
use Rattle.dq_pdu.specs.Octets.{successive_parts}
use Rattle.dq_pdu.specs.PduReader.{first_pdu, pdu_of, pdv_at, data_pdu_of, request_of, accept_of, body_length, is_unrecognized, whole_or_malformed}
use Rattle.dq_pdu.specs.Stream.{Pdus, pdus_from, pdus_within, pdus_in}
use Rattle.dq_assoc.specs.Roles.{role_of}
use Rattle.dq_dimse.specs.declared.command.Command.{Command}
use Rattle.dq_dimse.specs.declared.fault.DimseFault.{DimseFault}
use Rattle.dq_dimse.specs.Assembling.{PartialMessage, Nothing, CommandPart, DataPart, Spent, Gathering, gathers, stops_at, completes, command_completed, command_gathered, after_command, with_fragment, after_data, gather, gather_all, messages_from, messages}
use Rattle.dq_dimse.specs.Messages.{data_limit}

-- ---- octets, one by one

abbrev pub Small : List ℕ → Type 0
Small octets = AllByRecursion (λ (octet : ℕ). octet < 256) octets

pub from-octets : (xs : List ℕ) → AreOctets xs → Small xs
from-octets [] h = tt
from-octets (x ∷ xs) h = (h 0, from-octets xs (λ i. h (suc i)))

pub to-octets : (xs : List ℕ) → Small xs → AreOctets xs
to-octets [] s i = omega arith
to-octets (x ∷ xs) s zero = s.0
to-octets (x ∷ xs) s (suc i) = to-octets xs s.1 i

module _ {X : Type 0} (P : X → Type 0) where
  pub each-joined : (xs ys : List X) → AllByRecursion P xs → AllByRecursion P ys → AllByRecursion P (xs ++ ys)
  each-joined [] ys p q = q
  each-joined (x ∷ xs) ys p q = (p.0, each-joined xs ys p.1 q)

  pub each-first : (xs ys : List X) → AllByRecursion P (xs ++ ys) → AllByRecursion P xs
  each-first [] ys p = tt
  each-first (x ∷ xs) ys p = (p.0, each-first xs ys p.1)

  pub each-dropped : (n : ℕ) (xs : List X) → AllByRecursion P xs → AllByRecursion P (drop n xs)
  each-dropped zero xs p = p
  each-dropped (suc n) [] p = tt
  each-dropped (suc n) (x ∷ xs) p = each-dropped n xs p.1

  pub each-taken : (n : ℕ) (xs : List X) → AllByRecursion P xs → AllByRecursion P (take n xs)
  each-taken zero xs p = tt
  each-taken (suc n) [] p = tt
  each-taken (suc n) (x ∷ xs) p = (p.0, each-taken n xs p.1)

either : {X : Type 0} (P : X → Type 0) (b : Bool) (x y : X) → P x → P y → P (if b then x else y)
either P true x y p q = p
either P false x y p q = q

-- ---- PDUs

abbrev SmallPdv : Pdv → Type 0
SmallPdv pdv = Small pdv.octets

abbrev SmallPdvs : List Pdv → Type 0
SmallPdvs pdvs = AllByRecursion SmallPdv pdvs

abbrev SmallPdu : Pdu → Type 0
SmallPdu (PData pdvs) = SmallPdvs pdvs
SmallPdu pdu = Unit {0}

abbrev OnSome : {X : Type 0} → (X → Type 0) → Option X → Type 0
OnSome P None = Unit {0}
OnSome P (Some x) = P x

record If {X : Type 0} (P : X → Type 0) (o : Option X) : Type 0 where
  it : OnSome P o

no-one : {X : Type 0} (P : X → Type 0) → If P None
no-one P = record { it = tt }

some-one : {X : Type 0} (P : X → Type 0) (x : X) → P x → If P (Some x)
some-one P x p = record { it = p }

abbrev SmallPart : Pdv × List ℕ → Type 0
SmallPart part = SmallPdv part.0 × Small part.1

pdv-small : (octets : List ℕ) → Small octets → If SmallPart (pdv_at octets)
unfolding pdv_at
pdv-small octets s =
    let behind = each-dropped (λ (octet : ℕ). octet < 256) pdv_header octets s in
    either (If SmallPart) _ _ _ (no-one SmallPart)
    (some-one SmallPart _ (each-taken (λ (octet : ℕ). octet < 256) _ _ behind, each-dropped (λ (octet : ℕ). octet < 256) _ _ behind))

with-others : (pdv : Pdv) (others : Option (List Pdv)) → SmallPdv pdv → If SmallPdvs others
    → If SmallPdvs (others >>= (λ (more : List Pdv). Some (pdv ∷ more)))
with-others pdv None s later = no-one SmallPdvs
with-others pdv (Some more) s later = some-one SmallPdvs (pdv ∷ more) (s, later.it)

with-part : (fuel : ℕ) (part : Option (Pdv × List ℕ)) → If SmallPart part
    → ((octets : List ℕ) → Small octets → If SmallPdvs (successive_parts pdv_at fuel octets))
    → If SmallPdvs (part >>= (λ (first : Pdv × List ℕ). successive_parts pdv_at fuel first.1 >>= (λ (more : List Pdv). Some (first.0 ∷ more))))
with-part fuel None s later = no-one SmallPdvs
with-part fuel (Some first) s later = with-others first.0 (successive_parts pdv_at fuel first.1) s.it.0 (later first.1 s.it.1)

parts-small : (fuel : ℕ) (octets : List ℕ) → Small octets → If SmallPdvs (successive_parts pdv_at fuel octets)
unfolding successive_parts
parts-small fuel [] s = some-one SmallPdvs [] tt
parts-small zero (o ∷ os) s = no-one SmallPdvs
parts-small (suc fuel) (o ∷ os) s = with-part fuel (pdv_at (o ∷ os)) (pdv-small (o ∷ os) s) (parts-small fuel)

provided-small : (b : Bool) (pdu : Pdu) → SmallPdu pdu → If SmallPdu (only_if b pdu)
provided-small true pdu s = some-one SmallPdu pdu s
provided-small false pdu s = no-one SmallPdu

with-values : (values : Option (List Pdv)) → If SmallPdvs values
    → If SmallPdu (values >>= (λ (pdvs : List Pdv). only_if (not (is_empty pdvs)) (PData pdvs)))
with-values None s = no-one SmallPdu
with-values (Some pdvs) s = provided-small (not (is_empty pdvs)) (PData pdvs) s.it

values-small : (body : List ℕ) → Small body → If SmallPdu (data_pdu_of body)
unfolding data_pdu_of
values-small body s = with-values (successive_parts pdv_at (length body) body) (parts-small (length body) body s)

request-small : (o : Option Request) → If SmallPdu (option_map request_pdu o)
request-small None = no-one SmallPdu
request-small (Some request) = some-one SmallPdu (request_pdu request) tt

accept-small : (o : Option Accept) → If SmallPdu (option_map accept_pdu o)
accept-small None = no-one SmallPdu
accept-small (Some accept) = some-one SmallPdu (accept_pdu accept) tt

pdu-small : (kind : ℕ) (body : List ℕ) → Small body → If SmallPdu (pdu_of kind body)
unfolding pdu_of
pdu-small kind body s =
    let octet = slice_index body in
    either (If SmallPdu) (kind == 1) _ _ (request-small (request_of body)) (
    either (If SmallPdu) (kind == 2) _ _ (accept-small (accept_of body)) (
    either (If SmallPdu) (kind == 3) _ _ (provided-small (length body == 4) (Reject (octet 1) (octet 2) (octet 3)) tt) (
    either (If SmallPdu) (kind == 4) _ _ (values-small body s) (
    either (If SmallPdu) (kind == 5) _ _ (provided-small (length body == 4) ReleaseRq tt) (
    either (If SmallPdu) (kind == 6) _ _ (provided-small (length body == 4) ReleaseRp tt) (
    either (If SmallPdu) (kind == 7) _ _ (provided-small (length body == 4) (Abort (octet 2) (octet 3)) tt) (no-one SmallPdu)))))))

whole-small : (o : Option Pdu) (count : ℕ) (stream : List ℕ) (others : List ℕ → Pdus) → If SmallPdu o
    → AllByRecursion SmallPdu (others (drop count stream)).list → AllByRecursion SmallPdu (pdus_from (whole_or_malformed o count) stream others).list
whole-small None count stream others s later = tt
whole-small (Some pdu) count stream others s later = (s.it, later)

front-small : (stream : List ℕ) (others : List ℕ → Pdus) → Small stream
    → ((count : ℕ) → AllByRecursion SmallPdu (others (drop count stream)).list)
    → AllByRecursion SmallPdu (pdus_from (first_pdu stream) stream others).list
unfolding first_pdu
front-small stream others s later =
    let size = body_length stream in
    let behind = drop 6 stream in
    elim (cases_Bool (nat_lt (length stream) 6)) [
      | inl e ↦ rw e tt
      | inr e ↦ rw e (elim (cases_Bool (is_unrecognized (slice_index stream 0))) [
        | inl k ↦ rw k tt
        | inr k ↦ rw k (elim (cases_Bool (nat_lt longest_body size)) [
          | inl l ↦ rw l tt
          | inr l ↦ rw l (elim (cases_Bool (nat_lt (length behind) size)) [
            | inl m ↦ rw m tt
            | inr m ↦ rw m (whole-small (pdu_of (slice_index stream 0) (take size behind)) (size + 6) stream others
                (pdu-small (slice_index stream 0) (take size behind)
                (each-taken (λ (octet : ℕ). octet < 256) size behind (each-dropped (λ (octet : ℕ). octet < 256) 6 stream s)))
                (later (size + 6)))
          ])
        ])
      ])
    ]

within-small : (fuel : ℕ) (stream : List ℕ) → Small stream → AllByRecursion SmallPdu (pdus_within fuel stream).list
unfolding pdus_within
within-small zero stream s = tt
within-small (suc fuel) stream s =
    front-small stream (pdus_within fuel) s (λ count. within-small fuel (drop count stream) (each-dropped (λ (octet : ℕ). octet < 256) count stream s))

-- ---- messages

abbrev SmallRole : Role → Type 0
SmallRole (Carries pdvs) = AllByRecursion SmallPdv pdvs
SmallRole role = Unit {0}

role-small : (pdu : Pdu) → SmallPdu pdu → SmallRole (role_of pdu)
role-small (PData pdvs) s = s
role-small other s = tt

roles-small : (pdus : List Pdu) → AllByRecursion SmallPdu pdus → AllByRecursion SmallRole (map role_of pdus)
roles-small [] s = tt
roles-small (pdu ∷ pdus) s = (role-small pdu s.0, roles-small pdus s.1)

stream-small : (stream : List ℕ) → Small stream → AllByRecursion SmallRole (map role_of (pdus_in stream).list)
stream-small stream s = roles-small (pdus_in stream).list (within-small (length stream) stream s)

abbrev SmallMessage : Message → Type 0
SmallMessage message = Small message.octets

abbrev SmallGathered : PartialMessage → Type 0
SmallGathered (DataPart message) = SmallMessage message
SmallGathered gathered = Unit {0}

record SmallGathering (gathering : Gathering) : Type 0 where
  list : AllByRecursion SmallMessage gathering.list
  gathered : SmallGathered gathering.gathered

gathers-small : (gathered : PartialMessage) → SmallGathered gathered → SmallGathering (gathers gathered)
gathers-small gathered s = record { list = tt; gathered = s }

completes-small : (message : Message) → SmallMessage message → SmallGathering (completes message)
completes-small message s = record { list = (s, tt); gathered = tt }

stops-small : (fault : DimseFault) → SmallGathering (stops_at fault)
stops-small fault = gathers-small (Spent fault) tt

completed-small : (context : ℕ) (o : Option Command) → SmallGathering (command_completed context o)
completed-small context None = stops-small _
completed-small context (Some command) = either SmallGathering command.with_data _ _ (gathers-small _ tt) (completes-small _ tt)

command-small : (context : ℕ) (octets : List ℕ) (last : Bool) → SmallGathering (command_gathered context octets last)
command-small context octets last =
    either SmallGathering _ _ _ (stops-small _) (either SmallGathering last _ _ (completed-small context _) (gathers-small _ tt))

after_command-small : (context : ℕ) (before : List ℕ) (pdv : Pdv) → SmallGathering (after_command context before pdv)
after_command-small context before pdv =
    either SmallGathering pdv.command _ _ (command-small context (before ++ pdv.octets) pdv.last) (stops-small _)

fragment-small : (message : Message) (fragment : List ℕ) → SmallMessage message → Small fragment → SmallMessage (with_fragment message fragment)
fragment-small message fragment s f =
    let octets = message.octets ++ fragment in
    either Small (message.over || nat_lt (data_limit message.command) (length octets)) [] octets tt (each-joined _ message.octets fragment s f)

after_data-small : (message : Message) (pdv : Pdv) → SmallMessage message → SmallPdv pdv → SmallGathering (after_data message pdv)
after_data-small message pdv s f =
    let small = fragment-small message pdv.octets s f in
    either SmallGathering pdv.command _ _ (stops-small _) (either SmallGathering pdv.last _ _ (completes-small _ small) (gathers-small _ small))

gather-small : (ids : List ℕ) (gathered : PartialMessage) (pdv : Pdv) → SmallGathered gathered → SmallPdv pdv → SmallGathering (gather ids gathered pdv)
gather-small ids Nothing pdv s f = either SmallGathering _ _ _ (after_command-small pdv.context [] pdv) (stops-small _)
gather-small ids (CommandPart context octets) pdv s f = either SmallGathering _ _ _ (after_command-small context octets pdv) (stops-small _)
gather-small ids (DataPart message) pdv s f = either SmallGathering _ _ _ (after_data-small message pdv s f) (stops-small _)
gather-small ids (Spent fault) pdv s f = stops-small fault

all-small : (ids : List ℕ) (gathered : PartialMessage) (pdvs : List Pdv) → SmallGathered gathered → AllByRecursion SmallPdv pdvs
    → SmallGathering (gather_all ids gathered pdvs)
all-small ids gathered [] s f = gathers-small gathered s
all-small ids gathered (pdv ∷ pdvs) s f =
    let first = gather-small ids gathered pdv s f.0 in
    let later = all-small ids (gather ids gathered pdv).gathered pdvs first.gathered f.1 in
    record { list = each-joined SmallMessage (gather ids gathered pdv).list _ first.list later.list; gathered = later.gathered }

messages-small : (ids : List ℕ) (pdvs : List Pdv) → AllByRecursion SmallPdv pdvs → AllByRecursion SmallMessage (messages ids pdvs).list
unfolding messages_from
messages-small ids pdvs s = (all-small ids Nothing pdvs tt s).list

-- ---- inputs

abbrev pub SmallInput : Input → Type 0
SmallInput (Sent message) = SmallMessage message
SmallInput input = Unit {0}

role-values : (roles : List Role) → AllByRecursion SmallRole roles → AllByRecursion SmallPdv (leading_pdvs roles)
role-values (Carries pdvs ∷ roles) s = each-joined SmallPdv pdvs (leading_pdvs roles) s.0 (role-values roles s.1)
role-values other s = tt

closing-small : (role : Role) → SmallInput (closing_input role)
closing-small (Ends ReleaseAsked) = tt
closing-small other = tt

closing-inputs : (roles : List Role) (fault : Option PduFault) → AllByRecursion SmallInput (closing_inputs roles fault)
closing-inputs [] None = tt
closing-inputs [] (Some fault) = (tt, tt)
closing-inputs (role ∷ roles) fault = (closing-small role, tt)

past-small : (fault : Option DimseFault) (later : List Input) → AllByRecursion SmallInput later → AllByRecursion SmallInput (inputs_past fault later)
past-small None later s = s
past-small (Some fault) later s = (tt, tt)

sent-small : (messages : List Message) → AllByRecursion SmallMessage messages → AllByRecursion SmallInput (map Sent messages)
sent-small [] s = tt
sent-small (message ∷ messages) s = (s.0, sent-small messages s.1)

after-small : (ids : List ℕ) (roles : List Role) (fault : Option PduFault) → AllByRecursion SmallRole roles
    → AllByRecursion SmallInput (inputs_after ids roles fault)
after-small ids roles fault s =
    let read = messages ids (leading_pdvs roles) in
    each-joined SmallInput (map Sent read.list) _ (sent-small read.list (messages-small ids (leading_pdvs roles) (role-values roles s)))
    (past-small read.fault _ (closing-inputs (after_leading_pdvs roles) fault))

misplaced-small : (role : Role) → SmallInput (misplaced_input role)
misplaced-small (Ends ReleaseAsked) = tt
misplaced-small other = tt

inputs-small : (roles : List Role) (fault : Option PduFault) → AllByRecursion SmallRole roles → AllByRecursion SmallInput (inputs_of_roles roles fault)
inputs-small [] None s = tt
inputs-small [] (Some fault) s = (tt, tt)
inputs-small (Asks request ∷ roles) fault s = (tt, after-small (context_ids (agreement_of request)) roles fault s.1)
inputs-small (Carries pdvs ∷ roles) fault s = (misplaced-small (Carries pdvs), tt)
inputs-small (Ends ending ∷ roles) fault s = (misplaced-small (Ends ending), tt)

-- the inputs of a stream
pub stream_inputs-small : (stream : List ℕ) → Small stream → AllByRecursion SmallInput (inputs stream)
stream_inputs-small stream s = inputs-small (map role_of (pdus_in stream).list) (pdus_in stream).fault (stream-small stream s)

-- the inputs that a piece adds
pub added-small : (stream piece : List ℕ) → Small stream → Small piece → AllByRecursion SmallInput (inputs_added stream piece)
added-small stream piece s t =
    let whole = stream ++ piece in
    each-dropped SmallInput (length (inputs stream)) (inputs whole)
    (stream_inputs-small whole (each-joined (λ (octet : ℕ). octet < 256) stream piece s t))
