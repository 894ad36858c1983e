-- Slots of the server, and what a slot stands for: a connection that is held. This is for the prover.
use Rattle.std.specs.Str.{bytes_eq}
use Rattle.std.specs.Prelude.{◌≡◌, ◌≤◌, ◌⊎◌, ◌&&◌, ℕ, Bool, false, length, IsSome, List, [], ◌∷◌, ◌++◌, Option, Some, None, is_some, Contains}
use Rattle.std.specs.List.{AllByRecursion}
use Rattle.std.specs.Ordering.{nat_cmp}
use Rattle.std.specs.BTreeMap.{IsOrdered, get as place_under}
use Rattle.slab.specs.Slab.{Slab, get}
use Rattle.dq_pdu.specs.declared.pdu.Pdu.{Pdu}
use Rattle.dq_pdu.specs.declared.pdu.Pdu.TheVariants.{Request as request_pdu}
use Rattle.dq_pdu.specs.Stream.{pdus_in}
use Rattle.dq_pdu.specs.Inboxes.{InboxAfter}
use Rattle.dq_assoc.specs.declared.agreement.Agreement.{Agreement}
use Rattle.dq_assoc.specs.declared.association.Verdict.{Verdict}
use Rattle.dq_assoc.specs.declared.association.Verdict.TheVariants.{Nowhere}
use Rattle.dq_assoc.specs.After.{is_closed}
use Rattle.dq_assoc.specs.Holding.{IsStep, WasGivenPdus, accepted_in, held_agreement, held_state}
use Rattle.dq_config.specs.declared.config.Institution.{Institution}
use Rattle.dq_config.specs.Limits.{limits_of}
use Rattle.dq_config.specs.Routing.{institution_routed, institution_named}
use Rattle.dq_tables.specs.declared.row.Row.{Row}
use Rattle.dq_tables.specs.Rows.{of, after_all}
use Rattle.dq_core.specs.declared.connections.Connections.{Connections}
use Rattle.dq_core.specs.declared.notes.Titles.{Titles as TheTitles}
use Rattle.dq_core.specs.declared.slot.Slot.{Slot}
use Rattle.dq_core.specs.declared.slot.Taken.{Taken as HeldTaken}
use Rattle.dq_core.specs.Pages.{OpenQuery}
use Rattle.dq_archive.specs.declared.additions.Addition.{Addition}
use Rattle.dq_core.specs.declared.pages.OpenQuery.{OpenQuery as HeldQuery}
use Rattle.dq_core.specs.Additions.{log_of}
use Rattle.dq_core.specs.Queries.{open_query_in, query_then}
use Rattle.dq_core.specs.Answers.{Answer, verdict_at}
use Rattle.dq_core.specs.Connections.{Connection, with_piece}
use Rattle.dq_core.specs.Histories.{is_above}
use Rattle.dq_core.specs.OpenAssociations.{IsTallied, institution_index, one_less}
use Rattle.dq_core.specs.Effects.{Taken, taken_answer}
use Rattle.dq_core.specs.Owners.{owner}
use Rattle.dq_core.specs.Shared.{World, EventEffect, answer_by, operations_by}
use Rattle.dq_core.specs.declared.event.Reply.{Reply}

-- the name of the institution that has a connection on which something is agreed
abbrev pub associated_institution : Option Institution → Option Agreement → Option (List ℕ)
associated_institution (Some i) (Some agreement) = Some i.name
associated_institution (Some i) None = None
associated_institution None agreement = None

-- a slot that was given PDUs of which none closed, on a connection of an owner
pub record StandsAt (institution : Option Institution) (slot : Slot) (pdus : List Pdu) : Type 0 where
  pub association : WasGivenPdus pdus slot.association
  pub not_closed : is_closed (held_state slot.association) ≡ false
  pub slot_institution : slot.institution
      ≡ associated_institution institution (held_agreement slot.association)
  pub owned : (agreement : Agreement) → held_agreement slot.association ≡ Some agreement
      → IsSome institution

-- the slot of a connection that is held
pub record IsHeld (institutions : List Institution) (slot : Slot) (c : Connection) : Type 0 where
  pub number : slot.number ≡ c.number
  pub inbox : InboxAfter c.stream slot.inbox
  pub faultless : (pdus_in c.stream).fault ≡ None
  pub stands : StandsAt (owner institutions c.stream) slot (pdus_in c.stream).list

-- the institution of a slot
abbrev pub institution_at : List Institution → Option (List ℕ) → Option Institution
institution_at institutions None = None
institution_at institutions (Some institution) = institution_named institutions institution

-- the responses that are left of the C-FIND that is open in a slot, by the rows and by what was
-- added to each institution since
abbrev pub query_at : List Institution → List Row → List (List Addition) → Option (List ℕ)
    → Option HeldQuery → Option OpenQuery
query_at institutions rows logs None query = open_query_in [] query
query_at institutions rows logs (Some institution) query =
    query_then institution rows (log_of institutions logs institution) query

-- A C-FIND is open only in the slot of an institution, and began when no more was added to its
-- records than now.
abbrev pub IsBegunAt : List Institution → List (List Addition) → Option (List ℕ) → Option HeldQuery
    → Type 0
IsBegunAt institutions logs institution None = Unit {0}
IsBegunAt institutions logs None (Some query) = ⊥
IsBegunAt institutions logs (Some institution) (Some query) =
    (query.since ≤ length (log_of institutions logs institution))
    × (i : Institution) × (institution_named institutions institution ≡ Some i) × (i.name ≡ institution)

-- The C-FIND that is open in a slot is that of the connection: what it finds are the answers that
-- there were as it began.
pub record Asks (institutions : List Institution) (rows : List Row) (logs : List (List Addition))
    (slot : Slot) (c : Connection) : Type 0 where
  pub begun : IsBegunAt institutions logs slot.institution slot.query
  pub query : query_at institutions rows logs slot.institution slot.query ≡ c.query

-- the place of a connection, and the slot there
pub record IsAt (institutions : List Institution) (rows : List Row) (logs : List (List Addition))
    (slots : Slab Slot) (number place : ℕ) (c : Connection) : Type 0 where
  pub slot : Slot
  pub there : get slots place ≡ Some slot
  pub numbered : number ≡ c.number
  pub held : IsHeld institutions slot c
  pub asks : Asks institutions rows logs slot c

-- whether a slot is held under a number
abbrev pub has_slot : ℕ → Connections → Bool
has_slot number held = is_some (place_under nat_cmp held.places number)

abbrev pub has_query : Option Slot → Bool
has_query None = false
has_query (Some slot) = is_some slot.query

abbrev pub has_query_at : Option ℕ → Slab Slot → Bool
has_query_at None slots = false
has_query_at (Some place) slots = has_query (get slots place)

-- whether a C-FIND is open in the slot that is held under a number
abbrev pub has_search : ℕ → Connections → Bool
has_search number held = has_query_at (place_under nat_cmp held.places number) held.slots

-- the titles of the request on the connection of a slot, once it is whole
abbrev pub titles_in : Option Slot → Option TheTitles
titles_in None = None
titles_in (Some slot) = slot.titles

abbrev pub titles_in_place : Option ℕ → Slab Slot → Option TheTitles
titles_in_place None slots = None
titles_in_place (Some place) slots = titles_in (get slots place)

-- on that which is held under a number
abbrev pub titles_at : ℕ → Connections → Option TheTitles
titles_at number held = titles_in_place (place_under nat_cmp held.places number) held.slots

-- numbers with their places, of the connections that are held
abbrev pub AreAt : List Institution → List Row → List (List Addition) → Slab Slot → List (ℕ × ℕ)
    → List Connection → Type 0
AreAt institutions rows logs slots [] [] = Unit {0}
AreAt institutions rows logs slots (e ∷ es) (c ∷ cs) =
    IsAt institutions rows logs slots e.0 e.1 c × AreAt institutions rows logs slots es cs
AreAt institutions rows logs slots [] (c ∷ cs) = ⊥
AreAt institutions rows logs slots (e ∷ es) [] = ⊥

-- The connections that the server holds: in the order of their numbers, none above the newest, and
-- with the counts of the associations that are open among them, and what was added to each
-- institution while a C-FIND was open there.
pub record AreHeld (institutions : List Institution) (rows : List Row) (held : Connections)
    (cs : List Connection) : Type 0 where
  pub at : AreAt institutions rows held.additions.logs.items held.slots held.places.entries cs
  pub ordered : IsOrdered nat_cmp held.places
  pub below : AllByRecursion (λ (e : ℕ × ℕ). is_above held.newest e.0 ≡ false) held.places.entries
  pub tallied : IsTallied institutions held.tally.counts.items cs
  pub counted : length held.tally.counts.items ≡ length institutions
  pub logged : length held.additions.logs.items ≡ length institutions

-- An event was answered by the plain server's turn: the reply is its reply, its operations were
-- made, and what is held are the connections that are then held.
pub record Turned (institutions : List Institution) (t : EventEffect) (reply : Reply)
    (before after : List Row) (held : Connections) : Type 0 where
  pub replied : reply ≡ t.reply
  pub rows : after ≡ after_all t.operations before
  pub holds : AreHeld institutions after held t.connections

-- whether a slot is of the institution with a name
abbrev pub is_of_institution : List ℕ → Option (List ℕ) → Bool
is_of_institution name None = false
is_of_institution name (Some institution) = bytes_eq institution name

-- whether a C-FIND is open in it there
abbrev pub is_searching : List ℕ → Slot → Bool
is_searching name slot = is_of_institution name slot.institution && is_some slot.query

-- no C-FIND is open on a connection of the institution that has one, if one has
abbrev pub IsUnsearched : Slab Slot → Option Institution → Type 0
IsUnsearched slots None = ⊥
IsUnsearched slots (Some i) =
    (place : ℕ) (slot : Slot) → get slots place ≡ Some slot → is_searching i.name slot ≡ false

-- the counts after the connection of a slot ended, where it has one
abbrev pub less_association : List Institution → List ℕ → Option (List ℕ) → List ℕ
less_association institutions counts None = counts
less_association institutions counts (Some institution) =
    one_less counts (institution_index institutions institution)

abbrev pub without_association : List Institution → List ℕ → Option Slot → List ℕ
without_association institutions counts None = counts
without_association institutions counts (Some slot) =
    less_association institutions counts slot.institution

-- the verdict by the counts of the institutions' open associations
abbrev pub verdict_for : (List ℕ → ℕ) → Option Institution → Verdict
verdict_for count None = Nowhere
verdict_for count (Some i) = verdict_at i.associations (count i.name)

-- the institution to which the titles of a request are routed, where a request stands first
abbrev pub routed_first : List Institution → List Pdu → Option Institution
routed_first institutions (request_pdu request ∷ pdus) =
    institution_routed institutions request.called request.calling
routed_first institutions pdus = None

abbrev pub owner_with : List Institution → Option (List ℕ) → List Pdu → Option Institution
owner_with institutions None pdus = routed_first institutions pdus
owner_with institutions (Some institution) pdus = institution_named institutions institution

abbrev pub owner_at : List Institution → Slot → List Pdu → Option Institution
owner_at institutions slot pdus = owner_with institutions slot.institution pdus

-- what was taken on a connection is answered by the institution that has it, if one has
abbrev pub connection_answer : Option Institution → List Row → Option Agreement → Option OpenQuery → Taken
    → Answer
connection_answer None rows agreement query t = record {
  octets = t.opening ++ t.step.octets;
  close = t.step.close;
  changes = [];
  next = record { agreement = None; records = []; query = query };
}
connection_answer (Some i) rows agreement query t =
    taken_answer (limits_of i) (of i.name rows) agreement query t

-- Two answers, each of an institution or of none, that are the same to the peer and to the tables.
pub record AreAlike (one : Option Institution) (x : Answer) (other : Option Institution)
    (y : Answer)
    : Type 0 where
  pub octets : x.octets ≡ y.octets
  pub close : x.close ≡ y.close
  pub query : x.next.query ≡ y.next.query
  pub operations : operations_by one x.changes ≡ operations_by other y.changes

-- The held form of what was taken stands for what the definitions take, on a connection with an agreement.
pub record IsTaken (agreement : Option Agreement) (held : HeldTaken) (t : Taken) : Type 0 where
  pub opening : held.opening ≡ t.opening
  pub step : IsStep (accepted_in agreement) held.step t.step

-- A piece was taken on a connection that is held, by its slot: the answer is the plain server's,
-- and the slot is of the connection with the piece, unless it closes. Where a slot has an
-- institution, that is the one that answers.
pub record Took (institutions : List Institution) (world : World) (c : Connection) (piece : List ℕ)
    (institution : Option Institution) (held_taken : HeldTaken) (old new : Slot) : Type 0 where
  pub taken : Taken
  pub stands : IsTaken (held_agreement new.association) held_taken taken
  pub answer : let o = owner institutions (c.stream ++ piece) in
      AreAlike o (answer_by o institutions world c piece)
      institution (connection_answer institution world.rows (held_agreement new.association) c.query taken)
  pub slot_institution : old.institution
      ≡ associated_institution institution (held_agreement old.association)
  pub query : new.query ≡ old.query
  pub stays : (old.institution ≡ None) ⊎ (new.institution ≡ old.institution)
  pub held : taken.step.close ≡ false → IsHeld institutions new (with_piece c piece c.query)
      × (new.institution ≡ associated_institution institution (held_agreement new.association))
  pub listed : (i : Institution) → institution ≡ Some i → Contains institutions i
