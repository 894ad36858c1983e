-- What an assembler holds, as one PDV after the other comes.
use Rattle.std.proofs.Common.{◌≡◌, ◌≤◌, ℕ, ◌==◌, Bool, true, false, cond, eqb, List, [], ◌∷◌, ◌++◌}
use Rattle.std.proofs.Common.{length, Option, Some, None, Result, Ok, Err, OnOk, refl, sym, ap, subst, ◌∙◌, ◌⊎◌, inl, inr, arith}
use Rattle.std.specs.Prelude.{◌||◌, ◌&&◌, not, is_some}
use Rattle.std.proofs.Math.Bool.{and-false}
use Rattle.std.proofs.lemmas.Bool.{false≢true, le-ltb, eqb-true, eqb-false, eq-eqb, ne_eqb}
use Rattle.std.proofs.lemmas.List.{append-nil}
use Rattle.dq_pdu.specs.Octets.{is_number_among}
use Rattle.dq_pdu.specs.declared.pdu.Pdv.{Pdv}
use Rattle.dq_dataset.specs.declared.header.Syntax.{Syntax}
use Rattle.dq_dimse.specs.declared.assembler.Accepted.{Accepted}
use Rattle.dq_dimse.specs.declared.assembler.PartialMessage.{PartialMessage as HeldGathered}
use Rattle.dq_dimse.specs.declared.assembler.PartialMessage.TheVariants as held
use Rattle.dq_dimse.specs.declared.assembler.IncomingDataSet.{IncomingDataSet}
use Rattle.dq_dimse.specs.declared.assembler.IncomingDataSet.TheVariants as incoming
use Rattle.dq_dimse.specs.declared.command.Body.{Body}
use Rattle.dq_dimse.specs.declared.command.Body.TheVariants as body
use Rattle.dq_dimse.specs.declared.command.Message.{Message as HeldMessage}
use Rattle.dq_dimse.specs.declared.fault.DimseFault.{DimseFault}
use Rattle.dq_dimse.specs.declared.fault.DimseFault.TheVariants.{WrongContext}
use Rattle.dq_dimse.specs.Assembling.{PartialMessage, Nothing, stops_at, after_command, IsPdvKept, IsKeptCommand, Assembly, with_fragment}
use Rattle.dq_dimse.specs.Assembling.{gather, gathering_fault, messages, messages_from, assembly_from, new_assembly, followed_by, spent_by}
use Rattle.dq_dimse.specs.Holding.{BodyRefines, Refines, AllRefine, is_sifted, is_stored, octets_held, plain_message, IncomingRefines}
use Rattle.dq_dimse.specs.Holding.{HasGathered, Holding, Assembles, WasGivenPdvs, MakesGathering, AddsMessage, accepted_with, fault_held, accepted_ids, spent_with}
use Rattle.dq_dimse.specs.Messages.{data_limit}
use Rattle.dq_dimse.specs.Received.{Message}
use Rattle.dq_dimse.proofs.Gatherings.{gather_one}
use Rattle.dq_dimse.proofs.Assemblies.{read_off, messages_from-append, assembly_from-append}

-- ---- a data set

pub part_discarded : (syntax : Syntax) (held : IncomingDataSet) (m : Message) → IncomingRefines syntax held m → m.over ≡ true → m.octets ≡ []
part_discarded syntax (incoming.Octets octets) m h e = absurd (false≢true (sym h.1 ∙ e))
part_discarded syntax (incoming.Sifting sieve room) m h e = absurd (false≢true (sym h.1 ∙ e))
part_discarded syntax incoming.ExceededLimit m h e = h.1

pub part_short : (syntax : Syntax) (held : IncomingDataSet) (m : Message) → IncomingRefines syntax held m → m.over ≡ false → length m.octets ≤ data_limit m.command
part_short syntax (incoming.Octets octets) m h e = subst (λ (xs : List ℕ). length xs ≤ data_limit m.command) h.2 h.3
part_short syntax (incoming.Sifting sieve room) m h e = (let is = h.2 in omega (arith, is))
part_short syntax incoming.ExceededLimit m h e = absurd (false≢true (sym e ∙ h.0))

-- a fragment for which there is room
abbrev grown : Message → List ℕ → Bool → Message
grown m fragment over = record { context = m.context; command = m.command; octets = cond over [] (m.octets ++ fragment); over = over }

with_room : (m : Message) (fragment : List ℕ) → m.over ≡ false → length (m.octets ++ fragment) ≤ data_limit m.command → with_fragment m fragment ≡ grown m fragment false
with_room m fragment e short = grind (arith, le-ltb)

pub part_fed : (syntax : Syntax) (next : IncomingDataSet) (m : Message) (fragment : List ℕ) → m.over ≡ false
    → length (m.octets ++ fragment) ≤ data_limit m.command → IncomingRefines syntax next (grown m fragment false)
    → IncomingRefines syntax next (with_fragment m fragment)
part_fed syntax next m fragment e short h = subst (IncomingRefines syntax next) (sym (with_room m fragment e short)) h

-- ---- the context of a PDV

abbrev is_with : ℕ → Accepted → Bool
is_with id context = context.id == id

has_id : (id : ℕ) (x : Accepted) (found : Option Accepted) (context : Accepted) (same : Bool) → is_with id x ≡ same → (found ≡ Some context → context.id ≡ id)
    → cond same (Some x) found ≡ Some context → context.id ≡ id
has_id id x found context true e later f = grind (arith, eqb-true)
has_id id x found context false e later f = later f

pub id_is : (id : ℕ) (accepted : List Accepted) (context : Accepted) → accepted_with id accepted ≡ Some context → context.id ≡ id
id_is id [] context e = absurd cc
id_is id (x ∷ xs) context e = has_id id x (accepted_with id xs) context (is_with id x) refl (id_is id xs context) e

among_at : (id : ℕ) (x : Accepted) (others : Bool) (found : Option Accepted) (same : Bool) → is_with id x ≡ same → others ≡ is_some found
    → (eqb id x.id || others) ≡ is_some (cond same (Some x) found)
among_at id x others found true e rest = ap (λ (b : Bool). b || others) (eq-eqb id x.id (sym (eqb-true x.id id e)))
among_at id x others found false e rest = ap (λ (b : Bool). b || others) (ne_eqb id x.id (λ h. eqb-false x.id id e (sym h))) ∙ rest

pub among_is : (id : ℕ) (accepted : List Accepted) → is_number_among id (accepted_ids accepted) ≡ is_some (accepted_with id accepted)
among_is id [] = refl
among_is id (x ∷ xs) = among_at id x (is_number_among id (accepted_ids xs)) (accepted_with id xs) (is_with id x) refl (among_is id xs)

pub none_found : (found : Option Accepted) → ((context : Accepted) → found ≡ Some context → ⊥) → found ≡ None
none_found None none = refl
none_found (Some context) none = absurd (none context refl)

-- ---- a PDV where nothing was gathered

nothing_is : (accepted : List Accepted) (h : HeldGathered) (g : PartialMessage) → h ≡ held.Nothing → HasGathered accepted h g → g ≡ Nothing
nothing_is accepted h g e has = subst (λ (x : HeldGathered). HasGathered accepted x g) e has

gather_unknown : (ids : List ℕ) (pdv : Pdv) → is_number_among pdv.context ids ≡ false → gather ids Nothing pdv ≡ stops_at WrongContext
gather_unknown ids pdv e = ap (λ (b : Bool). cond b (after_command pdv.context [] pdv) (stops_at WrongContext)) e

gather_known : (ids : List ℕ) (pdv : Pdv) → is_number_among pdv.context ids ≡ true → gather ids Nothing pdv ≡ after_command pdv.context [] pdv
gather_known ids pdv e = ap (λ (b : Bool). cond b (after_command pdv.context [] pdv) (stops_at WrongContext)) e

pub nothing_unknown : (accepted : List Accepted) (h : HeldGathered) (g : PartialMessage) (pdv : Pdv) → h ≡ held.Nothing → HasGathered accepted h g
    → accepted_with pdv.context accepted ≡ None → gather (accepted_ids accepted) g pdv ≡ stops_at WrongContext
nothing_unknown accepted h g pdv e has none = grind (arith, nothing_is, gather_unknown, among_is)

pub nothing_known : (accepted : List Accepted) (h : HeldGathered) (g : PartialMessage) (pdv : Pdv) (context : Accepted)
    (result : Result (Option HeldMessage × HeldGathered) DimseFault) (octets : List ℕ) → h ≡ held.Nothing → HasGathered accepted h g
    → accepted_with pdv.context accepted ≡ Some context → octets ≡ [] → MakesGathering accepted result (after_command context.id octets pdv)
    → MakesGathering accepted result (gather (accepted_ids accepted) g pdv)
nothing_known accepted h g pdv context result octets e has found none made =
    grind (arith, nothing_is, gather_known, among_is, id_is)

pub nothing_kept : (accepted : List Accepted) (h : HeldGathered) (g : PartialMessage) (pdv : Pdv) (context : Accepted) (octets : List ℕ) → h ≡ held.Nothing
    → HasGathered accepted h g → accepted_with pdv.context accepted ≡ Some context → octets ≡ [] → IsKeptCommand octets pdv
    → IsPdvKept (accepted_ids accepted) g pdv
nothing_kept accepted h g pdv context octets e has found none kept = grind (arith, nothing_is, among_is)

-- ---- one PDV

fault_same : (accepted : List Accepted) (h : HeldGathered) (g : PartialMessage) → HasGathered accepted h g → gathering_fault g ≡ fault_held h
fault_same accepted held.Nothing g is = ap gathering_fault is
fault_same accepted (held.CommandPart context octets) g is = ap gathering_fault is.1
fault_same accepted (held.DataPart begun) g is = ap gathering_fault is.2
fault_same accepted (held.Spent fault) g is = ap gathering_fault is

pub assembles_fault : (holding : Holding) (a : Assembly) → Assembles holding a → spent_by a ≡ spent_with holding
assembles_fault holding a h = fault_same holding.accepted holding.gathered a.gathered h.gathered

pub one_adds : (accepted : List Accepted) (a : Assembly) (pdv : Pdv) (message : Option HeldMessage) (after : HeldGathered) → fault_held after ≡ None
    → MakesGathering accepted (Ok (message, after)) (gather a.ids a.gathered pdv) → AddsMessage accepted (Ok message) [] (messages_from a (pdv ∷ []))
unfolding messages_from
one_adds accepted a pdv message after unspent made = grind (arith, read_off, gather_one, fault_same)

pub one_fails : (accepted : List Accepted) (a : Assembly) (pdv : Pdv) (fault : DimseFault)
    → MakesGathering accepted (Err fault) (gather a.ids a.gathered pdv) → AddsMessage accepted (Err fault) [] (messages_from a (pdv ∷ []))
unfolding messages_from
one_fails accepted a pdv fault (inl e) = inl e
one_fails accepted a pdv fault (inr e) = inr (ap read_off (gather_one a.ids a.gathered pdv ∙ e))

pub step_made : (old : Holding) (slice : List Accepted) (before : HeldGathered) (a : Assembly) (pdv : Pdv)
    (result : Result (Option HeldMessage × HeldGathered) DimseFault) → slice ≡ old.accepted → before ≡ old.gathered → Assembles old a
    → ((g : PartialMessage) → HasGathered slice before g → MakesGathering slice result (gather (accepted_ids slice) g pdv))
    → MakesGathering old.accepted result (gather a.ids a.gathered pdv)
step_made old slice before a pdv result e f h made = grind arith

pub one_next : (old new : Holding) (a : Assembly) (pdv : Pdv) → Assembles old a → new.accepted ≡ old.accepted
    → HasGathered old.accepted new.gathered (gather a.ids a.gathered pdv).gathered → Assembles new (assembly_from a (pdv ∷ []))
unfolding assembly_from
one_next old new a pdv h e made = grind (arith, gather_one)

-- ---- one PDV after others

one_more_adds : (accepted : List Accepted) (pdvs : List Pdv) (pdv : Pdv) (result : Result (Option HeldMessage) DimseFault)
    → AddsMessage accepted result [] (messages_from (assembly_from (new_assembly (accepted_ids accepted)) pdvs) (pdv ∷ []))
    → AddsMessage accepted result (messages (accepted_ids accepted) pdvs).list (messages (accepted_ids accepted) (pdvs ++ pdv ∷ []))
one_more_adds accepted pdvs pdv (Ok message) h =
    (h.0, h.1, messages_from-append (new_assembly (accepted_ids accepted)) pdvs (pdv ∷ []) ∙ ap (followed_by (messages (accepted_ids accepted) pdvs).list) h.2)
one_more_adds accepted pdvs pdv (Err fault) (inl e) = inl e
one_more_adds accepted pdvs pdv (Err fault) (inr e) = grind (arith, messages_from-append, append-nil)

abbrev AddsOne : Holding → Pdv → Result (Option HeldMessage) DimseFault → Type 0
AddsOne old pdv result = (a : Assembly) → Assembles old a → AddsMessage old.accepted result [] (messages_from a (pdv ∷ []))

pub more_adds : (accepted : List Accepted) (pdvs : List Pdv) (pdv : Pdv) (old : Holding) (result : Result (Option HeldMessage) DimseFault)
    → WasGivenPdvs accepted pdvs old → AddsOne old pdv result
    → AddsMessage accepted result (messages (accepted_ids accepted) pdvs).list (messages (accepted_ids accepted) (pdvs ++ pdv ∷ []))
more_adds accepted pdvs pdv old result h adds = grind (arith, one_more_adds)

pub more_stands : (accepted : List Accepted) (pdvs : List Pdv) (pdv : Pdv) (old new : Holding) (result : Result (Option HeldMessage) DimseFault)
    → WasGivenPdvs accepted pdvs old → new.accepted ≡ old.accepted
    → ((a : Assembly) → Assembles old a → OnOk result (Assembles new (assembly_from a (pdv ∷ []))))
    → OnOk result (WasGivenPdvs accepted (pdvs ++ pdv ∷ []) new)
more_stands accepted pdvs pdv old new (Ok message) h e next = grind (arith, assembly_from-append)
more_stands accepted pdvs pdv old new (Err fault) h e next = tt

-- ---- messages whose octets are held

with_octets : (held : HeldMessage) (m : Message) (octets : List ℕ) → held.context ≡ m.context → held.command ≡ m.command → held.over ≡ m.over
    → octets ≡ m.octets → record { context = held.context; command = held.command; octets = octets; over = held.over } ≡ m
with_octets held m octets c k o e = grind arith

octets_are : (syntax : Syntax) (body : Body) (octets : List ℕ) → is_sifted body ≡ false → BodyRefines syntax body octets → octets_held body ≡ octets
octets_are syntax (body.Octets held) octets e h = h
octets_are syntax (body.Sifted answer) octets e h = absurd cc

pub plain_is : (syntax : Syntax) (held : HeldMessage) (m : Message) → Refines syntax held m → is_sifted held.body ≡ false → plain_message held ≡ m
plain_is syntax held m h e =
    with_octets held m (octets_held held.body) h.context h.command h.over (octets_are syntax held.body m.octets e h.body)

-- a message that is no C-STORE, and one that passed its limit
pub plain_unless_stored : (syntax : Syntax) (held : HeldMessage) (m : Message) → Refines syntax held m → is_stored m.command ≡ false
    → plain_message held ≡ m
plain_unless_stored syntax held m h e = plain_is syntax held m h (h.sifted ∙ ap (λ (b : Bool). b && not m.over) e)

pub plain_if_over : (syntax : Syntax) (held : HeldMessage) (m : Message) → Refines syntax held m → m.over ≡ true → plain_message held ≡ m
plain_if_over syntax held m h e =
    plain_is syntax held m h (h.sifted ∙ ap (λ (b : Bool). is_stored m.command && not b) e ∙ and-false (is_stored m.command))

pub plain_held : (syntax : Syntax) (held : HeldMessage) (m : Message) → Refines syntax held m → (is_stored m.command ≡ false) ⊎ (m.over ≡ true)
    → plain_message held ≡ m
plain_held syntax held m h (inl e) = plain_unless_stored syntax held m h e
plain_held syntax held m h (inr e) = plain_if_over syntax held m h e

-- ---- messages, one by one

pub stand_append : (accepted : List Accepted) (xs ys : List HeldMessage) (ms ns : List Message) → AllRefine accepted xs ms
    → AllRefine accepted ys ns → AllRefine accepted (xs ++ ys) (ms ++ ns)
stand_append accepted [] ys [] ns h k = k
stand_append accepted (x ∷ xs) ys (m ∷ ms) ns h k = (h.0, stand_append accepted xs ys ms ns h.1 k)
stand_append accepted [] ys (m ∷ ms) ns h k = absurd h
stand_append accepted (x ∷ xs) ys [] ns h k = absurd h
