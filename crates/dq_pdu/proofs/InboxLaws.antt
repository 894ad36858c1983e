-- What an inbox holds, and the stream that it stands for.
use Rattle.std.proofs.Common.{◌≡◌, ℕ, ◌+◌, ◌<◌, List, [], ◌∷◌, ◌++◌, length, Option, Some, None, refl, sym, ap, ◌∙◌, arith}
use Rattle.std.proofs.lemmas.List.{append-nil}
use Rattle.dq_pdu.specs.declared.fault.PduFault.{PduFault}
use Rattle.dq_pdu.specs.declared.pdu_reader.FirstPdu.{FirstPdu}
use Rattle.dq_pdu.specs.declared.pdu_reader.FirstPdu.TheVariants.{Partial, Faulty, Whole}
use Rattle.dq_pdu.specs.declared.inbox.InboxState.{InboxState}
use Rattle.dq_pdu.specs.declared.inbox.InboxState.TheVariants.{Reading, Stopped, Spent}
use Rattle.dq_pdu.specs.PduReader.{first_pdu}
use Rattle.dq_pdu.specs.Stream.{pdus_in, with_list, fault_at_front}
use Rattle.dq_pdu.specs.Holding.{held_at, inbox_holding, HoldsPart}
use Rattle.dq_pdu.specs.Inboxes.{inbox_fault, inbox_octets}
use Rattle.dq_pdu.proofs.FirstPdus.{fault_of-faulty, partial_is_short}
use Rattle.dq_pdu.proofs.PduLaws.{pdus_partial, pdus_in-append}
use Rattle.dq_pdu.proofs.StreamLaws.{HasNoFirstPdu, known}

held_reading : (fault : Option PduFault) (rest held : List ℕ) → Reading held ≡ held_at fault rest → (fault ≡ None) × (rest ≡ held)
held_reading None rest held e = (refl, cc)
held_reading (Some fault) rest held e = absurd cc

held_stopped : (found : Option PduFault) (rest : List ℕ) (fault : PduFault) → Stopped fault ≡ held_at found rest → found ≡ Some fault
held_stopped None rest fault e = absurd cc
held_stopped (Some found) rest fault e = cc

pub reading_on : (stream piece held : List ℕ) → Reading held ≡ inbox_holding stream
    → pdus_in (stream ++ piece) ≡ with_list (pdus_in stream).list (pdus_in (held ++ piece))
reading_on stream piece held e = grind (arith, held_reading, pdus_in-append)

pub stopped_on : (stream piece : List ℕ) (fault : PduFault) → Stopped fault ≡ inbox_holding stream
    → pdus_in (stream ++ piece) ≡ record { list = (pdus_in stream).list; rest = (pdus_in stream).rest ++ piece; fault = Some fault }
stopped_on stream piece fault e = grind (arith, pdus_in-append, held_stopped)

-- ---- no whole PDU is held

part_by : (rest : List ℕ) (f : FirstPdu) → first_pdu rest ≡ f → HasNoFirstPdu rest → fault_at_front rest ≡ None → first_pdu rest ≡ Partial
part_by rest Partial e ends fault = e
part_by rest (Faulty found) e ends fault = absurd (let z = sym (fault_of-faulty rest found e) ∙ fault in cc)
part_by rest (Whole pdu count) e ends fault = absurd (ends pdu count e)

held_part : (fault : Option PduFault) (rest : List ℕ) → (fault ≡ None → first_pdu rest ≡ Partial) → HoldsPart (held_at fault rest)
held_part None rest h = h refl
held_part (Some fault) rest h = tt

pub holding-part : (stream : List ℕ) → HoldsPart (inbox_holding stream)
holding-part stream =
    let k = known stream in
    held_part (pdus_in stream).fault (pdus_in stream).rest (λ e. part_by (pdus_in stream).rest (first_pdu (pdus_in stream).rest) refl k.ends (sym k.fault ∙ e))

-- ---- no octets

pub none_by_length : (octets : List ℕ) → length octets ≡ 0 → octets ≡ []
none_by_length [] h = refl
none_by_length (octet ∷ octets) h = absurd (omega arith)

pub reading_is : (held rest : List ℕ) → Reading held ≡ Reading rest → held ≡ rest
reading_is held rest e = cc

-- what was held stays, since it has no PDU
pub idle_exact : (held piece : List ℕ) → piece ≡ [] → first_pdu held ≡ Partial → pdus_in (held ++ piece) ≡ record { list = []; rest = held; fault = None }
idle_exact held piece none part = ap (λ (p : List ℕ). pdus_in (held ++ p)) none ∙ ap (λ (s : List ℕ). pdus_in s) (append-nil held) ∙ pdus_partial held part

-- ---- laws

fault_held_at : (fault : Option PduFault) (rest : List ℕ) → inbox_fault (held_at fault rest) ≡ fault
fault_held_at None rest = refl
fault_held_at (Some fault) rest = refl

not_spent_at : (fault : Option PduFault) (rest : List ℕ) → Spent ≡ held_at fault rest → ⊥
not_spent_at None rest e = cc
not_spent_at (Some fault) rest e = cc

pub not_spent : (stream : List ℕ) → Spent ≡ inbox_holding stream → ⊥
not_spent stream e = not_spent_at (pdus_in stream).fault (pdus_in stream).rest e

pub fault_held : (stream : List ℕ) → inbox_fault (inbox_holding stream) ≡ (pdus_in stream).fault
fault_held stream = fault_held_at (pdus_in stream).fault (pdus_in stream).rest

-- ---- how much is held

pub part_is_short : (held : InboxState) → HoldsPart held → length (inbox_octets held) < 6 + 65536
part_is_short (Reading rest) part = partial_is_short rest part
part_is_short (Stopped fault) part = omega arith
part_is_short Spent part = omega arith

pub held_is_short : (stream : List ℕ) → length (inbox_octets (inbox_holding stream)) < 6 + 65536
held_is_short stream = part_is_short (inbox_holding stream) (holding-part stream)

pub rest_is_short : (stream : List ℕ) → (pdus_in stream).fault ≡ None → length (pdus_in stream).rest < 6 + 65536
rest_is_short stream e =
    let k = known stream in
    partial_is_short (pdus_in stream).rest (part_by (pdus_in stream).rest (first_pdu (pdus_in stream).rest) refl k.ends (sym k.fault ∙ e))
