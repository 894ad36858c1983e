-- The PDUs of a stream (PS3.8 section 9.3): the only list and rest such that the stream is
-- spellings of the list, in order, and then a rest of which no prefix spells a PDU.
use Rattle.std.specs.Prelude.{◌≡◌, ℕ, zero, suc, nat_lt, if◌then◌else◌, List, [], ◌∷◌, ◌++◌, length, drop, slice_index, Option, Some, None}
use Rattle.dq_pdu.specs.declared.pdu.Pdu.{Pdu}
use Rattle.dq_pdu.specs.declared.fault.PduFault.{PduFault}
use Rattle.dq_pdu.specs.declared.fault.PduFault.TheVariants.{Unrecognized, TooLong, Malformed}
use Rattle.dq_pdu.specs.declared.pdu_reader.FirstPdu.{FirstPdu}
use Rattle.dq_pdu.specs.declared.pdu_reader.FirstPdu.TheVariants.{Partial, Faulty, Whole}
use Rattle.dq_pdu.specs.Numbers.{pdu_header, longest_body}
use Rattle.dq_pdu.specs.Spelling.{SpellsPdu}
use Rattle.dq_pdu.specs.PduReader.{body_length, is_unrecognized, first_pdu}

-- the stream is spellings of the PDUs, one after the other, and then the rest
abbrev pub Follow : List Pdu → List ℕ → List ℕ → Type 0
Follow [] stream rest = stream ≡ rest
Follow (pdu ∷ pdus) stream rest =
    (octets : List ℕ) × (others : List ℕ)
    × (stream ≡ octets ++ others) × SpellsPdu pdu octets × Follow pdus others rest

-- no prefix of the rest spells a PDU
abbrev pub HasNoPdu : List ℕ → Type 0
HasNoPdu rest =
    (pdu : Pdu) (octets others : List ℕ) → rest ≡ octets ++ others → SpellsPdu pdu octets → ⊥

-- what a stream is split into
pub record Splits (stream : List ℕ) (pdus : List Pdu) (rest : List ℕ) : Type 0 where
  pub follow : Follow pdus stream rest
  pub ends : HasNoPdu rest

-- The fault that can be read off a rest: its type, then its length, then its body where all of it
-- is there.
abbrev pub fault_at_front : List ℕ → Option PduFault
fault_at_front rest =
    if nat_lt (length rest) pdu_header then None
    else (if is_unrecognized (slice_index rest 0) then Some Unrecognized
    else (if nat_lt longest_body (body_length rest) then Some TooLong
    else (if nat_lt (length (drop pdu_header rest)) (body_length rest) then None
    else Some Malformed)))

-- the PDUs of a stream, the rest after them, and the fault of the rest
pub record Pdus : Type 0 where
  pub list : List Pdu
  pub rest : List ℕ
  pub fault : Option PduFault

abbrev pub with_first : Pdu → Pdus → Pdus
with_first pdu others =
    record { list = pdu ∷ others.list; rest = others.rest; fault = others.fault }

-- what stands at the front, and then what follows it
abbrev pub pdus_from : FirstPdu → List ℕ → (List ℕ → Pdus) → Pdus
pdus_from Partial stream others = record { list = []; rest = stream; fault = None }
pdus_from (Faulty fault) stream others = record { list = []; rest = stream; fault = Some fault }
pdus_from (Whole pdu count) stream others = with_first pdu (others (drop count stream))

unfoldable pub pdus_within : ℕ → List ℕ → Pdus
pdus_within zero stream = record { list = []; rest = stream; fault = None }
pdus_within (suc fuel) stream =
    pdus_from (first_pdu stream) stream (λ others. pdus_within fuel others)

-- the PDUs of a stream, computed: no more of them than octets
abbrev pub pdus_in : List ℕ → Pdus
pdus_in stream = pdus_within (length stream) stream

abbrev pub with_list : List Pdu → Pdus → Pdus
with_list list others =
    record { list = list ++ others.list; rest = others.rest; fault = others.fault }

-- the PDUs of a stream that goes on: a fault stays, and else the rest is read on
abbrev pub stream_read_on : Option PduFault → List Pdu → List ℕ → List ℕ → Pdus
stream_read_on None list rest more = with_list list (pdus_in (rest ++ more))
stream_read_on (Some fault) list rest more =
    record { list = list; rest = rest ++ more; fault = Some fault }
