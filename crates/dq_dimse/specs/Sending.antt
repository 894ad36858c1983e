-- A message as it is sent (PS3.7 section 6.3.1 and annex E, PS3.8 annex E): one PDV in each PDU.
use Rattle.std.specs.Prelude.{◌≡◌, ◌⊎◌, ◌<◌, ◌≤◌, ℕ, zero, suc, ◌+◌, ◌-◌, ◌*◌, ◌/◌, ◌%◌, min, Bool, []}
use Rattle.std.specs.Prelude.{true, false, ◌==◌, nat_le, if◌then◌else◌, List, ◌∷◌, ◌++◌}
use Rattle.std.specs.Prelude.{length, take, drop, Option, Some, None}
use Rattle.std.specs.List.{flat_map}
use Rattle.std.specs.Int.{w16, w32, to_le_bytes}
use Rattle.dq_pdu.specs.declared.pdu.Pdu.{Pdu}
use Rattle.dq_pdu.specs.Numbers.{pdv_header}
use Rattle.dq_pdu.specs.Writing.{pdu_octets, p_data}
use Rattle.dq_dimse.specs.declared.command.Command.{Command}
pub use Rattle.dq_dimse.specs.Limits.{own_limit, least_limit}
use Rattle.dq_dimse.specs.CommandElements.{command_field, command_data_set_type, status_element}
use Rattle.dq_dimse.specs.CommandElements.{command_group_length, message_id_being_responded_to}
use Rattle.dq_dimse.specs.CommandElements.{affected_sop_class_uid, affected_sop_instance_uid}
use Rattle.dq_dimse.specs.CommandElements.{no_data_set, with_data_set}

-- a value of an even length: an odd one gets a zero octet (PS3.5 sections 7.1.1 and 9.1)
abbrev pub zero_padded : List ℕ → List ℕ
zero_padded octets = if length octets % 2 == 1 then octets ++ 0 ∷ [] else octets

-- an element of group 0000: its number, the length of its value, its value
abbrev pub command_element : ℕ → List ℕ → List ℕ
command_element number value = 0 ∷ 0 ∷ (to_le_bytes w16 number ++ to_le_bytes w32 (length value) ++ value)

abbrev pub short_command_element : ℕ → ℕ → List ℕ
short_command_element number value = command_element number (to_le_bytes w16 value)

-- the instance, where there is one
abbrev pub instance_element : List ℕ → List ℕ
instance_element [] = []
instance_element (octet ∷ octets) = command_element affected_sop_instance_uid (zero_padded (octet ∷ octets))

-- the elements of a response after its group length, in the order of their numbers
abbrev pub command_elements : Command → List ℕ
command_elements command =
    command_element affected_sop_class_uid (zero_padded command.sop_class)
    ++ short_command_element command_field command.code
    ++ short_command_element message_id_being_responded_to command.id
    ++ short_command_element command_data_set_type
    (if command.with_data then with_data_set else no_data_set)
    ++ short_command_element status_element command.status
    ++ instance_element command.sop_instance

-- the command set of a response: its group length, and its elements
abbrev pub command_set : Command → List ℕ
command_set command =
    command_element command_group_length (to_le_bytes w32 (length (command_elements command)))
    ++ command_elements command

-- The longest PDU that a peer takes (PS3.8 annex D.1): 0 is no limit, and any other leaves room for
-- data.
abbrev pub IsPduLimit : ℕ → Type 0
IsPduLimit limit = (limit ≡ 0) ⊎ (least_limit ≤ limit)

-- The longest PDU that is sent: the own limit, or what the peer takes where that is less.
abbrev pub pdu_limit : ℕ → ℕ
pdu_limit limit = if limit == 0 then own_limit else min limit own_limit

-- the length of a fragment: the largest even number that leaves room for the header of a PDV
abbrev pub fragment_size : ℕ → ℕ
fragment_size limit = (pdu_limit limit - pdv_header) / 2 * 2

-- octets as fragments of a size, the last of which may be shorter; no octets are one empty fragment
abbrev pub fragments_within : ℕ → ℕ → List ℕ → List (List ℕ)
fragments_within zero size octets = octets ∷ []
fragments_within (suc fuel) size octets =
    if nat_le (length octets) size then octets ∷ []
    else take size octets ∷ fragments_within fuel size (drop size octets)

abbrev pub fragments : ℕ → List ℕ → List (List ℕ)
fragments size octets = fragments_within (length octets) size octets

-- the largest even number that leaves room for the header of a PDV in the longest PDU
pub record IsFragmentSize (limit size : ℕ) : Type 0 where
  pub even : size % 2 ≡ 0
  pub some : 0 < size
  pub room : size + pdv_header ≤ pdu_limit limit
  pub largest : pdu_limit limit < size + 8

-- Each fragment but the last has exactly the size, and the last is not longer. Only a lone one may
-- be empty.
abbrev pub AreSized : ℕ → List (List ℕ) → Type 0
AreSized size [] = ⊥
AreSized size (octets ∷ []) = length octets ≤ size
AreSized size (octets ∷ next ∷ others) =
    (length octets ≡ size) × (0 < length next) × AreSized size (next ∷ others)

-- fragments of a size that are the octets, one after the other
pub record AreFragmentsOf (size : ℕ) (octets : List ℕ) (run : List (List ℕ)) : Type 0 where
  pub joined : flat_map (λ (part : List ℕ). part) run ≡ octets
  pub sized : AreSized size run

-- each fragment as a PDU, the last one marked
abbrev pub pdus_of : ℕ → Bool → List (List ℕ) → List Pdu
pdus_of context command [] = []
pdus_of context command (octets ∷ []) = p_data context command true octets ∷ []
pdus_of context command (octets ∷ next ∷ others) =
    p_data context command false octets ∷ pdus_of context command (next ∷ others)

-- octets cut into PDUs of fragments of a size
abbrev pub cut_within : ℕ → Bool → ℕ → List ℕ → List ℕ
cut_within context command size octets =
    flat_map pdu_octets (pdus_of context command (fragments size octets))

-- octets cut into PDUs
abbrev pub cut_into_pdus : ℕ → Bool → ℕ → List ℕ → List ℕ
cut_into_pdus context command limit octets =
    cut_within context command (fragment_size limit) octets

abbrev pub data_cut : ℕ → ℕ → Option (List ℕ) → List ℕ
data_cut context limit None = []
data_cut context limit (Some octets) = cut_into_pdus context false limit octets

-- what is sent: the command set, and after it the data set; they share no PDU
abbrev pub message_pdus : ℕ → Command → Option (List ℕ) → ℕ → List ℕ
message_pdus context command octets limit =
    cut_into_pdus context true limit (command_set command) ++ data_cut context limit octets
