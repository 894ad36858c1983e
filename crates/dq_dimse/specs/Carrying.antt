-- PDVs that carry a message (PS3.8 annex E): the fragments of its command set, and after them
-- those of its data set where it has one.
use Rattle.std.specs.Prelude.{◌≡◌, ℕ, true, false, List, [], ◌∷◌, ◌++◌, Option, Some, None}
use Rattle.dq_pdu.specs.declared.pdu.Pdu.{Pdu}
use Rattle.dq_pdu.specs.declared.pdu.Pdu.TheVariants.{PData}
use Rattle.dq_pdu.specs.declared.pdu.Pdv.{Pdv}
use Rattle.dq_dimse.specs.Received.{Message}
use Rattle.dq_dimse.specs.Messages.{fragment_octets, AreAllFragments, HasOctets}

-- the fragments of a data set, if there is one
abbrev pub CarriesData : ℕ → Option (List ℕ) → List Pdv → Type 0
CarriesData context None pdvs = pdvs ≡ []
CarriesData context (Some octets) pdvs =
    AreAllFragments context false pdvs × (fragment_octets pdvs ≡ octets)

pub record Carries (context : ℕ) (set : List ℕ) (octets : Option (List ℕ)) (pdvs : List Pdv)
    : Type 0 where
  pub commands : List Pdv
  pub data_part : List Pdv
  pub parts : pdvs ≡ commands ++ data_part
  pub fragments : AreAllFragments context true commands
  pub set_is : fragment_octets commands ≡ set
  pub carries_data : CarriesData context octets data_part

-- a PDU of one PDV
abbrev pub pdu_with : Pdv → Pdu
pdu_with pdv = PData (pdv ∷ [])

-- the data set of a message, if its command has one
abbrev pub IsDataOf : Message → Option (List ℕ) → Type 0
IsDataOf message None = (message.command.with_data ≡ false) × HasOctets message []
IsDataOf message (Some octets) =
    (message.command.with_data ≡ true) × HasOctets message octets
