-- The inputs of a connection that is held: nothing closes it, so it has sent no request yet, or one that was accepted,
-- and messages.
use Rattle.std.specs.Prelude.{◌≡◌, IsTrue, IsSome, List, [], ◌∷◌}
use Rattle.dq_pdu.specs.declared.pdu.Request.{Request}
use Rattle.dq_assoc.specs.declared.association.State.TheVariants.{Waiting, Open}
use Rattle.dq_assoc.specs.declared.association.Verdict.TheVariants.{Accept}
use Rattle.dq_assoc.specs.Table.{Input, Requested, Sent, Released, PeerAborted, Stray, Bad, line}
use Rattle.dq_config.specs.declared.config.Institution.{Institution}
use Rattle.dq_config.specs.Routing.{institution_routed}
use Rattle.dq_core.specs.Owners.{is_sound_request}

abbrev pub AreMessageInputs : List Input → Type 0
AreMessageInputs [] = Unit {0}
AreMessageInputs (Sent message ∷ inputs) = AreMessageInputs inputs
AreMessageInputs (Requested request ∷ inputs) = ⊥
AreMessageInputs (Released ∷ inputs) = ⊥
AreMessageInputs (PeerAborted source reason ∷ inputs) = ⊥
AreMessageInputs (Stray ∷ inputs) = ⊥
AreMessageInputs (Bad reason ∷ inputs) = ⊥

-- a request that an institution has, and that opens an association
pub record IsAccepted (institutions : List Institution) (request : Request) : Type 0 where
  pub sound : IsTrue (is_sound_request request)
  pub owned : IsSome (institution_routed institutions request.called request.calling)
  pub opens : (line Waiting Accept (Requested request)).next ≡ Open

-- no input yet, or a request that was accepted, and messages
abbrev pub AreOpen : List Institution → List Input → Type 0
AreOpen institutions [] = Unit {0}
AreOpen institutions (Requested request ∷ inputs) =
    IsAccepted institutions request × AreMessageInputs inputs
AreOpen institutions (Sent message ∷ inputs) = ⊥
AreOpen institutions (Released ∷ inputs) = ⊥
AreOpen institutions (PeerAborted source reason ∷ inputs) = ⊥
AreOpen institutions (Stray ∷ inputs) = ⊥
AreOpen institutions (Bad reason ∷ inputs) = ⊥
