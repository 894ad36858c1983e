-- Which institution a connection belongs to: the one that has the pair of titles of its request
-- (PS3.8 section 9.3.2).
use Rattle.std.specs.Prelude.{◌≡◌, ℕ, Bool, false, if◌then◌else◌, List, Option, Some, None, is_none, length, filter, Contains}
use Rattle.dq_pdu.specs.declared.pdu.Request.{Request}
use Rattle.dq_assoc.specs.declared.association.Verdict.TheVariants.{Accept}
use Rattle.std.specs.Str.{bytes_eq}
use Rattle.dq_assoc.specs.Negotiation.{rejection}
use Rattle.dq_assoc.specs.Inputs.{inputs}
use Rattle.dq_config.specs.declared.config.Institution.{Institution}
use Rattle.dq_config.specs.Routing.{institution_routed}
use Rattle.dq_core.specs.Answers.{request_in}
use Rattle.dq_core.specs.Connections.{Connection}

-- no two institutions have one name
abbrev pub HaveOwnNames : List Institution → Type 0
HaveOwnNames institutions =
    (i j : Institution) → Contains institutions i → Contains institutions j →
    i.name ≡ j.name → i ≡ j

-- whether a request passes the checks of its version, application context and maximum length
abbrev pub is_sound_request : Request → Bool
is_sound_request request = is_none (rejection request Accept)

abbrev pub owner_by : List Institution → Option Request → Option Institution
owner_by institutions None = None
owner_by institutions (Some request) =
    if is_sound_request request then institution_routed institutions request.called request.calling else None

-- The owner of a stream: where the first input is a request that passes these checks, the
-- institution to which its pair of titles is routed; else nobody.
abbrev pub owner : List Institution → List ℕ → Option Institution
owner institutions stream = owner_by institutions (request_in (inputs stream))

-- whether an owner is the institution with a name
abbrev pub is_institution : List ℕ → Option Institution → Bool
is_institution name None = false
is_institution name (Some institution) = bytes_eq institution.name name

-- How many associations an institution has open: the connections held that it owns. One that is
-- held and has an owner was accepted, since one whose request is rejected is closed.
abbrev pub live_of : List Institution → List ℕ → List Connection → ℕ
live_of institutions name connections =
    length (filter (λ (c : Connection). is_institution name (owner institutions c.stream)) connections)
