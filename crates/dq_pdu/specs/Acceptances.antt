-- When an acceptance can be written: its contexts have the ids of a request's, and identifiers are
-- not too long.
use Rattle.std.specs.Prelude.{◌≡◌, ℕ, Bool, true, IsTrue, ◌&&◌, nat_le, nat_lt, List, length, map, Option, Some, None}
use Rattle.std.specs.List.{list_all}
use Rattle.dq_pdu.specs.declared.pdu.Request.{Request}
use Rattle.dq_pdu.specs.declared.pdu.Accept.{Accept}
use Rattle.dq_pdu.specs.declared.pdu.ProposedContext.{ProposedContext}
use Rattle.dq_pdu.specs.declared.pdu.AnsweredContext.{AnsweredContext}
use Rattle.dq_pdu.specs.Numbers.{title_length, reserved_length}
use Rattle.dq_pdu.specs.Octets.{are_distinct}
use Rattle.dq_pdu.specs.PduReader.{is_odd}
use Rattle.dq_pdu.specs.Writing.{is_bare}
use Rattle.dq_pdu.specs.Widths.{AreWide}

-- The ids of a request's contexts: odd octets, and none comes again (PS3.8 section 9.3.2.2).
pub record AreContextIds (ids : List ℕ) : Type 0 where
  pub odd : IsTrue (list_all is_odd ids)
  pub octets : IsTrue (list_all (λ id. nat_lt id 0x100) ids)
  pub distinct : IsTrue (are_distinct ids)

-- a request as its octets spell it
pub record IsReceived (request : Request) : Type 0 where
  pub ids : AreContextIds (map (λ (c : ProposedContext). c.id) request.contexts)
  pub called_sixteen : length request.called ≡ title_length
  pub calling_sixteen : length request.calling ≡ title_length
  pub reserved_thirty_two : length request.reserved ≡ reserved_length

-- An identifier has at most 64 octets, and no padding (PS3.5 section 9.1).
abbrev pub is_identifier : List ℕ → Bool
is_identifier name = is_bare name && nat_le (length name) 64

abbrev pub is_identifier_or_none : Option (List ℕ) → Bool
is_identifier_or_none None = true
is_identifier_or_none (Some name) = is_identifier name

abbrev pub has_identifier : AnsweredContext → Bool
has_identifier context = is_identifier context.transfer_syntax

-- an acceptance that answers the contexts of a request
pub record IsAcceptance (a : Accept) : Type 0 where
  pub wide : AreWide a.version a.called a.calling a.reserved a.maximum_length
  pub application : IsTrue (is_identifier_or_none a.application_context)
  pub ids : AreContextIds (map (λ (c : AnsweredContext). c.id) a.contexts)
  pub syntaxes : IsTrue (list_all has_identifier a.contexts)
