-- The acceptance of a request that octets spell can be written.
use Rattle.std.proofs.Common.{◌≡◌, ℕ, Bool, true, cond, List, [], ◌∷◌, map, Option, Some, None, refl, sym, ap, subst, ◌∙◌, arith}
use Rattle.std.specs.List.{list_all}
use Rattle.dq_dataset.specs.declared.header.Syntax.{Syntax}
use Rattle.dq_dataset.specs.declared.header.Syntax.TheVariants.{Implicit, Explicit}
use Rattle.dq_pdu.specs.declared.pdu.Request.{Request}
use Rattle.dq_pdu.specs.declared.pdu.ProposedContext.{ProposedContext}
use Rattle.dq_pdu.specs.Acceptances.{AreContextIds, IsReceived, has_identifier, is_identifier}
use Rattle.dq_pdu.specs.Writing.{IsWritable}
use Rattle.dq_pdu.specs.Widths.{HasWidths}
use Rattle.dq_pdu.proofs.Answering.{answer_written}
use Rattle.dq_pdu.proofs.WritableLaws.{writable_is}
use Rattle.dq_assoc.specs.declared.classes.SopClass.{SopClass}
use Rattle.dq_assoc.specs.Negotiation.{syntax_uid, context_result_of, context_answer, answered_context, acceptance_of, rejection}
use Rattle.dq_assoc.specs.declared.association.State.TheVariants.{Waiting, Open}
use Rattle.dq_assoc.specs.declared.association.Verdict.{Verdict}
use Rattle.dq_assoc.specs.Table.{Requested, line, requested_line, goes, stray_line}
use Rattle.dq_assoc.proofs.Contexts.{ids-stay}

short-syntax : (syntax : Syntax) → is_identifier (syntax_uid syntax) ≡ true
short-syntax Implicit = refl
short-syntax Explicit = refl

short-answer : (id : ℕ) (class : Option SopClass) (syntax : Option Syntax) → has_identifier (context_answer id (context_result_of id class syntax)) ≡ true
short-answer id None syntax = refl
short-answer id (Some class) None = refl
short-answer id (Some class) (Some syntax) = short-syntax syntax

short-answers : (cs : List ProposedContext) → list_all has_identifier (map answered_context cs) ≡ true
short-answers [] = refl
short-answers (c ∷ cs) = grind (arith, short-answer, short-answers cs)

acceptance-wide : (request : Request) → IsReceived request → HasWidths (acceptance_of request)
acceptance-wide request r = grind arith

pub acceptance-written : (request : Request) → IsReceived request → IsWritable (acceptance_of request)
acceptance-written request r = answer_written _ (record {
  wide = acceptance-wide request r;
  application = refl;
  ids = subst AreContextIds (sym (ids-stay request.contexts)) r.ids;
  syntaxes = short-answers request.contexts;
})

pub acceptance-line : (request : Request) (verdict : Verdict) → IsReceived request → rejection request verdict ≡ None
    → line Waiting verdict (Requested request) ≡ goes (Some (acceptance_of request)) Open
acceptance-line request verdict r e =
    let answer = acceptance_of request in
    let w = (writable_is answer (acceptance-wide request r)).1 (acceptance-written request r) in
    ap (requested_line request) e ∙ ap (λ (b : Bool). cond b (goes (Some answer) Open) stray_line) w
