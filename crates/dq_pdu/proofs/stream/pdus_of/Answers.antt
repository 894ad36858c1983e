use Rattle.std.proofs.Common.{sym, ◌∙◌, arith, length-drop}
use Rattle.dq_pdu.specs.Stream.{pdus_in}
use Rattle.dq_pdu.proofs.FirstPdus.{count_within}
use Rattle.dq_pdu.proofs.PduLaws.{loop_goes_on, loop_partial, loop_faulty, end_again}
use Rattle.dq_pdu.proofs.stream.pdus_of.Goals as goal

pub returns-in-Partial-clause-pdus : goal.returns-in-Partial-clause-pdus
returns-in-Partial-clause-pdus c =
    loop_partial c.pdus.pdus.items c.pdus.rest.now (pdus_in c.args.octets.now) (sym c.in_ok-first_pdu_of.ensures ∙ c.in-Partial.is) c.pdus.invariant.0

pub returns-in-Faulty-clause-pdus : goal.returns-in-Faulty-clause-pdus
returns-in-Faulty-clause-pdus c =
    loop_faulty c.pdus.pdus.items c.pdus.rest.now c.in-Faulty.fault (pdus_in c.args.octets.now) (sym c.in_ok-first_pdu_of.ensures
    ∙ c.in-Faulty.is) c.pdus.invariant.0

pub split_at-requires : goal.split_at-requires
split_at-requires c =
    (count_within c.pdus.rest.now c.in-Whole.pdu c.in-Whole.count (sym c.in_ok-first_pdu_of.ensures ∙ c.in-Whole.is)).1

pub pdus-smaller : goal.pdus-smaller
pdus-smaller c =
    let w = count_within c.pdus.rest.now c.in-Whole.pdu c.in-Whole.count (sym c.in_ok-first_pdu_of.ensures ∙ c.in-Whole.is) in
    rw c.split_at.ensures.back (omega (arith, w.0, w.1, length-drop c.in-Whole.count c.pdus.rest.now))

pub pdus-preserved : goal.pdus-preserved
pdus-preserved c =
    let e = sym c.in_ok-first_pdu_of.ensures ∙ c.in-Whole.is in
    let w = count_within c.pdus.rest.now c.in-Whole.pdu c.in-Whole.count e in
    let i = c.pdus.invariant in
    rw (c.split_at.ensures.back, c.in_ok-push-in-Whole.ensures.items) (
      loop_goes_on c.pdus.pdus.items c.in-Whole.pdu c.in-Whole.count c.pdus.rest.now (pdus_in c.args.octets.now) e i.0,
      omega (arith, i.1, w.1, length-drop c.in-Whole.count c.pdus.rest.now),
      end_again c.args.octets.now c.pdus.rest.now c.in-Whole.count i.1 i.2 w.1,
    )
