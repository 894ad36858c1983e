use Rattle.dq_value.specs.Parts.{element_values}
use Rattle.dq_match.specs.SeveralValues.{is_one_of_values}
use Rattle.dq_match.proofs.SeveralValues.{one_more}
use Rattle.dq_match.proofs.several_values.in_order.Goals as goal

pub loop-value-preserved : goal.loop-value-preserved
loop-value-preserved c = (
  λ value. one_more value c.in-Some.value.now c.in_ok-from_slice.field-0 c.loop-value.set.keys c.insert.new.self.keys c.loop-value.all c.next.new.self
      (is_one_of_values value (element_values c.args.vr c.args.octets.now)) c.in_ok-insert.ensures.keys c.in_ok-from_slice.ensures.items c.in-Some.ensures.steps
      (c.loop-value.invariant.0 value),
  c.in_ok-insert.ensures.ordered,
)
