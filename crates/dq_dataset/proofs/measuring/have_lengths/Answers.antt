use Rattle.std.proofs.Common.{arith}
use Rattle.dq_dataset.proofs.Counted.{lengths_from}
use Rattle.dq_dataset.proofs.measuring.have_lengths.Goals as goal

pub loop-element-preserved : goal.loop-element-preserved
loop-element-preserved c =
    lengths_from c.args.syntax c.args.elements.now c.loop-element.element-index c.element-item.result c.loop-element-test.true c.element-item.is
    c.loop-element.invariant (omega (arith, c.value_length.ensures, c.if-value_length.false))
