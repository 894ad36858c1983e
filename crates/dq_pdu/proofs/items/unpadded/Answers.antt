use Rattle.std.proofs.Common.{◌-◌, length, sym, ◌∙◌, arith}
use Rattle.dq_pdu.proofs.Lists.{unpadded_less, unpadded_all}
use Rattle.dq_pdu.proofs.items.unpadded.Goals as goal

pub returns-then-not-is_padding : goal.returns-then-not-is_padding
returns-then-not-is_padding c =
    sym (unpadded_all c.loop-rest.rest.now (length c.loop-rest.rest.now - 1) _ (omega (arith, c.in-len1-up.len_at_least)) (sym c.is_padding.ensures
    ∙ c.if-not-is_padding.true)) ∙ c.loop-rest.invariant

pub loop-rest-preserved : goal.loop-rest-preserved
loop-rest-preserved c =
    unpadded_less c.loop-rest.rest.now (length c.loop-rest.rest.now - 1) _ (omega (arith, c.in-len1-up.len_at_least)) (sym c.is_padding.ensures
    ∙ c.if-not-is_padding.false) ∙ c.loop-rest.invariant
