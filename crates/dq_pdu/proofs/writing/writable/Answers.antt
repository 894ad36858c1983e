use Rattle.dq_pdu.proofs.WritableLaws.{means_by_size, means_by_parts}
use Rattle.dq_pdu.proofs.writing.writable.Goals as goal
use Rattle.std.proofs.Common.{sym, ◌∙◌}

pub returns-then-has_parts-clause-means : goal.returns-then-has_parts-clause-means
returns-then-has_parts-clause-means c =
    means_by_size c.args.pdu.now c.size_of_body.result c.size_of_body.ensures.widths (sym c.has_parts.ensures ∙ c.if-has_parts.true) c.size_of_body.ensures.size

pub returns-else-has_parts-clause-means : goal.returns-else-has_parts-clause-means
returns-else-has_parts-clause-means c =
    means_by_parts c.args.pdu.now c.has_parts.result c.has_parts.ensures c.if-has_parts.false
