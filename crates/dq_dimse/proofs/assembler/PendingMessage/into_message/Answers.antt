use Rattle.dq_dimse.proofs.Holdings.{part_discarded, part_short}
use Rattle.dq_dimse.proofs.assembler.PendingMessage.into_message.Goals as goal

pub returns : goal.returns
returns c = λ message h. record {
  context = h.context;
  command = h.command;
  over = c.has_exceeded_limit-over.ensures c.args.self.context.syntax message h.data_set;
  body = c.into_body-body.ensures.body c.args.self.context.syntax message h.data_set;
  sifted = c.into_body-body.ensures.sifted c.args.self.context.syntax message h.data_set;
  discarded = part_discarded c.args.self.context.syntax c.args.self.data_set message h.data_set;
  short = part_short c.args.self.context.syntax c.args.self.data_set message h.data_set;
}
