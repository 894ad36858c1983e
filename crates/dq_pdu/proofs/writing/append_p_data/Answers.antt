use Rattle.dq_pdu.proofs.Spelled.{one_pdv_written}
use Rattle.dq_pdu.proofs.writing.append_p_data.Goals as goal

pub returns : goal.returns
returns c =
    one_pdv_written c.put_pdv.result c.args.out.now.items c.put_header.new.out.items c.put_pdv.new.out.items c.args.context c.args.command c.args.last
    c.args.fragment.now c.in_ok-put_header.ensures c.put_pdv.ensures
