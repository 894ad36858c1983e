use Rattle.dq_app.specs.Checks.{institution_lines}
use Rattle.dq_console.proofs.Listed.{another}
use Rattle.dq_app.proofs.checking.list_of.Goals as goal

pub loop-institution-preserved : goal.loop-institution-preserved
loop-institution-preserved c =
    another institution_lines c.args.institutions.now c.loop-institution.institution-index c.institution-item.result c.loop-institution.text.items
    c.put_institution.new.text.items c.loop-institution-test.true c.institution-item.is c.loop-institution.invariant c.in_ok-put_institution.ensures
