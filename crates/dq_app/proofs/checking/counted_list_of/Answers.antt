use Rattle.dq_app.specs.Checks.{counted_lines}
use Rattle.dq_console.proofs.Listed.{another}
use Rattle.dq_app.proofs.checking.counted_list_of.Goals as goal

pub loop-institution-preserved : goal.loop-institution-preserved
loop-institution-preserved g c =
    let before = c.loop-institution.invariant in
    let told = c.in_ok-put_counted.ensures in
    record {
      text = λ honest.
          let mid = g.met.C.Counting.keeps_rows _ _ told.leads honest in
          let kept = g.met.C.Counting.keeps_rows _ _ before.leads mid.0 in
          another (counted_lines (g.C.Counting.rows c.args.counts.now)) c.args.institutions.now c.loop-institution.institution-index
          c.institution-item.result c.loop-institution.text.items c.put_counted.new.text.items c.loop-institution-test.true c.institution-item.is
          (before.text mid.0) (rw kept.1 at (told.lines honest));
      leads = g.met.C.Counting.leads_on _ _ _ before.leads told.leads;
    }
