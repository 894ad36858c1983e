use Rattle.std.proofs.Common.{◌≡◌, take}
use Rattle.dq_app.specs.Checks.{counted_check_text}
use Rattle.dq_app.proofs.checking.counted_list_of.Given as goal

abbrev pub invariant-loop-institution : goal.invariant-loop-institution
invariant-loop-institution g l = record {
  text : g.C.Counting.is_honest l.counts
      → l.text.items ≡ counted_check_text (g.C.Counting.rows l.initial.counts) (take l.institution-index l.institutions);
  leads : g.C.Counting.leads l.initial.counts l.counts;
}
