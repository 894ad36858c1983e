use Rattle.std.proofs.Common.{◌≡◌, map, take}
use Rattle.dq_console.specs.Requests.{institution_counts}
use Rattle.dq_console.proofs.counting.all_counted.Given as goal

abbrev pub invariant-loop-name : goal.invariant-loop-name
invariant-loop-name g l = record {
  all : g.C.Counting.is_honest l.rows → l.all ≡ map (institution_counts (g.C.Counting.rows l.initial.rows)) (take l.name-index l.names);
  leads : g.C.Counting.leads l.initial.rows l.rows;
}
