use Rattle.std.proofs.Common.{subst}
use Rattle.std.specs.List.Sorted.{IsPermutation}
use Rattle.dq_sql.proofs.DistinctIds.{apart_answer}
use Rattle.dq_sql.proofs.ids.are_apart.Goals as goal

pub returns : goal.returns
returns c found are =
    let known = rw c.in-Some.is at are in
    apart_answer found c.sort.new.self.items c.all_rise.result known.0
    (subst (λ l. IsPermutation l c.sort.new.self.items) known.1 c.sort.ensures.permutation)
    (rw c.in_ok-sort.was at c.sort.ensures.sorted) (rw c.as_slice.ensures.value at c.all_rise.ensures)
