use Rattle.std.proofs.Common.{◌≤◌, length, arith}
use Rattle.std.proofs.lemmas.Bool.Decides.{nat_tests}
use Rattle.dq_find.proofs.SearchPages.{none_left, nothing_left}
use Rattle.dq_find.proofs.open_search.OpenSearch.is_done.Goals as goal

pub returns-in-Named : goal.returns-in-Named
returns-in-Named c = λ h records.
    (let past : length c.in-Named.keys ≤ c.in-Named.from = grind (arith, nat_tests) in
    none_left c.args.self.now c.in-Named.keys c.in-Named.from records c.in-Named.is past)

pub returns-in-Nothing : goal.returns-in-Nothing
returns-in-Nothing c = λ h records. nothing_left c.args.self.now records c.in-Nothing.is
