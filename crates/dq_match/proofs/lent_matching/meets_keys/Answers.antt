use Rattle.std.proofs.Common.{arith}
use Rattle.std.proofs.lemmas.Grind.{common_steps}
use Rattle.std.proofs.lemmas.List.Folds.{list_all-map}
use Rattle.dq_match.proofs.lent_matching.meets_keys.Goals as goal

pub returns : goal.returns
returns c = grind (arith, common_steps, list_all-map)
