use Rattle.std.proofs.Common.{◌≡◌, ℕ, suc, false, nat_le, List, [], ◌∷◌, length, refl, arith}
use Rattle.std.proofs.lemmas.Bool.Decides.{nat_tests}
use Rattle.dq_dataset.specs.Tree.{ElementList}
use Rattle.dq_dataset.specs.View.{items_of}
use Rattle.dq_match.specs.Identifiers.{has_at_most_one_item}
use Rattle.dq_match.proofs.identifiers.at_most_one.Goals as goal

more_than_one : (n : ℕ) → nat_le (suc (suc n)) 1 ≡ false
more_than_one n = grind (arith, nat_tests)

by_length : (items : List ElementList) → nat_le (length items) 1 ≡ has_at_most_one_item (items_of items)
by_length [] = refl
by_length (d ∷ []) = refl
by_length (d ∷ (next ∷ others)) = more_than_one (length others)

pub returns : goal.returns
returns c = by_length c.args.items.now
