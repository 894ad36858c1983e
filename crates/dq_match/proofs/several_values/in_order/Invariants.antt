use Rattle.std.proofs.Common.{◌≡◌, ℕ, List, ◌||◌, length}
use Rattle.std.specs.BTreeSet.{IsOrdered}
use Rattle.std.specs.Cmp.Lexicographic.{slice_cmp}
use Rattle.std.specs.Global.{Vec}
use Rattle.std.specs.Ordering.{nat_cmp}
use Rattle.dq_list.specs.Octets.{octets_of_vectors}
use Rattle.dq_value.specs.Parts.{element_values}
use Rattle.dq_match.specs.SeveralValues.{is_one_of_values}
use Rattle.dq_match.proofs.several_values.in_order.Given as goal

abbrev pub invariant-loop-value : goal.invariant-loop-value
invariant-loop-value l =
    ((value : List ℕ) → (is_one_of_values value (octets_of_vectors l.set.keys) || is_one_of_values value l.all) ≡ is_one_of_values value (element_values l.fn.vr l.octets))
    × IsOrdered (λ (a b : Vec ℕ). slice_cmp nat_cmp a.items b.items) l.set

abbrev pub decreases-loop-value : goal.decreases-loop-value
decreases-loop-value l = length l.all
