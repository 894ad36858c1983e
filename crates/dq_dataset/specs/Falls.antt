-- Each item of a data set has fewer items below it than the data set.
use Rattle.std.specs.Prelude.{ℕ, ◌+◌, ◌≤◌, max, List, [], ◌∷◌}
use Rattle.std.proofs.Common.{arith}
use denote.Param.Weighed.{most}
use Rattle.dq_vr.specs.declared.Tag.{Tag}
use Rattle.dq_vr.specs.declared.Vr.{Vr}
use Rattle.dq_dataset.specs.declared.data_set.Element.{Element}
use Rattle.dq_dataset.specs.declared.data_set.Value.{Value}
use Rattle.dq_dataset.specs.declared.data_set.Value.TheVariants.{Octets, Items}
use Rattle.dq_dataset.specs.declared.data_set.DataSet.TheDeep.{deep-Element}
use Rattle.dq_dataset.specs.Tree.{ElementList, item_count, items_count}
use Rattle.dq_dataset.specs.View.{as_elements, items_of, with_value}

most_le-items : (ds : List ElementList)
    → most (λ d. item_count d + 1) ds ≤ items_count (items_of ds)
most_le-items [] = omega arith
most_le-items (d ∷ ds) = omega (arith, most_le-items ds)

value_le : (t : Tag) (v : Vr) (x : Value) (rest : ElementList) (n : ℕ) → n ≤ item_count rest
    → max (deep-Element (record { tag = t; vr = v; value = x })) n
    ≤ item_count (with_value (record { tag = t; vr = v; value = x }) x rest)
value_le t v (Octets o) rest n h = omega arith
value_le t v (Items ds) rest n h = omega (arith, most_le-items ds)

pub most_le-elements : (es : List Element)
    → most (λ e. deep-Element e) es ≤ item_count (as_elements es)
most_le-elements [] = omega arith
most_le-elements (e ∷ es) =
    value_le e.tag e.vr e.value (as_elements es)
    (most (λ e. deep-Element e) es) (most_le-elements es)
