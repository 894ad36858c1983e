-- Each item of prepared keys has fewer items below it than the keys.
use Rattle.std.specs.Prelude.{ℕ, ◌+◌, ◌≤◌, max, List, [], ◌∷◌, map}
use Rattle.std.proofs.Common.{arith}
use denote.Param.Weighed.{most}
use Rattle.dq_vr.specs.declared.Tag.{Tag}
use Rattle.dq_dataset.specs.Tree.{ElementList, item_count, items_count}
use Rattle.dq_dataset.specs.View.{as_elements, items_of, with_value}
use Rattle.dq_match.specs.declared.prepared.PreparedKey.{PreparedKey}
use Rattle.dq_match.specs.declared.prepared.PreparedValue.{PreparedValue}
use Rattle.dq_match.specs.declared.prepared.PreparedValue.TheVariants.{Plain, Nested}
use Rattle.dq_match.specs.declared.prepared.PreparedKeys.TheDeep.{deep-PreparedKey}
use Rattle.dq_match.specs.Prepared.{element_of_key, vr_and_value}

most_le-items : (ds : List ElementList)
    → most (λ d. item_count d + 1) ds ≤ items_count (items_of ds)
most_le-items [] = omega arith
most_le-items (d ∷ ds) = omega (arith, most_le-items ds)

key_value_le : (t : Tag) (x : PreparedValue) (rest : ElementList) (n : ℕ) → n ≤ item_count rest
    → max (deep-PreparedKey (record { tag = t; value = x })) n
    ≤ item_count (with_value (element_of_key (record { tag = t; value = x })) (vr_and_value x).1 rest)
key_value_le t (Plain key) rest n h = omega arith
key_value_le t (Nested vr ds) rest n h = omega (arith, most_le-items ds)

pub most_le-keys : (keys : List PreparedKey)
    → most (λ key. deep-PreparedKey key) keys ≤ item_count (as_elements (map element_of_key keys))
most_le-keys [] = omega arith
most_le-keys (key ∷ keys) =
    key_value_le key.tag key.value (as_elements (map element_of_key keys))
    (most (λ key. deep-PreparedKey key) keys) (most_le-keys keys)
