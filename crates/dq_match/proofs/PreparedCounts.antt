-- How many items are below a key.
use Rattle.std.proofs.Common.{◌≡◌, ℕ, zero, suc, ◌≤◌, ◌<◌, List, [], ◌∷◌, length, get_or, map, refl, ap, arith}
use Rattle.dq_vr.specs.declared.Tag.{Tag}
use Rattle.dq_dataset.specs.Tree.{ElementList, item_count}
use Rattle.dq_dataset.specs.View.{as_elements, with_value}
use Rattle.dq_dataset.proofs.Copies.{value_count}
use Rattle.dq_match.specs.declared.prepared.PreparedKey.{PreparedKey}
use Rattle.dq_match.specs.declared.prepared.PreparedValue.{PreparedValue}
use Rattle.dq_match.specs.declared.prepared.PreparedValue.TheVariants.{Plain, Nested}
use Rattle.dq_match.specs.Prepared.{element_of_key, vr_and_value}

abbrev pub key_count : PreparedKey → ℕ
key_count key = value_count (vr_and_value key.value).1

counts : (tag : Tag) (value : PreparedValue) (rest : ElementList) (n : ℕ)
    → n ≡ item_count (with_value (element_of_key (record { tag = tag; value = value })) (vr_and_value value).1 rest)
    → (value_count (vr_and_value value).1 ≤ n) × (item_count rest ≤ n)
counts tag (Plain v) rest n is = (omega (arith, is), omega (arith, is))
counts tag (Nested vr items) rest n is = (omega (arith, is), omega (arith, is))

pub key_count-among : (keys : List PreparedKey) (i : ℕ) (key : PreparedKey) → i < length keys → key ≡ get_or keys i key
    → key_count key ≤ item_count (as_elements (map element_of_key keys))
key_count-among [] i key lt is = omega (arith, lt)
key_count-among (first ∷ keys) zero key lt is =
    omega (arith, ap key_count is, (counts first.tag first.value (as_elements (map element_of_key keys)) _ refl).0)
key_count-among (first ∷ keys) (suc i) key lt is =
    omega (arith, key_count-among keys i key (omega (arith, lt)) is, (counts first.tag first.value (as_elements (map element_of_key keys)) _ refl).1)
