-- The keys of the outermost object of JSON.
use Rattle.std.specs.Prelude.{ℕ, zero, suc, Bool, true, false, List, [], ◌∷◌, if◌then◌else◌}
use Rattle.json.specs.Token.{Token, begin_object, end_object, begin_array, end_array, key, string, number, boolean, null, bad}

-- how many objects and arrays are open when one of so many is closed
abbrev pub outer_depth : ℕ → ℕ
outer_depth zero = zero
outer_depth (suc depth) = depth

abbrev pub is_outermost : ℕ → Bool
is_outermost zero = false
is_outermost (suc zero) = true
is_outermost (suc (suc more)) = false

-- The keys of the outermost object, of tokens that stand within so many objects and arrays.
abbrev pub keys_at : ℕ → List Token → List (List ℕ)
keys_at depth [] = []
keys_at depth (begin_object ∷ ts) = keys_at (suc depth) ts
keys_at depth (begin_array ∷ ts) = keys_at (suc depth) ts
keys_at depth (end_object ∷ ts) = keys_at (outer_depth depth) ts
keys_at depth (end_array ∷ ts) = keys_at (outer_depth depth) ts
keys_at depth (key name ∷ ts) =
    if is_outermost depth then name ∷ keys_at depth ts else keys_at depth ts
keys_at depth (string s ∷ ts) = keys_at depth ts
keys_at depth (number s ∷ ts) = keys_at depth ts
keys_at depth (boolean b ∷ ts) = keys_at depth ts
keys_at depth (null ∷ ts) = keys_at depth ts
keys_at depth (bad ∷ ts) = keys_at depth ts

abbrev pub outermost_keys : List Token → List (List ℕ)
outermost_keys ts = keys_at 0 ts
