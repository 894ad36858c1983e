-- Members and items in the code, and those of JSON.
use Rattle.std.proofs.Common.{◌≡◌, ℕ, ◌+◌, ◌<◌, List, [], ◌∷◌, length, nat_lt, Bool, true, false, refl, sym, ap, ◌∙◌, arith}
use denote.Bor.{Bor}
use Rattle.json.specs.declared.value.Value.{Value}
use Rattle.json.specs.Value.{items_view, members_view}
use Rattle.json.specs.Json.{Items, no_items, item}
use Rattle.dq_json.specs.Values.{member_count, has_several}

pub counted : {A : Type 0} (ms : List (Bor (List ℕ) × Value A)) → member_count (members_view ms) ≡ length ms
counted [] = refl
counted (m ∷ ms) = omega (arith, counted ms)

pub several : {A : Type 0} (vs : List (Value A)) → nat_lt 1 (length vs) ≡ has_several (items_view vs)
several [] = refl
several (v ∷ []) = refl
several (v ∷ (w ∷ vs)) = grind arith
