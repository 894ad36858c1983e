-- How many keys a table has.
use Rattle.std.proofs.Common.{◌≡◌, suc, List, [], ◌∷◌, length, String, Global, refl, ap}
use Rattle.toml.specs.declared.value.Value.{Value}
use Rattle.toml.specs.View.{members_view}
use Rattle.dq_config.specs.Document.{size}

pub size_of_entries : (entries : List (String Global × Value)) → size (members_view entries) ≡ length entries
size_of_entries [] = refl
size_of_entries (entry ∷ entries) = ap suc (size_of_entries entries)
