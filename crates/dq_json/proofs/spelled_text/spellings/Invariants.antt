use Rattle.std.proofs.Common.{◌≡◌, [], ◌∷◌, take}
use Rattle.std.specs.List.{fold}
use Rattle.dq_json.specs.Spellings.{with_spelling}
use Rattle.dq_json.proofs.spelled_text.spellings.Given as goal

abbrev pub invariant-loop-table : goal.invariant-loop-table
invariant-loop-table l =
    l.found ≡ fold (with_spelling l.characters.items) (l.text ∷ []) (take l.table-index l.table-items)
