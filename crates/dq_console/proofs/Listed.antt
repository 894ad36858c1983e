-- Texts that are put together a line after another.
use Rattle.std.proofs.Common.{◌≡◌, ◌<◌, ◌+◌, ℕ, List, [], ◌∷◌, ◌++◌, length, get_or, take, sym, ap, ◌∙◌}
use Rattle.std.specs.List.{flat_map}
use Rattle.std.proofs.lemmas.List.{take_more}
use Rattle.dq_wires.proofs.TurnSequences.{flat_map-more}

-- one more is added
pub another : {X : Type 0} (lines : X → List ℕ) (xs : List X) (at : ℕ) (x : X) (text longer : List ℕ) → at < length xs → x ≡ get_or xs at x
    → text ≡ flat_map lines (take at xs) → longer ≡ text ++ lines x → longer ≡ flat_map lines (take (at + 1) xs)
another {X} lines xs at x text longer within is before added =
    added
    ∙ ap (λ (t : List ℕ). t ++ lines x) before
    ∙ sym (flat_map-more lines (take at xs) x)
    ∙ ap (flat_map lines) (ap (λ (n : X). take at xs ++ n ∷ []) is ∙ sym (take_more xs at x within))
