use Rattle.std.proofs.Common.{◌≡◌, ℕ, List, Bor, Option, Some, None, true, false, length, drop, sym, ap, subst, ◌∙◌}
use Rattle.std.specs.Prelude.{◌==◌, MatchOption}
use Rattle.std.specs.List.{starts_with}
use Rattle.std.specs.Str.{IsCharBoundary}
use Rattle.std.specs.Str.Pattern.{FindsTextPrefix, StripsPrefix}
use Rattle.std.proofs.lemmas.Str.Pattern.{starts_text}
use Rattle.dq_cli.proofs.options.behind.Goals as goal

-- the rest of a text, where the word stands at its front
strips : (word text : List ℕ) (rest : Option (Bor (List ℕ)))
    → MatchOption rest (FindsTextPrefix word text None) (λ it. StripsPrefix (FindsTextPrefix word) text it.now)
    → MatchOption rest (starts_with ◌==◌ text word ≡ false)
    (λ it. (starts_with ◌==◌ text word ≡ true) × (it.now ≡ drop (length word) text))
strips word text None lacks = sym (starts_text false word text lacks)
strips word text (Some it) stripped = (
  sym (starts_text true word text (stripped.0, stripped.1, subst (IsCharBoundary text) (sym stripped.1.0) stripped.1.2)),
  stripped.2 ∙ ap (λ (count : ℕ). drop count text) stripped.1.0,
)

pub returns : goal.returns
returns c = strips _ _ _ c.strip_prefix.ensures.cases
