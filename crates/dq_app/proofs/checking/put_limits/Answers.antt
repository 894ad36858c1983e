use Rattle.std.proofs.Common.{◌≡◌, ℕ, List, [], ◌∷◌, ◌++◌, ap, append_assoc, codes, ◌∙◌}
use Rattle.dq_captures.specs.Captures.{line_feed}
use Rattle.dq_app.specs.Checks.{limit_text}
use Rattle.dq_app.proofs.checking.put_limits.Goals as goal

-- what was put together behind another text
behind : (old before part text longer : List ℕ) → text ≡ old ++ before → longer ≡ text ++ part → longer ≡ old ++ (before ++ part)
behind old before part text longer is more = more ∙ ap (λ t. t ++ part) is ∙ append_assoc old before part

pub returns : goal.returns
returns c =
    let i = c.args.institution.now in
    let old = c.args.text.now.items in
    let a = c.in_ok-put_limit.ensures in
    let b = behind old _ (limit_text (codes " images ") i.images) _ _ a c.in_ok-put_limit-2.ensures in
    let d = behind old _ (limit_text (codes " entries ") i.entries) _ _ b c.in_ok-put_limit-3.ensures in
    let e = behind old _ (limit_text (codes " steps ") i.steps) _ _ d c.in_ok-put_limit-4.ensures in
    let f = behind old _ (limit_text (codes " associations ") i.associations) _ _ e c.in_ok-put_limit-5.ensures in
    behind old _ (line_feed ∷ []) _ _ f c.in_ok-push.ensures.items
