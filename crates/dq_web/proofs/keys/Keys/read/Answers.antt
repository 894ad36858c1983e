use Rattle.std.proofs.Common.{◌≡◌, ◌∙◌, ℕ, List, [], ◌∷◌, ◌++◌, Bool, true, false, Bor, map, filter, subst, refl, sym, ap, append-nil, rules, tests}
use Rattle.std.proofs.lemmas.List.{map-append}
use Rattle.std.proofs.lemmas.List.Elements.{filter-append}
use Rattle.std.proofs.lemmas.Iterator.Consumers.{YieldsList-end}
use Rattle.std.proofs.lemmas.Iterator.Splits.{YieldsList-from_lines}
use Rattle.dq_web.specs.declared.keys.KeyEntry.{KeyEntry}
use Rattle.dq_web.specs.KeyFiles.{is_key_line, SpellsKey, AreSpelled}
use Rattle.dq_web.proofs.keys.Keys.read.Goals as goal

AreSpelled-push : (lines : List (List ℕ)) (entries : List KeyEntry) (line : List ℕ) (entry : KeyEntry)
    → AreSpelled lines entries → SpellsKey line entry → AreSpelled (lines ++ line ∷ []) (entries ++ entry ∷ [])
AreSpelled-push [] [] line entry all one = (one, tt)
AreSpelled-push [] (other ∷ entries) line entry all one = absurd all
AreSpelled-push (first ∷ lines) [] line entry all one = absurd all
AreSpelled-push (first ∷ lines) (other ∷ entries) line entry all one =
    (all.0, AreSpelled-push lines entries line entry all.1 one)

-- one that passes a test is one more of those that pass, and another is none
module _ (passes : List ℕ → Bool) where
  filter-yes : (lines : List (List ℕ)) (line : List ℕ) → passes line ≡ true
      → filter passes (lines ++ line ∷ []) ≡ filter passes lines ++ line ∷ []
  filter-yes lines line is =
      let one : filter passes (line ∷ []) ≡ line ∷ [] = rw is refl in
      filter-append passes lines (line ∷ []) ∙ ap (λ (l : List (List ℕ)). filter passes lines ++ l) one

  filter-no : (lines : List (List ℕ)) (line : List ℕ) → passes line ≡ false
      → filter passes (lines ++ line ∷ []) ≡ filter passes lines
  filter-no lines line is =
      let one : filter passes (line ∷ []) ≡ [] = rw is refl in
      filter-append passes lines (line ∷ []) ∙ ap (λ (l : List (List ℕ)). filter passes lines ++ l) one
      ∙ append-nil (filter passes lines)

abbrev lines_in : List (Bor (List ℕ)) → List (List ℕ)
lines_in yielded = map (λ (line : Bor (List ℕ)). line.now) yielded

pub loop-line-preserved : goal.loop-line-preserved
loop-line-preserved c =
    let told : SpellsKey c.in-Some.line.now c.in-Some-2.entry = rw (c.in_ok-entry.was, c.in-Some-2.is) at c.key_of.ensures in
    let all = AreSpelled-push (filter is_key_line (lines_in c.loop-line.yielded)) c.loop-line.entries c.in-Some.line.now c.in-Some-2.entry c.loop-line.invariant told in
    let more = filter-yes is_key_line (lines_in c.loop-line.yielded) c.in-Some.line.now (search (rules, tests)) in
    rw (c.in_ok-push.ensures.ok, map-append) (subst (λ (lines : List (List ℕ)). AreSpelled lines (c.loop-line.entries ++ c.in-Some-2.entry ∷ [])) (sym more) all)

pub returns : goal.returns
returns c =
    let turn = YieldsList-end (YieldsList-from_lines c.args.text.now cc) c.loop-line.yielded _ c.loop-line.yielded_by _ _ c.in-None.is c.next.ensures.steps in
    subst (λ (lines : List (List ℕ)). AreSpelled (filter is_key_line lines) c.loop-line.entries) turn.0 c.loop-line.invariant
