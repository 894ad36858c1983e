use Rattle.std.proofs.Common.{◌≡◌, ◌∙◌, true, false, ℕ, List, Some, None, codes, take, drop, ap, refl, sym, subst}
use Rattle.std.specs.Str.{is_utf8, trim_start}
use Rattle.std.proofs.lemmas.Str.{is_utf8-from_IsUtf8}
use Rattle.dq_web.specs.Guards.{key_told}
use Rattle.dq_web.specs.Requests.{is_named}
use Rattle.dq_web.proofs.Texts.{no-text}
use Rattle.dq_web.proofs.guard.key_in.Goals as goal

told : (octets : List ℕ) → is_named (take 7 octets) (codes "bearer ") ≡ true → is_utf8 (drop 7 octets) ≡ true
    → key_told (Some octets) ≡ Some (trim_start (drop 7 octets))
told octets named text = rw (named, text) refl

untold : (octets : List ℕ) → is_named (take 7 octets) (codes "bearer ") ≡ true → is_utf8 (drop 7 octets) ≡ false
    → key_told (Some octets) ≡ None
untold octets named text = rw (named, text) refl

pub returns-in-Ok : goal.returns-in-Ok
returns-in-Ok c =
    let split = c.in-Some-split_at_checked.ensures.cases in
    let octets = c.in-Some.octets.now in
    let named = subst (λ (text : List ℕ). is_named text (codes "bearer ") ≡ true) split.1 (sym c.is_named.ensures ∙ c.if-not-is_named.false) in
    let text = subst (λ (rest : List ℕ). is_utf8 rest ≡ true) split.2 (is_utf8-from_IsUtf8 c.in-Some-split_at_checked.rest.now c.in-Ok.ensures.cases.1) in
    rw c.in-Some.is
    (ap Some (c.as_bytes.ensures.value ∙ c.trim_start.ensures.trim ∙ ap trim_start (c.in-Ok.ensures.cases.0 ∙ split.2)) ∙ sym (told octets named text))

pub returns-in-Err : goal.returns-in-Err
returns-in-Err c =
    let split = c.in-Some-split_at_checked.ensures.cases in
    let octets = c.in-Some.octets.now in
    let named = subst (λ (text : List ℕ). is_named text (codes "bearer ") ≡ true) split.1 (sym c.is_named.ensures ∙ c.if-not-is_named.false) in
    let text = subst (λ (rest : List ℕ). is_utf8 rest ≡ false) split.2 (no-text c.in-Some-split_at_checked.rest.now c.in-Err.ensures.cases.0) in
    rw c.in-Some.is (sym (untold octets named text))
