use Rattle.std.proofs.Common.{◌≡◌, ℕ, List, ◌++◌, codes, rules, ap, sym, ◌∙◌, append_assoc, lit<}
use Rattle.std.proofs.lemmas.Bool.{false≢true}
use Rattle.std.proofs.lemmas.Str.Pattern.{split_parts}
use Rattle.dq_config.specs.Conditions.{is_institution_name}
use Rattle.dq_captures.proofs.Lines.{SpellsOrder-split, SpellsOrder-unsplit}
use Rattle.dq_captures.proofs.capture.order_of.Goals as goal

pub returns-in_default : goal.returns-in_default
returns-in_default c = SpellsOrder-unsplit c.args.rest.now c.split_once.result c.split_once.ensures.cases c.in_default.is

pub returns-then-not-is_name : goal.returns-then-not-is_name
returns-then-not-is_name c = λ name octets spells.
    let parts = rw c.in-Some.is at (SpellsOrder-split c.args.rest.now c.split_once.result c.split_once.ensures.cases name octets spells) in
    let named : is_institution_name c.in-Some.name.now ≡ is_institution_name name = ap is_institution_name parts.0 in
    false≢true (search rules)

pub returns-in_default-2 : goal.returns-in_default-2
returns-in_default-2 c = λ name octets spells.
    let parts = rw c.in-Some.is at (SpellsOrder-split c.args.rest.now c.split_once.result c.split_once.ensures.cases name octets spells) in
    let none = rw c.in_default-2.is at c.in_ok-octets.ensures in
    none octets parts.2

pub returns : goal.returns
returns c =
    let parts = rw c.in-Some.is at (split_parts 32 c.args.rest.now c.split_once.result c.split_once.ensures.cases (lit< tt)) in
    let name : c.from_inner.result ≡ c.in-Some.name.now = search rules in
    let text : c.args.rest.now ≡ c.from_inner.result ++ codes " " ++ c.in-Some.text.now =
    parts.0 ∙ sym (append_assoc c.in-Some.name.now (codes " ") c.in-Some.text.now) ∙ ap (λ (n : List ℕ). n ++ codes " " ++ c.in-Some.text.now) (sym name) in
    let octets = rw c.in-Some-2.is at c.in_ok-octets.ensures in
    (c.in-Some.text.now, text, rw name (search rules), rw c.from_inner-2.ensures octets)
