use Rattle.std.proofs.Common.{List, [], ◌∷◌, length, Err, refl, sym, ap, ◌∙◌, rules}
use Rattle.std.specs.Prelude.{Result}
use Rattle.std.proofs.lemmas.Bool.{eqb-true}
use Rattle.dq_dataset.specs.declared.fault.ReadFault.{ReadFault}
use Rattle.dq_dataset.specs.Lending.{Spelled}
use Rattle.dq_dataset.proofs.LentLemmas.{not_empty, next_shorter, lent_fault, lent_end, lent_dropped, lent_element}
use Rattle.dq_dataset.proofs.lending.ElementsIterator.next.Goals as goal

pub returns-in-Err-clause-steps : goal.returns-in-Err-clause-steps
returns-in-Err-clause-steps c =
    let at = c.loop-self.self-inside in
    let some = not_empty c.is_empty.result at.rest.now c.is_empty.ensures c.loop-self-test.true in
    sym c.loop-self.invariant.1 ∙ lent_fault at.syntax at.last at.rest.now c.in-Err.fault some c.in-Err.ensures.value
    ∙ ap (λ (x : List (Result Spelled ReadFault)). Err c.in-Err.fault ∷ x) (sym (lent_end at.syntax at.last [] refl))

pub returns-in-Err-clause-goes : goal.returns-in-Err-clause-goes
returns-in-Err-clause-goes c =
    let at = c.loop-self.self-inside in
    let some = not_empty c.is_empty.result at.rest.now c.is_empty.ensures c.loop-self-test.true in
    let gave = sym c.loop-self.invariant.1 ∙ lent_fault at.syntax at.last at.rest.now c.in-Err.fault some c.in-Err.ensures.value
    ∙ ap (λ (x : List (Result Spelled ReadFault)). Err c.in-Err.fault ∷ x) (sym (lent_end at.syntax at.last [] refl)) in
    search rules

pub invariant_of-self-then-tag-ne0 : goal.invariant_of-self-then-tag-ne0
invariant_of-self-then-tag-ne0 c =
    let at = c.loop-self.self-inside in
    (next_shorter at.syntax at.last at.rest.now ((c.in-Ok.header, c.in-Ok.octets.now), c.in-Ok.rest.now) c.loop-self.invariant.0 c.in-Ok.ensures.value).0

pub returns-then-tag-ne0-clause-steps : goal.returns-then-tag-ne0-clause-steps
returns-then-tag-ne0-clause-steps c =
    let at = c.loop-self.self-inside in
    let some = not_empty c.is_empty.result at.rest.now c.is_empty.ensures c.loop-self-test.true in
    sym c.loop-self.invariant.1 ∙ lent_element at.syntax at.last at.rest.now c.in-Ok.header c.in-Ok.octets.now c.in-Ok.rest.now c.inner_syntax-syntax.result
    c.loop-self.invariant.0 some c.in-Ok.ensures.value c.if-tag-ne0.true c.inner_syntax-syntax.ensures

pub returns-then-tag-ne0-clause-goes : goal.returns-then-tag-ne0-clause-goes
returns-then-tag-ne0-clause-goes c =
    let at = c.loop-self.self-inside in
    let some = not_empty c.is_empty.result at.rest.now c.is_empty.ensures c.loop-self-test.true in
    let gave = sym c.loop-self.invariant.1 ∙ lent_element at.syntax at.last at.rest.now c.in-Ok.header c.in-Ok.octets.now c.in-Ok.rest.now
    c.inner_syntax-syntax.result c.loop-self.invariant.0 some c.in-Ok.ensures.value c.if-tag-ne0.true c.inner_syntax-syntax.ensures in
    search rules

pub loop-self-preserved : goal.loop-self-preserved
loop-self-preserved c =
    let at = c.loop-self.self-inside in
    let some = not_empty c.is_empty.result at.rest.now c.is_empty.ensures c.loop-self-test.true in (
      (next_shorter at.syntax at.last at.rest.now ((c.in-Ok.header, c.in-Ok.octets.now), c.in-Ok.rest.now) c.loop-self.invariant.0 c.in-Ok.ensures.value).0,
      sym (lent_dropped at.syntax at.last at.rest.now c.in-Ok.header c.in-Ok.octets.now c.in-Ok.rest.now c.loop-self.invariant.0 some c.in-Ok.ensures.value
          c.if-tag-ne0.false) ∙ c.loop-self.invariant.1,
    )

pub returns-clause-steps : goal.returns-clause-steps
returns-clause-steps c =
    let at = c.loop-self.self-inside in
    let none = lent_end at.syntax at.last at.rest.now (eqb-true (length at.rest.now) 0 (sym c.loop-self-test.ensures)) in
    (sym c.loop-self.invariant.1 ∙ none, none)
