use Rattle.std.proofs.Common.{◌≡◌, not, eqb, true, false, ◌||◌, Some, sym, refl, ◌∙◌}
use Rattle.dq_dataset.specs.declared.sieve.Outer.{Outer}
use Rattle.dq_dataset.specs.Sieving.{tag_is_listed}
use Rattle.dq_dataset.proofs.SieveValues.{goes_past, goes_over, goes_into}
use Rattle.dq_dataset.proofs.sieve.begun.Goals as goal

pub returns-then-not-is_listed : goal.returns-then-not-is_listed
returns-then-not-is_listed c =
    let h = c.args.header in
    let outer = c.args.outer in
    let next : Outer = record {
      syntax = outer.syntax;
      last = Some h.tag;
      large = outer.large;
      kept = outer.kept;
      other = outer.other || not (eqb h.tag.element 0);
    } in
    let listed : tag_is_listed c.args.tags.now h.tag ≡ false = (let e = c.if-not-is_listed.true in let l = c.is_listed.ensures in cc) in
    goes_past c.args.tags.now c.args.outer c.args.front h.tag h.content c.requires.placed c.requires.header c.requires.nests c.of_value-walked.result
    c.of_value-walked.ensures.leads listed c.past.result (c.past.ensures.sound next) c.past.ensures.sifts

pub returns-then-is_discarded : goal.returns-then-is_discarded
returns-then-is_discarded c =
    let h = c.args.header in
    let outer = c.args.outer in
    let next : Outer = record { syntax = outer.syntax; last = Some h.tag; large = true; kept = c.new.result; other = outer.other } in
    let listed : tag_is_listed c.args.tags.now h.tag ≡ true = (let e = c.if-not-is_listed.false in let l = c.is_listed.ensures in cc) in
    goes_over c.args.tags.now c.args.outer c.args.front h.tag h.content c.requires.placed c.requires.header c.requires.nests c.of_value-walked.result
    c.of_value-walked.ensures.leads listed (sym c.is_discarded.ensures ∙ c.if-is_discarded.true) next refl refl refl c.new.ensures.items
    c.past-then-is_discarded.result (c.past-then-is_discarded.ensures.sound next) c.past-then-is_discarded.ensures.sifts

pub returns : goal.returns
returns c =
    let h = c.args.header in
    let listed : tag_is_listed c.args.tags.now h.tag ≡ true = (let e = c.if-not-is_listed.false in let l = c.is_listed.ensures in cc) in
    goes_into c.args.tags.now c.args.outer c.args.front h.tag h.content c.requires.placed c.requires.header c.requires.nests c.of_value-walked.result
    c.of_value-walked.ensures.leads listed c.into.result c.into.ensures
