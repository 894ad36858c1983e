use Rattle.std.proofs.Common.{[], None, false, refl}
use Rattle.dq_dataset.specs.declared.sieve.Outer.{Outer}
use Rattle.dq_dataset.proofs.SieveValues.{starts}
use Rattle.dq_dataset.proofs.sieve.Sieve.new.Goals as goal

pub invariant_of-result : goal.invariant_of-result
invariant_of-result c =
    let outer : Outer = record { syntax = c.args.syntax; last = None; large = false; kept = c.new.result; other = false } in
    ([], starts c.args.tags.now outer c.new-2.result refl refl c.new.ensures.items refl c.new-2.ensures.items)

pub returns : goal.returns
returns c =
    let outer : Outer = record { syntax = c.args.syntax; last = None; large = false; kept = c.new.result; other = false } in
    record { tags_are = refl; after = starts c.args.tags.now outer c.new-2.result refl refl c.new.ensures.items refl c.new-2.ensures.items }
