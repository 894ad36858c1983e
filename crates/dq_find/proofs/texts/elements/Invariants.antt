use Rattle.std.proofs.Common.{◌≡◌, ◌++◌, drop, map}
use Rattle.dq_find.specs.Texts.{element_of}
use Rattle.dq_find.proofs.texts.elements.Given as goal

abbrev pub invariant-loop-text : goal.invariant-loop-text
invariant-loop-text l = l.elements.items ++ map element_of (drop l.text-index l.texts) ≡ map element_of l.texts
