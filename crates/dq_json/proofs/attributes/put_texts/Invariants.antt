use Rattle.std.proofs.Common.{◌≡◌, ◌++◌, flat_map}
use Rattle.dq_json.specs.Attributes.{value_tokens}
use Rattle.dq_json.proofs.attributes.put_texts.Given as goal

abbrev pub invariant-loop-value : goal.invariant-loop-value
invariant-loop-value l =
    (l.out.before ≡ l.initial.out.before)
    × (l.out.tokens ++ flat_map (value_tokens l.repertoire l.vr) l.value-iterator
    ≡ l.initial.out.tokens ++ flat_map (value_tokens l.repertoire l.vr) l.initial.value-iterator)
