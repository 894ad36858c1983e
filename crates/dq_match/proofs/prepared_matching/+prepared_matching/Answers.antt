use Rattle.std.proofs.Common.{◌∙◌, Bool, sym, ap, Option, Some, arith}
use Rattle.dq_dataset.proofs.Views.{as_elements-elements_of}
use Rattle.dq_match.specs.Matching.{each_met, with_period}
use Rattle.dq_match.proofs.PreparedCounts.{key_count-among}
use Rattle.dq_match.proofs.prepared_matching.+prepared_matching.Goals as goal

pub all_met-each_met-requires : goal.all_met-each_met-requires
all_met-each_met-requires t c = rw (c.keys.ensures, as_elements-elements_of) (omega arith, tt)

pub all_met-each_met-requires-in-None : goal.all_met-each_met-requires-in-None
all_met-each_met-requires-in-None t c = rw (c.keys-in-None.ensures, as_elements-elements_of) (omega arith, tt)

pub all_met-returns-then-is_in : goal.all_met-returns-then-is_in
all_met-returns-then-is_in t c =
    c.each_met.ensures ∙ rw (c.keys.ensures, as_elements-elements_of)
    (ap (λ (b : Bool). with_period (Some b) (each_met c.args.keys.now c.args.place c.args.held.now)) (sym c.if-is_in.true)
    ∙ ap (λ (p : Option Bool). with_period p (each_met c.args.keys.now c.args.place c.args.held.now)) c.in-Some.ensures)

pub all_met-returns-in-None : goal.all_met-returns-in-None
all_met-returns-in-None t c =
    c.each_met-in-None.ensures ∙ rw (c.keys-in-None.ensures, as_elements-elements_of)
    (ap (λ (p : Option Bool). with_period p (each_met c.args.keys.now c.args.place c.args.held.now)) c.in-None.ensures)

pub each_met-is_met-requires : goal.each_met-is_met-requires
each_met-is_met-requires t c =
    let fewer = key_count-among c.args.keys.now c.loop-key.key-index c.key-item.result (omega arith) c.key-item.is in
    (omega (arith, fewer), tt)
