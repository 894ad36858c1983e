use Rattle.std.proofs.Common.{◌∙◌, sym}
use Rattle.dq_json.proofs.Words.{entry_found, entry_passed, entries_ended}
use Rattle.dq_json.proofs.keywords.tag_among.Goals as goal

pub returns-then-eq : goal.returns-then-eq
returns-then-eq c =
    sym (c.loop-keyword.invariant ∙ entry_found c.args.entries.now c.args.word.now c.loop-keyword.keyword-index _ c.loop-keyword-test.true (sym c.eq.ensures ∙ c.if-eq.true))

pub loop-keyword-preserved : goal.loop-keyword-preserved
loop-keyword-preserved c =
    c.loop-keyword.invariant ∙ entry_passed c.args.entries.now c.args.word.now c.loop-keyword.keyword-index _ c.loop-keyword-test.true (sym c.eq.ensures ∙ c.if-eq.false)

pub returns : goal.returns
returns c = sym (c.loop-keyword.invariant ∙ entries_ended c.args.entries.now c.args.word.now c.loop-keyword.keyword-index c.loop-keyword-test.false)
