use Rattle.std.proofs.Common.{◌≡◌, ◌+◌, ◌<◌, ◌++◌, ◌∷◌, [], None, length, get_or, sym, ◌∙◌, lit<, arith}
use Rattle.std.proofs.lemmas.Grind.{common_steps}
use Rattle.std.proofs.lemmas.List.{length_push}
use Rattle.std.proofs.Math.Seq.{take-length}
use Rattle.std.proofs.lemmas.Iterator.Splits.{YieldsList-from_str_split}
use Rattle.std.proofs.lemmas.Iterator.Consumers.{YieldsList-turn, YieldsList-end}
use Rattle.dq_captures.specs.Captures.{lines_of}
use Rattle.dq_captures.proofs.Steps.{AreCapture-skipped, AreCapture-event, IsFirstBadLine-unspelled, IsFirstBadLine-sinking, newest_after-push}
use Rattle.dq_captures.proofs.capture.read_lines.Goals as goal
use Rattle.dq_captures.proofs.capture.read_lines.Goals.{In-Some}

-- the line of an iteration is the next line of the text
turn : (c : In-Some) → (length c.loop-line.yielded < length (lines_of c.args.text.now))
    × (c.in-Some.line.now ≡ get_or (lines_of c.args.text.now) (length c.loop-line.yielded) c.in-Some.line.now)
turn c = YieldsList-turn (YieldsList-from_str_split 10 c.args.text.now (lit< tt) (cc) (cc) (cc)) c.loop-line.yielded _ c.loop-line.yielded_by _ _ c.in-Some.line
    c.in-Some.is c.next.ensures.steps

pub loop-line-preserved-then-is_skipped : goal.loop-line-preserved-then-is_skipped
loop-line-preserved-then-is_skipped c =
    let grown = length_push c.loop-line.yielded c.in-Some.line in
    let read = AreCapture-skipped (lines_of c.args.text.now) (length c.loop-line.yielded) c.in-Some.line.now
    (turn (goal.at.loop-line-preserved-then-is_skipped c).In-Some)
    c.loop-line.events.items (sym c.is_skipped.ensures ∙ c.if-is_skipped.true) c.loop-line.invariant.read in
    record { counted = omega arith; read = rw grown read; newest = c.loop-line.invariant.newest }

pub returns-in-Ok-None-clause-line : goal.returns-in-Ok-None-clause-line
returns-in-Ok-None-clause-line c = λ number is.
    let same : c.loop-line.number + 1 ≡ number = cc in
    let bad = IsFirstBadLine-unspelled (lines_of c.args.text.now) (length c.loop-line.yielded) c.in-Some.line.now
    (turn (goal.at.returns-in-Ok-None-clause-line c).In-Some)
    c.loop-line.events.items (sym c.is_skipped.ensures ∙ c.if-is_skipped.false) (rw c.in-Ok-None.field-0-is at c.in-Ok-None.ensures) c.loop-line.invariant.read
    in
    rw (← same, c.loop-line.invariant.counted) bad

pub returns-then-not-rises-clause-line : goal.returns-then-not-rises-clause-line
returns-then-not-rises-clause-line c = λ number is.
    let same : c.loop-line.number + 1 ≡ number = cc in
    let sinks = sym c.rises.ensures ∙ c.if-not-rises.true in
    let bad = IsFirstBadLine-sinking (lines_of c.args.text.now) (length c.loop-line.yielded) c.in-Some.line.now
    (turn (goal.at.returns-then-not-rises-clause-line c).In-Some)
    c.loop-line.events.items c.in-Ok-Some.event (sym c.is_skipped.ensures ∙ c.if-is_skipped.false) (rw c.in-Ok-Some.field-0-is at c.in-Ok-Some.ensures)
    (rw c.loop-line.invariant.newest at sinks) c.loop-line.invariant.read in
    rw (← same, c.loop-line.invariant.counted) bad

pub loop-line-preserved : goal.loop-line-preserved
loop-line-preserved c =
    let grown = length_push c.loop-line.yielded c.in-Some.line in
    let pushed : c.push.new.self.items ≡ c.loop-line.events.items ++ c.in-Ok-Some.event ∷ [] = grind (arith, common_steps) in
    let rises = sym c.rises.ensures ∙ c.if-not-rises.false in
    let read = AreCapture-event (lines_of c.args.text.now) (length c.loop-line.yielded) c.in-Some.line.now (turn (goal.at.loop-line-preserved c).In-Some)
    c.loop-line.events.items c.in-Ok-Some.event (sym c.is_skipped.ensures ∙ c.if-is_skipped.false) (rw c.in-Ok-Some.field-0-is at c.in-Ok-Some.ensures)
    (rw c.loop-line.invariant.newest at rises) c.loop-line.invariant.read in
    let newest = newest_after-push None c.loop-line.events.items c.in-Ok-Some.event in
    record { counted = omega arith; read = rw (grown, pushed) read; newest = rw (pushed, newest, ← c.loop-line.invariant.newest) c.newest_after-newest.ensures }

pub returns-clause-events : goal.returns-clause-events
returns-clause-events c =
    let end = YieldsList-end (YieldsList-from_str_split 10 c.args.text.now (lit< tt) (cc) (cc) (cc)) c.loop-line.yielded _ c.loop-line.yielded_by _ _
    c.in-None.is c.next.ensures.steps in
    rw (end.1, take-length (lines_of c.args.text.now)) at c.loop-line.invariant.read
