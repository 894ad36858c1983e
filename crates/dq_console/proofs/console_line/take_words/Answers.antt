use Rattle.std.proofs.Common.{◌≡◌, ℕ, List, true, false, Bor, map, filter, length, lit<, subst, rules}
use Rattle.std.specs.List.{slice_split}
use Rattle.std.proofs.lemmas.List.{map-append}
use Rattle.std.proofs.lemmas.Iterator.Consumers.{YieldsList-so_far, YieldsList-turn, YieldsList-end}
use Rattle.std.proofs.lemmas.Iterator.Splits.{YieldsList-from_str_split}
use Rattle.dq_request.specs.Searches.{TakesWords}
use Rattle.dq_request.proofs.Taking.{TakesWords-push, StopsAt-part}
use Rattle.dq_console.specs.ConsoleLines.{is_space, is_word}
use Rattle.dq_console.proofs.console_line.take_words.Goals as goal

pub returns-then-not-branch : goal.returns-then-not-branch
returns-then-not-branch c =
    let no : c.in_ok-take_part.field-0 ≡ false = search rules in
    let road = YieldsList-from_str_split 32 c.args.words.now (lit< tt) (cc) (cc) (cc) in
    let so_far = YieldsList-so_far road c.loop-part.yielded _ c.loop-part.yielded_by in
    let turn = YieldsList-turn road c.loop-part.yielded _ c.loop-part.yielded_by _ _ c.in-Some.part c.in-Some.is c.next.ensures.steps in
    let taken = subst (λ (parts : List (List ℕ)). TakesWords (filter is_word parts) c.args.search.now c.loop-part.search) so_far c.loop-part.invariant in
    StopsAt-part is_word (slice_split is_space c.args.words.now) (length c.loop-part.yielded) c.in-Some.part.now c.args.search.now c.loop-part.search turn.0 turn.1
    taken (rw no at c.in_ok-take_part.ensures)

pub loop-part-preserved : goal.loop-part-preserved
loop-part-preserved c =
    let yes : c.in_ok-take_part.field-0 ≡ true = search rules in
    let all = TakesWords-push is_word (map (λ (part : Bor (List ℕ)). part.now) c.loop-part.yielded) c.in-Some.part.now c.args.search.now c.loop-part.search
    c.take_part.new.search c.loop-part.invariant (rw yes at c.in_ok-take_part.ensures) in
    rw map-append all

pub returns : goal.returns
returns c =
    let turn = YieldsList-end (YieldsList-from_str_split 32 c.args.words.now (lit< tt) (cc) (cc) (cc)) c.loop-part.yielded _ c.loop-part.yielded_by _ _ c.in-None.is c.next.ensures.steps in
    subst (λ (parts : List (List ℕ)). TakesWords (filter is_word parts) c.args.search.now c.loop-part.search) turn.0 c.loop-part.invariant
