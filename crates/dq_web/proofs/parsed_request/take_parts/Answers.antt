use Rattle.std.proofs.Common.{◌≡◌, ℕ, List, true, false, Bor, map, length, lit<, subst, rules}
use Rattle.std.proofs.lemmas.List.{map-append}
use Rattle.std.proofs.lemmas.Iterator.Consumers.{YieldsList-so_far, YieldsList-turn, YieldsList-end}
use Rattle.std.proofs.lemmas.Iterator.Splits.{YieldsList-from_str_split}
use Rattle.dq_request.specs.Searches.{TakesWords}
use Rattle.dq_request.proofs.Taking.{TakesWords-push, StopsAt-part}
use Rattle.dq_web.specs.ParsedRequests.{is_said, parts_of, words_among}
use Rattle.dq_web.proofs.parsed_request.take_parts.Goals as goal

pub returns-then-not-branch : goal.returns-then-not-branch
returns-then-not-branch c =
    let no : c.in_ok-take_part.field-0 ≡ false = search rules in
    let road = YieldsList-from_str_split 38 c.args.query.now (lit< tt) (cc) (cc) (cc) in
    let so_far = YieldsList-so_far road c.loop-part.yielded _ c.loop-part.yielded_by in
    let turn = YieldsList-turn road c.loop-part.yielded _ c.loop-part.yielded_by _ _ c.in-Some.part c.in-Some.is c.next.ensures.steps in
    let taken = subst (λ (parts : List (List ℕ)). TakesWords (words_among c.args.search.now.subject parts) c.args.search.now c.loop-part.search) so_far c.loop-part.invariant in
    StopsAt-part (is_said c.args.search.now.subject) (parts_of c.args.query.now) (length c.loop-part.yielded) c.in-Some.part.now c.args.search.now c.loop-part.search turn.0 turn.1 taken (rw no at c.in_ok-take_part.ensures)

pub loop-part-preserved : goal.loop-part-preserved
loop-part-preserved c =
    let yes : c.in_ok-take_part.field-0 ≡ true = search rules in
    let all = TakesWords-push (is_said c.args.search.now.subject) (map (λ (part : Bor (List ℕ)). part.now) c.loop-part.yielded) c.in-Some.part.now c.args.search.now c.loop-part.search c.take_part.new.search c.loop-part.invariant (rw yes at c.in_ok-take_part.ensures) in
    rw map-append all

pub returns : goal.returns
returns c =
    let turn = YieldsList-end (YieldsList-from_str_split 38 c.args.query.now (lit< tt) (cc) (cc) (cc)) c.loop-part.yielded _ c.loop-part.yielded_by _ _ c.in-None.is c.next.ensures.steps in
    subst (λ (parts : List (List ℕ)). TakesWords (words_among c.args.search.now.subject parts) c.args.search.now c.loop-part.search) turn.0 c.loop-part.invariant
