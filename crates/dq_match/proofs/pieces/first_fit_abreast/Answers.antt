use Rattle.std.proofs.Common.{◌≡◌, ◌∷◌, length, ◌∙◌, rules, arith}
use Rattle.dq_match.specs.Wildcards.{wild}
use Rattle.dq_match.proofs.Scanning.{after_run-here, IsFit-from}
use Rattle.dq_match.proofs.PiecesInText.{gone, gone_by_one, none_behind, too_short}
use Rattle.dq_match.proofs.pieces.first_fit_abreast.Goals as goal

pub returns-in-End : goal.returns-in-End
returns-in-End c =
    c.loop-left.invariant
    ∙ gone c.args.casing c.args.pattern.now c.split_at.result.0.now c.loop-left.left.now c.piece_length.result c.piece_length.ensures.within
    c.piece_length.ensures.no_run c.split_at.ensures.front c.split_at.ensures.front_len c.starts_passed.result c.split_at-in-loop-left.result.1.now
    c.starts_passed.ensures.within c.starts_passed.ensures.none c.split_at-in-loop-left.ensures.back
    ∙ after_run-here (wild c.args.casing c.args.pattern.now) c.split_at-in-loop-left.result.1.now c.in-End.ensures

pub returns-in-Star : goal.returns-in-Star
returns-in-Star c =
    let fit = IsFit-from _ _ _ _ _ c.in-Star.ensures in
    record {
      shorter = fit.shorter;
      as_well = c.loop-left.invariant
          ∙ gone c.args.casing c.args.pattern.now c.split_at.result.0.now c.loop-left.left.now c.piece_length.result c.piece_length.ensures.within
          c.piece_length.ensures.no_run c.split_at.ensures.front c.split_at.ensures.front_len c.starts_passed.result c.split_at-in-loop-left.result.1.now
          c.starts_passed.ensures.within c.starts_passed.ensures.none c.split_at-in-loop-left.ensures.back
          ∙ fit.as_well;
    }

pub returns-in_default : goal.returns-in_default
returns-in_default c =
    let none : length c.split_at-in-loop-left.result.1.now ≡ 0 = search rules in
    c.loop-left.invariant
    ∙ gone c.args.casing c.args.pattern.now c.split_at.result.0.now c.loop-left.left.now c.piece_length.result c.piece_length.ensures.within
    c.piece_length.ensures.no_run c.split_at.ensures.front c.split_at.ensures.front_len c.starts_passed.result c.split_at-in-loop-left.result.1.now
    c.starts_passed.ensures.within c.starts_passed.ensures.none c.split_at-in-loop-left.ensures.back
    ∙ none_behind c.args.casing c.args.pattern.now c.split_at-in-loop-left.result.1.now c.in-Mismatch.ensures none

pub loop-left-preserved : goal.loop-left-preserved
loop-left-preserved c =
    let is : c.split_at-in-loop-left.result.1.now ≡ c.in-Some.field-0-0.now ∷ c.in-Some.rest.now = search rules in
    c.loop-left.invariant
    ∙ gone c.args.casing c.args.pattern.now c.split_at.result.0.now c.loop-left.left.now c.piece_length.result c.piece_length.ensures.within
    c.piece_length.ensures.no_run c.split_at.ensures.front c.split_at.ensures.front_len c.starts_passed.result c.split_at-in-loop-left.result.1.now
    c.starts_passed.ensures.within c.starts_passed.ensures.none c.split_at-in-loop-left.ensures.back
    ∙ gone_by_one c.args.casing c.args.pattern.now c.split_at-in-loop-left.result.1.now c.in-Some.rest.now c.in-Some.field-0-0.now c.in-Mismatch.ensures is

pub returns : goal.returns
returns c =
    c.loop-left.invariant
    ∙ too_short c.args.casing c.args.pattern.now c.split_at.result.0.now c.loop-left.left.now c.piece_length.result c.piece_length.ensures.within
    c.piece_length.ensures.no_run c.split_at.ensures.front c.split_at.ensures.front_len (omega arith)
