use Rattle.std.proofs.Common.{◌≡◌, Option, Some, map, refl, sym, ◌∙◌, rules, arith}
use Rattle.dq_cli.specs.CommandLine.{Command, command_asked, command_in, line_of}
use Rattle.dq_app.specs.Program.{IsTold}
use Rattle.dq_app.proofs.Ends.{keeps, status_bounds, not_usage, unread_words}
use Rattle.dq_app.proofs.program.perform.Goals as goal

same_command : (found : Option Command) (one other : Command) → found ≡ Some one → found ≡ Some other → one ≡ other
same_command found one other is so = cc

-- all was done
pub returns-in-Ok-do_command : goal.returns-in-Ok-do_command
returns-in-Ok-do_command g c =
    let words = map g.S.AsStr.text c.args.words.now in
    let line : map (λ word. word.now) c.as_slice.result.now ≡ line_of words = search rules in
    let understood : command_asked words ≡ Some (command_in c.in-Ok-parse.parsed) = c.in-Ok-parse.ensures.ok words line in
    record {
      statuses = omega arith;
      flushed = λ zero. c.in-Ok-do_command.ensures.flushed;
      quiet = λ zero. keeps (g.E.Sink.written c.args.errors.now);
      usage = λ one. absurd (omega arith);
      refused = λ none. absurd (cc);
      done = λ command is zero. rw (← same_command (command_asked words) (command_in c.in-Ok-parse.parsed) command understood is) c.in-Ok-do_command.ensures.done;
      stops = λ command is other. absurd (other refl);
    }

-- it stopped short of its end
pub returns-in-Ok-parse : goal.returns-in-Ok-parse
returns-in-Ok-parse g c =
    let words = map g.S.AsStr.text c.args.words.now in
    let line : map (λ word. word.now) c.as_slice.result.now ≡ line_of words = search rules in
    let understood : command_asked words ≡ Some (command_in c.in-Ok-parse.parsed) = c.in-Ok-parse.ensures.ok words line in
    let status = c.stopped-in-Err-do_command.ensures.status in
    let bounds = status_bounds c.in-Err-do_command.stop in
    record {
      statuses = rw status bounds.1;
      flushed = λ zero. absurd (omega arith);
      quiet = λ zero. absurd (omega arith);
      usage = λ one. absurd (not_usage _ _ g.Rt.File.Tables.state _ _ _ _ _ _ _ _ _ _ _ c.in-Err-do_command.ensures.stops (sym status ∙ one));
      refused = λ none. absurd (cc);
      done = λ command is zero. absurd (omega arith);
      stops = λ command is other. (
        c.in-Err-do_command.stop,
        status,
        c.stopped-in-Err-do_command.ensures.told,
        rw (← same_command (command_asked words) (command_in c.in-Ok-parse.parsed) command understood is) c.in-Err-do_command.ensures.stops,
      );
    }

pub returns-clause-stops : goal.returns-clause-stops
returns-clause-stops g c = λ command is stops.
    let words = map g.S.AsStr.text c.args.words.now in
    let line : map (λ word. word.now) c.as_slice.result.now ≡ line_of words = search rules in
    unread_words _ _ g.Rt.File.Tables.state _ _ _ _ _ _ _ _ (command_asked words) command
    (IsTold (g.E.Sink.may_fail c.args.errors.now) (g.E.Sink.written c.args.errors.now) (g.E.Sink.written c.refused.new.errors))
    _ c.refused.result is (c.in-Err-parse.ensures.err words line) c.refused.ensures.memory
