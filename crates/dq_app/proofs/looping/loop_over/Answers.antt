use Rattle.std.proofs.Common.{◌≡◌, ◌∙◌, ℕ, List, [], map}
use Rattle.std.specs.Option.{option_copied}
use Rattle.std.specs.Io.KnownBytes.{Appends}
use Rattle.std.proofs.lemmas.Result.{on_ok_weaker, IfErr-weaker}
use Rattle.dq_core.specs.Histories.{opened_numbers}
use Rattle.dq_core.specs.ServerView.{Refines}
use Rattle.dq_wires.specs.Looping.{sent_number}
use Rattle.dq_captures.specs.Surroundings.{BreaksOff}
use Rattle.dq_app.specs.declared.stop.Stop.{Stop}
use Rattle.dq_app.specs.declared.stop.Stop.TheVariants.{Output}
use Rattle.dq_app.specs.Looping.{sent_text, ArePlayedOver, IsLooped, EndsLoop}
use Rattle.dq_app.proofs.Ends.{stops-at}
use Rattle.dq_app.proofs.Serviced.{played-by}
use Rattle.dq_app.proofs.looping.loop_over.Goals as goal

pub returns : goal.returns
returns g c =
    let log = g.Rt.Wired.Wires.log in
    let held = g.Rt.Folder.held c.args.rt.now in
    let file = option_copied c.args.file in
    let input = g.R.Source.octets c.args.input in
    let before = g.W.Sink.written c.args.output.now in
    let after = g.W.Sink.written c.print_sent.new.output in
    let may_fail = g.W.Sink.may_fail c.args.output.now in
    let config = c.in_ok-config.config in
    let events = c.in_ok-events.events.items in
    let all = c.as_slice.result.now in
    let stands : Refines g.Rt.Memory.Tables.state [] c.in_ok-server.server [] = rw c.in_ok-memory.ensures.rows at c.in_ok-server.ensures.stands in
    let played : ArePlayedOver log config events =
    played-by g.Rt.Memory.Tables.state log c.in_ok-wires.wires c.calls_are_a_serving.ensures.whole c.servings_are_answered.ensures.replies
    g.met.Rt.Stores.memory_is_honest (c.in_ok-server.ensures.institutions ∙ c.config.view_is) c.in_ok-wires.ensures.uncalled (c.in_ok-all.ensures.served [] stands) in
    let numbers : map sent_number all ≡ opened_numbers events = rw c.as_slice.ensures.value c.in_ok-all.ensures.sent in
    let looped : (IsSo : List ℕ → Type 0) → IsSo (sent_text all) → IsLooped log held file input IsSo =
    λ IsSo so. (config, events, c.in_ok-config.ensures.read, c.in_ok-events.ensures.read, (all, numbers, played, so)) in
    let Ends : Stop → Type 0 = EndsLoop log held file input may_fail before after in
    record {
      done = on_ok_weaker c.print_sent.result (looped (Appends before after)) c.print_sent.ensures.done;
      flushed = c.print_sent.ensures.flushed;
      ends = IfErr-weaker c.print_sent.result (λ stop. (stop ≡ Output) × BreaksOff may_fail before after (sent_text all)) Ends
          (λ stop cut. stops-at Ends stop cut.0 (looped (BreaksOff may_fail before after) cut.1)) c.print_sent.ensures.cut;
    }
