-- A capture that is played over sockets.
use Rattle.std.specs.Prelude.{◌≡◌, ℕ, false, List, [], map, Option}
use Rattle.std.specs.List.{flat_map}
use Rattle.std.specs.Io.KnownBytes.{Keeps}
use Rattle.dq_config.specs.declared.config.Institution.{Institution}
use Rattle.dq_core.specs.declared.event.Event.{Event}
use Rattle.dq_core.specs.Histories.{opened_numbers}
use Rattle.dq_wires.specs.declared.calls.Call.{Call}
use Rattle.dq_wires.specs.declared.loopback.looping.Sent.{Sent}
use Rattle.dq_wires.specs.Looping.{sent_number, ArePlayed}
use Rattle.dq_wires.specs.Servings.{Act, nothing_held}
use Rattle.dq_wires.specs.Turns.Cut.{NoRoom}
use Rattle.dq_captures.specs.ReplyLines.{octets_line}
use Rattle.dq_captures.specs.Surroundings.{BreaksOff}
use Rattle.dq_app.specs.declared.stop.Stop.{Stop}
use Rattle.dq_app.specs.declared.stop.Stop.TheVariants as stop
use Rattle.dq_app.specs.Program.{IsBy}
use Rattle.dq_app.specs.Serving.{AreServed}

-- `N HEX`: all that a connection was sent
abbrev pub sent_line : Sent → List ℕ
sent_line sent = octets_line sent.number sent.octets false

abbrev pub sent_text : List Sent → List ℕ
sent_text all = flat_map sent_line all

-- The events of a capture came about, each before the next, by acts that were served from no rows.
pub record ArePlayedOver {Wired : Type 0} (log : Wired → Option (List Call))
    (institutions : List Institution) (events : List Event) : Type 0 where
  pub acts : List Act
  pub played : ArePlayed [] nothing_held events acts
  pub served : AreServed log institutions [] acts NoRoom

module _ {Wired : Type 0} (log : Wired → Option (List Call)) (held : List ℕ → Option (List ℕ))
    (file input : Option (List ℕ)) where
  -- The events of the capture were played, and there is a line for each connection that it opens.
  -- They are so.
  abbrev pub IsLooped : (List ℕ → Type 0) → Type 0
  IsLooped IsSo = IsBy held file input (λ institutions events. (all : List Sent)
      × (map sent_number all ≡ opened_numbers events) × ArePlayedOver log institutions events
      × IsSo (sent_text all))

  -- The reasons why a play over sockets stops: an output that fails, after the first octets of the lines; for any other
  -- reason nothing was printed.
  abbrev pub EndsLoop : Type 0 → Option (List ℕ) → Option (List ℕ) → Stop → Type 0
  EndsLoop may_fail before after stop.Output = IsLooped (BreaksOff may_fail before after)
  EndsLoop may_fail before after stop.Usage = ⊥
  EndsLoop may_fail before after other = Keeps before after
