-- Replies that are cut short.
use Rattle.std.proofs.Common.{◌≡◌, ◌≢◌, ◌⊎◌, ℕ, ◌<◌, List, length, Option, Some, None, inl, inr, sym, ap, ◌∙◌}
use Rattle.std.specs.Io.KnownBytes.{Keeps, Appends}
use Rattle.dq_config.specs.declared.config.Institution.{Institution}
use Rattle.dq_tables.specs.declared.row.Row.{Row}
use Rattle.dq_core.specs.declared.event.Event.{Event}
use Rattle.dq_core.specs.declared.event.Reply.{Reply}
use Rattle.dq_core.specs.declared.fault.Fault.{Fault}
use Rattle.dq_core.specs.declared.fault.Fault.TheVariants as fault
use Rattle.dq_core.specs.Faults.{server_fault_number as fault_number}
use Rattle.dq_core.specs.Runs.{FaultsAfter, HasNoRoom}
use Rattle.dq_core.specs.Shared.{replies}
use Rattle.dq_captures.specs.ReplyLines.{printed_line}
use Rattle.dq_captures.specs.Surroundings.{AppendsPart}
use Rattle.dq_captures.proofs.WrittenLines.{AppendsPart-items, AppendsPart-whole, Appends-kept}
use Rattle.dq_app.specs.Program.{AreGiven, FaultsAt, CutsGiven, Cuts}
use Rattle.dq_app.specs.declared.stop.Stop.{Stop}
use Rattle.dq_app.specs.declared.stop.Stop.TheVariants as stop

one_fault : (one other : Fault) → Some one ≡ Some other → one ≡ other
one_fault one other is = cc

module _ (institutions : List Institution) (rows : List Row) (events : List Event) (given : List Reply) (end : Option Fault) where
  -- where a run ended
  pub faults-at : {Tables : Type 0} {tables left : Tables} (why : Fault) → end ≡ Some why → (end ≢ None → length given < length events)
      → (end ≢ None → FaultsAfter institutions rows events (length given) ⊎ HasNoRoom tables given end left)
      → FaultsAt institutions rows events (length given) (fault_number why)
  faults-at why is fewer came =
      let ended : end ≢ None = λ none. cc in (
        fewer ended,
        elim (came ended) [
          | inl after ↦ inl after
          | inr room ↦ inr (ap length room.no_reply, ap fault_number (one_fault why fault.NoMemory (sym is ∙ room.no_memory)))
        ],
      )

  -- replies that were given are cut short as those to the events are
  pub cuts-given : (before after : Option (List ℕ)) (cause : Stop) → AreGiven institutions rows events given end → CutsGiven before after given end cause
      → Cuts before after institutions rows events cause
  cuts-given before after (stop.Fault number) are cut = (
    length given,
    rw (← cut.2) at (are.ends cut.0 cut.1),
    rw are.first at cut.3,
  )
  cuts-given before after stop.Output are part = AppendsPart-items printed_line before after (replies institutions rows events) (length given) (rw are.first at part)
  cuts-given before after other are cut = cut

-- all lines were written, and not handed on
pub AppendsPart-unflushed : (before mid after : Option (List ℕ)) (octets : List ℕ) → Appends before mid octets → Keeps mid after
    → AppendsPart before after octets
AppendsPart-unflushed before mid after octets written kept = AppendsPart-whole before after octets (Appends-kept before mid after octets written kept)
