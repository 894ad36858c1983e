-- What the events of a capture bring are octets.
use Rattle.std.proofs.Common.{ℕ, List, [], ◌∷◌, Result, Ok, Err, IfOk, inl, inr, arith}
use Rattle.hex.specs.Hex.{IsBytes}
use Rattle.hex.proofs.HexLemmas.{decode_of-ok}
use Rattle.dq_core.specs.declared.event.Event.{Event}
use Rattle.dq_core.specs.declared.event.Event.TheVariants.{Open, Piece, End, Pull, Schedule, Withdraw}
use Rattle.dq_core.specs.Soundness.{BringsOctets, BringOctets}
use Rattle.dq_captures.specs.Captures.{telling_lines, SpellOctets, SpellsEvent, SpellEach, AreCapture}

octets_are : (text octets : List ℕ) → SpellOctets text octets → IsBytes octets
octets_are text octets (inl none) = rw none.1 (λ i. omega arith)
octets_are text octets (inr read) = (decode_of-ok text octets read.1).3

line_brings : (line : List ℕ) (event : Event) → SpellsEvent line event → BringsOctets event
line_brings line (Open number) spells = tt
line_brings line (Piece number octets) spells = octets_are spells.2.1 octets spells.2.4
line_brings line (End number) spells = tt
line_brings line (Pull number) spells = tt
line_brings line (Schedule inst octets) spells = octets_are spells.2.0 octets spells.2.3
line_brings line (Withdraw inst id) spells = tt

pub lines_bring : (lines : List (List ℕ)) (events : List Event) → SpellEach lines events → BringOctets events
lines_bring [] [] spells = tt
lines_bring [] (event ∷ events) spells = absurd spells
lines_bring (line ∷ lines) [] spells = absurd spells
lines_bring (line ∷ lines) (event ∷ events) spells = (line_brings line event spells.0, lines_bring lines events spells.1)

pub read_brings : {V : Type 0} {E : Type 0} (lines : List (List ℕ)) (items : V → List Event) (r : Result V E) → IfOk r (λ v. AreCapture lines (items v))
    → IfOk r (λ v. BringOctets (items v))
read_brings lines items (Ok v) read = lines_bring (telling_lines lines) (items v) read.spelled
read_brings lines items (Err e) read = tt
