-- The computed messages are messages, and what is left after them is left.
use Rattle.std.proofs.Common.{◌≡◌, ℕ, ◌<◌, ◌≤◌, ◌⊎◌, inl, inr, Bool, true, false, cond, ltb, eqb, List, [], ◌∷◌, ◌++◌, length, Option, Some, None, refl, sym}
use Rattle.std.proofs.Common.{ap, subst, ◌∙◌, append_assoc, arith, length-append, lit≤}
use Rattle.std.proofs.lemmas.Bool.{ltb-true, ltb-false, eqb-true, eqb-false, false≢true}
use Rattle.std.proofs.lemmas.List.{append-nil}
use Rattle.dq_pdu.specs.declared.pdu.Pdv.{Pdv}
use Rattle.dq_pdu.specs.Octets.{is_number_among}
use Rattle.dq_dimse.specs.declared.command.Command.{Command}
use Rattle.dq_dimse.specs.Received.{Message}
use Rattle.dq_dimse.specs.declared.fault.DimseFault.{DimseFault}
use Rattle.dq_dimse.specs.declared.fault.DimseFault.TheVariants.{WrongContext, WrongKind, BadCommand}
use Rattle.dq_dimse.specs.Assembling.{PartialMessage, Nothing, CommandPart, DataPart, Spent}
use Rattle.dq_dimse.specs.Commands.{command_of}
use Rattle.dq_dimse.specs.Messages.{command_limit, fragment_octets, IsCommand, HasOctets, IsDataSetRun, IsDataPart, IsMessage, AreMessages, AwaitsCommand, AwaitsData}
use Rattle.dq_dimse.specs.Messages.{BeginsMessage, IsExpected, FitsNot, AreLeft}
use Rattle.dq_dimse.specs.Assembling.{Gathering, gathers, stops_at, completes, begun_with, command_completed, command_gathered, after_command, with_fragment}
use Rattle.dq_dimse.specs.Assembling.{after_data, gather, after_others, gather_all, gathering_fault, messages, messages_from}
use Rattle.dq_dimse.proofs.Gatherings.{fault_stays}
use Rattle.dq_dimse.proofs.Runs.{joined-push, no_fragments, one_more_fragment, last_fragment, data_context, data_some, expected_is, is_expected}
use Rattle.dq_dimse.proofs.DataParts.{with_fragment-octets, begun_octets}

-- a command set and data fragments, of which the message is what was kept
pub record HoldsData (ids : List ℕ) (front : List Pdv) (message : Message) : Type 0 where
  pub awaits : AwaitsData ids message.context message.command front
  pub octets_are : HasOctets message (fragment_octets awaits.data_part)

-- what was gathered are the PDVs in front
abbrev pub Holds : List ℕ → List Pdv → PartialMessage → Type 0
Holds ids front Nothing = front ≡ []
Holds ids front (CommandPart context octets) = AwaitsCommand ids context front × (0 < length front) × (fragment_octets front ≡ octets)
Holds ids front (DataPart message) = HoldsData ids front message
Holds ids front (Spent fault) = ⊥

record IsFault (ids : List ℕ) (front : List Pdv) (pdv : Pdv) (made : Gathering) : Type 0 where
  pub fault : DimseFault
  pub made_is : made ≡ stops_at fault
  pub command_due : Bool
  pub begins : BeginsMessage ids command_due front
  pub fits_not : FitsNot ids command_due front pdv fault

abbrev IsMore : List ℕ → List Pdv → Pdv → Gathering → Type 0
IsMore ids front pdv made = (made.list ≡ []) × Holds ids (front ++ pdv ∷ []) made.gathered

abbrev IsWhole : List ℕ → List Pdv → Pdv → Gathering → Type 0
IsWhole ids front pdv made = (message : Message) × (made ≡ completes message) × IsMessage ids (front ++ pdv ∷ []) message

-- what a PDV makes after those in front
abbrev Made : List ℕ → List Pdv → Pdv → Gathering → Type 0
Made ids front pdv made = IsFault ids front pdv made ⊎ (IsMore ids front pdv made ⊎ IsWhole ids front pdv made)

-- ---- where a command fragment is due

record InPlace (ids : List ℕ) (context : ℕ) (front : List Pdv) (pdv : Pdv) : Type 0 where
  pub awaits : AwaitsCommand ids context front
  pub expected : IsExpected ids front pdv
  pub context_is : pdv.context ≡ context

is_fault : (ids : List ℕ) (context : ℕ) (front : List Pdv) (pdv : Pdv) (fault : DimseFault) → AwaitsCommand ids context front
    → FitsNot ids true front pdv fault → IsFault ids front pdv (stops_at fault)
is_fault ids context front pdv fault a h = record { fault = fault; made_is = refl; command_due = true; begins = inr (context, a); fits_not = h }

is_command : (ids : List ℕ) (context : ℕ) (front : List Pdv) (pdv : Pdv) (command : Command) → InPlace ids context front pdv → pdv.command ≡ true
    → length (fragment_octets (front ++ pdv ∷ [])) ≤ command_limit → pdv.last ≡ true
    → command_of (fragment_octets (front ++ pdv ∷ [])) ≡ Some command → IsCommand ids context (front ++ pdv ∷ []) command
is_command ids context front pdv command p kind short finished e = grind (arith, last_fragment)

by_data : (ids : List ℕ) (context : ℕ) (front : List Pdv) (pdv : Pdv) (command : Command) → IsCommand ids context (front ++ pdv ∷ []) command
    → (with_data : Bool) → command.with_data ≡ with_data
    → Made ids front pdv (cond with_data (gathers (DataPart (begun_with context command))) (completes (begun_with context command)))
by_data ids context front pdv command is true e = inr (inl (
  refl,
  record {
    awaits = record {
      commands = front ++ pdv ∷ [];
      data_part = [];
      parts = sym
          (append-nil (front ++ pdv ∷ []));
      command_is = is;
      has_data = e;
      fragments = no_fragments context false;
    };
    octets_are = begun_octets context command;
  },
))
by_data ids context front pdv command is false e = grind (arith, append-nil, begun_octets)

by_command_of : (ids : List ℕ) (context : ℕ) (front : List Pdv) (pdv : Pdv) → InPlace ids context front pdv → pdv.command ≡ true
    → length (fragment_octets (front ++ pdv ∷ [])) ≤ command_limit → pdv.last ≡ true
    → (read : Option Command) → command_of (fragment_octets (front ++ pdv ∷ [])) ≡ read → Made ids front pdv (command_completed context read)
by_command_of ids context front pdv p kind short finished None e =
    inl (is_fault ids context front pdv BadCommand p.awaits (p.expected, kind, refl, inr (short, finished, e)))
by_command_of ids context front pdv p kind short finished (Some command) e =
    by_data ids context front pdv command (is_command ids context front pdv command p kind short finished e) command.with_data refl

by_last : (ids : List ℕ) (context : ℕ) (front : List Pdv) (pdv : Pdv) → InPlace ids context front pdv → pdv.command ≡ true
    → length (fragment_octets (front ++ pdv ∷ [])) ≤ command_limit
    → (last : Bool) → pdv.last ≡ last → Made ids front pdv (cond last (command_completed context (command_of (fragment_octets (front ++ pdv ∷ []))))
    (gathers (CommandPart context (fragment_octets (front ++ pdv ∷ [])))))
by_last ids context front pdv p kind short true e = by_command_of ids context front pdv p kind short e (command_of (fragment_octets (front ++ pdv ∷ []))) refl
by_last ids context front pdv p kind short false e =
    let more : AwaitsCommand ids context (front ++ pdv ∷ []) = record {
      accepted = p.awaits.accepted;
      fragments = one_more_fragment context true front pdv p.awaits.fragments p.context_is kind e;
      short = short;
    } in
    inr (inl (refl, (more, omega (arith, length-append front (pdv ∷ [])), refl)))

by_length : (ids : List ℕ) (context : ℕ) (front : List Pdv) (pdv : Pdv) → InPlace ids context front pdv → pdv.command ≡ true
    → (long : Bool) → ltb command_limit (length (fragment_octets (front ++ pdv ∷ []))) ≡ long
    → Made ids front pdv (cond long (stops_at BadCommand) (cond pdv.last (command_completed context (command_of (fragment_octets (front ++ pdv ∷ []))))
    (gathers (CommandPart context (fragment_octets (front ++ pdv ∷ []))))))
by_length ids context front pdv p kind true e = inl (is_fault ids context front pdv BadCommand p.awaits (p.expected, kind, refl, inl (ltb-true _ _ e)))
by_length ids context front pdv p kind false e = by_last ids context front pdv p kind (ltb-false _ _ e) pdv.last refl

by_kind : (ids : List ℕ) (context : ℕ) (front : List Pdv) (pdv : Pdv) → InPlace ids context front pdv → (kind : Bool) → pdv.command ≡ kind
    → Made ids front pdv (cond kind (command_gathered context (fragment_octets (front ++ pdv ∷ [])) pdv.last) (stops_at WrongKind))
by_kind ids context front pdv p true e = by_length ids context front pdv p e (ltb command_limit (length (fragment_octets (front ++ pdv ∷ [])))) refl
by_kind ids context front pdv p false e = inl (is_fault ids context front pdv WrongKind p.awaits (p.expected, e))

in_place : (ids : List ℕ) (context : ℕ) (front : List Pdv) (pdv : Pdv) → InPlace ids context front pdv
    → Made ids front pdv (after_command context (fragment_octets front) pdv)
in_place ids context front pdv p =
    subst (λ (octets : List ℕ). Made ids front pdv (cond pdv.command (command_gathered context octets pdv.last) (stops_at WrongKind)))
    (joined-push front pdv) (by_kind ids context front pdv p pdv.command refl)

pub awaits_first : (ids : List ℕ) (context : ℕ) → is_number_among context ids ≡ true → AwaitsCommand ids context []
awaits_first ids context e = record { accepted = e; fragments = no_fragments context true; short = lit≤ tt }

at_first : (ids : List ℕ) (pdv : Pdv) (accepted : Bool) → is_number_among pdv.context ids ≡ accepted
    → Made ids [] pdv (cond accepted (after_command pdv.context [] pdv) (stops_at WrongContext))
at_first ids pdv true e = in_place ids pdv.context [] pdv (record { awaits = awaits_first ids pdv.context e; expected = e; context_is = refl })
at_first ids pdv false e =
    inl (record {
      fault = WrongContext;
      made_is = refl;
      command_due = true;
      begins = inl refl;
      fits_not = λ (h : is_number_among pdv.context ids ≡ true). absurd
          (false≢true (sym e ∙ h));
    })

at_command : (ids : List ℕ) (context : ℕ) (front : List Pdv) (pdv : Pdv) → AwaitsCommand ids context front → 0 < length front → (same : Bool)
    → eqb pdv.context context ≡ same
    → Made ids front pdv (cond same (after_command context (fragment_octets front) pdv) (stops_at WrongContext))
at_command ids context front pdv a some true e =
    let is = eqb-true _ _ e in
    in_place ids context front pdv (record { awaits = a; expected = is_expected ids context front pdv a.fragments.context_is some is; context_is = is })
at_command ids context front pdv a some false e =
    inl (is_fault ids context front pdv WrongContext a (λ (h : IsExpected ids front pdv). eqb-false _ _ e
    (expected_is ids context front pdv a.fragments.context_is some h)))

-- ---- where a data fragment is due

data_fault : (ids : List ℕ) (front : List Pdv) (pdv : Pdv) (fault : DimseFault) (message : Message) → HoldsData ids front message
    → FitsNot ids false front pdv fault → IsFault ids front pdv (stops_at fault)
data_fault ids front pdv fault message a h =
    record { fault = fault; made_is = refl; command_due = false; begins = (message.context, message.command, a.awaits); fits_not = h }

pushed : (run commands part : List Pdv) (pdv : Pdv) → run ≡ commands ++ part → run ++ pdv ∷ [] ≡ commands ++ (part ++ pdv ∷ [])
pushed run commands part pdv e = ap (λ (xs : List Pdv). xs ++ pdv ∷ []) e ∙ append_assoc commands part (pdv ∷ [])

octets_pushed : (message : Message) (part : List Pdv) (pdv : Pdv) → HasOctets message (fragment_octets part)
    → HasOctets (with_fragment message pdv.octets) (fragment_octets (part ++ pdv ∷ []))
octets_pushed message part pdv h =
    subst (HasOctets (with_fragment message pdv.octets)) (sym (joined-push part pdv)) (with_fragment-octets message (fragment_octets part) pdv.octets h)

data_by_last : (ids : List ℕ) (front : List Pdv) (message : Message) (pdv : Pdv) → HoldsData ids front message → pdv.context ≡ message.context
    → pdv.command ≡ false → (last : Bool) → pdv.last ≡ last
    → Made ids front pdv (cond last (completes (with_fragment message pdv.octets)) (gathers (DataPart (with_fragment message pdv.octets))))
data_by_last ids front message pdv h context_is kind true e =
    let a = h.awaits in
    let part : IsDataSetRun (with_fragment message pdv.octets) (a.data_part ++ pdv ∷ []) = record {
      fragments = last_fragment message.context false a.data_part pdv a.fragments context_is kind e;
      octets_are = octets_pushed message a.data_part pdv h.octets_are;
    } in
    inr (inr (
      with_fragment message pdv.octets,
      refl,
      record {
        commands = a.commands;
        data_part = a.data_part ++ pdv ∷ [];
        parts = pushed front a.commands a.data_part pdv a.parts;
        command_is = a.command_is;
        data_is = subst (λ (b : Bool). IsDataPart b (with_fragment message pdv.octets) (a.data_part ++ pdv ∷ [])) (sym a.has_data) part;
      },
    ))
data_by_last ids front message pdv h context_is kind false e =
    let a = h.awaits in
    inr (inl (
      refl,
      record {
        awaits = record {
          commands = a.commands;
          data_part = a.data_part ++ pdv ∷ [];
          parts = pushed front a.commands a.data_part pdv a.parts;
          command_is = a.command_is;
          has_data = a.has_data;
          fragments = one_more_fragment message.context false a.data_part pdv a.fragments context_is kind e;
        };
        octets_are = octets_pushed message a.data_part pdv h.octets_are;
      },
    ))

data_by_kind : (ids : List ℕ) (front : List Pdv) (message : Message) (pdv : Pdv) → HoldsData ids front message → pdv.context ≡ message.context
    → IsExpected ids front pdv → (kind : Bool) → pdv.command ≡ kind
    → Made ids front pdv (cond kind (stops_at WrongKind) (cond pdv.last (completes (with_fragment message pdv.octets))
    (gathers (DataPart (with_fragment message pdv.octets)))))
data_by_kind ids front message pdv h context_is expected true e = inl (data_fault ids front pdv WrongKind message h (expected, e))
data_by_kind ids front message pdv h context_is expected false e = data_by_last ids front message pdv h context_is e pdv.last refl

at_data : (ids : List ℕ) (front : List Pdv) (message : Message) (pdv : Pdv) → HoldsData ids front message → (same : Bool)
    → eqb pdv.context message.context ≡ same
    → Made ids front pdv (cond same (after_data message pdv) (stops_at WrongContext))
at_data ids front message pdv h true e =
    let is = eqb-true _ _ e in
    let contexts = data_context ids message.context message.command front h.awaits in
    let some = data_some ids message.context message.command front h.awaits in
    data_by_kind ids front message pdv h is (is_expected ids message.context front pdv contexts some is) pdv.command refl
at_data ids front message pdv h false e =
    let contexts = data_context ids message.context message.command front h.awaits in
    let some = data_some ids message.context message.command front h.awaits in
    inl (data_fault ids front pdv WrongContext message h (λ (x : IsExpected ids front pdv). eqb-false _ _ e
    (expected_is ids message.context front pdv contexts some x)))

-- ---- one PDV

step : (ids : List ℕ) (front : List Pdv) (gathered : PartialMessage) (pdv : Pdv) → Holds ids front gathered → Made ids front pdv (gather ids gathered pdv)
step ids front Nothing pdv h = subst (λ (xs : List Pdv). Made ids xs pdv (gather ids Nothing pdv)) (sym h) (at_first ids pdv (is_number_among pdv.context ids) refl)
step ids front (CommandPart context octets) pdv h = grind (arith, at_command)
step ids front (DataPart message) pdv h = at_data ids front message pdv h (eqb pdv.context message.context) refl
step ids front (Spent fault) pdv h = absurd h

-- ---- PDVs one after the other

Parsed : List ℕ → List Pdv → Gathering → Type 0
Parsed ids pdvs made = (rest : List Pdv) × AreMessages ids made.list pdvs rest × AreLeft ids rest (gathering_fault made.gathered)

are_left : (ids : List ℕ) (front : List Pdv) (gathered : PartialMessage) → Holds ids front gathered → AreLeft ids front (gathering_fault gathered)
are_left ids front Nothing h = (true, inl h)
are_left ids front (CommandPart context octets) h = (true, inr (context, h.0))
are_left ids front (DataPart message) h = (false, (message.context, message.command, h.awaits))
are_left ids front (Spent fault) h = absurd h

after : (ids : List ℕ) (front : List Pdv) (gathered : PartialMessage) (pdv : Pdv) (pdvs : List Pdv) (made : Gathering) → Holds ids front gathered
    → Made ids front pdv made
    → ((front : List Pdv) (gathered : PartialMessage) → Holds ids front gathered → Parsed ids (front ++ pdvs) (gather_all ids gathered pdvs))
    → Parsed ids (front ++ pdv ∷ pdvs) (after_others made.list (gather_all ids made.gathered pdvs))
unfolding Parsed
after ids front gathered pdv pdvs made h (inl f) others =
    let all = front ++ pdv ∷ pdvs in
    let left : Parsed ids all (after_others [] (stops_at f.fault)) =
    (all, refl, record { front = front; pdv = pdv; others = pdvs; parts = refl; command_due = f.command_due; begins = f.begins; fits_not = f.fits_not }) in
    subst (λ (m : Gathering). Parsed ids all (after_others m.list (gather_all ids m.gathered pdvs))) (sym f.made_is)
    (subst (λ (r : Gathering). Parsed ids all (after_others [] r)) (sym (fault_stays ids f.fault pdvs)) left)
after ids front gathered pdv pdvs made h (inr (inl (e, holds))) others = grind (arith, Parsed, append_assoc)
after ids front gathered pdv pdvs made h (inr (inr (message, e, is_message))) others =
    let ih = others [] Nothing refl in
    let whole : Parsed ids (front ++ pdv ∷ pdvs) (after_others (message ∷ []) (gather_all ids Nothing pdvs)) =
    (ih.0, (front ++ pdv ∷ [], pdvs, sym (append_assoc front (pdv ∷ []) pdvs), is_message, ih.1), ih.2) in
    subst (λ (m : Gathering). Parsed ids (front ++ pdv ∷ pdvs) (after_others m.list (gather_all ids m.gathered pdvs))) (sym e) whole

parse : (ids : List ℕ) (pdvs front : List Pdv) (gathered : PartialMessage) → Holds ids front gathered → Parsed ids (front ++ pdvs) (gather_all ids gathered pdvs)
unfolding Parsed
parse ids [] front gathered h = (front, append-nil front, are_left ids front gathered h)
parse ids (pdv ∷ pdvs) front gathered h = after ids front gathered pdv pdvs (gather ids gathered pdv) h (step ids front gathered pdv h) (parse ids pdvs)

pub are_messages : (ids : List ℕ) (pdvs : List Pdv) → (rest : List Pdv) × AreMessages ids (messages ids pdvs).list pdvs rest × AreLeft ids rest
    (messages ids pdvs).fault
unfolding Parsed messages_from
are_messages ids pdvs = parse ids pdvs [] Nothing refl
