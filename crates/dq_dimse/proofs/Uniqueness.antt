-- What is messages, one after the other, and then what is left, is computed so.
use Rattle.std.proofs.Common.{◌≡◌, ℕ, ◌+◌, ◌<◌, ◌≤◌, inl, inr, Bool, true, false, List, [], ◌∷◌, ◌++◌, length, Option, Some, None, refl, sym, ap, subst, ◌∙◌}
use Rattle.std.proofs.Common.{append_assoc, arith, length-append}
use Rattle.std.specs.List.{AllByRecursion}
use Rattle.std.proofs.lemmas.Bool.{lt-ltb, le-ltb, eq-eqb, ne_eqb, false≢true}
use Rattle.std.proofs.lemmas.List.{append-nil}
use Rattle.dq_pdu.specs.declared.pdu.Pdv.{Pdv}
use Rattle.dq_pdu.specs.Octets.{is_number_among}
use Rattle.dq_dimse.specs.declared.command.Command.{Command}
use Rattle.dq_dimse.specs.Received.{Message}
use Rattle.dq_dimse.specs.declared.fault.DimseFault.{DimseFault}
use Rattle.dq_dimse.specs.declared.fault.DimseFault.TheVariants.{WrongContext, WrongKind, BadCommand, NoMemory}
use Rattle.dq_dimse.specs.Assembling.{PartialMessage, Nothing, CommandPart, DataPart}
use Rattle.dq_dimse.specs.Commands.{command_of}
use Rattle.dq_dimse.specs.Messages.{command_limit, fragment_octets, IsCommand, HasOctets, IsDataPart, IsMessage, AreMessages, AwaitsCommand, AwaitsData, BeginsMessage}
use Rattle.dq_dimse.specs.Messages.{IsExpected, IsBad, FitsNot, AreLeft}
use Rattle.dq_dimse.specs.Assembling.{Gathering, gathers, stops_at, completes, begun_with, command_completed, command_gathered, after_command, with_fragment}
use Rattle.dq_dimse.specs.Assembling.{after_data, gather, after_others, gather_all, gathering_fault, Messages, messages, messages_from}
use Rattle.dq_dimse.proofs.Gatherings.{gather_all-append, gather_one, fault_stays}
use Rattle.dq_dimse.proofs.Runs.{IsFragment, joined-append, joined-push, each_fragment, data_context, data_some, expected_is, is_expected, same_others}
use Rattle.dq_dimse.proofs.DataParts.{with_fragment-octets, begun_octets, message_only}
use Rattle.dq_dimse.proofs.Parsing.{awaits_first}

-- PDVs after others that completed no message
gathers_on : (ids : List ℕ) (before after : PartialMessage) (xs ys : List Pdv) → gather_all ids before xs ≡ gathers after
    → gather_all ids before (xs ++ ys) ≡ gather_all ids after ys
gathers_on ids before after xs ys e = gather_all-append ids before xs ys ∙ ap (λ (g : Gathering). after_others g.list (gather_all ids g.gathered ys)) e

-- ---- command fragments

-- what is gathered of command fragments
abbrev state : ℕ → List Pdv → PartialMessage
state context [] = Nothing
state context (x ∷ xs) = CommandPart context (fragment_octets (x ∷ xs))

-- a PDV of the right context after command fragments
at_state : (ids : List ℕ) (context : ℕ) (front : List Pdv) (pdv : Pdv) → is_number_among context ids ≡ true → pdv.context ≡ context
    → gather ids (state context front) pdv ≡ after_command context (fragment_octets front) pdv
at_state ids context [] pdv a e = grind arith
at_state ids context (x ∷ xs) pdv a e = rw (eq-eqb pdv.context context e) refl

command_after : (context : ℕ) (front : List Pdv) (pdv : Pdv) → pdv.command ≡ true
    → after_command context (fragment_octets front) pdv ≡ command_gathered context (fragment_octets (front ++ pdv ∷ [])) pdv.last
command_after context front pdv e = grind (arith, joined-push)

goes_with : (context : ℕ) (octets : List ℕ) (last : Bool) → length octets ≤ command_limit → last ≡ false
    → command_gathered context octets last ≡ gathers (CommandPart context octets)
goes_with context octets last short e = rw (le-ltb command_limit (length octets) short, e) refl

ends_with : (context : ℕ) (octets : List ℕ) (last : Bool) (read : Option Command) → length octets ≤ command_limit → last ≡ true → command_of octets ≡ read
    → command_gathered context octets last ≡ command_completed context read
ends_with context octets last read short e r = rw (le-ltb command_limit (length octets) short, e, r) refl

passes : (context : ℕ) (octets : List ℕ) (last : Bool) → command_limit < length octets → command_gathered context octets last ≡ stops_at BadCommand
passes context octets last long = rw (lt-ltb command_limit (length octets) long) refl

state-push : (context : ℕ) (front : List Pdv) (pdv : Pdv) → CommandPart context (fragment_octets (front ++ pdv ∷ [])) ≡ state context (front ++ pdv ∷ [])
state-push context [] pdv = refl
state-push context (x ∷ xs) pdv = refl

one_command : (ids : List ℕ) (context : ℕ) (front : List Pdv) (pdv : Pdv) → is_number_among context ids ≡ true → IsFragment context true pdv
    → length (fragment_octets (front ++ pdv ∷ [])) ≤ command_limit
    → gather ids (state context front) pdv ≡ gathers (state context (front ++ pdv ∷ []))
one_command ids context front pdv a p short = grind (arith, at_state, command_after, goes_with, state-push)

all_commands : (ids : List ℕ) (context : ℕ) (front run : List Pdv) → is_number_among context ids ≡ true → AllByRecursion (IsFragment context true) run
    → length (fragment_octets (front ++ run)) ≤ command_limit
    → gather_all ids (state context front) run ≡ gathers (state context (front ++ run))
all_commands ids context front [] a p short = ap (λ (xs : List Pdv). gathers (state context xs)) (sym (append-nil front))
all_commands ids context front (x ∷ xs) a p short =
    let regrouped : (front ++ x ∷ []) ++ xs ≡ front ++ x ∷ xs = append_assoc front (x ∷ []) xs in
    let long : length (fragment_octets ((front ++ x ∷ []) ++ xs)) ≤ command_limit = rw regrouped short in
    let e = joined-append (front ++ x ∷ []) xs in
    let n : length (fragment_octets ((front ++ x ∷ []) ++ xs)) ≡ length (fragment_octets (front ++ x ∷ [])) + length (fragment_octets xs) = ap length e
    ∙ length-append (fragment_octets (front ++ x ∷ [])) (fragment_octets xs) in
    let first = one_command ids context front x a p.0 (omega arith) in
    ap (λ (g : Gathering). after_others g.list (gather_all ids g.gathered xs)) first ∙ all_commands ids context (front ++ x ∷ []) xs a p.1 long
    ∙ ap (λ (ys : List Pdv). gathers (state context ys)) regrouped

-- what is gathered of command fragments that are not the last
commands_gathered : (ids : List ℕ) (context : ℕ) (run : List Pdv) → AwaitsCommand ids context run → gather_all ids Nothing run ≡ gathers (state context run)
commands_gathered ids context run a = all_commands ids context [] run a.accepted (each_fragment context true run a.fragments) a.short

front_short : (front : List Pdv) (final : Pdv) (run : List Pdv) → run ≡ front ++ final ∷ [] → length (fragment_octets run) ≤ command_limit
    → length (fragment_octets front) ≤ command_limit
front_short front final run e short = grind (arith, joined-push, length-append)

-- a whole command set
command_gathered_of : (ids : List ℕ) (context : ℕ) (run : List Pdv) (command : Command) → IsCommand ids context run command
    → gather_all ids Nothing run ≡ command_completed context (Some command)
command_gathered_of ids context run command is =
    let f = is.fragments in
    let whole : length (fragment_octets (f.front ++ f.final ∷ [])) ≤ command_limit = subst (λ (xs : List Pdv). length (fragment_octets xs) ≤ command_limit) f.parts is.short in
    let read : command_of (fragment_octets (f.front ++ f.final ∷ [])) ≡ Some command = ap (λ (xs : List Pdv). command_of (fragment_octets xs)) (sym f.parts) ∙ is.command_is in
    let awaits : AwaitsCommand ids context f.front =
    record { accepted = is.accepted; fragments = f.fragments; short = front_short f.front f.final run f.parts is.short } in
    ap (gather_all ids Nothing) f.parts ∙ gathers_on ids Nothing (state context f.front) f.front (f.final ∷ []) (commands_gathered ids context f.front awaits)
    ∙ gather_one ids (state context f.front) f.final ∙ at_state ids context f.front f.final is.accepted f.context_is
    ∙ command_after context f.front f.final f.kind_is
    ∙ ends_with context (fragment_octets (f.front ++ f.final ∷ [])) f.final.last (Some command) whole f.finished read

with_data : (context : ℕ) (command : Command) → command.with_data ≡ true
    → command_completed context (Some command) ≡ gathers (DataPart (begun_with context command))
with_data context command e = rw e refl

without_data : (context : ℕ) (command : Command) → command.with_data ≡ false → command_completed context (Some command) ≡ completes (begun_with context command)
without_data context command e = rw e refl

-- ---- data fragments

-- a PDV of the right context where a data fragment is due
at_part : (ids : List ℕ) (message : Message) (pdv : Pdv) → pdv.context ≡ message.context → gather ids (DataPart message) pdv ≡ after_data message pdv
at_part ids message pdv e = rw (eq-eqb pdv.context message.context e) refl

one_data : (ids : List ℕ) (message : Message) (pdv : Pdv) → IsFragment message.context false pdv
    → gather ids (DataPart message) pdv ≡ gathers (DataPart (with_fragment message pdv.octets))
one_data ids message pdv p = grind (arith, at_part)

-- a message of which more data fragments were gathered
record HasGathered (ids : List ℕ) (context : ℕ) (command : Command) (octets : List ℕ) (made : Gathering) : Type 0 where
  pub message : Message
  pub made_is : made ≡ gathers (DataPart message)
  pub same_context : message.context ≡ context
  pub same_command : message.command ≡ command
  pub octets_are : HasOctets message octets

all_data : (ids : List ℕ) (message : Message) (before : List ℕ) (run : List Pdv) → HasOctets message before
    → AllByRecursion (IsFragment message.context false) run
    → HasGathered ids message.context message.command (before ++ fragment_octets run) (gather_all ids (DataPart message) run)
all_data ids message before [] h p =
    record { message = message; made_is = refl; same_context = refl; same_command = refl; octets_are = subst (HasOctets message) (sym (append-nil before)) h }
all_data ids message before (x ∷ xs) h p =
    let grown = with_fragment message x.octets in
    let later = all_data ids grown (before ++ x.octets) xs (with_fragment-octets message before x.octets h) p.1 in
    let first = one_data ids message x p.0 in
    record {
      message = later.message;
      made_is = ap (λ (g : Gathering). after_others g.list (gather_all ids g.gathered xs)) first ∙ later.made_is;
      same_context = later.same_context;
      same_command = later.same_command;
      octets_are = subst (HasOctets later.message) (append_assoc before x.octets (fragment_octets xs)) later.octets_are;
    }

-- what is gathered of a command set and data fragments that are not the last
data_gathered : (ids : List ℕ) (context : ℕ) (command : Command) (run : List Pdv) (a : AwaitsData ids context command run)
    → HasGathered ids context command (fragment_octets a.data_part) (gather_all ids Nothing run)
data_gathered ids context command run a =
    let begun = begun_with context command in
    let g = all_data ids begun [] a.data_part (begun_octets context command) (each_fragment context false a.data_part a.fragments) in
    let first : gather_all ids Nothing a.commands ≡ gathers (DataPart begun) = command_gathered_of ids context a.commands command a.command_is
    ∙ with_data context command a.has_data in
    record {
      message = g.message;
      made_is = ap (gather_all ids Nothing) a.parts ∙ gathers_on ids Nothing (DataPart begun) a.commands a.data_part first ∙ g.made_is;
      same_context = g.same_context;
      same_command = g.same_command;
      octets_are = g.octets_are;
    }

-- ---- a message

last_data : (ids : List ℕ) (message : Message) (pdv : Pdv) → pdv.context ≡ message.context → pdv.command ≡ false → pdv.last ≡ true
    → gather ids (DataPart message) pdv ≡ completes (with_fragment message pdv.octets)
last_data ids message pdv c k l = grind (arith, at_part)

message_gathered : (ids : List ℕ) (run : List Pdv) (message : Message) (m : IsMessage ids run message) (b : Bool) → message.command.with_data ≡ b
    → IsDataPart b message m.data_part → gather_all ids Nothing run ≡ completes message
message_gathered ids run message m true e d =
    let f = d.fragments in
    let awaits : AwaitsData ids message.context message.command (m.commands ++ f.front) =
    record { commands = m.commands; data_part = f.front; parts = refl; command_is = m.command_is; has_data = e; fragments = f.fragments } in
    let g = data_gathered ids message.context message.command (m.commands ++ f.front) awaits in
    let grown = with_fragment g.message f.final.octets in
    let octets : fragment_octets f.front ++ f.final.octets ≡ fragment_octets m.data_part = sym (joined-push f.front f.final) ∙ ap fragment_octets (sym f.parts) in
    let same : grown ≡ message =
    message_only grown message (fragment_octets m.data_part) g.same_context g.same_command
    (subst (HasOctets grown) octets (with_fragment-octets g.message (fragment_octets f.front) f.final.octets g.octets_are)) d.octets_are in
    let split : run ≡ (m.commands ++ f.front) ++ f.final ∷ [] = m.parts ∙ ap (λ (xs : List Pdv). m.commands ++ xs) f.parts
    ∙ sym (append_assoc m.commands f.front (f.final ∷ [])) in
    ap (gather_all ids Nothing) split ∙ gathers_on ids Nothing (DataPart g.message) (m.commands ++ f.front) (f.final ∷ []) g.made_is
    ∙ gather_one ids (DataPart g.message) f.final ∙ last_data ids g.message f.final (f.context_is ∙ sym g.same_context) f.kind_is f.finished ∙ ap completes same
message_gathered ids run message m false e d =
    let begun = begun_with message.context message.command in
    let same : begun ≡ message = message_only begun message [] refl refl (begun_octets message.context message.command) d.1 in
    let only : run ≡ m.commands = m.parts ∙ ap (λ (xs : List Pdv). m.commands ++ xs) d.0 ∙ append-nil m.commands in
    ap (gather_all ids Nothing) only ∙ command_gathered_of ids message.context m.commands message.command m.command_is
    ∙ without_data message.context message.command e ∙ ap completes same

gather_message : (ids : List ℕ) (run : List Pdv) (message : Message) → IsMessage ids run message → gather_all ids Nothing run ≡ completes message
gather_message ids run message m = message_gathered ids run message m message.command.with_data refl m.data_is

-- ---- what is left

-- what a message begins with, as it is gathered
record IsBegun (ids : List ℕ) (command_due : Bool) (front : List Pdv) : Type 0 where
  pub gathered : PartialMessage
  pub made_is : gather_all ids Nothing front ≡ gathers gathered
  pub no_fault : gathering_fault gathered ≡ None
  pub misfits : (pdv : Pdv) (fault : DimseFault) → FitsNot ids command_due front pdv fault → gather ids gathered pdv ≡ stops_at fault

no_test : (b : Bool) → (b ≡ true → ⊥) → b ≡ false
no_test true h = absurd (h refl)
no_test false h = refl

bad_command : (context : ℕ) (octets : List ℕ) (last : Bool) → IsBad octets last → command_gathered context octets last ≡ stops_at BadCommand
bad_command context octets last (inl long) = passes context octets last long
bad_command context octets last (inr (short, finished, none)) = ends_with context octets last None short finished none

-- a PDV of the wrong context
wrong_context : (ids : List ℕ) (context : ℕ) (front : List Pdv) (pdv : Pdv) → AwaitsCommand ids context front → (IsExpected ids front pdv → ⊥)
    → gather ids (state context front) pdv ≡ stops_at WrongContext
wrong_context ids context [] pdv a h = rw (no_test (is_number_among pdv.context ids) h) refl
wrong_context ids context (x ∷ xs) pdv a h =
    let differs : pdv.context ≡ context → ⊥ = λ e. h (is_expected ids context (x ∷ xs) pdv a.fragments.context_is (omega arith) e) in
    rw (ne_eqb pdv.context context differs) refl

-- a PDV of the right context that fits not where a command fragment is due
command_misfits : (ids : List ℕ) (context : ℕ) (front : List Pdv) (pdv : Pdv) (fault : DimseFault) → AwaitsCommand ids context front
    → (IsExpected ids front pdv → pdv.context ≡ context) → FitsNot ids true front pdv fault
    → gather ids (state context front) pdv ≡ stops_at fault
command_misfits ids context front pdv WrongContext a same h = wrong_context ids context front pdv a h
command_misfits ids context front pdv WrongKind a same h = grind (arith, at_state)
command_misfits ids context front pdv BadCommand a same h =
    at_state ids context front pdv a.accepted (same h.0) ∙ command_after context front pdv h.1 ∙ bad_command context (fragment_octets (front ++ pdv ∷ [])) pdv.last h.3
command_misfits ids context front pdv NoMemory a same h = absurd h

-- a PDV that fits not where nothing stands before it
first_misfits : (ids : List ℕ) (pdv : Pdv) (fault : DimseFault) (accepted : Bool) → is_number_among pdv.context ids ≡ accepted → FitsNot ids true [] pdv fault
    → gather ids Nothing pdv ≡ stops_at fault
first_misfits ids pdv fault true e h = command_misfits ids pdv.context [] pdv fault (awaits_first ids pdv.context e) (λ _. refl) h
first_misfits ids pdv WrongContext false e h = rw e refl
first_misfits ids pdv WrongKind false e h = absurd (false≢true (sym e ∙ h.0))
first_misfits ids pdv BadCommand false e h = absurd (false≢true (sym e ∙ h.0))
first_misfits ids pdv NoMemory false e h = absurd h

data_misfits : (ids : List ℕ) (front : List Pdv) (message : Message) (pdv : Pdv) (fault : DimseFault) → AwaitsData ids message.context message.command front
    → FitsNot ids false front pdv fault
    → gather ids (DataPart message) pdv ≡ stops_at fault
data_misfits ids front message pdv WrongContext a h =
    let contexts = data_context ids message.context message.command front a in
    let some = data_some ids message.context message.command front a in
    let differs : pdv.context ≡ message.context → ⊥ = λ e. h (is_expected ids message.context front pdv contexts some e) in
    rw (ne_eqb pdv.context message.context differs) refl
data_misfits ids front message pdv WrongKind a h =
    let contexts = data_context ids message.context message.command front a in
    let some = data_some ids message.context message.command front a in
    let e : pdv.command ≡ true = h.1 in
    let wrong : after_data message pdv ≡ stops_at WrongKind = rw e refl in
    at_part ids message pdv (expected_is ids message.context front pdv contexts some h.0) ∙ wrong
data_misfits ids front message pdv BadCommand a h = absurd (false≢true h.2)
data_misfits ids front message pdv NoMemory a h = absurd h

-- command fragments, of which there may be none
command_begun : (ids : List ℕ) (context : ℕ) (front : List Pdv) → AwaitsCommand ids context front → IsBegun ids true front
command_begun ids context [] a =
    record { gathered = Nothing; made_is = refl; no_fault = refl; misfits = λ pdv fault h. first_misfits ids pdv fault (is_number_among pdv.context ids) refl h }
command_begun ids context (x ∷ xs) a = record {
  gathered = state context (x ∷ xs);
  made_is = commands_gathered ids context (x ∷ xs) a;
  no_fault = refl;
  misfits = λ pdv fault h. command_misfits ids context (x ∷ xs) pdv fault a (expected_is ids context (x ∷ xs) pdv a.fragments.context_is (omega arith)) h;
}

data_begun : (ids : List ℕ) (context : ℕ) (command : Command) (front : List Pdv) → AwaitsData ids context command front → IsBegun ids false front
data_begun ids context command front a =
    let g = data_gathered ids context command front a in
    let again : AwaitsData ids g.message.context g.message.command front =
    subst (λ (c : ℕ). AwaitsData ids c g.message.command front) (sym g.same_context)
    (subst (λ (k : Command). AwaitsData ids context k front) (sym g.same_command) a) in
    record { gathered = DataPart g.message; made_is = g.made_is; no_fault = refl; misfits = λ pdv fault h. data_misfits ids front g.message pdv fault again h }

none_begun : (ids : List ℕ) (front : List Pdv) → front ≡ [] → IsBegun ids true front
none_begun ids front e = subst (IsBegun ids true) (sym e) (record {
  gathered = Nothing;
  made_is = refl;
  no_fault = refl;
  misfits = λ pdv fault h. first_misfits ids pdv fault (is_number_among pdv.context ids) refl h;
})

is_begun : (ids : List ℕ) (command_due : Bool) (front : List Pdv) → BeginsMessage ids command_due front → IsBegun ids command_due front
is_begun ids true front (inl e) = none_begun ids front e
is_begun ids true front (inr (context, a)) = command_begun ids context front a
is_begun ids false front (context, command, a) = data_begun ids context command front a

-- ---- all of it

abbrev read_off : Gathering → Messages
read_off all = record { list = all.list; fault = gathering_fault all.gathered }

abbrev left_as : Option DimseFault → Messages
left_as fault = record { list = []; fault = fault }

left_gathered : (ids : List ℕ) (rest : List Pdv) (fault : Option DimseFault) → AreLeft ids rest fault → read_off (gather_all ids Nothing rest) ≡ left_as fault
left_gathered ids rest None (due, begins) =
    let b = is_begun ids due rest begins in
    ap read_off b.made_is ∙ ap left_as b.no_fault
left_gathered ids rest (Some fault) h =
    let b = is_begun ids h.command_due h.front h.begins in
    let stops : gather_all ids b.gathered (h.pdv ∷ h.others) ≡ stops_at fault =
    ap (λ (g : Gathering). after_others g.list (gather_all ids g.gathered h.others)) (b.misfits h.pdv fault h.fits_not)
    ∙ ap (after_others []) (fault_stays ids fault h.others) in
    ap (λ (xs : List Pdv). read_off (gather_all ids Nothing xs)) h.parts
    ∙ ap read_off (gathers_on ids Nothing b.gathered h.front (h.pdv ∷ h.others) b.made_is ∙ stops)

all_gathered : (ids : List ℕ) (pdvs rest : List Pdv) (list : List Message) (fault : Option DimseFault) → AreMessages ids list pdvs rest → AreLeft ids rest fault
    → read_off (gather_all ids Nothing pdvs) ≡ record { list = list; fault = fault }
all_gathered ids pdvs rest [] fault a left = ap (λ (xs : List Pdv). read_off (gather_all ids Nothing xs)) a ∙ left_gathered ids rest fault left
all_gathered ids pdvs rest (message ∷ list) fault a left =
    ap (λ (xs : List Pdv). read_off (gather_all ids Nothing xs)) a.2
    ∙ ap read_off (gather_all-append ids Nothing a.0 a.1 ∙ ap (λ (g : Gathering). after_others g.list (gather_all ids g.gathered a.1))
    (gather_message ids a.0 message a.3))
    ∙ ap (λ (m : Messages). record { list = message ∷ m.list; fault = m.fault }) (all_gathered ids a.1 rest list fault a.4 left)

pub only_messages : (ids : List ℕ) (pdvs rest : List Pdv) (list : List Message) (fault : Option DimseFault) → AreMessages ids list pdvs rest
    → AreLeft ids rest fault
    → messages ids pdvs ≡ record { list = list; fault = fault }
unfolding messages_from
only_messages ids pdvs rest list fault a left = all_gathered ids pdvs rest list fault a left

-- ---- the rest

after_data_part : (message : Message) (b : Bool) (xs ys others rest : List Pdv) → IsDataPart b message xs → IsDataPart b message ys
    → xs ++ others ≡ ys ++ rest → others ≡ rest
after_data_part message true xs ys others rest d k e = same_others message.context message.context false xs ys others rest d.fragments k.fragments e
after_data_part message false xs ys others rest d k e = ap (λ (zs : List Pdv). zs ++ others) (sym d.0) ∙ e ∙ ap (λ (zs : List Pdv). zs ++ rest) k.0

regrouped : (pdvs run others commands part : List Pdv) → pdvs ≡ run ++ others → run ≡ commands ++ part → pdvs ≡ commands ++ (part ++ others)
regrouped pdvs run others commands part e f = e ∙ ap (λ (xs : List Pdv). xs ++ others) f ∙ append_assoc commands part others

same_rest : (ids : List ℕ) (pdvs run other others rest : List Pdv) (message : Message) → pdvs ≡ run ++ others → pdvs ≡ other ++ rest
    → IsMessage ids run message → IsMessage ids other message → others ≡ rest
same_rest ids pdvs run other others rest message e f m n =
    let one = regrouped pdvs run others m.commands m.data_part e m.parts in
    let two = regrouped pdvs other rest n.commands n.data_part f n.parts in
    let parts = same_others message.context message.context true m.commands n.commands (m.data_part ++ others)
    (n.data_part ++ rest) m.command_is.fragments n.command_is.fragments (sym one ∙ two) in
    after_data_part message message.command.with_data m.data_part n.data_part others rest m.data_is n.data_is parts

pub only_rest : (ids : List ℕ) (pdvs rest others : List Pdv) (list : List Message) → AreMessages ids list pdvs rest → AreMessages ids list pdvs others
    → rest ≡ others
only_rest ids pdvs rest others [] a b = sym a ∙ b
only_rest ids pdvs rest others (message ∷ list) a b =
    let same = same_rest ids pdvs a.0 b.0 a.1 b.1 message a.2 b.2 a.3 b.3 in
    only_rest ids a.1 rest others list a.4 (subst (λ (xs : List Pdv). AreMessages ids list xs others) (sym same) b.4)
