use Rattle.std.proofs.Common.{◌≡◌, ◌++◌, ◌+◌, ◌<◌, length, sym, ap, subst, ◌∙◌}
use Rattle.std.proofs.lemmas.List.{append-nil}
use Rattle.std.proofs.lemmas.Bool.{eqb-true}
use Rattle.dq_pdu.specs.Stream.{Pdus, pdus_in}
use Rattle.dq_pdu.specs.Inboxes.{inbox_octets}
use Rattle.dq_pdu.specs.declared.inbox.InboxState.TheVariants.{Reading}
use Rattle.dq_pdu.specs.Holding.{held_at, HoldsPart}
use Rattle.dq_pdu.proofs.InboxLaws.{reading_on, stopped_on, holding-part, idle_exact, none_by_length, reading_is, part_is_short, held_is_short}
use Rattle.dq_pdu.proofs.inbox.Inbox.feed.Goals as goal

pub returns-then-is_empty-clause-exact : goal.returns-then-is_empty-clause-exact
returns-then-is_empty-clause-exact c = λ rest e.
    let none = none_by_length c.args.piece.now (eqb-true _ _ (sym c.is_empty.ensures ∙ c.if-is_empty.true)) in
    let held = c.in-Reading.ensures.value ∙ c.self.view_is in
    let same : c.in-Reading.rest ≡ rest = reading_is c.in-Reading.rest rest (held ∙ e) in
    let part = subst HoldsPart (sym c.in-Reading.ensures.value) c.self.invariant in
    let found = idle_exact c.in-Reading.rest c.args.piece.now none part in
    rw (← same) (
      ap (λ (p : Pdus). p.list) found ∙ sym c.empty-pdus-then-is_empty.ensures,
      ap (λ (p : Pdus). p.fault) found,
      sym (ap (λ
          (p : Pdus). held_at p.fault p.rest) found),
    )

pub invariant_of-self-in-Reading : goal.invariant_of-self-in-Reading
invariant_of-self-in-Reading c = subst HoldsPart (sym c.in_ok-held-in-Reading.ensures.held) (holding-part (c.in-Reading.rest ++ c.args.piece.now))

pub returns-in-Stopped-clause-pdus : goal.returns-in-Stopped-clause-pdus
returns-in-Stopped-clause-pdus c = λ stream a.
    let u = stopped_on stream c.args.piece.now c.in-Stopped.fault (c.in-Stopped.ensures.value ∙ c.self.view_is ∙ a.holds) in
    rw (c.empty-pdus.ensures, append-nil (pdus_in stream).list) (ap (λ (found : Pdus). found.list) u, ap (λ (found : Pdus). found.fault) u)

pub returns-in-Stopped-clause-stands : goal.returns-in-Stopped-clause-stands
returns-in-Stopped-clause-stands c = λ stream a.
    let u = stopped_on stream c.args.piece.now c.in-Stopped.fault (c.in-Stopped.ensures.value ∙ c.self.view_is ∙ a.holds) in
    record { holds = sym (ap (λ (found : Pdus). held_at found.fault found.rest) u) }

pub returns-in_ok-held-in-Reading-clause-pdus : goal.returns-in_ok-held-in-Reading-clause-pdus
returns-in_ok-held-in-Reading-clause-pdus c = λ stream a.
    let u = reading_on stream c.args.piece.now c.in-Reading.rest (c.in-Reading.ensures.value ∙ c.self.view_is ∙ a.holds) in
    let fed = c.in_ok-held-in-Reading.ensures.fed in
    (ap (λ (found : Pdus). found.list) u ∙ ap (λ pdus. (pdus_in stream).list ++ pdus) fed.0, ap (λ (found : Pdus). found.fault) u ∙ fed.1)

pub returns-in_ok-held-in-Reading-clause-stands : goal.returns-in_ok-held-in-Reading-clause-stands
returns-in_ok-held-in-Reading-clause-stands c = λ stream a.
    let u = reading_on stream c.args.piece.now c.in-Reading.rest (c.in-Reading.ensures.value ∙ c.self.view_is ∙ a.holds) in
    record { holds = c.in_ok-held-in-Reading.ensures.held ∙ sym (ap (λ (found : Pdus). held_at found.fault found.rest) u) }

pub returns-then-is_empty-clause-few : goal.returns-then-is_empty-clause-few
returns-then-is_empty-clause-few c = part_is_short (Reading c.in-Reading.rest) (subst HoldsPart (sym c.in-Reading.ensures.value) c.self.invariant)

pub returns-in_ok-held-in-Reading-clause-few : goal.returns-in_ok-held-in-Reading-clause-few
returns-in_ok-held-in-Reading-clause-few c =
    subst (λ h. length (inbox_octets h) < 6 + 65536) (sym c.in_ok-held-in-Reading.ensures.held) (held_is_short
    (c.in-Reading.rest ++ c.args.piece.now))
