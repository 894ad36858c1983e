use Rattle.std.proofs.Common.{◌≡◌, ℕ, false, List, [], Option, Some, refl, sym, ap, subst, ◌∙◌}
use Rattle.std.proofs.lemmas.Bool.{false≢true}
use Rattle.std.specs.Option.{option_copied, option_copied_mut}
use Rattle.slab.specs.Slab.{get, with_value}
use Rattle.dq_assoc.specs.Holding.{held_agreement}
use Rattle.dq_tables.specs.declared.row.Row.{Row}
use Rattle.dq_tables.specs.Rows.{IsRising, after_all}
use Rattle.dq_archive.specs.declared.additions.Addition.{Addition}
use Rattle.dq_core.specs.declared.connections.Connections.{Connections}
use Rattle.dq_core.specs.declared.slot.Slot.{Slot}
use Rattle.dq_core.specs.Additions.{with_log}
use Rattle.dq_core.specs.Stepping.{MayLeaveAfter}
use Rattle.dq_core.specs.Queries.{query_by, IsToldBy}
use Rattle.dq_core.specs.Shared.{operations_by}
use Rattle.dq_core.specs.Slots.{connection_answer}
use Rattle.dq_core.specs.OpenAssociations.{retallied_by}
use Rattle.dq_core.proofs.TableCalls.{on-err}
use Rattle.dq_core.specs.declared.event.Reply.TheVariants as reply
use Rattle.dq_core.proofs.Turning.{piece-none, piece-empty, TookAny, told, Moves, begun-as-taken, IsMiddle, piece-taken, piece-part, closes, stays-open, not-there, is-empty, not-quiet, not-always}
use Rattle.dq_core.proofs.Turning.{same-slot, still-there, taken-log, written-twice}
use Rattle.dq_core.proofs.connections.Connections.answer_piece.Goals as goal
use Rattle.dq_core.proofs.connections.Connections.answer_piece.Goals.{then-close, else-close}

pub returns-in_default-clause-turned : goal.returns-in_default-clause-turned
returns-in_default-clause-turned g c = λ world h r honest.
    piece-none c.args.self.now.config world c.args.number c.args.piece.now c.args.self.now (g.T.Tables.state c.args.tables.now).rows h
    (sym c.place_of.ensures ∙ c.in_default.is) r

pub returns-then-is_empty-clause-turned : goal.returns-then-is_empty-clause-turned
returns-then-is_empty-clause-turned g c = λ world h r honest.
    piece-empty c.args.self.now.config world c.args.number c.args.piece.now c.args.self.now c.in-Some.place (g.T.Tables.state c.args.tables.now).rows
    c.octets_reply.result h (sym c.place_of.ensures ∙ c.in-Some.is) (is-empty c.args.piece.now c.if-is_empty.ensures) r
    (c.octets_reply.ensures ∙ ap (λ octets. reply.Octets c.args.number octets false) c.new.ensures.items)

pub returns-in_default-get_mut-clause-turned : goal.returns-in_default-get_mut-clause-turned
returns-in_default-get_mut-clause-turned g c = λ world h r honest.
    absurd (not-there c.args.self.now.config world c.args.number c.args.self.now c.in-Some.place h (sym c.place_of.ensures ∙ c.in-Some.is)
    (sym c.get_mut.ensures.value ∙ ap option_copied_mut c.in_default-get_mut.is))

pub returns-in_err-owner-clause-quiet : goal.returns-in_err-owner-clause-quiet
returns-in_err-owner-clause-quiet g c = λ rows connections h k.
    absurd (not-quiet c.args.self.now.config rows c.args.number c.args.piece.now c.args.self.now connections c.in-Some.place h
    (sym c.place_of.ensures ∙ c.in-Some.is) c.if-is_empty.ensures k)

pub returns-in_err-octets-clause-part : goal.returns-in_err-octets-clause-part
returns-in_err-octets-clause-part g c = λ world h r honest.
    let state = g.T.Tables.state in
    let now = c.args.self.now in
    let place = c.in-Some.place in
    let old = c.in-Some-get_mut.slot.now in
    let new = c.take_piece.new.slot in
    let q = option_copied c.in_ok-owner.owner in
    let found = sym c.place_of.ensures ∙ c.in-Some.is in
    let there : get now.slots place ≡ Some old = sym c.get_mut.ensures.value ∙ ap option_copied_mut c.in-Some-get_mut.is in
    let again : c.in-Some-get_mut-2.slot.now ≡ new =
    same-slot now.slots place old new c.in-Some-get_mut-2.slot.now there (sym c.get_mut-2.ensures.value ∙ ap option_copied_mut c.in-Some-get_mut-2.is) in
    let log = c.take_log-log.result in
    let logged = taken-log now.config now.additions.logs.items q (with_value now.slots place new) log c.owner_place-at.result c.owner_place-at.ensures
    c.take_log-log.ensures.taken in
    on-err c.from_residual-in_err-octets.result
    (piece-part now.config world c.args.number c.args.piece.now now place old new q c.in_ok-owner.taken h found there
    (λ x held counts. c.in_ok-owner.ensures world x held counts) (held_agreement new.association)
    (state c.args.tables.now).rows (state c.answer.new.tables).rows refl r log logged
    (MayLeaveAfter (state c.args.tables.now) (state c.answer.new.tables)) (rw again at (c.in_err-octets.ensures.stops honest)))

pub returns-in_err-octets-clause-quiet : goal.returns-in_err-octets-clause-quiet
returns-in_err-octets-clause-quiet g c = λ rows connections h k.
    absurd (not-quiet c.args.self.now.config rows c.args.number c.args.piece.now c.args.self.now connections c.in-Some.place h
    (sym c.place_of.ensures ∙ c.in-Some.is) c.if-is_empty.ensures k)

pub returns-clause-turned : goal.returns-clause-turned
returns-clause-turned g c = λ world h r honest.
    let state = g.T.Tables.state in
    let now = c.args.self.now in
    let number = c.args.number in
    let piece = c.args.piece.now in
    let place = c.in-Some.place in
    let old = c.in-Some-get_mut.slot.now in
    let new = c.take_piece.new.slot in
    let q = option_copied c.in_ok-owner.owner in
    let t = c.in_ok-owner.taken in
    let found = sym c.place_of.ensures ∙ c.in-Some.is in
    let there : get now.slots place ≡ Some old = sym c.get_mut.ensures.value ∙ ap option_copied_mut c.in-Some-get_mut.is in
    let took : TookAny now.config world number piece now.tally.counts.items q t old new = λ x held counts. c.in_ok-owner.ensures world x held counts in
    let again : c.in-Some-get_mut-2.slot.now ≡ new =
    same-slot now.slots place old new c.in-Some-get_mut-2.slot.now there (sym c.get_mut-2.ensures.value ∙ ap option_copied_mut c.in-Some-get_mut-2.is) in
    let logs = now.additions.logs.items in
    let log = c.take_log-log.result in
    let logged = taken-log now.config logs q (with_value now.slots place new) log c.owner_place-at.result c.owner_place-at.ensures c.take_log-log.ensures.taken in
    let next = c.answer.new.log in
    let was = (state c.args.tables.now).rows in
    let rows = (state c.answer.new.tables).rows in
    let left = c.answer.new.self.query in
    let new_logs = c.put.new.self.logs.items in
    let agreed = held_agreement new.association in
    let is_told = told now.config world number piece now place old new q t h found there took in
    let does = rw again at (c.in_ok-octets.ensures.does honest) in
    let given = does is_told.taken is_told.stands in
    let m : Moves now.config world number piece now place old new q t h found there took rows log next new_logs left = record {
      is = logged;
      told_by = subst (λ (rs : List Row). IsToldBy q rs rows log next) r (c.in_ok-octets.ensures.told honest);
      logs_are = c.put.ensures ∙ ap (λ (l : List (List Addition)). with_log l c.owner_place-at.result next) c.take_log-log.ensures.left
          ∙ ap (λ (o : Option ℕ). with_log (with_log logs o []) o next) c.owner_place-at.ensures;
      rising = subst IsRising r (g.met.T.Tables.sound c.args.tables.now (c.in_ok-octets.ensures.goes.was_honest honest)).rising;
      changes = (connection_answer q was agreed (query_by q was log new.query) is_told.taken).changes;
      made = subst (λ (rs : List Row). rows ≡ after_all (operations_by q (connection_answer q was agreed (query_by q was log new.query) is_told.taken).changes) rs) r given.rows;
      named = λ i is. c.a_name_is_of_one.ensures.found now.config i c.is_sound.ensures (is_told.listed i is);
      unserved = rw again at c.in_ok-octets.ensures.unserved;
      begun = (rw again at c.in_ok-octets.ensures.begun)
          (begun-as-taken now.config world number piece now place old new q t h found there took log logged);
    } in
    let mid : Connections = record {
      config = now.config;
      slots = with_value (with_value now.slots place new) place c.answer.new.self;
      places = now.places;
      spares = now.spares;
      tally = c.retally.new.self;
      additions = c.put.new.self;
      newest = now.newest;
    } in
    let counted = c.retally.ensures
    ∙ ap (λ was. retallied_by now.config now.tally.counts.items q was c.stays_open-is_open.result) c.is_some-was_open.ensures in
    let twice = written-twice now.slots place old new c.answer.new.self there in
    let middle : IsMiddle now.config world number piece now place old new q t h found there took rows log next new_logs left m mid c.stays_open-is_open.result =
    record {
      stays = c.stays_open-is_open.ensures;
      others = twice.1;
      written = twice.0 ∙ ap (λ (s : Slot). Some s) (rw again at c.in_ok-octets.ensures.keeps);
      places = refl;
      newest = refl;
      tally = counted;
      logs_are = refl;
    } in
    let waits = c.an_association_after_pdus.ensures.waits in
    let small = c.is_sound-2.ensures in
    let answered = piece-taken now.config world number piece now place old new q t h found there took rows log next new_logs left m agreed was refl r in
    elim c.if-close.branch [
      | then-close w ↦ rw w.self-is (answered w.remove.new.self c.in_ok-octets.octets.items c.octets_reply-2.result does
          (λ e. closes now.config world number piece now place old new q t h found there took rows log next new_logs left m small waits mid w.remove.new.self
          c.stays_open-is_open.result middle e
          w.remove.ensures.slots w.remove.ensures.places w.remove.ensures.ordered w.remove.ensures.newest w.remove.ensures.tally w.remove.ensures.additions)
          (λ e. absurd (false≢true (sym e ∙ w.if-close.true))) c.octets_reply-2.ensures)
      | else-close w ↦ rw w.self-is (answered mid c.in_ok-octets.octets.items c.octets_reply-2.result does
          (λ e. absurd (false≢true (sym w.if-close.false ∙ e)))
          (λ e. stays-open now.config world number piece now place old new q t h found there took rows log next new_logs left m small waits mid
          c.stays_open-is_open.result middle e) c.octets_reply-2.ensures)
    ]

pub returns-in_err-owner-clause-always : goal.returns-in_err-owner-clause-always
returns-in_err-owner-clause-always g c = λ k.
    absurd (not-always c.args.number c.args.piece.now c.args.self.now c.in-Some.place (sym c.place_of.ensures ∙ c.in-Some.is) c.if-is_empty.ensures k)

pub returns-in_err-octets-clause-always : goal.returns-in_err-octets-clause-always
returns-in_err-octets-clause-always g c = λ k.
    absurd (not-always c.args.number c.args.piece.now c.args.self.now c.in-Some.place (sym c.place_of.ensures ∙ c.in-Some.is) c.if-is_empty.ensures k)

pub returns-in_default-get_mut-2-clause-turned : goal.returns-in_default-get_mut-2-clause-turned
returns-in_default-get_mut-2-clause-turned g c = λ world h r honest.
    let now = c.args.self.now in
    let there : get now.slots c.in-Some.place ≡ Some c.in-Some-get_mut.slot.now = sym c.get_mut.ensures.value ∙ ap option_copied_mut c.in-Some-get_mut.is in
    absurd (still-there now.slots c.in-Some.place c.in-Some-get_mut.slot.now c.take_piece.new.slot there
    (sym c.get_mut-2.ensures.value ∙ ap option_copied_mut c.in_default-get_mut-2.is))
