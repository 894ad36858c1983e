use Rattle.std.proofs.Common.{refl, sym, ap, ◌∙◌, List, ℕ, false}
use Rattle.std.proofs.lemmas.Bool.{false≢true}
use Rattle.std.specs.Option.{option_copied_mut}
use Rattle.dq_core.specs.declared.event.Reply.TheVariants as reply
use Rattle.dq_core.specs.Pages.{next_page}
use Rattle.dq_core.specs.Slots.{query_at}
use Rattle.dq_core.specs.Stepping.{MayLeaveAfter}
use Rattle.dq_core.proofs.TableCalls.{on-err}
use Rattle.dq_core.proofs.Turning.{vacant, pull-none, pull-part, pull-answered, pulled-asks, not-pending, no-search}
use Rattle.dq_core.proofs.connections.Connections.answer_pull.Goals as goal

pub returns-in_default-clause-turned : goal.returns-in_default-clause-turned
returns-in_default-clause-turned g c = λ world h r honest.
    pull-none c.args.self.now.config world c.args.number c.args.self.now (g.T.Tables.state c.args.tables.now).rows h (sym c.place_of.ensures ∙ c.in_default.is) r

pub returns-in_default-get_mut-clause-turned : goal.returns-in_default-get_mut-clause-turned
returns-in_default-get_mut-clause-turned g c = λ world h r honest.
    absurd (vacant c.args.self.now.config world.rows c.args.number c.in-Some.place c.args.self.now world.connections h (sym c.place_of.ensures ∙ c.in-Some.is)
    (sym c.get_mut.ensures.value ∙ ap option_copied_mut c.in_default-get_mut.is))

pub returns-in_err-octets-clause-quiet : goal.returns-in_err-octets-clause-quiet
returns-in_err-octets-clause-quiet g c = λ rows connections h none.
    absurd (false≢true (c.in_err-octets.ensures.quiet (not-pending c.args.self.now.config rows c.args.number c.in-Some.place c.args.self.now c.in-Some-get_mut.slot.now connections
    h (sym c.place_of.ensures ∙ c.in-Some.is) (sym c.get_mut.ensures.value ∙ ap option_copied_mut c.in-Some-get_mut.is) none)))

pub returns-in_err-octets-clause-part : goal.returns-in_err-octets-clause-part
returns-in_err-octets-clause-part g c = λ world r honest.
    let state = g.T.Tables.state in
    let old = state c.args.tables.now in
    let new = state c.send_page.new.tables in
    let same = c.send_page.ensures.same honest in
    on-err _ (pull-part c.args.self.now.config world c.args.number new.rows (MayLeaveAfter old new) (same ∙ r)
    (λ rows left. left.0.only rows (c.send_page.ensures.crash honest rows left.1) ∙ sym same))

pub returns-clause-turned : goal.returns-clause-turned
returns-clause-turned g c = λ world h r honest.
    let now = c.args.self.now in
    let old = c.in-Some-get_mut.slot.now in
    let logs = now.additions.logs.items in
    let there = sym c.get_mut.ensures.value ∙ ap option_copied_mut c.in-Some-get_mut.is in
    let found = sym c.place_of.ensures ∙ c.in-Some.is in
    let asks = pulled-asks now.config world c.args.number now c.in-Some.place old c.send_page.new.self h found there c.send_page.ensures.keeps in
    let rows = (g.T.Tables.state c.args.tables.now).rows in
    let page = c.in_ok-octets.ensures.page honest asks.begun in
    let left = c.in_ok-octets.ensures.left honest asks.begun in
    pull-answered now.config world c.args.number now c.in-Some.place old c.send_page.new.self h found there c.send_page.ensures.keeps
    (g.T.Tables.state c.send_page.new.tables).rows (c.send_page.ensures.same honest ∙ r)
    (next_page (query_at now.config world.rows logs old.institution old.query)) refl
    (rw r at left) (c.in_ok-octets.ensures.begun asks.begun) c.octets_reply.result
    (c.octets_reply.ensures ∙ ap (λ (octets : List ℕ). reply.Octets c.args.number octets false) (rw r at page))

pub returns-in_err-octets-clause-always : goal.returns-in_err-octets-clause-always
returns-in_err-octets-clause-always g c = λ none.
    absurd (false≢true (c.in_err-octets.ensures.quiet (no-search c.args.number c.in-Some.place c.args.self.now c.in-Some-get_mut.slot.now
    (sym c.place_of.ensures ∙ c.in-Some.is) (sym c.get_mut.ensures.value ∙ ap option_copied_mut c.in-Some-get_mut.is) none)))
