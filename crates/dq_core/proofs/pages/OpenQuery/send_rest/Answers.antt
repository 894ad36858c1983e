use Rattle.std.proofs.Common.{◌≡◌, ◌++◌, ℕ, length, sym, ap, ◌∙◌}
use Rattle.std.proofs.lemmas.List.{length-map}
use Rattle.dq_match.specs.declared.responses.Found.{Found}
use Rattle.dq_archive.specs.PastArchives.{records_in}
use Rattle.dq_core.specs.declared.pages.OpenQuery.{OpenQuery as HeldQuery}
use Rattle.dq_core.specs.Pages.{OpenQuery, rest}
use Rattle.dq_core.specs.Services.{pending_response, responses}
use Rattle.dq_core.specs.Queries.{at_hand, to_be_found, optional_of, open_query_of}
use Rattle.dq_core.proofs.Sending.{rest-sent, all-at-hand}
use Rattle.dq_core.proofs.pages.OpenQuery.send_rest.Goals as goal

pub returns-clause-sent : goal.returns-clause-sent
returns-clause-sent g c = λ h.
    let records = records_in g.T.Tables.state c.args.archive.now in
    let self = c.args.self in
    let found = c.find.new.self in
    let mid : HeldQuery = record self { answers = found } in
    let now = c.send_pending.new.self in
    let all = at_hand found ++ to_be_found records found in
    let counted : c.at_hand-count.result ≡ length (open_query_of records mid).left.pending =
    c.at_hand-count.ensures ∙ sym (ap length (all-at-hand found records c.in_ok-find.ensures.enough))
    ∙ sym (length-map all (pending_response self.context self.command (optional_of found))) in
    rest-sent (open_query_of records mid) (open_query_of records now) c.at_hand-count.result c.args.out.now.items c.send_pending.new.out.items
    c.send_final.new.out.items counted (c.in_ok-send_pending.ensures.sent records) (c.in_ok-send_pending.ensures.left records)
    (rw c.status-status.ensures at (c.in_ok-send_final.ensures records))
    ∙ ap (λ (f : Found). c.args.out.now.items ++ rest (record { context = self.context.id; limit = self.limit; left = responses self.context self.command f }))
    (c.in_ok-find.ensures.stays h)
