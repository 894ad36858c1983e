use Rattle.std.proofs.Common.{◌++◌, map, length, refl, ap, ◌∙◌}
use Rattle.dq_config.specs.Limits.{limits_of}
use Rattle.dq_tables.specs.Rows.{of}
use Rattle.dq_core.specs.Alone.{alone_opening}
use Rattle.dq_core.specs.Own.{own, is_own_event, replies_at}
use Rattle.dq_core.specs.Renumbering.{with_other_number}
use Rattle.dq_wires.specs.Steps.{replies_of}
use Rattle.dq_wires.specs.Servings.{served_steps, served_events, written_on}
use Rattle.dq_wires.specs.Cuts.{joined_pieces}
use Rattle.dq_wires.proofs.Cutting.{octets_from}
use Rattle.dq_wires.proofs.Isolating.{served-run, alone-front, one-begins}
use Rattle.dq_wires.proofs.laws.institutions_are_isolated_on_wires.Goals as goal

pub returns : goal.returns
returns g c =
    λ rows other_rows first last other_first other_last acts other_acts cut other_cut served other_served honest other_honest later other_later
    i j anew other_anew begins other_begins agree number other same owned other_owned.
    let joins = c.pieces_join.ensures in
    let of_request = c.verdict_is_of_the_request.ensures in
    let adds = c.a_longer_stream_adds_inputs.ensures.adds in
    let numbers = c.replies_do_not_depend_on_numbers.ensures in
    let events = served_events acts cut ++ later in
    let other_events = served_events other_acts other_cut ++ other_later in
    let device = c.institutions_are_answered_by_records.ensures in
    let given = replies_of (served_steps acts cut) in
    let other_given = replies_of (served_steps other_acts other_cut) in
    let own_given = ap (replies_at (is_own_event first.institutions i.name events) events) (served-run g.T.Tables.state served honest later).first_replies
    ∙ device.first_replies first.institutions rows events i (length given) begins in
    let other_own = ap (replies_at (is_own_event other_first.institutions j.name other_events) other_events)
    (served-run g.O.Tables.state other_served other_honest other_later).first_replies
    ∙ device.first_replies other_first.institutions other_rows other_events j (length other_given) other_begins in
    one-begins (written_on number acts cut) (written_on other other_acts other_cut)
    (octets_from (limits_of i) (anew number) (alone_opening (of i.name rows)) (joined_pieces (map (with_other_number anew) (own first.institutions i.name events))))
    (octets_from (limits_of j) (other_anew other) (alone_opening (of j.name other_rows))
    (joined_pieces (map (with_other_number other_anew) (own other_first.institutions j.name other_events))))
    (rw (agree.limits, agree.records, same, agree.own_events) refl)
    (alone-front joins of_request adds g.T.Tables.state served honest later i anew agree.order
    (rw (numbers.well_formed events anew agree.order) begins.well_formed) (numbers.own first.institutions i.name events anew agree.order)
    (device.numbers (limits_of i) (of i.name rows) (own first.institutions i.name events) anew agree.order) own_given
    (device.prefix first.institutions rows events i (length given)) number owned)
    (alone-front joins of_request adds g.O.Tables.state other_served other_honest other_later j other_anew agree.other_order
    (rw (numbers.well_formed other_events other_anew agree.other_order) other_begins.well_formed)
    (numbers.own other_first.institutions j.name other_events other_anew agree.other_order)
    (device.numbers (limits_of j) (of j.name other_rows) (own other_first.institutions j.name other_events) other_anew agree.other_order)
    other_own (device.prefix other_first.institutions other_rows other_events j (length other_given)) other other_owned)
