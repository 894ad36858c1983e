use Rattle.std.proofs.Common.{◌≡◌, List, ap, ◌∙◌}
use Rattle.std.specs.Option.{option_copied}
use Rattle.dq_pdu.specs.declared.pdu.Pdu.{Pdu}
use Rattle.dq_core.specs.Slots.{owner_at}
use Rattle.dq_core.specs.OpenAssociations.{tally_of_name}
use Rattle.dq_core.proofs.Pieces.{Laws, fed_slot, took}
use Rattle.dq_core.proofs.connections.take_piece.Goals as goal

pub returns : goal.returns
returns c = λ world x held counts.
    let institutions = c.args.config.now in
    let old = c.args.slot.now in
    let inbox = c.feed.new.self in
    let fed = c.in-Ok.fed in
    let q = option_copied c.owner_of-institution.result in
    let verdict = c.verdict_for.result in
    let laws : Laws institutions = record {
      waits = c.an_association_after_pdus.ensures.waits;
      opens = c.an_association_after_pdus.ensures.opens;
      adds = c.a_longer_stream_adds_inputs.ensures.adds;
      further = c.a_longer_stream_adds_inputs.ensures.further;
      names = λ called calling i r. c.a_name_is_of_one.ensures.found institutions i c.is_sound.ensures
          (c.a_pair_is_of_one.ensures.routed institutions called calling i c.is_sound.ensures r).listed;
      listed = c.a_name_is_of_one.ensures.listed institutions;
    } in
    let q_is : q ≡ owner_at institutions (fed_slot old inbox) fed.pdus =
    c.owner_of-institution.ensures ∙ ap (λ (list : List Pdu). owner_at institutions (fed_slot old inbox) list) c.as_slice.ensures in
    took institutions laws world x c.args.piece.now (tally_of_name institutions c.args.tally.now.counts.items) old fed.pdus fed.fault inbox c.take.new.self q verdict
    c.in_ok-taken.taken held counts
    (record {
      list = (c.in-Ok.ensures.pdus x.stream held.inbox).0;
      fault_is = (c.in-Ok.ensures.pdus x.stream held.inbox).1;
      stands = c.in-Ok.ensures.stands x.stream held.inbox;
    })
    q_is c.verdict_for.ensures
    (record {
      taken_is = c.in_ok-taken.ensures.taken;
      agrees = c.in_ok-taken.ensures.agreement;
      stands = c.in_ok-taken.ensures.stands;
      number = c.take.ensures.keeps.0;
      inbox = c.take.ensures.keeps.1;
      query = c.take.ensures.keeps.2;
      slot_institution = c.take.ensures.slot_institution;
    })
