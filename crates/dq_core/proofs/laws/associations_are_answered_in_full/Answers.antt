use Rattle.std.proofs.Common.{length, take}
use Rattle.dq_core.specs.Soundness.{BringsOctets}
use Rattle.dq_core.proofs.isolation.Conversing.{conversed, conversed-at, conversed-run}
use Rattle.dq_core.proofs.isolation.Exact.{exactly}
use Rattle.dq_core.proofs.isolation.Octets.{each-taken}
use Rattle.dq_core.proofs.laws.associations_are_answered_in_full.Goals as goal

pub returns-clause-history : goal.returns-clause-history
returns-clause-history c = λ institutions rows events number i formed owned. record {
  outputs = conversed c.a_longer_stream_adds_inputs.ensures.adds c.own_records_are_edited.ensures.one institutions rows number i events formed owned;
  exact = exactly c.answers_are_the_matching_records_in_order.ensures.succeeded
      (λ institution kept message syntax sound succeeds.
      let told = c.answers_are_the_matching_records_in_order-2.ensures.succeeded institution kept message syntax sound.rising succeeds in
      (told.0.keys, told.0.optional, told.1, told.2))
      c.services_keep_rows_sound.ensures c.own_records_are_edited.ensures.one institutions rows events number i;
}

pub returns-clause-at_each_event : goal.returns-clause-at_each_event
returns-clause-at_each_event c = λ institutions rows events number i e formed owned on.
    conversed-at c.a_longer_stream_adds_inputs.ensures.adds c.own_records_are_edited.ensures.one institutions rows number i events e formed owned on

pub returns-clause-run : goal.returns-clause-run
returns-clause-run c = λ institutions rows events given kept number i run formed owned.
    conversed-run c.a_longer_stream_adds_inputs.ensures.adds c.own_records_are_edited.ensures.one institutions rows number i events given kept run formed
    owned

pub returns-clause-exact : goal.returns-clause-exact
returns-clause-exact c = λ institutions rows events given kept number i run formed sound brings owned. record {
  outputs = conversed-run c.a_longer_stream_adds_inputs.ensures.adds c.own_records_are_edited.ensures.one institutions rows number i events given kept run
      formed owned;
  exact = exactly c.answers_are_the_matching_records_in_order.ensures.succeeded
      (λ institution records message syntax fit succeeds.
      let told = c.answers_are_the_matching_records_in_order-2.ensures.succeeded institution records message syntax fit.rising succeeds in
      (told.0.keys, told.0.optional, told.1, told.2))
      c.services_keep_rows_sound.ensures c.own_records_are_edited.ensures.one institutions rows (take (length given) events) number i sound
      (each-taken BringsOctets (length given) events brings);
}
