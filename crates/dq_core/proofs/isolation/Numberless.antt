-- Isolation, of histories that agree but for the numbers of connections.
use Rattle.std.proofs.Common.{◌≡◌, ℕ, List, ◌++◌, map, length, ◌⊎◌, refl, sym, ap, ◌∙◌}
use Rattle.dq_core.proofs.isolation.Vocabulary.{Institution, limits_of, Row, Event, Reply, replies, world_after, alone_replies, alone_after, is_own_event, own, replies_at, Begins, IsPrefix, IsRun}
use Rattle.dq_tables.specs.Rows.{of}
use Rattle.dq_core.specs.Renumbering.{with_other_number, renumbered_reply, AgreeButForNumbers}
use Rattle.dq_core.proofs.isolation.Streams.{AddsInputs}
use Rattle.dq_core.proofs.isolation.Isolating.{Lenses}
use Rattle.dq_core.proofs.isolation.Promise.{among_replies, isolated-replies, isolated_records, isolated_among, own_front, fronts}
use Rattle.dq_core.proofs.isolation.Renumbering.{map-append, alone_replies_anew, alone-records_anew}

module _ (adds : AddsInputs) (lenses : Lenses) (institutions others : List Institution) (rows other_rows : List Row) (events other_events : List Event)
    (i j : Institution) (anew other_anew : ℕ → ℕ) where
  abbrev Agree : Type 0
  Agree = AgreeButForNumbers institutions others rows other_rows events other_events i j anew other_anew

  -- the replies of the institution's server alone
  abbrev whole : List Reply
  whole = alone_replies (limits_of i) (of i.name rows) (own institutions i.name events)

  abbrev other_whole : List Reply
  other_whole = alone_replies (limits_of j) (of j.name other_rows) (own others j.name other_events)

  same-alone : Agree → map (renumbered_reply anew) whole ≡ map (renumbered_reply other_anew) other_whole
  same-alone a =
      let middle : alone_replies (limits_of i) (of i.name rows) (map (with_other_number anew) (own institutions i.name events))
      ≡ alone_replies (limits_of j) (of j.name other_rows) (map (with_other_number other_anew) (own others j.name other_events)) =
      rw (a.own_events, a.records, a.limits) refl in
      sym (alone_replies_anew anew a.order (limits_of i) (of i.name rows) (own institutions i.name events)) ∙ middle
      ∙ alone_replies_anew other_anew a.other_order (limits_of j) (of j.name other_rows) (own others j.name other_events)

  pub numberless_replies : Begins institutions rows events i → Begins others other_rows other_events j → Agree
      → map (renumbered_reply anew) (replies_at (is_own_event institutions i.name events) events (replies institutions rows events))
      ≡ map (renumbered_reply other_anew) (replies_at (is_own_event others j.name other_events) other_events (replies others other_rows other_events))
  numberless_replies b c a =
      rw (isolated-replies adds lenses institutions rows events i b, isolated-replies adds lenses others other_rows other_events j c) (same-alone a)

  pub numberless_records : Begins institutions rows events i → Begins others other_rows other_events j → Agree
      → of i.name (world_after institutions rows events).rows ≡ of j.name (world_after others other_rows other_events).rows
  numberless_records b c a =
      let middle : (alone_after (limits_of i) (of i.name rows) (map (with_other_number anew) (own institutions i.name events))).records
      ≡ (alone_after (limits_of j) (of j.name other_rows) (map (with_other_number other_anew) (own others j.name other_events))).records =
      rw (a.own_events, a.records, a.limits) refl in
      isolated_records adds lenses institutions rows events i b
      ∙ sym (alone-records_anew anew a.order (limits_of i) (of i.name rows) (own institutions i.name events)) ∙ middle
      ∙ alone-records_anew other_anew a.other_order (limits_of j) (of j.name other_rows) (own others j.name other_events)
      ∙ sym (isolated_records adds lenses others other_rows other_events j c)

  -- runs that a fault may end
  pub numberless_runs : (given other_given : List Reply) (kept other_kept : List Row) → IsRun institutions rows events given kept
      → IsRun others other_rows other_events other_given other_kept → Begins institutions rows events i → Begins others other_rows other_events j → Agree
      → let some = map (renumbered_reply anew) (replies_at (is_own_event institutions i.name events) events given) in
      let more = map (renumbered_reply other_anew) (replies_at (is_own_event others j.name other_events) other_events other_given) in
      IsPrefix some more ⊎ IsPrefix more some
  numberless_runs given other_given kept other_kept run other b c a =
      let some = among_replies institutions rows events i (length given) in
      let more = among_replies others other_rows other_events j (length other_given) in
      let own_given : replies_at (is_own_event institutions i.name events) events given ≡ some =
      ap (replies_at (is_own_event institutions i.name events) events) run.first_replies ∙ isolated_among adds lenses institutions rows events i (length given) b in
      let other_own : replies_at (is_own_event others j.name other_events) other_events other_given ≡ more =
      ap (replies_at (is_own_event others j.name other_events) other_events) other.first_replies
      ∙ isolated_among adds lenses others other_rows other_events j (length other_given) c in
      let p = own_front institutions rows events i (length given) in
      let q = own_front others other_rows other_events j (length other_given) in
      let front : map (renumbered_reply anew) some ++ map (renumbered_reply anew) p.0 ≡ map (renumbered_reply other_anew) other_whole =
      sym (map-append (renumbered_reply anew) some p.0) ∙ ap (map (renumbered_reply anew)) p.1 ∙ same-alone a in
      let other_front : map (renumbered_reply other_anew) more ++ map (renumbered_reply other_anew) q.0 ≡ map (renumbered_reply other_anew) other_whole =
      sym (map-append (renumbered_reply other_anew) more q.0) ∙ ap (map (renumbered_reply other_anew)) q.1 in
      rw (own_given, other_own)
      (fronts (map (renumbered_reply anew) some) (map (renumbered_reply other_anew) more) (map (renumbered_reply anew) p.0)
      (map (renumbered_reply other_anew) q.0) (map (renumbered_reply other_anew) other_whole) front other_front)
