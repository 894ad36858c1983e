-- Idle ones give way, one after the other.
use Rattle.std.proofs.Common.{◌≡◌, ◌<◌, ◌≤◌, ◌+◌, ◌-◌, ◌++◌, ◌∙◌, ℕ, zero, suc, Bool, true, false, if◌then◌else◌, Option, List, [], ◌∷◌, length, get_or, remove, inl, inr, arith, length-append, append_assoc, append-nil, refl, sym, ap}
use Rattle.std.specs.List.{list_any}
use Rattle.std.specs.declared.net.ip_addr.IpAddr.{IpAddr}
use Rattle.std.specs.declared.net.socket_addr.SocketAddr.{SocketAddr}
use Rattle.dq_wires.proofs.TurnSequences.{get-at, remove-at}
use Rattle.dq_http.specs.declared.http_connection.HttpConnection.{HttpConnection}
use Rattle.dq_http.specs.HttpConnections.{IsNew}
use Rattle.dq_http.specs.Places.{is_crowded, is_idle, most_idle, most_connections, MayAllCome, LetsIn, LetsOneIn, without_idle, with_room, LeavesRoom}

none-idle : (kept : List HttpConnection) (connection : HttpConnection) → list_any is_idle kept ≡ false → is_idle connection ≡ false
    → list_any is_idle (kept ++ connection ∷ []) ≡ false
none-idle [] connection none is = rw is refl
none-idle (first ∷ kept) connection none is = by (is_idle first) refl none (λ h. none-idle kept connection h is) where
  by : (b : Bool) → is_idle first ≡ b → list_any is_idle (first ∷ kept) ≡ false
      → (list_any is_idle kept ≡ false → list_any is_idle (kept ++ connection ∷ []) ≡ false) → list_any is_idle (first ∷ (kept ++ connection ∷ [])) ≡ false
  by true e was rest = absurd (cc)
  by false e was rest = rw e (rest (rw e at was))

stays : (count : ℕ) (first : HttpConnection) (others : List HttpConnection) → is_idle first ≡ false → 0 < count
    → without_idle count (first ∷ others) ≡ first ∷ without_idle count others
stays zero first others busy some = absurd (omega (arith, some))
stays (suc count) first others busy some = rw busy refl

goes : (count : ℕ) (first : HttpConnection) (others : List HttpConnection) → is_idle first ≡ true → 0 < count
    → without_idle count (first ∷ others) ≡ without_idle (count - 1) others
goes zero first others idle some = absurd (omega (arith, some))
goes (suc count) first others idle some =
    let one : suc count - 1 ≡ count = omega arith in
    rw (idle, one) refl

nobody-goes : (count : ℕ) → without_idle count [] ≡ []
nobody-goes zero = refl
nobody-goes (suc count) = refl

-- those up to a place are none that give way
pub record RoomSo (all now : List HttpConnection) (at : ℕ) : Type 0 where
  pub kept : List HttpConnection
  pub others : List HttpConnection
  pub holds : now ≡ kept ++ others
  pub place : at ≡ length kept
  pub busy : list_any is_idle kept ≡ false
  pub left : with_room all ≡ kept ++ without_idle (length now - most_idle) others

pub room-begins : (all : List HttpConnection) → RoomSo all all 0
room-begins all = record { kept = []; others = all; holds = refl; place = refl; busy = refl; left = refl }

module _ {all now : List HttpConnection} {at : ℕ} (so : RoomSo all now at) where
  module _ (within : at < length now) (full : most_idle < length now) (connection : HttpConnection) (found : connection ≡ get_or now at connection) where
    pub room-busy : is_idle connection ≡ false → RoomSo all now (at + 1)
    room-busy busy = by so.others so.holds so.left where
      by : (others : List HttpConnection) → now ≡ so.kept ++ others → with_room all ≡ so.kept ++ without_idle (length now - most_idle) others → RoomSo all now (at + 1)
      by [] holds left = absurd (omega (arith, so.place, within, ap length holds, length-append so.kept []))
      by (first ∷ others) holds left =
          let is : connection ≡ first = found ∙ rw (holds, so.place) (get-at so.kept first others connection) in
          let busy_first : is_idle first ≡ false = rw is at busy in
          record {
            kept = so.kept ++ first ∷ [];
            others = others;
            holds = holds ∙ sym (append_assoc so.kept (first ∷ []) others);
            place = omega (arith, so.place, length-append so.kept (first ∷ []));
            busy = none-idle so.kept first so.busy busy_first;
            left = left ∙ ap (λ (l : List HttpConnection). so.kept ++ l) (stays (length now - most_idle) first others busy_first (omega (arith, full)))
                ∙ sym (append_assoc so.kept (first ∷ []) (without_idle (length now - most_idle) others));
          }

    pub room-made : is_idle connection ≡ true → RoomSo all (remove now at) at
    room-made idle = by so.others so.holds so.left where
      by : (others : List HttpConnection) → now ≡ so.kept ++ others → with_room all ≡ so.kept ++ without_idle (length now - most_idle) others → RoomSo all (remove now at) at
      by [] holds left = absurd (omega (arith, so.place, within, ap length holds, length-append so.kept []))
      by (first ∷ others) holds left =
          let is : connection ≡ first = found ∙ rw (holds, so.place) (get-at so.kept first others connection) in
          let gone : remove now at ≡ so.kept ++ others = rw (holds, so.place) (remove-at so.kept first others) in
          let fewer : length now - most_idle - 1 ≡ length (remove now at) - most_idle =
          omega (arith, ap length holds, ap length gone, length-append so.kept (first ∷ others), length-append so.kept others) in
          record {
            kept = so.kept;
            others = others;
            holds = gone;
            place = so.place;
            busy = so.busy;
            left = left ∙ ap (λ (l : List HttpConnection). so.kept ++ l) (goes (length now - most_idle) first others (rw is at idle) (omega (arith, full)))
                ∙ ap (λ (count : ℕ). so.kept ++ without_idle count others) fewer;
          }

  -- all have been looked at, or there is room
  pub room-whole : length now ≤ at → now ≡ with_room all
  room-whole past = by so.others so.holds so.left where
    by : (others : List HttpConnection) → now ≡ so.kept ++ others → with_room all ≡ so.kept ++ without_idle (length now - most_idle) others → now ≡ with_room all
    by [] holds left = holds ∙ ap (λ (l : List HttpConnection). so.kept ++ l) (sym (nobody-goes (length now - most_idle))) ∙ sym left
    by (first ∷ others) holds left = absurd (omega (arith, so.place, past, ap length holds, length-append so.kept (first ∷ others)))

  pub room-is : length now ≤ most_idle → now ≡ with_room all
  room-is room =
      let none : length now - most_idle ≡ 0 = omega (arith, room) in
      so.holds ∙ sym (rw none at so.left)

  pub whole-busy : length now ≤ at → LeavesRoom now
  whole-busy past = by so.others so.holds where
    by : (others : List HttpConnection) → now ≡ so.kept ++ others → LeavesRoom now
    by [] holds = inr (rw (holds, append-nil so.kept) so.busy)
    by (first ∷ others) holds = absurd (omega (arith, so.place, past, ap length holds, length-append so.kept (first ∷ others)))

-- ---- who is let in

module _ (most : Option ℕ) (proxy : Option IpAddr) where
  come-both : (held came more : List HttpConnection) → MayAllCome most proxy held came → MayAllCome most proxy (held ++ came) more
      → MayAllCome most proxy held (came ++ more)
  come-both held [] more may later = rw append-nil at later
  come-both held (first ∷ came) more may later =
      (may.0, may.1, come-both (held ++ first ∷ []) came more may.2 (rw (append_assoc held (first ∷ []) came) later))

  pub lets_none : (old : List HttpConnection) → LetsIn most proxy old old
  lets_none old = ([], tt, sym (append-nil old))

  -- one more, where there is a place
  pub lets-then-one : (old mid new : List HttpConnection) → LetsIn most proxy old mid → length mid < most_connections → LetsOneIn most proxy mid new
      → LetsIn most proxy old new
  lets-then-one old mid new lets room (inl same) = rw same lets
  lets-then-one old mid new (came, may, is) room (inr (connection, comes, held)) =
      let one : MayAllCome most proxy mid (connection ∷ []) = (room, comes, tt) in (
        came ++ connection ∷ [],
        come-both old came (connection ∷ []) may (rw is at one),
        held ∙ ap (λ (l : List HttpConnection). l ++ connection ∷ []) is ∙ append_assoc old came (connection ∷ []),
      )

  -- one came, unless there is no memory for it
  pub lets-one : (old new : List HttpConnection) (place : ℕ) (peer : Option SocketAddr) (connection : HttpConnection) (kept : Bool)
      → IsNew place peer connection → is_crowded most proxy old peer ≡ false → new ≡ (if kept then old ++ connection ∷ [] else old)
      → LetsOneIn most proxy old new
  lets-one old new place peer connection true is free held = inr (connection, (place, peer, is, free), held)
  lets-one old new place peer connection false is free held = inl held

  pub one-at-most : (old new : List HttpConnection) → LetsOneIn most proxy old new → length new ≤ length old + 1
  one-at-most old new (inl same) = omega (arith, ap length same)
  one-at-most old new (inr (connection, comes, held)) = omega (arith, ap length held, length-append old (connection ∷ []))
