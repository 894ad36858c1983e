-- How the turns of all connections went, one after the other.
use Rattle.std.proofs.Common.{◌≡◌, ◌<◌, ◌≤◌, ◌+◌, ◌++◌, ◌∷◌, ◌∙◌, ℕ, List, [], length, length-append, append_assoc, append-nil, get_or, set, inl, inr, arith, refl, sym, ap}
use Rattle.std.specs.List.{remove}
use Rattle.dq_wires.proofs.TurnSequences.{get-at, set-at, remove-at}
use Rattle.dq_web.specs.declared.guard.Guard.{Guard}
use Rattle.dq_http.specs.declared.http_connection.HttpConnection.{HttpConnection}
use Rattle.dq_http.specs.HttpConnections.{HasTurn}
use Rattle.dq_http.specs.RequestQueue.{AllTurn}

-- one more had its turn
pub turn-kept : (guard : Guard) (done kept : List HttpConnection) (connection next : HttpConnection) → AllTurn guard done kept → HasTurn guard connection next
    → AllTurn guard (done ++ connection ∷ []) (kept ++ next ∷ [])
turn-kept guard [] kept connection next are turns = inr (next, [], ap (λ (l : List HttpConnection). l ++ next ∷ []) are, turns, refl)
turn-kept guard (first ∷ done) kept connection next (inl are) turns = inl (turn-kept guard done kept connection next are turns)
turn-kept guard (first ∷ done) kept connection next (inr (stays, rest, is, turned, are)) turns = inr (
  stays,
  rest ++ next ∷ [],
  ap (λ (l : List HttpConnection). l ++ next ∷ []) is,
  turned,
  turn-kept guard done rest connection next are turns,
)

pub turn-gone : (guard : Guard) (done kept : List HttpConnection) (connection : HttpConnection) → AllTurn guard done kept → AllTurn guard (done ++ connection ∷ []) kept
turn-gone guard [] kept connection are = inl are
turn-gone guard (first ∷ done) kept connection (inl are) = inl (turn-gone guard done kept connection are)
turn-gone guard (first ∷ done) kept connection (inr (stays, rest, is, turned, are)) =
    inr (stays, rest, is, turned, turn-gone guard done rest connection are)

-- those up to a place had their turns
pub record TurnsSo (guard : Guard) (all now : List HttpConnection) (at : ℕ) : Type 0 where
  pub done : List HttpConnection
  pub kept : List HttpConnection
  pub others : List HttpConnection
  pub were : all ≡ done ++ others
  pub holds : now ≡ kept ++ others
  pub place : at ≡ length kept
  pub turned : AllTurn guard done kept

module _ {guard : Guard} {all now : List HttpConnection} {at : ℕ} (so : TurnsSo guard all now at) where
  module _ (within : at < length now) (connection : HttpConnection) (found : connection ≡ get_or now at connection) where
    pub turns-kept : (next : HttpConnection) → HasTurn guard connection next → TurnsSo guard all (set now at next) (at + 1)
    turns-kept next turns = by so.others so.were so.holds where
      by : (others : List HttpConnection) → all ≡ so.done ++ others → now ≡ so.kept ++ others → TurnsSo guard all (set now at next) (at + 1)
      by [] were holds = absurd (omega (arith, so.place, within, ap length holds, length-append so.kept []))
      by (first ∷ others) were holds =
          let is : connection ≡ first = found ∙ rw (holds, so.place) (get-at so.kept first others connection) in
          record {
            done = so.done ++ connection ∷ [];
            kept = so.kept ++ next ∷ [];
            others = others;
            were = rw is (were ∙ sym (append_assoc so.done (first ∷ []) others));
            holds = rw (holds, so.place) (set-at so.kept first others next ∙ sym (append_assoc so.kept (next ∷ []) others));
            place = omega (arith, so.place, length-append so.kept (next ∷ []));
            turned = turn-kept guard so.done so.kept connection next so.turned turns;
          }

    pub turns-gone : (next : HttpConnection) → TurnsSo guard all (remove (set now at next) at) at
    turns-gone next = by so.others so.were so.holds where
      by : (others : List HttpConnection) → all ≡ so.done ++ others → now ≡ so.kept ++ others → TurnsSo guard all (remove (set now at next) at) at
      by [] were holds = absurd (omega (arith, so.place, within, ap length holds, length-append so.kept []))
      by (first ∷ others) were holds = record {
        done = so.done ++ first ∷ [];
        kept = so.kept;
        others = others;
        were = were ∙ sym (append_assoc so.done (first ∷ []) others);
        holds = rw (holds, so.place) (ap (λ (l : List HttpConnection). remove l (length so.kept)) (set-at so.kept first others next)
            ∙ remove-at so.kept next others);
        place = so.place;
        turned = turn-gone guard so.done so.kept first so.turned;
      }

  -- all had theirs
  pub turns-end : length now ≤ at → AllTurn guard all now
  turns-end past = by so.others so.were so.holds where
    by : (others : List HttpConnection) → all ≡ so.done ++ others → now ≡ so.kept ++ others → AllTurn guard all now
    by [] were holds = rw (were, holds, append-nil so.done, append-nil so.kept) so.turned
    by (first ∷ others) were holds = absurd (omega (arith, so.place, past, ap length holds, length-append so.kept (first ∷ others)))
