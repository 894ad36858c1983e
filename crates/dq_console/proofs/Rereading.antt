-- The web front's keys, read anew several times.
use Rattle.std.proofs.Common.{List, [], ◌∷◌, ◌++◌, Result, refl, subst}
use Rattle.dq_console.specs.declared.asks.KeysError.{KeysError}
use Rattle.dq_console.specs.ClientTurns.{AreReread, IsReread}

module _ {Front : Type 0} (rereads : Front → Front → Result (Unit {0}) KeysError → Type 0) where
  pub reread_none : (front : Front) → IsReread rereads front front
  reread_none front = ([], refl)

  pub reread_one : (old new : Front) (outcome : Result (Unit {0}) KeysError) → rereads old new outcome → IsReread rereads old new
  reread_one old new outcome is = (outcome ∷ [], (new, is, refl))

  all-then : (outcomes others : List (Result (Unit {0}) KeysError)) (old mid new : Front)
      → AreReread rereads outcomes old mid → AreReread rereads others mid new → AreReread rereads (outcomes ++ others) old new
  all-then [] others old mid new same next = subst (λ (front : Front). AreReread rereads others front new) same next
  all-then (outcome ∷ outcomes) others old mid new (via, is, rest) next =
      (via, is, all-then outcomes others via mid new rest next)

  pub reread-then : (old mid new : Front) → IsReread rereads old mid → IsReread rereads mid new → IsReread rereads old new
  reread-then old mid new one next = (one.0 ++ next.0, all-then one.0 next.0 old mid new one.1 next.1)
