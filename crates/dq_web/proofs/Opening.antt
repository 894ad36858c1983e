-- The entry by which a key opens a name.
use Rattle.std.proofs.Common.{◌≡◌, ◌∙◌, refl, sym, subst, Bool, true, false, ℕ, List, Option, None, Result, Ok, Err, Bor, OnOk, IfErr}
use Rattle.std.specs.Prelude.{IsFalse, if◌then◌else◌}
use Rattle.std.specs.List.{list_any}
use Rattle.std.proofs.lemmas.Option.{same_Some}
use Rattle.sha2.specs.Sha256.{sha256}
use Rattle.dq_web.specs.declared.keys.KeyEntry.{KeyEntry}
use Rattle.dq_web.specs.declared.keys.Keys.{Keys}
use Rattle.dq_web.specs.declared.keys.Right.{Right}
use Rattle.dq_web.specs.declared.refusal.Refusal.{Refusal}
use Rattle.dq_web.specs.declared.refusal.Refusal.TheVariants as refusal
use Rattle.dq_web.specs.Guards.{TellsKey, IsOpened, IsShut}
use Rattle.dq_web.specs.KeyFiles.{entry_for, opens, IsEntryFor}

pub is_opened : (keys : Keys) (name : List ℕ) (right : Right) (authorization : Option (List ℕ)) (key : List ℕ) (result : Result (Bor KeyEntry) Refusal)
    → TellsKey authorization key → IsEntryFor keys.entries name right (sha256 key) result → OnOk result (IsOpened keys name right authorization)
is_opened keys name right authorization key (Ok entry) tells is = (entry.now, (key, tells, is))
is_opened keys name right authorization key (Err why) tells is = tt

-- an Authorization tells one key
same_key : (authorization : Option (List ℕ)) (one other : List ℕ) → TellsKey authorization one → TellsKey authorization other
    → one ≡ other
same_key authorization one other tells also = same_Some one other (sym tells ∙ also)

shut_by : (keys : Keys) (name : List ℕ) (right : Right) (authorization : Option (List ℕ)) (key : List ℕ) (is_known : Bool)
    → TellsKey authorization key → is_known ≡ list_any (opens name (sha256 key)) keys.entries
    → entry_for keys.entries name right (sha256 key) ≡ None
    → IsShut keys name right authorization (if is_known then refusal.Right else refusal.Key)
shut_by keys name right authorization key true tells known none = (key, tells, sym known, none)
shut_by keys name right authorization key false tells known none = λ other also.
    subst (λ (told : List ℕ). IsFalse (list_any (opens name (sha256 told)) keys.entries))
    (same_key authorization key other tells also) (sym known)

pub is_shut : (keys : Keys) (name : List ℕ) (right : Right) (authorization : Option (List ℕ)) (key : List ℕ) (result : Result (Bor KeyEntry) Refusal)
    → TellsKey authorization key → IsEntryFor keys.entries name right (sha256 key) result → IfErr result (IsShut keys name right authorization)
is_shut keys name right authorization key (Ok entry) tells is = tt
is_shut keys name right authorization key (Err why) tells is =
    subst (IsShut keys name right authorization) (sym is.1)
    (shut_by keys name right authorization key (list_any (opens name (sha256 key)) keys.entries) tells refl is.0)
