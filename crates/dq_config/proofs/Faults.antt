-- The first fault of conditions one after another.
use Rattle.std.proofs.Common.{◌≡◌, ℕ, ◌+◌, ◌<◌, Bool, true, false, cond, List, [], ◌∷◌, ◌++◌, length, get_or, take, drop, Option, Some, None, refl, sym, ap, ◌∙◌}
use Rattle.std.specs.Option.{option_or}
use Rattle.std.proofs.lemmas.List.{drop_more, take_more}
use Rattle.dq_config.specs.declared.config.Institution.{Institution}
use Rattle.dq_config.specs.declared.fault.ConfigFault.{ConfigFault}
use Rattle.dq_config.specs.Conditions.{Condition, first_unmet_fault, conditions, institution_conditions, routes_conditions, limit_conditions, is_institution_name, is_name_taken}

-- the first fault of conditions and others behind them
either : (met : Bool) (fault : ConfigFault) (first second : Option ConfigFault)
    → cond met (option_or first second) (Some fault) ≡ option_or (cond met first (Some fault)) second
either true fault first second = refl
either false fault first second = refl

pub first_fault-append : (xs ys : List Condition) → first_unmet_fault (xs ++ ys) ≡ option_or (first_unmet_fault xs) (first_unmet_fault ys)
first_fault-append [] ys = refl
first_fault-append (x ∷ xs) ys =
    ap (λ later. cond x.0 later (Some x.1)) (first_fault-append xs ys) ∙ either x.0 x.1 (first_unmet_fault xs) (first_unmet_fault ys)

-- met conditions leave the fault to those that follow
pub passed : (xs ys : List Condition) → first_unmet_fault xs ≡ None → first_unmet_fault (xs ++ ys) ≡ first_unmet_fault ys
passed xs ys met = first_fault-append xs ys ∙ ap (λ first. option_or first (first_unmet_fault ys)) met

-- and the first that is not met decides
pub failed : (xs ys : List Condition) (fault : ConfigFault) → first_unmet_fault xs ≡ Some fault → first_unmet_fault (xs ++ ys) ≡ Some fault
failed xs ys fault unmet = first_fault-append xs ys ∙ ap (λ first. option_or first (first_unmet_fault ys)) unmet

-- the conditions on institutions from a place on are those on the institution there, and those on the others
pub conditions_there : (xs : List Institution) (i : ℕ) (x : Institution) → i < length xs → x ≡ get_or xs i x
    → conditions (take i xs) (drop i xs) ≡ institution_conditions (take i xs) x ++ conditions (take (i + 1) xs) (drop (i + 1) xs)
conditions_there xs i x within at =
    ap (conditions (take i xs)) (drop_more xs i x within ∙ ap (λ y. y ∷ drop (i + 1) xs) (sym at))
    ∙ ap (λ before. institution_conditions (take i xs) x ++ conditions before (drop (i + 1) xs))
    (sym (take_more xs i x within ∙ ap (λ y. take i xs ++ y ∷ []) (sym at)))

pub judge_fails : (xs : List Institution) (i : ℕ) (x : Institution) (fault : ConfigFault) (whole : Option ConfigFault) → i < length xs → x ≡ get_or xs i x
    → first_unmet_fault (conditions (take i xs) (drop i xs)) ≡ whole → Some fault ≡ first_unmet_fault (institution_conditions (take i xs) x) → Some fault ≡ whole
judge_fails xs i x fault whole within at same fails =
    sym (failed (institution_conditions (take i xs) x) (conditions (take (i + 1) xs) (drop (i + 1) xs)) fault (sym fails))
    ∙ ap first_unmet_fault (sym (conditions_there xs i x within at)) ∙ same

pub judge_passes : (xs : List Institution) (i : ℕ) (x : Institution) (whole : Option ConfigFault) → i < length xs → x ≡ get_or xs i x
    → first_unmet_fault (conditions (take i xs) (drop i xs)) ≡ whole → None ≡ first_unmet_fault (institution_conditions (take i xs) x)
    → first_unmet_fault (conditions (take (i + 1) xs) (drop (i + 1) xs)) ≡ whole
judge_passes xs i x whole within at same passes =
    sym (passed (institution_conditions (take i xs) x) (conditions (take (i + 1) xs) (drop (i + 1) xs)) (sym passes))
    ∙ ap first_unmet_fault (sym (conditions_there xs i x within at)) ∙ same

-- an institution whose name is its own, and whose routes meet their conditions, is left to its limits
pub institution_passes : (before : List Institution) (x : Institution) → is_institution_name x.name ≡ true → is_name_taken before x.name ≡ false
    → None ≡ first_unmet_fault (routes_conditions before [] x.routes) → first_unmet_fault (limit_conditions x) ≡ first_unmet_fault (institution_conditions before x)
institution_passes before x name free routes = rw (name, free) (sym (passed (routes_conditions before [] x.routes) (limit_conditions x) (sym routes)))

pub institution_fails : (before : List Institution) (x : Institution) (fault : ConfigFault) → is_institution_name x.name ≡ true → is_name_taken before x.name ≡ false
    → Some fault ≡ first_unmet_fault (routes_conditions before [] x.routes) → Some fault ≡ first_unmet_fault (institution_conditions before x)
institution_fails before x fault name free routes =
    rw (name, free) (sym (failed (routes_conditions before [] x.routes) (limit_conditions x) fault (sym routes)))
