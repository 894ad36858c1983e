-- What follows for institutions that meet all conditions.
use Rattle.std.proofs.Common.{◌≡◌, ◌≢◌, ℕ, zero, suc, ◌<◌, Bool, true, false, not, ◌||◌, cond, List, [], ◌∷◌, ◌++◌, length, get_or, Option, Some, None, refl, sym, ap, ◌∙◌, arith}
use Rattle.std.specs.Prelude.{IsTrue, Contains, AllPairs, find, is_none}
use Rattle.std.specs.List.{list_any}
use Rattle.std.specs.Option.{option_or}
use Rattle.std.proofs.lemmas.Bool.{false≢true, and_parts, or_parts, not-true}
use Rattle.std.proofs.lemmas.List.Folds.{list_any-append}
use Rattle.std.proofs.lemmas.List.Kept.{AllPairs-cons}
use Rattle.std.proofs.lemmas.Slice.Eq.{bytes_eq-Decides}
use Rattle.dq_value.specs.Title.{without_spaces}
use Rattle.dq_config.specs.declared.config.Institution.{Institution}
use Rattle.dq_config.specs.declared.config.Route.{Route}
use Rattle.dq_config.specs.declared.fault.ConfigFault.{ConfigFault}
use Rattle.dq_config.specs.declared.fault.ConfigFault.TheVariants.{BadName, BadTitle, NameTaken, RouteTaken, BadLimit}
use Rattle.dq_config.specs.Routing.{same_octets, joins, has_route, IsRouted, institution_routed, institution_named}
use Rattle.dq_config.specs.Conditions.{Condition, first_unmet_fault, conditions, institution_conditions, routes_conditions, route_conditions, limit_conditions, is_institution_name, is_name_taken, is_title, is_route_taken, is_sound_configuration, is_limit, is_association_limit, AreLimits}
use Rattle.dq_list.proofs.Searches.{found, none_found}
use Rattle.dq_config.proofs.Faults.{first_fault-append}

-- conditions that are all met are met in their parts
record AreBoth (xs ys : List Condition) : Type 0 where
  first : first_unmet_fault xs ≡ None
  second : first_unmet_fault ys ≡ None

neither : (first second : Option ConfigFault) → option_or first second ≡ None → (first ≡ None) × (second ≡ None)
neither None second h = (refl, h)
neither (Some fault) second h = cc

both : (xs ys : List Condition) → first_unmet_fault (xs ++ ys) ≡ None → AreBoth xs ys
both xs ys h =
    let parts = neither (first_unmet_fault xs) (first_unmet_fault ys) (sym (first_fault-append xs ys) ∙ h) in
    record { first = parts.0; second = parts.1 }

met-case : (b : Bool) (fault : ConfigFault) (xs : List Condition) → cond b (first_unmet_fault xs) (Some fault) ≡ None → (b ≡ true) × (first_unmet_fault xs ≡ None)
met-case true fault xs h = (refl, h)
met-case false fault xs h = cc

met : (condition : Condition) (xs : List Condition) → first_unmet_fault (condition ∷ xs) ≡ None → (condition.0 ≡ true) × (first_unmet_fault xs ≡ None)
met condition xs h = met-case condition.0 condition.1 xs h

-- what the conditions on one institution say
record Meets (before : List Institution) (x : Institution) : Type 0 where
  free : is_name_taken before x.name ≡ false
  routes : first_unmet_fault (routes_conditions before [] x.routes) ≡ None
  limits : first_unmet_fault (limit_conditions x) ≡ None

meets : (before : List Institution) (x : Institution) → first_unmet_fault (institution_conditions before x) ≡ None → Meets before x
meets before x h =
    let others : List Condition = routes_conditions before [] x.routes ++ limit_conditions x in
    let name : Condition = (not (is_name_taken before x.name), NameTaken) in
    let free = met name others (met (is_institution_name x.name, BadName) (name ∷ others) h).1 in
    let rest = both (routes_conditions before [] x.routes) (limit_conditions x) free.1 in
    record { free = not-true _ free.0; routes = rest.first; limits = rest.second }

-- no one of a front and of a back where no one is of both
none_of : (p : Institution → Bool) (xs ys : List Institution) → list_any p (xs ++ ys) ≡ false → (list_any p xs ≡ false) × (list_any p ys ≡ false)
none_of p xs ys h = or_parts (list_any p xs) (list_any p ys) (sym (list_any-append p xs ys) ∙ h)

none_last : (p : Institution → Bool) (xs : List Institution) (y : Institution) → list_any p (xs ++ y ∷ []) ≡ false → p y ≡ false
none_last p xs y h = (or_parts (p y) false ((none_of p xs (y ∷ []) h).1)).0

-- a test that only one institution can pass: where it passes one that meets its conditions, it passes none before
abbrev Fresh : (Institution → Bool) → Type 0
Fresh p = (before : List Institution) (x : Institution) → Meets before x → p x ≡ true → list_any p before ≡ false

abbrev is_of_name : List ℕ → Institution → Bool
is_of_name name institution = same_octets institution.name name

fresh_name : (name : List ℕ) → Fresh (is_of_name name)
unfolding is_name_taken
fresh_name name before x given here =
    ap (λ taken. list_any (is_of_name taken) before) (sym ((bytes_eq-Decides x.name name).0 here)) ∙ given.free

joined : (called calling : List ℕ) (route : Route) → joins called calling route ≡ true → (route.called ≡ called) × (route.calling ≡ calling)
unfolding joins
joined called calling route h =
    let parts = and_parts (same_octets route.called called) (same_octets route.calling calling) h in
    ((bytes_eq-Decides route.called called).0 parts.0, (bytes_eq-Decides route.calling calling).0 parts.1)

untaken : (before : List Institution) (done : List Route) (route : Route) → first_unmet_fault (route_conditions before done route) ≡ None
    → list_any (has_route route.called route.calling) before ≡ false
unfolding is_route_taken
untaken before done route h =
    let calling : Condition = (is_title route.calling, BadTitle) in
    let taken : Condition = (not (is_route_taken before done route), RouteTaken) in
    let free = met taken [] (met calling (taken ∷ []) (met (is_title route.called, BadTitle) (calling ∷ taken ∷ []) h).1).1 in
    (or_parts (list_any (has_route route.called route.calling) before) (list_any (joins route.called route.calling) done) (not-true _ free.0)).0

routes_free-case : (b : Bool) (called calling : List ℕ) (before : List Institution) (done : List Route) (route : Route) (routes : List Route)
    → joins called calling route ≡ b
    → first_unmet_fault (route_conditions before done route) ≡ None → (b || list_any (joins called calling) routes) ≡ true
    → (list_any (joins called calling) routes ≡ true → list_any (has_route called calling) before ≡ false) → list_any (has_route called calling) before ≡ false
routes_free-case true called calling before done route routes is h any rest =
    let same = joined called calling route is in
    rw (← same.0, ← same.1) (untaken before done route h)
routes_free-case false called calling before done route routes is h any rest = rest any

routes_free : (called calling : List ℕ) (before : List Institution) (done routes : List Route) → first_unmet_fault (routes_conditions before done routes) ≡ None
    → list_any (joins called calling) routes ≡ true → list_any (has_route called calling) before ≡ false
routes_free called calling before done [] h any = absurd (false≢true any)
routes_free called calling before done (route ∷ routes) h any =
    let parts = both (route_conditions before done route) (routes_conditions before (done ++ route ∷ []) routes) h in
    routes_free-case (joins called calling route) called calling before done route routes refl parts.first any
    (routes_free called calling before (done ++ route ∷ []) routes parts.second)

fresh_route : (called calling : List ℕ) → Fresh (has_route called calling)
fresh_route called calling before x given here = routes_free called calling before [] x.routes given.routes (unfold has_route in here)

-- an institution in its place among those that meet the conditions
fresh_at : (p : Institution → Bool) → Fresh p → (before xs : List Institution) (y d : Institution) (k : ℕ) → k < length xs → get_or xs k d ≡ y
    → first_unmet_fault (conditions before xs) ≡ None → p y ≡ true → list_any p before ≡ false
fresh_at p fresh before [] y d k within is h here = absurd (omega arith)
fresh_at p fresh before (x ∷ xs) y d zero within is h here =
    let parts = both (institution_conditions before x) (conditions (before ++ x ∷ []) xs) h in
    fresh before x (meets before x parts.first) (ap p is ∙ here)
fresh_at p fresh before (x ∷ xs) y d (suc k) within is h here =
    let parts = both (institution_conditions before x) (conditions (before ++ x ∷ []) xs) h in
    let later : k < length xs = omega arith in
    (none_of p before (x ∷ []) (fresh_at p fresh (before ++ x ∷ []) xs y d k later is parts.second here)).0

found_at : (p : Institution → Bool) → Fresh p → (before xs : List Institution) (y d : Institution) (k : ℕ) → k < length xs → get_or xs k d ≡ y
    → first_unmet_fault (conditions before xs) ≡ None → p y ≡ true → find p xs ≡ Some y
found_at p fresh before [] y d k within is h here = absurd (omega arith)
found_at p fresh before (x ∷ xs) y d zero within is h here = rw (ap p is ∙ here) (ap Some is)
found_at p fresh before (x ∷ xs) y d (suc k) within is h here =
    let parts = both (institution_conditions before x) (conditions (before ++ x ∷ []) xs) h in
    let later : k < length xs = omega arith in
    let other : p x ≡ false = none_last p before x (fresh_at p fresh (before ++ x ∷ []) xs y d k later is parts.second here) in
    rw other (found_at p fresh (before ++ x ∷ []) xs y d k later is parts.second here)

-- the conditions on a whole configuration
nothing : (o : Option ConfigFault) → is_none o ≡ true → o ≡ None
nothing None h = refl
nothing (Some fault) h = absurd (false≢true h)

sound : (xs : List Institution) → IsTrue (is_sound_configuration xs) → first_unmet_fault (conditions [] xs) ≡ None
unfolding is_sound_configuration
sound xs h = nothing (first_unmet_fault (conditions [] xs)) h

found_fresh : (p : Institution → Bool) → Fresh p → (xs : List Institution) (y : Institution) → IsTrue (is_sound_configuration xs) → Contains xs y → p y ≡ true
    → find p xs ≡ Some y
found_fresh p fresh xs y h (k, within, is) here = found_at p fresh [] xs y y k within is (sound xs h) here

distinct : (before xs : List Institution) → first_unmet_fault (conditions before xs) ≡ None
    → AllPairs (λ (one other : Institution). one.name ≢ other.name) xs
distinct before [] h = λ i j d below within. absurd (omega arith)
distinct before (x ∷ xs) h =
    let parts = both (institution_conditions before x) (conditions (before ++ x ∷ []) xs) h in
    AllPairs-cons (λ (one other : Institution). one.name ≢ other.name) x xs
    (λ k d within. λ same. differs k d within same parts.second)
    (distinct (before ++ x ∷ []) xs parts.second)
  where
    differs : (k : ℕ) (d : Institution) → k < length xs → x.name ≡ (get_or xs k d).name → first_unmet_fault (conditions (before ++ x ∷ []) xs) ≡ None → ⊥
    differs k d within same rest =
        let name = (get_or xs k d).name in
        let none = fresh_at (is_of_name name) (fresh_name name) (before ++ x ∷ []) xs (get_or xs k d) d k within refl rest
        ((bytes_eq-Decides name name).1 refl) in
        false≢true (sym (none_last (is_of_name name) before x none) ∙ (bytes_eq-Decides x.name name).1 same)

pub distinct_names : (institutions : List Institution) → IsTrue (is_sound_configuration institutions)
    → AllPairs (λ (one other : Institution). one.name ≢ other.name) institutions
distinct_names institutions h = distinct [] institutions (sound institutions h)

pub named_found : (institutions : List Institution) (institution : Institution) → IsTrue (is_sound_configuration institutions) → Contains institutions institution
    → institution_named institutions institution.name ≡ Some institution
unfolding institution_named
named_found institutions institution h listed =
    found_fresh (is_of_name institution.name) (fresh_name institution.name) institutions institution h listed
    ((bytes_eq-Decides institution.name institution.name).1 refl)

pub named_listed : (institutions : List Institution) (name : List ℕ) (institution : Institution) → institution_named institutions name ≡ Some institution
    → Contains institutions institution
unfolding institution_named
named_listed institutions name institution h = (found (is_of_name name) institutions institution h).0

pub named_so : (institutions : List Institution) (name : List ℕ) (institution : Institution) → institution_named institutions name ≡ Some institution
    → institution.name ≡ name
unfolding institution_named
named_so institutions name institution h = (bytes_eq-Decides institution.name name).0 (found (is_of_name name) institutions institution h).1

pub named_none : (institutions : List Institution) (name : List ℕ) (institution : Institution) → institution_named institutions name ≡ None
    → Contains institutions institution → institution.name ≢ name
unfolding institution_named
named_none institutions name institution h listed same =
    false≢true (sym (none_found (is_of_name name) institutions institution h listed) ∙ (bytes_eq-Decides institution.name name).1 same)

pub routed_is : (institutions : List Institution) (called calling : List ℕ) (institution : Institution) → IsTrue (is_sound_configuration institutions)
    → institution_routed institutions called calling ≡ Some institution
    → IsRouted institutions called calling institution
unfolding institution_routed
routed_is institutions called calling institution h r =
    let p = has_route (without_spaces called) (without_spaces calling) in
    let one = found p institutions institution r in
    record {
      listed = one.0;
      has = one.1;
      alone = λ other listed has. only other (found_fresh p (fresh_route (without_spaces called) (without_spaces calling)) institutions other h listed has);
    }
  where
    only : (other : Institution) → find (has_route (without_spaces called) (without_spaces calling)) institutions ≡ Some other → other ≡ institution
    only other f = cc (f, r)

pub routed_found : (institutions : List Institution) (called calling : List ℕ) (institution : Institution) → IsTrue (is_sound_configuration institutions)
    → IsRouted institutions called calling institution
    → institution_routed institutions called calling ≡ Some institution
unfolding institution_routed
routed_found institutions called calling institution h is =
    found_fresh (has_route (without_spaces called) (without_spaces calling)) (fresh_route (without_spaces called) (without_spaces calling)) institutions institution h is.listed is.has

pub routed_none : (institutions : List Institution) (called calling : List ℕ) (institution : Institution) → institution_routed institutions called calling ≡ None
    → Contains institutions institution
    → has_route (without_spaces called) (without_spaces calling) institution ≡ false
unfolding institution_routed
routed_none institutions called calling institution h listed =
    none_found (has_route (without_spaces called) (without_spaces calling)) institutions institution h listed

limits_at : (before xs : List Institution) (y d : Institution) (k : ℕ) → k < length xs → get_or xs k d ≡ y → first_unmet_fault (conditions before xs) ≡ None
    → first_unmet_fault (limit_conditions y) ≡ None
limits_at before [] y d k within is h = absurd (omega arith)
limits_at before (x ∷ xs) y d zero within is h =
    let parts = both (institution_conditions before x) (conditions (before ++ x ∷ []) xs) h in
    sym (ap (λ z. first_unmet_fault (limit_conditions z)) is) ∙ (meets before x parts.first).limits
limits_at before (x ∷ xs) y d (suc k) within is h =
    let parts = both (institution_conditions before x) (conditions (before ++ x ∷ []) xs) h in
    let later : k < length xs = omega arith in
    limits_at (before ++ x ∷ []) xs y d k later is parts.second

are_limits : (y : Institution) → first_unmet_fault (limit_conditions y) ≡ None → AreLimits y
are_limits y h =
    let fifth : List Condition = (is_association_limit y.associations, BadLimit) ∷ [] in
    let fourth : List Condition = (is_limit y.steps, BadLimit) ∷ fifth in
    let third : List Condition = (is_limit y.entries, BadLimit) ∷ fourth in
    let second : List Condition = (is_limit y.images, BadLimit) ∷ third in
    let studies = met (is_limit y.studies, BadLimit) second h in
    let images = met (is_limit y.images, BadLimit) third studies.1 in
    let entries = met (is_limit y.entries, BadLimit) fourth images.1 in
    let steps = met (is_limit y.steps, BadLimit) fifth entries.1 in
    let associations = met (is_association_limit y.associations, BadLimit) [] steps.1 in
    record { studies = studies.0; images = images.0; entries = entries.0; steps = steps.0; associations = associations.0 }

pub limits_in_range : (institutions : List Institution) (institution : Institution) → IsTrue (is_sound_configuration institutions) → Contains institutions institution
    → AreLimits institution
limits_in_range institutions institution h (k, within, is) =
    are_limits institution (limits_at [] institutions institution institution k within is (sound institutions h))
