-- What GET comes to is what its search comes to.
use Rattle.std.proofs.Common.{◌≡◌, ℕ, List, Result, Bor, refl}
use Rattle.std.specs.Prelude.{MatchResult}
use Rattle.std.proofs.lemmas.Result.{MatchResult-weaker}
use Rattle.dq_request.specs.declared.request.Request.{Request}
use Rattle.dq_request.specs.declared.request.Request.TheVariants as ask
use Rattle.dq_request.specs.declared.search.Search.{Search}
use Rattle.dq_web.specs.declared.aim.Unasked.{Unasked}
use Rattle.dq_web.specs.declared.aim.Unasked.TheVariants as unasked
use Rattle.dq_web.specs.declared.cutting.Fields.{Fields}
use Rattle.dq_web.specs.declared.parsed_request.Wanted.{Wanted}
use Rattle.dq_web.specs.declared.parsed_request.Wanted.TheVariants as wanted
use Rattle.dq_web.specs.declared.refusal.Refusal.{Refusal}
use Rattle.dq_web.specs.declared.refusal.Refusal.TheVariants as refusal
use Rattle.dq_web.specs.declared.resource.Resource.{Resource}
use Rattle.dq_web.specs.declared.resource.Resource.TheVariants.{Counts, Metrics}
use Rattle.dq_web.specs.Aims.{IsUnasked}
use Rattle.dq_web.specs.ParsedRequests.{IsSearchAt, Searching, Looking, IsSought, IsUnsought, IsLooked, HasNoLook}

-- neither the counts nor the metrics
pub record IsOther (resource : Resource) : Type 0 where
  pub counts : (name : Bor (List ℕ)) → resource ≡ Counts name → ⊥
  pub metrics : resource ≡ Metrics → ⊥

looking : (resource : Resource) (query : List ℕ) (request : Request) → IsOther resource → Searching resource query request
    → Looking resource query request
looking (Counts name) query request other searching = absurd (other.counts name refl)
looking Metrics query request other searching = absurd (other.metrics refl)
looking resource query request other searching = searching

searching-start : (resource : Resource) (query : List ℕ) (request : Request)
    → ((search : Search) → IsSearchAt resource search → ⊥) → Searching resource query request → ⊥
searching-start resource query (ask.Search search) none searching = none searching.0 searching.1
searching-start resource query request none searching = absurd searching

no-looking : (resource : Resource) (query : List ℕ) (request : Request) → IsOther resource
    → ((search : Search) → IsSearchAt resource search → ⊥) → Looking resource query request → ⊥
no-looking (Counts name) query request other none is = other.counts name refl
no-looking Metrics query request other none is = other.metrics refl
no-looking resource query request other none is = searching-start resource query request none is

looked : (resource : Resource) (fields : Fields) (query : List ℕ) → IsOther resource → (it : Wanted)
    → IsSought resource fields query it → IsLooked resource fields query it
looked resource fields query other (wanted.Request request) sought = (looking resource query request other sought.0, sought.1)
looked resource fields query other it sought = sought

no-look : (resource : Resource) (fields : Fields) → IsOther resource → (why : Refusal) → IsUnsought resource fields why
    → HasNoLook resource fields why
no-look resource fields other refusal.Path none = λ query request is. no-looking resource query request other none is
no-look resource fields other why unsought = unsought

unlooked : (resource : Resource) (fields : Fields) → IsOther resource → (it : Unasked)
    → IsUnasked (IsUnsought resource fields) it → IsUnasked (HasNoLook resource fields) it
unlooked resource fields other (unasked.Refused why) unsought = no-look resource fields other why unsought
unlooked resource fields other unasked.NoMemory none = tt

pub looks : (resource : Resource) (fields : Fields) (query : List ℕ) (result : Result Wanted Unasked) → IsOther resource
    → MatchResult result (IsSought resource fields query) (IsUnasked (IsUnsought resource fields))
    → MatchResult result (IsLooked resource fields query) (IsUnasked (HasNoLook resource fields))
looks resource fields query result other sought =
    MatchResult-weaker result sought (looked resource fields query other) (unlooked resource fields other)
