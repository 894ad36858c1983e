-- What the requests of methods and places are.
use Rattle.std.proofs.Common.{◌≡◌, ◌≢◌, ℕ, ◌++◌, List, codes, String, Global, string_bytes, refl, sym, ap, ◌∙◌, subst}
use Rattle.std.specs.Prelude.{◌&&◌, if◌then◌else◌, Bool, true, false}
use Rattle.std.specs.Bool.{Decides}
use Rattle.std.specs.Str.{bytes_eq}
use Rattle.std.proofs.lemmas.Slice.Eq.{bytes_eq-Decides}
use Rattle.percent_encoding.specs.Percent.{percent_decode}
use Rattle.dq_request.specs.declared.request.Request.{Request}
use Rattle.dq_request.specs.declared.request.Request.TheVariants as ask
use Rattle.dq_request.specs.declared.search.Search.{Search}
use Rattle.dq_request.specs.Searches.{TakesWords}
use Rattle.dq_web.specs.declared.keys.Right.TheVariants as right
use Rattle.dq_web.specs.declared.cutting.BodyForm.{BodyForm}
use Rattle.dq_web.specs.declared.cutting.Head.{Head}
use Rattle.dq_web.specs.declared.guard.Guard.{Guard}
use Rattle.dq_web.specs.declared.resource.Resource.{Resource}
use Rattle.dq_web.specs.declared.resource.Resource.TheVariants.{Metrics, Backup, Counts, Studies, Series, Images, StudyImages, Worklist, Entry, Steps}
use Rattle.dq_web.specs.declared.aim.Method.{Method}
use Rattle.dq_web.specs.declared.aim.Method.TheVariants.{Get, Post, Delete, Preflight, Other}
use Rattle.dq_web.specs.declared.aim.Method.TheVariants as method
use Rattle.dq_web.specs.Aims.{owner_of, right_of, method_of}
use Rattle.dq_web.specs.ParsedRequests.{words_in, IsSearchAt, Searching, Looking, IsBackup, AreEntryOctets, Posting, Deleting, Asks, IsLook, owner_of_request, right_of_request}
use Rattle.dq_web.specs.Guards.{is_preflight}
use Rattle.dq_web.specs.Resources.{IsPath, beneath}
use Rattle.dq_web.proofs.Taking.{TakesWords-institution}

-- the words of methods
abbrev pub IsMethod : List ℕ → Method → Type 0
IsMethod text Get = text ≡ codes "GET"
IsMethod text method.Head = text ≡ codes "HEAD"
IsMethod text Post = text ≡ codes "POST"
IsMethod text Delete = text ≡ codes "DELETE"
IsMethod text Preflight = Unit {0}
IsMethod text Other = Unit {0}

by-word : (text word : List ℕ) (test : Bool) (one next : Method) → Decides test (text ≡ word) → (text ≡ word → IsMethod text one)
    → IsMethod text next → IsMethod text (if test then one else next)
by-word text word true one next decides says otherwise = says (decides.0 refl)
by-word text word false one next decides says otherwise = otherwise

last-word : (text : List ℕ) (test : Bool) → IsMethod text (if test then Preflight else Other)
last-word text true = tt
last-word text false = tt

-- the method of a head has its word
pub named : (guard : Guard) (head : Head) (by : Method) → by ≡ method_of guard head → IsMethod head.method.now by
named guard head by is =
    let text = head.method.now in
    subst (IsMethod text) (sym is)
    (by-word text (codes "GET") (bytes_eq text (codes "GET")) Get _ (bytes_eq-Decides text (codes "GET")) (λ word. word)
    (by-word text (codes "HEAD") (bytes_eq text (codes "HEAD")) method.Head _ (bytes_eq-Decides text (codes "HEAD")) (λ word. word)
    (by-word text (codes "POST") (bytes_eq text (codes "POST")) Post _ (bytes_eq-Decides text (codes "POST")) (λ word. word)
    (by-word text (codes "DELETE") (bytes_eq text (codes "DELETE")) Delete _ (bytes_eq-Decides text (codes "DELETE")) (λ word. word)
    (last-word text (bytes_eq text (codes "OPTIONS") && is_preflight guard head.fields))))))

-- a search is of the institution whose key opens its resource
IsSearchAt-owner : (resource : Resource) (start : Search) → IsSearchAt resource start → start.institution ≡ owner_of resource
IsSearchAt-owner (Studies name) start at = ap (λ (it : Search). it.institution) at
IsSearchAt-owner (Series name study) start at = ap (λ (it : Search). it.institution) at
IsSearchAt-owner (Images name study series) start at = ap (λ (it : Search). it.institution) at
IsSearchAt-owner (StudyImages name study) start at = ap (λ (it : Search). it.institution) at
IsSearchAt-owner (Worklist name) start at = ap (λ (it : Search). it.institution) at
IsSearchAt-owner (Steps name) start at = ap (λ (it : Search). it.institution) at
IsSearchAt-owner resource start at = absurd at

Searching-owner : (resource : Resource) (query : List ℕ) (request : Request) → Searching resource query request
    → owner_of_request request ≡ owner_of resource
Searching-owner resource query (ask.Search search) searching =
    TakesWords-institution (words_in searching.0.subject query) searching.0 search searching.2
    ∙ IsSearchAt-owner resource searching.0 searching.1
Searching-owner resource query request searching = absurd searching

Looking-owner : (resource : Resource) (query : List ℕ) (request : Request) → Looking resource query request
    → owner_of_request request ≡ owner_of resource
Looking-owner (Counts name) query request is = ap owner_of_request is
Looking-owner Metrics query request is = ap owner_of_request is
Looking-owner resource query request searching = Searching-owner resource query request searching

IsBackup-owner : (body : List ℕ) (request : Request) → IsBackup body request
    → owner_of_request request ≡ codes "*"
IsBackup-owner body (ask.Backup path) is = refl
IsBackup-owner body request is = absurd is

Posting-owner : (resource : Resource) (by : BodyForm) (body : List ℕ) (request : Request) → Posting resource by body request
    → owner_of_request request ≡ owner_of resource
Posting-owner (Worklist name) by body request is = ap owner_of_request is.2
Posting-owner Backup by body request is = IsBackup-owner body request is
Posting-owner resource by body request is = absurd is

Deleting-owner : (resource : Resource) (request : Request) → Deleting resource request
    → owner_of_request request ≡ owner_of resource
Deleting-owner (Entry name id) request is = ap owner_of_request is
Deleting-owner resource request is = absurd is

-- the key that opens a request is that of its resource
pub Asks-owner : (verb : Method) (resource : Resource) (query : List ℕ) (by : BodyForm) (body : List ℕ) (request : Request)
    → Asks verb resource query by body request → owner_of_request request ≡ owner_of resource
Asks-owner Get resource query by body request asks = Looking-owner resource query request asks
Asks-owner method.Head resource query by body request asks = Looking-owner resource query request asks
Asks-owner Post resource query by body request asks = Posting-owner resource by body request asks
Asks-owner Delete resource query by body request asks = Deleting-owner resource request asks
Asks-owner Preflight resource query by body request asks = absurd asks
Asks-owner Other resource query by body request asks = absurd asks

-- what is searched is read
IsSearchAt-right : (resource : Resource) (start : Search) → IsSearchAt resource start
    → right_of resource Get ≡ right.Read
IsSearchAt-right (Studies name) start at = refl
IsSearchAt-right (Series name study) start at = refl
IsSearchAt-right (Images name study series) start at = refl
IsSearchAt-right (StudyImages name study) start at = refl
IsSearchAt-right (Worklist name) start at = refl
IsSearchAt-right (Steps name) start at = refl
IsSearchAt-right resource start at = absurd at

Searching-right : (resource : Resource) (query : List ℕ) (request : Request) → Searching resource query request
    → right_of_request request ≡ right_of resource Get
Searching-right resource query (ask.Search search) searching = sym (IsSearchAt-right resource searching.0 searching.1)
Searching-right resource query request searching = absurd searching

Looking-right : (resource : Resource) (query : List ℕ) (request : Request) → Looking resource query request
    → right_of_request request ≡ right_of resource Get
Looking-right (Counts name) query request is = ap right_of_request is
Looking-right Metrics query request is = ap right_of_request is
Looking-right resource query request searching = Searching-right resource query request searching

-- HEAD needs what GET needs
of-head : (resource : Resource) → right_of resource method.Head ≡ right_of resource Get
of-head Metrics = refl
of-head Backup = refl
of-head resource = refl

IsBackup-right : (body : List ℕ) (request : Request) → IsBackup body request
    → right_of_request request ≡ right.Backup
IsBackup-right body (ask.Backup path) is = refl
IsBackup-right body request is = absurd is

Posting-right : (resource : Resource) (by : BodyForm) (body : List ℕ) (request : Request) → Posting resource by body request
    → right_of_request request ≡ right_of resource Post
Posting-right (Worklist name) by body request is = ap right_of_request is.2
Posting-right Backup by body request is = IsBackup-right body request is
Posting-right resource by body request is = absurd is

Deleting-right : (resource : Resource) (request : Request) → Deleting resource request
    → right_of_request request ≡ right_of resource Delete
Deleting-right (Entry name id) request is = ap right_of_request is
Deleting-right resource request is = absurd is

-- the right that a request needs is that of its method at its resource
pub Asks-right : (verb : Method) (resource : Resource) (query : List ℕ) (by : BodyForm) (body : List ℕ) (request : Request)
    → Asks verb resource query by body request → right_of_request request ≡ right_of resource verb
Asks-right Get resource query by body request asks = Looking-right resource query request asks
Asks-right method.Head resource query by body request asks = Looking-right resource query request asks ∙ sym (of-head resource)
Asks-right Post resource query by body request asks = Posting-right resource by body request asks
Asks-right Delete resource query by body request asks = Deleting-right resource request asks
Asks-right Preflight resource query by body request asks = absurd asks
Asks-right Other resource query by body request asks = absurd asks

Searching-look : (resource : Resource) (query : List ℕ) (request : Request) → Searching resource query request → IsLook request
Searching-look resource query (ask.Search search) searching = tt
Searching-look resource query request searching = absurd searching

-- what GET asks changes nothing
pub Looking-look : (resource : Resource) (query : List ℕ) (request : Request) → Looking resource query request → IsLook request
Looking-look (Counts name) query request is = subst IsLook (sym is) tt
Looking-look Metrics query request is = subst IsLook (sym is) tt
Looking-look resource query request searching = Searching-look resource query request searching

-- nor what a method asks that is neither POST nor DELETE
pub Asks-look : (verb : Method) (resource : Resource) (text query : List ℕ) (by : BodyForm) (body : List ℕ) (request : Request)
    → IsMethod text verb → Asks verb resource query by body request
    → text ≢ codes "POST" → text ≢ codes "DELETE" → IsLook request
Asks-look Get resource text query by body request is asks post delete = Looking-look resource query request asks
Asks-look method.Head resource text query by body request is asks post delete = Looking-look resource query request asks
Asks-look Post resource text query by body request is asks post delete = absurd (post is)
Asks-look Delete resource text query by body request is asks post delete = absurd (delete is)
Asks-look Preflight resource text query by body request is asks post delete = absurd asks
Asks-look Other resource text query by body request is asks post delete = absurd asks

-- the path of an institution
at_own : (name : List ℕ) (inst below rest path : List ℕ) → path ≡ codes "/" ++ beneath inst below
    → name ≡ inst → below ≡ rest → path ≡ codes "/" ++ beneath name rest
at_own name inst below rest path is named ends =
    is ∙ ap (λ (r : List ℕ). codes "/" ++ beneath inst r) ends
    ∙ ap (λ (n : List ℕ). codes "/" ++ beneath n rest) (sym named)

-- a path at which something is searched is below the institution's name
pub IsSearchAt-path : (resource : Resource) (path : List ℕ) (start : Search) → IsPath path resource → IsSearchAt resource start
    → (rest : List ℕ) × (path ≡ codes "/" ++ beneath start.institution rest)
IsSearchAt-path (Studies name) path start at is =
    (at.1, at_own start.institution at.0 at.1 at.1 path at.2 (ap (λ (it : Search). it.institution) is ∙ at.3.0) refl)
IsSearchAt-path (Series name study) path start at is = (
  at.1,
  at_own start.institution at.0 at.1 at.1 path at.2
      (ap (λ (it : Search). it.institution) is ∙ at.3.2.0) refl,
)
IsSearchAt-path (Images name study series) path start at is = (
  at.1,
  at_own start.institution at.0 at.1 at.1 path at.2
      (ap (λ (it : Search). it.institution) is ∙ at.3.2.0) refl,
)
IsSearchAt-path (StudyImages name study) path start at is = (
  at.1,
  at_own start.institution at.0 at.1 at.1 path at.2
      (ap (λ (it : Search). it.institution) is ∙ at.3.2.0) refl,
)
IsSearchAt-path (Worklist name) path start at is =
    (at.1, at_own start.institution at.0 at.1 at.1 path at.2 (ap (λ (it : Search). it.institution) is ∙ at.3.0) refl)
IsSearchAt-path (Steps name) path start at is =
    (at.1, at_own start.institution at.0 at.1 at.1 path at.2 (ap (λ (it : Search). it.institution) is ∙ at.3.0) refl)
IsSearchAt-path resource path start at is = absurd is

Looking-searches : (resource : Resource) (query : List ℕ) (request : Request) (search : Search)
    → Looking resource query request → request ≡ ask.Search search
    → (start : Search) × IsSearchAt resource start × TakesWords (words_in start.subject query) start search
Looking-searches (Counts name) query request search asks is = cc
Looking-searches Metrics query request search asks is = cc
Looking-searches resource query request search asks is = subst (Searching resource query) is asks

-- what is searched is the search of the path and the query
pub searches : (verb : Method) (resource : Resource) (query : List ℕ) (by : BodyForm) (body : List ℕ) (request : Request) (search : Search)
    → Asks verb resource query by body request → request ≡ ask.Search search
    → (start : Search) × IsSearchAt resource start × TakesWords (words_in start.subject query) start search
searches Get resource query by body request search asks is = Looking-searches resource query request search asks is
searches method.Head resource query by body request search asks is = Looking-searches resource query request search asks is
searches Post (Worklist name) query by body request search asks is = let same = sym asks.2 ∙ is in cc
searches Post Backup query by body request search asks is = absurd (subst (IsBackup body) is asks)
searches Post resource query by body request search asks is = absurd asks
searches Delete (Entry name id) query by body request search asks is = cc
searches Delete resource query by body request search asks is = absurd asks
searches Preflight resource query by body request search asks is = absurd asks
searches Other resource query by body request search asks is = absurd asks

-- what is scheduled comes from POST at the worklist
pub schedules : (verb : Method) (resource : Resource) (text path query : List ℕ) (by : BodyForm) (body : List ℕ) (request : Request)
    (institution octets : List ℕ) → IsMethod text verb → IsPath path resource → Asks verb resource query by body request
    → request ≡ ask.Schedule institution octets
    → (text ≡ codes "POST") × (path ≡ codes "/" ++ beneath institution (codes "worklist")) × AreEntryOctets by body octets
schedules Get resource text path query by body request institution octets named at asks is =
    absurd (subst IsLook is (Looking-look resource query request asks))
schedules method.Head resource text path query by body request institution octets named at asks is =
    absurd (subst IsLook is (Looking-look resource query request asks))
schedules Post (Worklist name) text path query by body request institution octets named at asks is =
    let same = sym asks.2 ∙ is in
    let own : institution ≡ name.now = cc in
    let whole : asks.0 ≡ octets = cc in
    (named, at_own institution at.0 at.1 _ path at.2 (own ∙ at.3.0) at.3.1, subst (AreEntryOctets by body) whole asks.1)
schedules Post Backup text path query by body request institution octets named at asks is =
    absurd (subst (IsBackup body) is asks)
schedules Post resource text path query by body request institution octets named at asks is = absurd asks
schedules Delete (Entry name id) text path query by body request institution octets named at asks is = cc
schedules Delete resource text path query by body request institution octets named at asks is = absurd asks
schedules Preflight resource text path query by body request institution octets named at asks is = absurd asks
schedules Other resource text path query by body request institution octets named at asks is = absurd asks

-- what is withdrawn comes from DELETE of an entry
pub withdraws : (verb : Method) (resource : Resource) (text path query : List ℕ) (by : BodyForm) (body : List ℕ) (request : Request)
    (institution id : List ℕ) → IsMethod text verb → IsPath path resource → Asks verb resource query by body request
    → request ≡ ask.Withdraw institution id
    → (said : List ℕ) × (text ≡ codes "DELETE")
    × (path ≡ codes "/" ++ beneath institution (codes "worklist/" ++ said)) × (id ≡ percent_decode said)
withdraws Get resource text path query by body request institution id named at asks is =
    absurd (subst IsLook is (Looking-look resource query request asks))
withdraws method.Head resource text path query by body request institution id named at asks is =
    absurd (subst IsLook is (Looking-look resource query request asks))
withdraws Post (Worklist name) text path query by body request institution id named at asks is =
    let same = sym asks.2 ∙ is in cc
withdraws Post Backup text path query by body request institution id named at asks is =
    absurd (subst (IsBackup body) is asks)
withdraws Post resource text path query by body request institution id named at asks is = absurd asks
withdraws Delete (Entry name said) text path query by body request institution id named at asks is =
    let own : institution ≡ name.now = cc in
    (said.now, named, at_own institution at.0 at.1 _ path at.2 (own ∙ at.3.0) at.3.1, cc)
withdraws Delete resource text path query by body request institution id named at asks is = absurd asks
withdraws Preflight resource text path query by body request institution id named at asks is = absurd asks
withdraws Other resource text path query by body request institution id named at asks is = absurd asks

-- all rows are copied by POST at /backup
pub backs_up : (verb : Method) (resource : Resource) (text path query : List ℕ) (by : BodyForm) (body : List ℕ) (request : Request)
    (file : String Global) → IsMethod text verb → IsPath path resource → Asks verb resource query by body request
    → request ≡ ask.Backup file
    → (text ≡ codes "POST") × (path ≡ codes "/backup") × (string_bytes file ≡ body)
backs_up Get resource text path query by body request file named at asks is =
    absurd (subst IsLook is (Looking-look resource query request asks))
backs_up method.Head resource text path query by body request file named at asks is =
    absurd (subst IsLook is (Looking-look resource query request asks))
backs_up Post (Worklist name) text path query by body request file named at asks is =
    let same = sym asks.2 ∙ is in cc
backs_up Post Backup text path query by body request file named at asks is =
    let back_up = subst (IsBackup body) is asks in (named, at, back_up.0)
backs_up Post resource text path query by body request file named at asks is = absurd asks
backs_up Delete (Entry name id) text path query by body request file named at asks is = cc
backs_up Delete resource text path query by body request file named at asks is = absurd asks
backs_up Preflight resource text path query by body request file named at asks is = absurd asks
backs_up Other resource text path query by body request file named at asks is = absurd asks
