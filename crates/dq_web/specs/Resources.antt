-- The paths of the front: below an institution's name those of QIDO-RS (PS3.18 section 10.6.1.1), of
-- its worklist, of its procedure steps and of its counts.
use Rattle.std.specs.Prelude.{◌≡◌, ◌≢◌, ◌⊎◌, ℕ, ◌==◌, ◌++◌, not, Bool, IsTrue, List, codes}
use Rattle.std.specs.List.{list_all}
use Rattle.dq_web.specs.declared.resource.Resource.{Resource}
use Rattle.dq_web.specs.declared.resource.ResourceKind.{ResourceKind}
use Rattle.dq_web.specs.declared.resource.ResourceKind.TheVariants as kind
use Rattle.dq_web.specs.declared.resource.Resource.TheVariants.{Page, Style, Script, Health, Metrics, Backup, Counts, Studies, Series, Images, StudyImages, Unsearched, Worklist, Entry, Steps, Nowhere}

-- the kind of a resource, by which requests are counted
abbrev pub kind_of : Resource → ResourceKind
kind_of (Studies name) = kind.Studies
kind_of (Series name study) = kind.Series
kind_of (Images name study series) = kind.Instances
kind_of (StudyImages name study) = kind.Instances
kind_of (Worklist name) = kind.Worklist
kind_of (Entry name id) = kind.Worklist
kind_of (Steps name) = kind.Steps
kind_of (Counts name) = kind.Counts
kind_of Page = kind.Page
kind_of Style = kind.Page
kind_of Script = kind.Page
kind_of Health = kind.Health
kind_of Metrics = kind.Metrics
kind_of Backup = kind.Backup
kind_of (Unsearched name) = kind.Nowhere
kind_of Nowhere = kind.Nowhere

-- a name, a slash, and what is below it
abbrev pub beneath : List ℕ → List ℕ → List ℕ
beneath name rest = name ++ codes "/" ++ rest

abbrev pub has_no_slash : ℕ → Bool
has_no_slash octet = not (octet == 47)

-- a segment of a path has no slash (RFC 3986 section 3.3)
abbrev pub is_segment : List ℕ → Bool
is_segment text = list_all has_no_slash text

-- behind `rs/studies/`
abbrev pub IsPathOfStudies : List ℕ → List ℕ → Resource → Type 0
IsPathOfStudies institution rest (Series name study) =
    (name.now ≡ institution) × (rest ≡ beneath study.now (codes "series")) × IsTrue (is_segment study.now)
IsPathOfStudies institution rest (Images name study series) = (name.now ≡ institution)
    × (rest ≡ beneath study.now (codes "series/" ++ beneath series.now (codes "instances")))
    × IsTrue (is_segment study.now) × IsTrue (is_segment series.now)
IsPathOfStudies institution rest (StudyImages name study) =
    (name.now ≡ institution) × (rest ≡ beneath study.now (codes "instances")) × IsTrue (is_segment study.now)
IsPathOfStudies institution rest other = ⊥

-- behind the name of an institution and a slash
abbrev pub IsPathBelow : List ℕ → List ℕ → Resource → Type 0
IsPathBelow institution rest (Counts name) = (name.now ≡ institution) × (rest ≡ codes "counts")
IsPathBelow institution rest (Studies name) = (name.now ≡ institution) × (rest ≡ codes "rs/studies")
IsPathBelow institution rest (Unsearched name) =
    (name.now ≡ institution) × ((rest ≡ codes "rs/series") ⊎ (rest ≡ codes "rs/instances"))
IsPathBelow institution rest (Worklist name) = (name.now ≡ institution) × (rest ≡ codes "worklist")
IsPathBelow institution rest (Entry name id) =
    (name.now ≡ institution) × (rest ≡ codes "worklist/" ++ id.now)
IsPathBelow institution rest (Steps name) = (name.now ≡ institution) × (rest ≡ codes "steps")
IsPathBelow institution rest Nowhere = ⊥
IsPathBelow institution rest resource =
    (below : List ℕ) × (rest ≡ codes "rs/studies/" ++ below) × IsPathOfStudies institution below resource

-- an institution's path; the operator's name is not an institution's
abbrev pub IsOwnPath : List ℕ → Resource → Type 0
IsOwnPath path resource = (institution : List ℕ) × (rest : List ℕ)
    × (path ≡ codes "/" ++ beneath institution rest) × IsPathBelow institution rest resource
    × IsTrue (is_segment institution) × (institution ≢ codes "*")

-- the paths of resources
abbrev pub HasPath : List ℕ → Resource → Type 0
HasPath path Page = path ≡ codes "/"
HasPath path Style = path ≡ codes "/page.css"
HasPath path Script = path ≡ codes "/page.js"
HasPath path Health = path ≡ codes "/health"
HasPath path Metrics = path ≡ codes "/metrics"
HasPath path Backup = path ≡ codes "/backup"
HasPath path Nowhere = ⊥
HasPath path resource = IsOwnPath path resource

-- a resource of which this holds, or Nowhere if it holds of none
abbrev pub IsFound : (Resource → Type 0) → Resource → Type 0
IsFound IsThere Nowhere = (resource : Resource) → IsThere resource → ⊥
IsFound IsThere resource = IsThere resource

-- the resource at a path
abbrev pub IsPath : List ℕ → Resource → Type 0
IsPath path resource = IsFound (HasPath path) resource
