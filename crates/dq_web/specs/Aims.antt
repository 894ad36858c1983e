-- Where a request of HTTP aims, and whether it is let in there.
use Rattle.std.specs.Prelude.{◌≡◌, ◌⊎◌, ◌==◌, ℕ, ◌++◌, ◌&&◌, ◌||◌, not, nat_le, if◌then◌else◌, Bool, true, false, IsTrue, IsFalse, List, codes, Option, Some, None, is_some, option_copied}
use Rattle.std.specs.List.{list_all, slice_split, before_first, after_first}
use Rattle.std.specs.Str.{bytes_eq}
use Rattle.percent_encoding.specs.Percent.{percent_decode}
use Rattle.dq_web.specs.declared.aim.Aim.{Aim}
use Rattle.dq_web.specs.declared.aim.Method.{Method}
use Rattle.dq_web.specs.declared.aim.Method.TheVariants.{Get, Post, Delete, Preflight, Other}
use Rattle.dq_web.specs.declared.aim.Method.TheVariants as method
use Rattle.dq_web.specs.declared.aim.Unasked.{Unasked}
use Rattle.dq_web.specs.declared.aim.Unasked.TheVariants as unasked
use Rattle.dq_web.specs.declared.cutting.Head.{Head}
use Rattle.dq_web.specs.declared.guard.Guard.{Guard}
use Rattle.dq_web.specs.declared.guard.Openness.{Openness}
use Rattle.dq_web.specs.declared.guard.Openness.TheVariants.{Closed, Tab, Viewer}
use Rattle.dq_web.specs.declared.keys.Right.{Right}
use Rattle.dq_web.specs.declared.keys.Right.TheVariants as right
use Rattle.dq_web.specs.declared.refusal.Allowed.{Allowed}
use Rattle.dq_web.specs.declared.refusal.Allowed.TheVariants as allowed
use Rattle.dq_web.specs.declared.refusal.Refusal.{Refusal}
use Rattle.dq_web.specs.declared.refusal.Refusal.TheVariants as refusal
use Rattle.dq_web.specs.declared.resource.Resource.{Resource}
use Rattle.dq_web.specs.declared.resource.Resource.TheVariants.{Page, Style, Script, Health, Metrics, Backup, Counts, Studies, Series, Images, StudyImages, Unsearched, Worklist, Entry, Steps, Nowhere}
use Rattle.dq_web.specs.Guards.{is_preflight, IsAdmitted, IsTurnedAway}
use Rattle.dq_web.specs.Resources.{beneath, is_segment, IsPath}

-- ---- targets

-- no space, no control and nothing past ASCII: 21H to 7EH
abbrev pub is_visible : ℕ → Bool
is_visible octet = nat_le 0x21 octet && nat_le octet 0x7E

abbrev pub is_question_mark : ℕ → Bool
is_question_mark octet = octet == 63

-- the path, before the first question mark, and the query behind it (RFC 9112 section 3.2.1)
abbrev pub IsPathAndQuery : List ℕ → List ℕ → List ℕ → Type 0
IsPathAndQuery text path query =
    (path ≡ before_first is_question_mark text) × (query ≡ after_first is_question_mark text)

-- a target in absolute-form, with this behind its scheme (RFC 9112 section 3.2.2)
abbrev pub IsAbsolute : List ℕ → List ℕ → Type 0
IsAbsolute target rest = (target ≡ codes "http://" ++ rest) ⊎ (target ≡ codes "https://" ++ rest)

-- one in origin-form has no scheme (RFC 9112 section 3.2.1)
abbrev pub IsOriginForm : List ℕ → Type 0
IsOriginForm target = (rest : List ℕ) → IsAbsolute target rest → ⊥

-- The host of a target, and its path and query. In origin-form the host is that of the field Host, and in absolute-form
-- it is in the target, before the first slash.
abbrev pub IsTarget : List ℕ → Option (List ℕ) → List ℕ → List ℕ → Type 0
IsTarget target field host text = (IsOriginForm target × (target ≡ text) × (field ≡ Some host))
    ⊎ ((below : List ℕ) × IsAbsolute target (beneath host below) × IsTrue (is_segment host)
    × (text ≡ codes "/" ++ below))

-- a target without a host or, in absolute-form, without a path
abbrev pub HasNoTarget : List ℕ → Option (List ℕ) → Refusal → Type 0
HasNoTarget target field refusal.Host = IsOriginForm target × (field ≡ None)
HasNoTarget target field refusal.Path = (rest : List ℕ) × IsAbsolute target rest × IsTrue (is_segment rest)
HasNoTarget target field why = ⊥

-- A segment of a path names itself: decoded, it is not the dot segments, by which a path goes up, and it has no
-- slash, of which others may know nothing (RFC 3986 sections 3.3 and 6.2.2).
abbrev pub is_plain : List ℕ → Bool
is_plain segment = not (bytes_eq segment (codes ".") || bytes_eq segment (codes "..")) && is_segment segment

abbrev pub is_plain_segment : List ℕ → Bool
is_plain_segment segment = is_plain (percent_decode segment)

-- each segment of a path does
abbrev pub is_plain_path : List ℕ → Bool
is_plain_path path = list_all is_plain_segment (slice_split (λ octet. octet == 47) path)

-- ---- methods

-- The method of a head (RFC 9110 section 9.3). OPTIONS counts if it asks leave for a page of the viewer's origin to look
-- (the CORS-preflight request of the Fetch standard).
abbrev pub method_of : Guard → Head → Method
method_of guard head = if bytes_eq head.method.now (codes "GET") then Get
    else if bytes_eq head.method.now (codes "HEAD") then method.Head
    else if bytes_eq head.method.now (codes "POST") then Post
    else if bytes_eq head.method.now (codes "DELETE") then Delete
    else if bytes_eq head.method.now (codes "OPTIONS") && is_preflight guard head.fields then Preflight
    else Other

-- leave is asked to look
abbrev pub is_leave_asked : Method → Bool
is_leave_asked Preflight = true
is_leave_asked by = false

-- it changes nothing
abbrev pub only_looks : Method → Bool
only_looks Get = true
only_looks method.Head = true
only_looks Preflight = true
only_looks by = false

-- what an institution keeps is searched or counted there
abbrev pub is_searched : Resource → Bool
is_searched (Counts name) = true
is_searched (Studies name) = true
is_searched (Series name study) = true
is_searched (Images name study series) = true
is_searched (StudyImages name study) = true
is_searched (Unsearched name) = true
is_searched (Worklist name) = true
is_searched (Steps name) = true
is_searched resource = false

-- the methods of a resource (RFC 9110 section 10.2.1)
abbrev pub allowed_at : Resource → Option Allowed
allowed_at Nowhere = None
allowed_at Backup = Some allowed.Post
allowed_at (Entry name id) = Some allowed.Delete
allowed_at (Worklist name) = Some allowed.GetAndPost
allowed_at resource = Some allowed.Get

-- a method is one of these
abbrev pub allows : Allowed → Method → Bool
allows allowed.Get Get = true
allows allowed.Get method.Head = true
allows allowed.Post Post = true
allows allowed.Delete Delete = true
allows allowed.GetAndPost Get = true
allows allowed.GetAndPost method.Head = true
allows allowed.GetAndPost Post = true
allows those by = false

-- it is one of a resource; leave to look may be asked where something is searched
abbrev pub is_allowed : Resource → Allowed → Method → Bool
is_allowed resource those Preflight = is_searched resource
is_allowed resource those by = allows those by

abbrev pub IsAllowed : Resource → Method → Type 0
IsAllowed resource by =
    (those : Allowed) × (allowed_at resource ≡ Some those) × IsTrue (is_allowed resource those by)

-- nothing is there, or a resource with exactly these methods, and the method is not one of them
abbrev pub HasNoMethod : Resource → Method → Refusal → Type 0
HasNoMethod resource by refusal.Path = resource ≡ Nowhere
HasNoMethod resource by (refusal.Method those) =
    (allowed_at resource ≡ Some those) × IsFalse (is_allowed resource those by)
HasNoMethod resource by why = ⊥

-- ---- who may aim

abbrev pub is_page : Resource → Bool
is_page Page = true
is_page resource = false

-- The page for people may be opened from each site, in a tab. What is searched may be looked at by pages of the
-- viewer's origin.
abbrev pub openness_of : Resource → Method → Openness
openness_of resource by = if is_page resource then Tab
    else if is_searched resource && only_looks by then Viewer
    else Closed

-- whose key opens a resource: an institution's, or the operator's
abbrev pub owner_of : Resource → List ℕ
owner_of (Counts name) = name.now
owner_of (Studies name) = name.now
owner_of (Series name study) = name.now
owner_of (Images name study series) = name.now
owner_of (StudyImages name study) = name.now
owner_of (Unsearched name) = name.now
owner_of (Worklist name) = name.now
owner_of (Entry name id) = name.now
owner_of (Steps name) = name.now
owner_of resource = codes "*"

-- the right that a method needs at an institution's resource: GET and HEAD read, POST and DELETE order
abbrev pub institution_right : Method → Right
institution_right Post = right.Order
institution_right Delete = right.Order
institution_right by = right.Read

-- at a resource
abbrev pub right_of : Resource → Method → Right
right_of Metrics by = right.Metrics
right_of Backup by = right.Backup
right_of resource by = institution_right by

-- what everybody may see
abbrev pub is_open : Resource → Bool
is_open Page = true
is_open Style = true
is_open Script = true
is_open Health = true
is_open resource = false

-- everybody may do what a head aims at: it asks leave to look and nothing else, or the resource is open to all
abbrev pub is_free : Aim → Bool
is_free aim = is_leave_asked aim.method || is_open aim.resource

-- ---- heads

-- a head of HTTP/1.1 has a Host (RFC 9112 section 3.2)
abbrev pub names_host : Head → Bool
names_host head = head.is_old || is_some (option_copied head.fields.host)

-- a path, with its query, of the target of a head
pub record IsAt (head : Head) (host path query : List ℕ) : Type 0 where
  pub text : List ℕ
  pub named : IsTrue (names_host head)
  pub visible : IsTrue (list_all is_visible head.target.now)
  pub target : IsTarget head.target.now (option_copied head.fields.host) host text
  pub split : IsPathAndQuery text path query

-- a head aims at a resource of a host, by a path whose segments are plain and by a method
pub record IsAimed (guard : Guard) (head : Head) (host : List ℕ) (aim : Aim) : Type 0 where
  pub path : List ℕ
  pub at_path : IsAt head host path aim.query.now
  pub plain : IsTrue (is_plain_path path)
  pub at_resource : IsPath path aim.resource
  pub by_method : aim.method ≡ method_of guard head

-- Why a head aims at nothing. It names no host, or its target has octets that are not visible, or a path whose segments
-- are not plain; or its target has no host or no path.
abbrev pub HasNoAim : Head → Refusal → Type 0
HasNoAim head refusal.Request = IsFalse (names_host head)
    ⊎ (IsFalse (list_all is_visible head.target.now)
    ⊎ ((host : List ℕ) × (path : List ℕ) × (query : List ℕ) × IsAt head host path query
    × IsFalse (is_plain_path path)))
HasNoAim head why = HasNoTarget head.target.now (option_copied head.fields.host) why

-- why a head that is aimed so is barred: by its host or its sender, or since there is no such resource or method
abbrev pub IsBarred : Guard → Head → List ℕ → Aim → Refusal → Type 0
IsBarred guard head host aim why = IsTurnedAway guard host (openness_of aim.resource aim.method) head.fields why
    ⊎ (IsAdmitted guard host (openness_of aim.resource aim.method) head.fields
    × HasNoMethod aim.resource aim.method why)

-- A head is let in as it aims: for a host of the front, from no page of another origin to which it is not open, and by
-- one of the methods of the resource.
pub record IsLetIn (guard : Guard) (head : Head) (aim : Aim) : Type 0 where
  pub host : List ℕ
  pub aimed : IsAimed guard head host aim
  pub admitted : IsAdmitted guard host (openness_of aim.resource aim.method) head.fields
  pub allowed : IsAllowed aim.resource aim.method

-- why it is not: it aims at nothing, or is barred
abbrev pub IsKeptOut : Guard → Head → Refusal → Type 0
IsKeptOut guard head why = HasNoAim head why
    ⊎ ((host : List ℕ) × (aim : Aim) × IsAimed guard head host aim × IsBarred guard head host aim why)

-- nothing is asked for a reason of which this holds, or since memory ran out
abbrev pub IsUnasked : (Refusal → Type 0) → Unasked → Type 0
IsUnasked IsCause (unasked.Refused why) = IsCause why
IsUnasked IsCause unasked.NoMemory = Unit {0}
