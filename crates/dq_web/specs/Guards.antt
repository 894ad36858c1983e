-- Whom the front admits: by host, by origin and by key.
use Rattle.std.specs.Prelude.{◌≡◌, ◌==◌, ℕ, ◌&&◌, ◌||◌, Bool, true, false, if◌then◌else◌, IsTrue, IsFalse, List, [], ◌∷◌, length, take, drop, codes, Option, Some, None, option_copied}
use Rattle.std.specs.Char.{is_ascii_digit}
use Rattle.std.specs.List.{list_all, list_any}
use Rattle.std.specs.Str.{bytes_eq, is_utf8, trim_start}
use Rattle.std.specs.Net.Socket.{socket_ip}
use Rattle.std.specs.declared.net.ip_addr.IpAddr.{IpAddr}
use Rattle.std.specs.declared.net.socket_addr.SocketAddr.{SocketAddr}
use Rattle.sha2.specs.Sha256.{sha256}
use Rattle.dq_web.specs.declared.cutting.Fields.{Fields}
use Rattle.dq_web.specs.declared.guard.Guard.{Guard}
use Rattle.dq_web.specs.declared.guard.Openness.{Openness}
use Rattle.dq_web.specs.declared.guard.Openness.TheVariants.{Tab, Viewer}
use Rattle.dq_web.specs.declared.keys.Keys.{Keys}
use Rattle.dq_web.specs.declared.keys.KeyEntry.{KeyEntry}
use Rattle.dq_web.specs.declared.keys.Right.{Right}
use Rattle.dq_web.specs.declared.refusal.Refusal.{Refusal}
use Rattle.dq_web.specs.declared.refusal.Refusal.TheVariants as refusal
use Rattle.dq_web.specs.KeyFiles.{entry_for, opens}
use Rattle.dq_web.specs.Requests.{is_named}

-- behind a host there is nothing, or a colon and the digits of a port (RFC 9110 section 4.2.3)
abbrev pub is_port : List ℕ → Bool
is_port [] = true
is_port (octet ∷ digits) = octet == 58 && list_all is_ascii_digit digits

-- a Host is this one, in letters of either case, with or without a port (RFC 9110 sections 4.2.3 and 7.2)
abbrev pub is_at : List ℕ → List ℕ → Bool
is_at host value = is_named (take (length host) value) host && is_port (drop (length host) value)

-- the front's own host, if it has one
abbrev pub is_own_host : Option (List ℕ) → List ℕ → Bool
is_own_host None value = false
is_own_host (Some own) value = is_at own value

-- a Host of the loopback, or the front's own
abbrev pub is_known_host : Option (List ℕ) → List ℕ → Bool
is_known_host own value = is_at (codes "127.0.0.1") value
    || (is_at (codes "localhost") value || (is_at (codes "[::1]") value || is_own_host own value))

-- the origin of a page of this host, by this scheme
abbrev pub is_origin : List ℕ → List ℕ → List ℕ → Bool
is_origin scheme host origin =
    bytes_eq (take (length scheme) origin) scheme && is_named (drop (length scheme) origin) host

-- an Origin, if there is one, is that of a page of the same host (RFC 6454 section 7)
abbrev pub is_same_origin : List ℕ → Option (List ℕ) → Bool
is_same_origin host None = true
is_same_origin host (Some origin) =
    is_origin (codes "http://") host origin || is_origin (codes "https://") host origin

-- a Sec-Fetch-Site, if there is one, is that of a page of the front, or of none
abbrev pub is_same_site : Option (List ℕ) → Bool
is_same_site None = true
is_same_site (Some site) = bytes_eq site (codes "same-origin") || bytes_eq site (codes "none")

-- a request is for a document of its own, and not for one in a frame
abbrev pub is_document : Option (List ℕ) → Bool
is_document None = false
is_document (Some wanted) = bytes_eq wanted (codes "document")

-- the page for people may be opened from another site too, as a document of its own
abbrev pub is_allowed_site : Bool → Fields → Bool
is_allowed_site is_page fields = (is_page && is_document (option_copied fields.fetch_dest))
    || is_same_site (option_copied fields.fetch_site)

-- no page of another origin sent a request, unless it opens the page for people
abbrev pub is_of_site : List ℕ → Bool → Fields → Bool
is_of_site host is_page fields =
    is_same_origin host (option_copied fields.origin) && is_allowed_site is_page fields

-- ---- a viewer of another origin (the CORS protocol of the Fetch standard)

-- a page of the viewer's origin sent a request: its Origin has the same octets (RFC 6454 section 7)
abbrev pub is_of_viewer : Option (List ℕ) → Option (List ℕ) → Bool
is_of_viewer (Some viewer) (Some origin) = bytes_eq viewer origin
is_of_viewer (Some viewer) None = false
is_of_viewer None origin = false

-- the origin whose pages may read the response
abbrev pub viewer_of : Guard → Fields → Option (List ℕ)
viewer_of guard fields =
    if is_of_viewer guard.viewer (option_copied fields.origin) then option_copied fields.origin else None

-- a method that looks only
abbrev pub is_look : Option (List ℕ) → Bool
is_look None = false
is_look (Some method) = bytes_eq method (codes "GET") || bytes_eq method (codes "HEAD")

-- leave is asked for a page of the viewer's origin to look
abbrev pub is_preflight : Guard → Fields → Bool
is_preflight guard fields =
    is_of_viewer guard.viewer (option_copied fields.origin) && is_look (option_copied fields.request_method)

abbrev pub is_to_tab : Openness → Bool
is_to_tab Tab = true
is_to_tab other = false

abbrev pub is_to_viewer : Openness → Bool
is_to_viewer Viewer = true
is_to_viewer other = false

-- No page of another origin sent a request. There are two exceptions: any page may open the page for people in a tab of
-- its own, and pages of the viewer's origin may read what is open to them.
abbrev pub may_send : Guard → List ℕ → Openness → Fields → Bool
may_send guard host openness fields =
    (is_to_viewer openness && is_of_viewer guard.viewer (option_copied fields.origin))
    || is_of_site host (is_to_tab openness) fields

-- a request names a host of the front, and its sender may send it
pub record IsAdmitted (guard : Guard) (host : List ℕ) (openness : Openness) (fields : Fields) : Type 0 where
  pub known : IsTrue (is_known_host guard.host host)
  pub sender : IsTrue (may_send guard host openness fields)

-- why it is not admitted: it names a host that is not the front's, or the page of another origin sent it
abbrev pub IsTurnedAway : Guard → List ℕ → Openness → Fields → Refusal → Type 0
IsTurnedAway guard host openness fields refusal.Host = IsFalse (is_known_host guard.host host)
IsTurnedAway guard host openness fields refusal.Origin =
    IsTrue (is_known_host guard.host host) × IsFalse (may_send guard host openness fields)
IsTurnedAway guard host openness fields why = ⊥

-- ---- a proxy

-- a peer has the address of the proxy that is named
abbrev pub IsProxy : Option IpAddr → Option SocketAddr → Type 0
IsProxy proxy (Some peer) = proxy ≡ Some (socket_ip peer)
IsProxy proxy None = ⊥

-- ---- keys

-- The key that an Authorization tells, behind the scheme, in letters of either case, and spaces (RFC 9110 section 11.4,
-- RFC 6750 section 2.1). Octets that are not UTF-8 are not a key.
abbrev pub key_told : Option (List ℕ) → Option (List ℕ)
key_told None = None
key_told (Some text) = if is_named (take 7 text) (codes "bearer ") && is_utf8 (drop 7 text)
    then Some (trim_start (drop 7 text)) else None

abbrev pub TellsKey : Option (List ℕ) → List ℕ → Type 0
TellsKey authorization key = key_told authorization ≡ Some key

-- it tells a key of this name with this right, of which this is the first entry
abbrev pub IsOpenedBy : Keys → List ℕ → Right → Option (List ℕ) → KeyEntry → Type 0
IsOpenedBy keys name right authorization entry = (key : List ℕ) × TellsKey authorization key
    × (entry_for keys.entries name right (sha256 key) ≡ Some entry)

abbrev pub IsOpened : Keys → List ℕ → Right → Option (List ℕ) → Type 0
IsOpened keys name right authorization =
    (entry : KeyEntry) × IsOpenedBy keys name right authorization entry

-- Why none does. It tells no key that an entry of this name has, whatever its right; or entries of this name have the
-- key, and none of them has the right.
abbrev pub IsShut : Keys → List ℕ → Right → Option (List ℕ) → Refusal → Type 0
IsShut keys name right authorization refusal.Key = (key : List ℕ) → TellsKey authorization key
    → IsFalse (list_any (opens name (sha256 key)) keys.entries)
IsShut keys name right authorization refusal.Right = (key : List ℕ) × TellsKey authorization key
    × IsTrue (list_any (opens name (sha256 key)) keys.entries)
    × (entry_for keys.entries name right (sha256 key) ≡ None)
IsShut keys name right authorization why = ⊥
