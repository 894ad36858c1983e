-- The log's note of a request: the address that it came from, that from which a proxy says it came, the label of the
-- access token that let it in, its method, its institution, the path below that without its query, and the status of
-- its response, or that there is no memory for one.
use Rattle.std.specs.Prelude.{◌≡◌, ◌==◌, ℕ, ◌++◌, Bool, ◌||◌, ◌&&◌, false, if◌then◌else◌, List, [], ◌∷◌, take, drop, map, position, codes, Option, Some, None}
use Rattle.std.specs.Char.{is_ascii_graphic, is_ascii_uppercase, is_ascii_digit}
use Rattle.std.specs.Fmt.{decimal}
use Rattle.std.specs.List.{list_all}
use Rattle.std.specs.Net.Text.{ip_text}
use Rattle.std.specs.Net.Socket.{socket_ip}
use Rattle.std.specs.declared.net.ip_addr.IpAddr.{IpAddr}
use Rattle.std.specs.declared.net.socket_addr.SocketAddr.{SocketAddr}
use Rattle.dq_list.specs.Lengths.{is_empty}
use Rattle.dq_web.specs.declared.cutting.Head.{Head}
use Rattle.dq_web.specs.declared.status.Status.{Status}
use Rattle.dq_web.specs.Responses.{status_code}
use Rattle.dq_wires.specs.LogWords.{peer_text}
use Rattle.dq_wires.specs.SocketLimits.{is_same_address}
use Rattle.dq_http.specs.declared.request_log.Sender.{Sender}

-- an octet that is no graphic character of ASCII is told as a question mark: no request can write lines of the log
abbrev pub told_octet : ℕ → ℕ
told_octet octet = if is_ascii_graphic octet then octet else 63

-- octets as they are told, 128 at most, and a hyphen for none
abbrev pub told_text : List ℕ → List ℕ
told_text octets = if is_empty octets then codes "-" else map told_octet (take 128 octets)

abbrev pub up_to : Option ℕ → List ℕ → List ℕ
up_to None octets = octets
up_to (Some end) octets = take end octets

-- what stands before the query of a target
abbrev pub path_of : List ℕ → List ℕ
path_of target = up_to (position (λ octet. octet == 63) target) target

abbrev pub is_of_name : ℕ → Bool
is_of_name octet = is_ascii_uppercase octet || (is_ascii_digit octet || (octet == 95))

-- the name at the front of a path, behind its first slash and before its second, and what is below it
abbrev pub named_at : ℕ → List ℕ → Option ℕ → List ℕ × List ℕ
named_at slash rest None = ([], slash ∷ rest)
named_at slash rest (Some end) =
    if (slash == 47) && list_all is_of_name (take end rest) then (take end rest, drop end rest)
    else ([], slash ∷ rest)

abbrev pub parts_of : List ℕ → List ℕ × List ℕ
parts_of [] = ([], [])
parts_of (slash ∷ rest) = named_at slash rest (position (λ octet. octet == 47) rest)

abbrev pub words_text : List ℕ → Head → List ℕ
words_text label head = let parts = parts_of (path_of head.target.now) in
    told_text label ++ codes " " ++ told_text head.method.now ++ codes " " ++ told_text parts.0 ++ codes " " ++ told_text parts.1

-- a peer has this address
abbrev pub has_address : Option SocketAddr → IpAddr → Bool
has_address None address = false
has_address (Some peer) address = is_same_address (socket_ip peer) address

-- one for whom no proxy has spoken
abbrev pub direct_sender : Option SocketAddr → Sender
direct_sender peer = record { address = peer; forwarded = None }

-- that of a sender, and the address from which its peer says that the request came
abbrev pub forwarded_text : Option IpAddr → List ℕ
forwarded_text None = []
forwarded_text (Some address) = codes " for " ++ ip_text address

abbrev pub sender_text : Sender → List ℕ
sender_text sender = peer_text sender.address ++ forwarded_text sender.forwarded

-- the status code of a response (RFC 9110 section 15), or that there is no memory for one
abbrev pub outcome_text : Option Status → List ℕ
outcome_text (Some status) = decimal (status_code status)
outcome_text None = codes "no memory"

-- One line more, with the outcome of the request, and how long it took.
abbrev pub HasNote : Sender → List ℕ → Option Status → List ℕ → List ℕ → Type 0
HasNote peer words status old new = (milliseconds : ℕ)
    × (new ≡ old ++ (sender_text peer ++ (codes " " ++ (words ++ (codes " " ++ (outcome_text status ++ (codes " ms " ++ (decimal milliseconds ++ codes "\n"))))))))
