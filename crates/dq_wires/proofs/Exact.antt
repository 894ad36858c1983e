-- The octets of what a server does on a connection are those of its replies.
use Rattle.std.proofs.Common.{◌≡◌, ℕ, Bool, true, false, List, [], ◌∷◌, ◌++◌, map, refl, ap, ◌∙◌}
use Rattle.std.specs.List.{flat_map}
use Rattle.std.proofs.lemmas.List.{append-nil}
use Rattle.dq_core.specs.declared.event.Event.{Event}
use Rattle.dq_core.specs.declared.event.Reply.{Reply}
use Rattle.dq_core.specs.declared.event.Reply.TheVariants as reply
use Rattle.dq_core.specs.Own.{Output, Octet, Close, close_if, outputs_in, outputs_on, is_on_connection, replies_at}
use Rattle.dq_wires.specs.HeldConnections.{reply_octets}
use Rattle.dq_wires.specs.Servings.{octets_among}

of_both : (some more : List Output) → octets_among (some ++ more) ≡ octets_among some ++ octets_among more
of_both [] more = refl
of_both (Octet octet ∷ some) more = ap (λ (octets : List ℕ). octet ∷ octets) (of_both some more)
of_both (Close ∷ some) more = of_both some more

of_octets : (octets : List ℕ) → octets_among (map Octet octets) ≡ octets
of_octets [] = refl
of_octets (octet ∷ octets) = ap (λ (others : List ℕ). octet ∷ others) (of_octets octets)

of_close : (close : Bool) → octets_among (close_if close) ≡ []
of_close true = refl
of_close false = refl

of_reply : (r : Reply) → octets_among (outputs_in r) ≡ reply_octets r
of_reply (reply.Octets conn octets close) =
    of_both (map Octet octets) (close_if close) ∙ rw (of_octets octets, of_close close) (append-nil octets)
of_reply other = refl

of_replies : (replies : List Reply) → octets_among (flat_map outputs_in replies) ≡ flat_map reply_octets replies
of_replies [] = refl
of_replies (r ∷ replies) = of_both (outputs_in r) (flat_map outputs_in replies) ∙ rw (of_reply r, of_replies replies) refl

pub octets-on : (number : ℕ) (events : List Event) (replies : List Reply)
    → octets_among (outputs_on number events replies) ≡ flat_map reply_octets (replies_at (is_on_connection number) events replies)
octets-on number events replies = of_replies (replies_at (is_on_connection number) events replies)
