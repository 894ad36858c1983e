-- A page that has room, or has none, for the answer that comes next; and the elements from a place on.
use Rattle.std.proofs.Common.{◌≡◌, ℕ, suc, nat_lt, ◌<◌, ◌+◌, ◌-◌, ◌&&◌, Bool, true, false, if◌then◌else◌, List, [], ◌∷◌, ◌++◌, append_assoc, append-nil, length, drop, get_or, drop-cons, add-one, Option, Some, refl, sym, ap, ◌∙◌}
use Rattle.dq_dataset.specs.Tree.{ElementList}
use Rattle.dq_match.specs.declared.page_collector.PageCollector.{PageCollector}
use Rattle.dq_match.specs.declared.page_collector.PageRoom.{PageRoom}
use Rattle.dq_match.specs.Parts.{has_room, with_room, with_others}
use Rattle.dq_match.specs.ShownPages.{answer_octets, first_within}

-- without room nothing is taken
pub nothing_within : (most octets : ℕ) (answers : List ElementList)
    → (nat_lt 0 most && nat_lt 0 octets) ≡ false → first_within most octets answers ≡ []
nothing_within most octets [] full = refl
nothing_within most octets (answer ∷ others) full =
    ap (λ (room : Bool). if room then answer ∷ first_within (most - 1) (octets - answer_octets answer) others else []) full

-- with room the next one is taken
pub next_within : (most octets : ℕ) (answer : ElementList) (others : List ElementList)
    → (nat_lt 0 most && nat_lt 0 octets) ≡ true
    → first_within most octets (answer ∷ others) ≡ answer ∷ first_within (most - 1) (octets - answer_octets answer) others
next_within most octets answer others has_room =
    ap (λ (room : Bool). if room then answer ∷ first_within (most - 1) (octets - answer_octets answer) others else []) has_room

-- a part without room stays as it is
pub part_without_room : (part : PageCollector) (room : PageRoom) → part.left ≡ Some room → has_room room ≡ false
    → (others : List ElementList) → with_others part others ≡ part.answers
part_without_room part room is full others =
    ap (λ (left : Option PageRoom). part.answers ++ with_room left (drop part.before others)) is
    ∙ ap (λ (answers : List ElementList). part.answers ++ answers)
    (nothing_within room.answers room.octets (drop part.before others) full)
    ∙ append-nil part.answers

-- a part with room has the next one
pub part_with_room : (answers : List ElementList) (room : PageRoom) (answer : ElementList) (others : List ElementList)
    → has_room room ≡ true
    → (answers ++ answer ∷ []) ++ with_room (Some (record { answers = room.answers - 1; octets = room.octets - answer_octets answer })) others
    ≡ answers ++ with_room (Some room) (answer ∷ others)
part_with_room answers room answer others has =
    append_assoc answers (answer ∷ []) (first_within (room.answers - 1) (room.octets - answer_octets answer) others)
    ∙ ap (λ (taken : List ElementList). answers ++ taken)
    (sym (next_within room.answers room.octets answer others has))

-- the element at a place, and those behind it
pub from_place : {A : Type 0} (xs : List A) (i : ℕ) (x : A) → i < length xs → x ≡ get_or xs i x → drop i xs ≡ x ∷ drop (i + 1) xs
from_place {A} xs i x lt is =
    drop-cons xs i x lt ∙ ap (λ (y : A). y ∷ drop (suc i) xs) (sym is) ∙ ap (λ n. x ∷ drop n xs) (sym (add-one i))
