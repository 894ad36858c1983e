-- A device of the proofs: what octets that are still to come make of a sieve. What is to be
-- believed stands in Sieve.
use Rattle.std.specs.Prelude.{◌≡◌, ℕ, Bool, true, false, not, nat_lt, ◌||◌, ◌&&◌, ◌==◌, filter, List, [], ◌++◌, Option, Some, None, Err, ◌⊎◌}
use Rattle.std.specs.List.{list_any}
use Rattle.dq_vr.specs.declared.Tag.{Tag}
use Rattle.dq_dataset.specs.declared.fault.ReadFault.{ReadFault}
use Rattle.dq_dataset.specs.declared.fault.ReadFault.TheVariants.{Truncated}
use Rattle.dq_dataset.specs.declared.header.Syntax.{Syntax}
use Rattle.dq_dataset.specs.declared.header.Bound.TheVariants.{Filled}
use Rattle.dq_dataset.specs.declared.header.Content.{Content}
use Rattle.dq_dataset.specs.declared.header.Content.TheVariants.{Plain, Sequence}
use Rattle.dq_dataset.specs.declared.data_set.Element.{Element}
use Rattle.dq_dataset.specs.declared.sieve.Sifted.{Sifted}
use Rattle.dq_dataset.specs.declared.sieve.Sifted.TheVariants.{Large, Fault}
use Rattle.dq_dataset.specs.declared.sieve.Outer.{Outer}
use Rattle.dq_dataset.specs.declared.sieve.Stage.{Stage}
use Rattle.dq_dataset.specs.declared.sieve.Stage.TheVariants.{Between, Past, Into, Stopped}
use Rattle.dq_dataset.specs.declared.sieve.walk.WalkStep.{WalkStep}
use Rattle.dq_dataset.specs.declared.sieve.SieveState.{SieveState}
use Rattle.dq_dataset.specs.declared.sieve.SieveState.TheVariants.{Sifting, Spent}
use Rattle.dq_dataset.specs.Tree.{ElementList}
use Rattle.dq_dataset.specs.View.{as_elements, elements_of}
use Rattle.dq_dataset.specs.Grammar.{Spells, IsSpelled}
use Rattle.dq_dataset.specs.Faults.{HasFault}
use Rattle.dq_dataset.specs.Editing.{is_listed}
use Rattle.dq_dataset.specs.DataSetReader.{front_at}
use Rattle.dq_dataset.specs.Sifting.{FaultLeads, WalkLeads, WalkedLeads, IsWalk}
use Rattle.dq_dataset.specs.Sieve.{has_other, kept_limit, is_over_limit, sifted_of, IsSifted}

abbrev pub tag_is_listed : List Tag → Tag → Bool
tag_is_listed tags tag =
    list_any (λ (t : Tag). (tag.group == t.group) && (tag.element == t.element)) tags

-- The answer if the elements that were kept passed the limit, and if they did not.
abbrev pub sifted_or_too_long : Bool → List Element → Bool → Sifted
sifted_or_too_long true kept other = Large
sifted_or_too_long false kept other = sifted_of (as_elements kept) other

-- The effect of the octets after the tag last on the elements that are kept.
abbrev pub SiftsFrom : Syntax → List Tag → Option Tag → Bool → List Element → Bool → List ℕ → Sifted
    → Type 0
SiftsFrom syntax tags last large kept other octets answer =
    ((d : ElementList) × Spells Filled syntax 16 last octets d
    × (answer ≡ sifted_or_too_long large (kept ++ filter (is_listed tags) (elements_of d))
    (other || has_other tags d)))
    ⊎ ((fault : ReadFault) × HasFault Filled syntax 16 last octets fault × (answer ≡ Fault fault))

abbrev pub OuterSifts : List Tag → Outer → List ℕ → Sifted → Type 0
OuterSifts tags outer octets answer =
    SiftsFrom outer.syntax tags outer.last outer.large outer.kept.items outer.other octets answer

-- The elements that are held are within the limit. Of elements that passed it nothing is held.
abbrev pub KeepsWithinLimit : Bool → List Element → Type 0
KeepsWithinLimit true held = held ≡ []
KeepsWithinLimit false held = is_over_limit (as_elements held) ≡ false

abbrev pub IsWithinLimit : Outer → Type 0
IsWithinLimit outer = KeepsWithinLimit outer.large outer.kept.items

-- Whether a header alone says that its element is over the limit. A group length is none.
abbrev pub is_length_over_limit : Content → Bool
is_length_over_limit (Plain n) = nat_lt kept_limit n
is_length_over_limit (Sequence syntax extent) = false

abbrev pub is_header_over_limit : Tag → Content → Bool
is_header_over_limit tag content = not (tag.element == 0) && is_length_over_limit content

-- The octets lead to a fault of a value, or to its end, and what follows it sifts on.
abbrev pub SiftsOn : (List ℕ → Option ReadFault → Type 0) → (List ℕ → List ℕ → Type 0) → List ℕ
    → Sifted → Type 0
SiftsOn leads follows octets answer =
    ((fault : ReadFault) × leads octets (Some fault) × (answer ≡ Fault fault))
    ⊎ ((value : List ℕ) × (rest : List ℕ) × (octets ≡ value ++ rest) × leads value None
    × follows value rest)

-- Behind a value that is not kept, and behind one that is.
abbrev pub FollowsPast : List Tag → Outer → Sifted → List ℕ → List ℕ → Type 0
FollowsPast tags outer answer value rest = OuterSifts tags outer rest answer

abbrev pub FollowsInto : List Tag → Outer → List ℕ → Sifted → List ℕ → List ℕ → Type 0
FollowsInto tags outer came answer value rest =
    (one : ElementList) → IsSpelled outer.syntax (came ++ value) one
    → SiftsFrom outer.syntax tags outer.last outer.large (outer.kept.items ++ elements_of one)
    outer.other rest answer

abbrev pub StageSifts : List Tag → Outer → Stage → List ℕ → Sifted → Type 0
StageSifts tags outer (Between front) octets answer =
    OuterSifts tags outer (front.items ++ octets) answer
StageSifts tags outer (Past walk) octets answer =
    SiftsOn (WalkLeads walk) (FollowsPast tags outer answer) octets answer
StageSifts tags outer (Into walk came) octets answer =
    SiftsOn (WalkLeads walk) (FollowsInto tags outer came.items answer) octets answer
StageSifts tags outer (Stopped fault missing) octets answer =
    (first : ReadFault) × FaultLeads fault missing octets (Some first) × (answer ≡ Fault first)

abbrev pub IsStage : Outer → Stage → Type 0
IsStage outer (Between front) = front_at outer.syntax 16 outer.last front.items ≡ Err Truncated
IsStage outer (Past walk) = IsWalk walk
IsStage outer (Into walk came) = IsWalk walk
IsStage outer (Stopped fault missing) = Unit {0}

-- The state that a sieve reaches by the octets taken.
pub record SieveGoesOn (tags : List Tag) (outer : Outer) (stage : Stage) (taken : List ℕ)
    (next : Outer) (then : Stage) : Type 0 where
  pub sound : IsStage next then
  pub within : IsWithinLimit outer → IsWithinLimit next
  pub syntax : next.syntax ≡ outer.syntax
  pub sifts : (octets : List ℕ) (answer : Sifted) → StageSifts tags next then octets answer
      → StageSifts tags outer stage (taken ++ octets) answer

-- The sieve was fed these octets: whatever follows is sifted as all of them are.
pub record HasFed (syntax : Syntax) (tags : List Tag) (octets : List ℕ) (outer : Outer)
    (stage : Stage) : Type 0 where
  pub is : outer.syntax ≡ syntax
  pub sound : IsStage outer stage
  pub within : IsWithinLimit outer
  pub sifts : (rest : List ℕ) (answer : Sifted) → StageSifts tags outer stage rest answer
      → IsSifted syntax tags (octets ++ rest) answer

abbrev pub StateAfter : Syntax → List Tag → List ℕ → SieveState → Type 0
StateAfter syntax tags octets (Sifting outer stage) = HasFed syntax tags octets outer stage
StateAfter syntax tags octets Spent = ⊥

-- A sieve for the syntax and the tags that was fed the octets, in pieces of any length. Of this
-- nothing is to be believed: a new sieve is one after no octets, a piece is added to them, and what
-- such a sieve gives at the end is IsSifted.
pub record SieveAfter (syntax : Syntax) (tags : List Tag) (octets : List ℕ)
    (sieve : List Tag × SieveState) : Type 0 where
  pub tags_are : sieve.0 ≡ tags
  pub after : StateAfter syntax tags octets sieve.1

-- The invariant of every sieve: it was fed some octets, or memory ran out.
abbrev pub IsSieve : List Tag → SieveState → Type 0
IsSieve tags (Sifting outer stage) = (octets : List ℕ) × HasFed outer.syntax tags octets outer stage
IsSieve tags Spent = Unit {0}

-- The stages that follow a walk past a value, and one into a value.
abbrev pub PastBy : WalkStep → Stage → Type 0
PastBy walked stage =
    (outer : Outer) (tags : List Tag) (octets : List ℕ) (answer : Sifted)
    → StageSifts tags outer stage octets answer
    → SiftsOn (WalkedLeads walked) (FollowsPast tags outer answer) octets answer

pub record IntoBy (outer : Outer) (walked : WalkStep) (came : List ℕ) (next : Outer) (then : Stage)
    : Type 0 where
  pub sound : IsStage next then
  pub within : IsWithinLimit outer → IsWithinLimit next
  pub syntax : next.syntax ≡ outer.syntax
  pub sifts : (tags : List Tag) (octets : List ℕ) (answer : Sifted)
      → StageSifts tags next then octets answer
      → SiftsOn (WalkedLeads walked) (FollowsInto tags outer came answer) octets answer

-- The elements that are held, by whether they passed the limit.
abbrev pub kept_unless_over : Bool → List Element → List Element
kept_unless_over true es = []
kept_unless_over false es = es

-- The elements join those that are kept. Once they pass the limit nothing is held.
pub record KeepsElements (outer : Outer) (es : List Element) (next : Outer) : Type 0 where
  pub syntax : next.syntax ≡ outer.syntax
  pub last : next.last ≡ outer.last
  pub other : next.other ≡ outer.other
  pub large : next.large ≡ (outer.large || is_over_limit (as_elements (outer.kept.items ++ es)))
  pub kept : next.kept.items ≡ kept_unless_over next.large (outer.kept.items ++ es)

-- The result of octets that end at a stage: the data set that was kept, or a fault.
abbrev pub EndsBy : Stage → Option ReadFault → Type 0
EndsBy stage None =
    (tags : List Tag) (outer : Outer) (octets : List ℕ) (answer : Sifted)
    → OuterSifts tags outer octets answer → StageSifts tags outer stage octets answer
EndsBy stage (Some fault) =
    (tags : List Tag) (outer : Outer) → IsStage outer stage
    → StageSifts tags outer stage [] (Fault fault)
