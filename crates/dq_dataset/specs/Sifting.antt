-- A device of the proofs: where the octets that are still to come lead a walk through a value. What
-- is to be believed stands in Sieve.
use Rattle.std.specs.Prelude.{◌≡◌, ◌≢◌, ℕ, ◌+◌, ◌-◌, ◌<◌, ◌≤◌, List, [], ◌∷◌, ◌++◌, length, reverse, Option, Some, None, Ok, Err, Bool, false, ◌==◌, ◌⊎◌}
use Rattle.dq_vr.specs.declared.Tag.{Tag}
use Rattle.dq_dataset.specs.declared.fault.ReadFault.{ReadFault}
use Rattle.dq_dataset.specs.declared.fault.ReadFault.TheVariants.{Truncated}
use Rattle.dq_dataset.specs.declared.header.Syntax.{Syntax}
use Rattle.dq_dataset.specs.declared.header.Bound.{Bound}
use Rattle.dq_dataset.specs.declared.header.Bound.TheVariants.{Filled, Delimited}
use Rattle.dq_dataset.specs.declared.header.Content.{Content}
use Rattle.dq_dataset.specs.declared.header.Content.TheVariants.{Plain, Sequence}
use Rattle.dq_dataset.specs.declared.sieve.walk.Reach.{Reach}
use Rattle.dq_dataset.specs.declared.sieve.walk.Reach.TheVariants.{Measured, Within, Endless}
use Rattle.dq_dataset.specs.declared.sieve.walk.Cursor.{Cursor}
use Rattle.dq_dataset.specs.declared.sieve.walk.Cursor.TheVariants.{InOctets, InItems, InElements}
use Rattle.dq_dataset.specs.declared.sieve.walk.Walk.{Walk}
use Rattle.dq_dataset.specs.declared.sieve.walk.WalkStep.{WalkStep}
use Rattle.dq_dataset.specs.declared.sieve.walk.WalkStep.TheVariants.{On, Over, Failed}
use Rattle.dq_dataset.specs.declared.sieve.walk.HeaderFound.{HeaderFound}
use Rattle.dq_dataset.specs.declared.sieve.walk.HeaderFound.TheVariants.{Part, End, Whole, Bad}
use Rattle.dq_dataset.specs.declared.header.Header.{Header}
use Rattle.dq_dataset.specs.DataSetReader.{front_at, item_front_at, end_at}
use Rattle.dq_dataset.specs.Tree.{ElementList}
use Rattle.dq_dataset.specs.Grammar.{Spells, SpellsItems}
use Rattle.dq_dataset.specs.Faults.{HasFault, ItemsHaveFault}

-- ---- places

abbrev pub reach_of : Cursor → Reach
reach_of (InOctets until) = Measured until
reach_of (InItems syntax levels reach) = reach
reach_of (InElements syntax levels last reach) = reach

abbrev pub bound_by : Reach → Bound
bound_by (Measured until) = Filled
bound_by (Within until) = Delimited
bound_by Endless = Delimited

abbrev pub until_of : Reach → ℕ
until_of (Measured until) = until
until_of (Within until) = until
until_of Endless = 0

-- The octets are what is due at the place.
abbrev pub Finishes : Cursor → List ℕ → Type 0
Finishes (InOctets until) octets = Unit {0}
Finishes (InItems syntax levels reach) octets =
    (items : List ElementList) × SpellsItems (bound_by reach) syntax levels octets items
Finishes (InElements syntax levels last reach) octets =
    (d : ElementList) × Spells (bound_by reach) syntax levels last octets d

-- The octets, which are all within reach, have this first fault.
abbrev pub HasFirstFault : Cursor → List ℕ → ReadFault → Type 0
HasFirstFault (InOctets until) octets fault = ⊥
HasFirstFault (InItems syntax levels reach) octets fault =
    ItemsHaveFault (bound_by reach) syntax levels octets fault
HasFirstFault (InElements syntax levels last reach) octets fault =
    HasFault (bound_by reach) syntax levels last octets fault

-- How long a value may be, where so many octets of the outermost length are left before it.
abbrev pub Extends : Reach → ℕ → List ℕ → Type 0
Extends (Measured until) left value = length value + until ≡ left
Extends (Within until) left value = length value + until ≤ left
Extends Endless left value = Unit {0}

-- The octets within reach, and those beyond it.
abbrev pub IsSplitByReach : Reach → ℕ → List ℕ → List ℕ → Type 0
IsSplitByReach (Measured until) left near beyond = length near + until ≡ left
IsSplitByReach (Within until) left near beyond = length near + until ≡ left
IsSplitByReach Endless left near beyond = beyond ≡ []

-- ---- where octets lead

pub record Stopped (place : Cursor) (left : ℕ) (octets : List ℕ) (end : Option ReadFault)
    : Type 0 where
  pub near : List ℕ
  pub beyond : List ℕ
  pub parts : octets ≡ near ++ beyond
  pub limit : IsSplitByReach (reach_of place) left near beyond
  pub fault : ReadFault
  pub stops : HasFirstFault place near fault
  pub is : end ≡ Some fault

-- With the innermost place first: the octets lead to the end of all places, or to a fault.
abbrev pub Leads : ℕ → List Cursor → List ℕ → Option ReadFault → Type 0
Leads left [] octets end = (octets ≡ []) × (end ≡ None)
Leads left (place ∷ around) octets end =
    Stopped place left octets end
    ⊎ ((value : List ℕ) × (rest : List ℕ) × (octets ≡ value ++ rest)
    × Extends (reach_of place) left value × Finishes place value
    × Leads (left - length value) around rest end)

-- Where octets of the outermost length are missing, that is the fault.
abbrev pub LeadsTo : ℕ → List Cursor → List ℕ → Option ReadFault → Type 0
LeadsTo left places octets end =
    ((length octets < left) × (end ≡ Some Truncated))
    ⊎ ((left ≤ length octets) × Leads left places octets end)

-- So many octets are missing of a length in which a fault was found.
abbrev pub FaultLeads : ReadFault → ℕ → List ℕ → Option ReadFault → Type 0
FaultLeads fault missing octets end =
    ((length octets < missing) × (end ≡ Some Truncated))
    ⊎ ((missing ≤ length octets) × (end ≡ Some fault))

abbrev pub places_of : Walk → List Cursor
places_of walk = walk.place ∷ reverse walk.around.items

abbrev pub WalkLeads : Walk → List ℕ → Option ReadFault → Type 0
WalkLeads walk octets end =
    LeadsTo walk.left (places_of walk) (walk.front.items ++ octets) end

abbrev pub WalkedLeads : WalkStep → List ℕ → Option ReadFault → Type 0
WalkedLeads (On walk) octets end = WalkLeads walk octets end
WalkedLeads Over octets end = (octets ≡ []) × (end ≡ None)
WalkedLeads (Failed fault missing) octets end = FaultLeads fault missing octets end

-- ---- entering a value

-- How far a value reaches that begins where so many octets are left, and how many are left then.
abbrev pub opened_reach : Reach → Option ℕ → ℕ → Reach
opened_reach (Measured until) None left = Within until
opened_reach (Measured until) (Some n) left = Measured (left - n)
opened_reach (Within until) None left = Within until
opened_reach (Within until) (Some n) left = Measured (left - n)
opened_reach Endless None left = Endless
opened_reach Endless (Some n) left = Measured 0

abbrev pub opened_left : Reach → Option ℕ → ℕ → ℕ
opened_left (Measured until) extent left = left
opened_left (Within until) extent left = left
opened_left Endless None left = left
opened_left Endless (Some n) left = n

-- A defined length stays within reach, as far as that is known.
abbrev pub StaysWithin : Reach → Option ℕ → ℕ → Type 0
StaysWithin (Measured until) (Some n) left = n + until ≤ left
StaysWithin (Within until) (Some n) left = n + until ≤ left
StaysWithin reach extent left = Unit {0}

abbrev pub HasNoRoom : Reach → Option ℕ → ℕ → Type 0
HasNoRoom (Measured until) (Some n) left = left < n + until
HasNoRoom (Within until) (Some n) left = left < n + until
HasNoRoom reach extent left = ⊥

-- The place of a value, behind the header of an element.
abbrev pub place_of_value : Content → ℕ → Reach → Cursor
place_of_value (Plain n) levels reach = InOctets (until_of reach)
place_of_value (Sequence syntax extent) levels reach = InItems syntax (levels - 1) reach

-- ---- what holds of a walk

abbrev pub IsUntil : Reach → ℕ → Type 0
IsUntil (Measured n) until = n ≡ until
IsUntil (Within n) until = n ≡ until
IsUntil Endless until = ⊥

abbrev pub EndsAt : List Cursor → ℕ → Type 0
EndsAt [] until = ⊥
EndsAt (place ∷ around) until = IsUntil (reach_of place) until

-- A place lies within what is around it.
abbrev pub LiesIn : Reach → ℕ → List Cursor → Type 0
LiesIn (Measured until) left around = until ≤ left
LiesIn (Within until) left around = (until ≤ left) × EndsAt around until
LiesIn Endless left around = left ≡ 0

abbrev pub left_around : Reach → ℕ → ℕ
left_around (Measured until) left = until
left_around (Within until) left = left
left_around Endless left = left

abbrev pub AreNested : ℕ → List Cursor → Type 0
AreNested left [] = left ≡ 0
AreNested left (place ∷ around) =
    LiesIn (reach_of place) left around × AreNested (left_around (reach_of place) left) around

-- The octets of a header that came are not the whole header.
abbrev pub IsPart : Cursor → List ℕ → Type 0
IsPart (InOctets until) front = front ≡ []
IsPart (InItems syntax levels reach) front = item_front_at front ≡ Err Truncated
IsPart (InElements syntax levels last reach) front =
    front_at syntax levels last front ≡ Err Truncated

-- More octets are within reach.
abbrev pub HasMore : Reach → ℕ → List ℕ → Type 0
HasMore (Measured until) left front = length front + until < left
HasMore (Within until) left front = length front + until < left
HasMore Endless left front = Unit {0}

pub record IsWalk (walk : Walk) : Type 0 where
  pub nested : AreNested walk.left (places_of walk)
  pub part : IsPart walk.place walk.front.items
  pub more : HasMore (reach_of walk.place) walk.left walk.front.items

abbrev pub IsWalked : WalkStep → Type 0
IsWalked (On walk) = IsWalk walk
IsWalked Over = Unit {0}
IsWalked (Failed fault missing) = Unit {0}

-- One more octet of a header came.
pub record HasCome (walk : Walk) : Type 0 where
  pub before : List ℕ
  pub octet : ℕ
  pub is : walk.front.items ≡ before ++ octet ∷ []
  pub part : IsPart walk.place before
  pub more : HasMore (reach_of walk.place) walk.left before
  pub nested : AreNested walk.left (places_of walk)

-- Nothing more is within reach.
abbrev pub is_reached : Reach → ℕ → Bool
is_reached (Measured until) left = until == left
is_reached (Within until) left = until == left
is_reached Endless left = false

-- The octets that came are the end of what is open.
pub record HasEnd (place : Cursor) (front : List ℕ) : Type 0 where
  pub ends : Finishes place front
  pub reach : (reach_of place ≡ Within (until_of (reach_of place))) ⊎ (reach_of place ≡ Endless)

-- The meaning of the octets that came: not yet a header, an end, a header, or a fault.
abbrev pub ItemMet : Bound → List ℕ → HeaderFound (Option ℕ) → Type 0
ItemMet bound front Part = item_front_at front ≡ Err Truncated
ItemMet bound front End = (rest : List ℕ) × (end_at bound 0xE0DD front ≡ Ok (Some rest))
ItemMet bound front (Whole extent) = (rest : List ℕ) × (item_front_at front ≡ Ok (extent, rest))
ItemMet bound front (Bad fault) =
    ((rest : List ℕ) → end_at bound 0xE0DD front ≡ Ok (Some rest) → ⊥)
    × (item_front_at front ≡ Err fault) × (fault ≢ Truncated)

abbrev pub ElementMet : Syntax → ℕ → Option Tag → Bound → List ℕ → HeaderFound Header → Type 0
ElementMet syntax levels last bound front Part = front_at syntax levels last front ≡ Err Truncated
ElementMet syntax levels last bound front End =
    (rest : List ℕ) × (end_at bound 0xE00D front ≡ Ok (Some rest))
ElementMet syntax levels last bound front (Whole header) =
    (rest : List ℕ) × (front_at syntax levels last front ≡ Ok (header, rest))
ElementMet syntax levels last bound front (Bad fault) =
    ((rest : List ℕ) → end_at bound 0xE00D front ≡ Ok (Some rest) → ⊥)
    × (front_at syntax levels last front ≡ Err fault) × (fault ≢ Truncated)

-- The step that a walk reaches by the octets taken.
pub record LeadsOn (walk : Walk) (taken : List ℕ) (walked : WalkStep) : Type 0 where
  pub sound : IsWalked walked
  pub leads : (octets : List ℕ) (end : Option ReadFault) → WalkedLeads walked octets end
      → WalkLeads walk (taken ++ octets) end

pub record IsSettling (walk : Walk) : Type 0 where
  pub nested : AreNested walk.left (places_of walk)
  pub empty : walk.front.items ≡ []
