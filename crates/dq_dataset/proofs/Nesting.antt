-- Places lie within what is around them, whatever is taken, entered or left.
use Rattle.std.proofs.Common.{◌≡◌, ℕ, ◌-◌, ◌≤◌, List, [], ◌∷◌, ◌++◌, length, Option, Some, None, refl, subst, arith, inl, inr, ◌⊎◌}
use Rattle.std.proofs.lemmas.List.{length-append}
use Rattle.dq_dataset.specs.declared.sieve.walk.Reach.{Reach}
use Rattle.dq_dataset.specs.declared.sieve.walk.Reach.TheVariants.{Measured, Within, Endless}
use Rattle.dq_dataset.specs.declared.sieve.walk.Cursor.{Cursor}
use Rattle.dq_dataset.specs.DataSetReader.{tag_at, front_at, item_front_at}
use Rattle.dq_dataset.specs.Sifting.{reach_of, opened_reach, opened_left, StaysWithin, EndsAt, IsUntil, LiesIn, left_around, AreNested, IsPart, HasMore}
use Rattle.dq_dataset.proofs.Walks.{Around}
use Rattle.dq_dataset.proofs.Entering.{Behind}

shrunk_by : (reach : Reach) (until left less : ℕ) (around : List Cursor) → LiesIn reach left around → AreNested (left_around reach left) around
    → IsUntil reach until → until ≤ less → ((n : ℕ) → EndsAt around n → n ≤ less → AreNested left around → AreNested less around)
    → LiesIn reach less around × AreNested (left_around reach less) around
shrunk_by reach until left less around lies others is le on = grind arith

-- octets are taken, up to no further than where a place ends
pub shrunk : (until left less : ℕ) (places : List Cursor) → AreNested left places → EndsAt places until → until ≤ less → AreNested less places
shrunk until left less [] nests ends le = absurd ends
shrunk until left less (place ∷ around) nests ends le =
    shrunk_by (reach_of place) until left less around nests.0 nests.1 ends le (λ n is below others. shrunk n left less around others is below)

-- a value is entered
module _ (left after taken : ℕ) (inner behind : Cursor) (outside : List Cursor) where
  pub nested_inside : (reach : Reach) (extent : Option ℕ) → reach_of inner ≡ opened_reach reach extent after → reach_of behind ≡ reach
      → Behind reach left taken after → StaysWithin reach extent after → Around reach left taken
      → LiesIn reach left outside → AreNested (left_around reach left) outside
      → AreNested (opened_left reach extent after) (inner ∷ behind ∷ outside)
  nested_inside (Measured until) None inner_is behind_is header_behind room within lies others =
      rw (inner_is, behind_is) ((omega arith, refl), (omega arith, others))
  nested_inside (Measured until) (Some n) inner_is behind_is header_behind room within lies others =
      rw (inner_is, behind_is) (omega arith, (omega arith, others))
  nested_inside (Within until) None inner_is behind_is header_behind room within lies others =
      rw (inner_is, behind_is) ((omega arith, refl), ((omega arith, lies.1), shrunk until left after outside others lies.1 (omega arith)))
  nested_inside (Within until) (Some n) inner_is behind_is header_behind room within lies others =
      rw (inner_is, behind_is) (omega arith, ((omega arith, lies.1), shrunk until left (after - n) outside others lies.1 (omega arith)))
  nested_inside Endless None inner_is behind_is header_behind room within lies others = grind arith
  nested_inside Endless (Some n) inner_is behind_is header_behind room within lies others =
      rw (inner_is, behind_is) (omega arith, (refl, subst (λ (n : ℕ). AreNested n outside) header_behind.0 others))

-- a value ends with an end of its own, and what is around it goes on
pub nested_behind : (reach : Reach) (left taken : ℕ) (around : List Cursor) → LiesIn reach left around → AreNested (left_around reach left) around
    → Around reach left taken → (until : ℕ) → (reach ≡ Within until) ⊎ (reach ≡ Endless) → AreNested (left - taken) around
nested_behind (Measured n) left taken around lies others within until (inl e) = absurd cc
nested_behind (Measured n) left taken around lies others within until (inr e) = absurd cc
nested_behind (Within n) left taken around lies others within until h = shrunk n left (left - taken) around others lies.1 (omega arith)
nested_behind Endless left taken around lies others within until h = grind arith

-- where nothing came, nothing is whole
pub none_is_part : (place : Cursor) → IsPart place []
unfolding front_at item_front_at tag_at
none_is_part place = grind arith

-- how much is around what came with its last octet
pub comes_within : (reach : Reach) (left : ℕ) (before : List ℕ) (octet : ℕ) (front : List ℕ) → front ≡ before ++ octet ∷ [] → HasMore reach left before
    → (reach ≡ Endless → left ≡ 0) → Around reach left (length front)
comes_within reach left before octet front is room none = grind (arith, length-append)

pub endless_is_none : (reach : Reach) (left : ℕ) (around : List Cursor) → LiesIn reach left around → reach ≡ Endless → left ≡ 0
endless_is_none reach left around lies e = grind arith

-- what is left after a header
pub left_after : (reach : Reach) (left taken : ℕ) → Around reach left taken → Behind reach left taken (left - taken)
left_after reach left taken within = grind arith
