-- The steps of a sieve.
use Rattle.std.proofs.Common.{◌≡◌, ℕ, ◌<◌, true, false, ◌||◌, List, [], ◌++◌, length, reverse, Some, refl, subst, append_assoc, inl, inr, ◌⊎◌, arith}
use Rattle.std.specs.Global.{Vec}
use Rattle.std.proofs.lemmas.List.{append-nil}
use Rattle.dq_dataset.proofs.Types.{Tag, Truncated, Syntax, Filled, no_elements}
use Rattle.dq_dataset.specs.declared.sieve.Sifted.{Sifted}
use Rattle.dq_dataset.specs.declared.sieve.Sifted.TheVariants.{Kept, Large, Fault}
use Rattle.dq_dataset.specs.declared.sieve.Outer.{Outer}
use Rattle.dq_dataset.specs.declared.sieve.Stage.{Stage}
use Rattle.dq_dataset.specs.declared.sieve.Stage.TheVariants.{Between, Past, Into, Stopped}
use Rattle.dq_dataset.specs.declared.sieve.walk.Walk.{Walk}
use Rattle.dq_dataset.specs.View.{as_elements}
use Rattle.dq_dataset.specs.Grammar.{no_more}
use Rattle.dq_dataset.specs.Facts.{IsDataSet}
use Rattle.dq_dataset.specs.Sifting.{WalkLeads, IsWalk}
use Rattle.dq_dataset.specs.Sieve.{IsSifted}
use Rattle.dq_dataset.specs.Sieving.{sifted_or_too_long, OuterSifts, StageSifts, IsStage, SieveGoesOn, HasFed}
use Rattle.dq_dataset.proofs.SpelledIsSound.{spelled_is_sound}
use Rattle.dq_dataset.proofs.Edits.{cut_is}
use Rattle.dq_dataset.proofs.Fronts.{truncated}
use Rattle.dq_dataset.proofs.Walks.{unfinished}
use Rattle.dq_dataset.proofs.Large.{judged_kept, sifted_kept}

pub goes_then : (tags : List Tag) (a b c : Outer) (x y z : Stage) (first second : List ℕ) → SieveGoesOn tags a x first b y → SieveGoesOn tags b y second c z
    → SieveGoesOn tags a x (first ++ second) c z
goes_then tags a b c x y z first second p q = grind (arith, append_assoc)

pub goes_nowhere : (tags : List Tag) (a : Outer) (x : Stage) → IsStage a x → SieveGoesOn tags a x [] a x
goes_nowhere tags a x sound = record { sound = sound; within = λ w. w; syntax = refl; sifts = λ octets answer m. m }

pub fed_on : (syntax : Syntax) (tags : List Tag) (fed piece : List ℕ) (a b : Outer) (x y : Stage) → HasFed syntax tags fed a x → SieveGoesOn tags a x piece b y
    → HasFed syntax tags (fed ++ piece) b y
fed_on syntax tags fed piece a b x y f g = grind (arith, append_assoc)

-- ---- the end

pub ends : (syntax : Syntax) (tags : List Tag) (fed : List ℕ) (outer : Outer) (stage : Stage) (answer : Sifted) → HasFed syntax tags fed outer stage
    → StageSifts tags outer stage [] answer → IsSifted syntax tags fed answer
ends syntax tags fed outer stage answer f m = subst (λ (o : List ℕ). IsSifted syntax tags o answer) (append-nil fed) (f.sifts [] answer m)

-- between two elements
module _ (syntax : Syntax) (tags : List Tag) (fed : List ℕ) (outer : Outer) where
  abbrev kept_here : Sifted
  kept_here = Kept (as_elements outer.kept.items) outer.other

  pub ends_kept : (stage : Stage) → ((octets : List ℕ) (answer : Sifted) → OuterSifts tags outer octets answer → StageSifts tags outer stage octets answer)
      → HasFed syntax tags fed outer stage → outer.large ≡ false → IsSifted syntax tags fed kept_here
  ends_kept stage between f small =
      let same = judged_kept outer.large outer.kept.items outer.other small (rw small at f.within) in
      ends syntax tags fed outer stage kept_here f
      (between [] kept_here (inl (no_elements, no_more Filled outer.syntax 16 outer.last [] refl, same)))

  pub ends_large : (stage : Stage)
      → ((octets : List ℕ) (answer : Sifted) → OuterSifts tags outer octets answer → StageSifts tags outer stage octets answer)
      → HasFed syntax tags fed outer stage → outer.large ≡ true → IsSifted syntax tags fed Large
  ends_large stage between f large =
      let same : Large ≡ sifted_or_too_long outer.large (outer.kept.items ++ []) (outer.other || false) = rw large refl in
      ends syntax tags fed outer stage Large f
      (between [] Large (inl (no_elements, no_more Filled outer.syntax 16 outer.last [] refl, same)))

  kept_is : IsSifted syntax tags fed kept_here → IsDataSet (as_elements outer.kept.items)
  kept_is (inl (d, spells, e)) = grind (arith, sifted_kept, cut_is, spelled_is_sound)
  kept_is (inr (f, faulty, e)) = absurd cc

  pub kept_is_data_set : (stage : Stage)
      → ((octets : List ℕ) (answer : Sifted) → OuterSifts tags outer octets answer → StageSifts tags outer stage octets answer)
      → HasFed syntax tags fed outer stage → outer.large ≡ false → IsDataSet (as_elements outer.kept.items)
  kept_is_data_set stage between f small = kept_is (ends_kept stage between f small)

walk_unfinished : (walk : Walk) → IsWalk walk → WalkLeads walk [] (Some Truncated)
walk_unfinished walk w = rw append-nil (unfinished walk.place (reverse walk.around.items) walk.left walk.front.items w.nested w.part w.more)

-- in the middle of anything
abbrev pub InMidst : Stage → Type 0
InMidst (Between front) = 0 < length front.items
InMidst (Past walk) = Unit {0}
InMidst (Into walk came) = Unit {0}
InMidst (Stopped fault missing) = 0 < missing

pub midst : (tags : List Tag) (outer : Outer) (stage : Stage) → IsStage outer stage → InMidst stage → StageSifts tags outer stage [] (Fault Truncated)
midst tags outer (Between front) sound some =
    inr (Truncated, rw append-nil (truncated Filled outer.syntax 16 outer.last front.items (inr some) sound), refl)
midst tags outer (Past walk) sound some = inl (Truncated, walk_unfinished walk sound, refl)
midst tags outer (Into walk came) sound some = inl (Truncated, walk_unfinished walk sound, refl)
midst tags outer (Stopped fault missing) sound some = (Truncated, inl (some, refl), refl)

pub midst_of_value : (tags : List Tag) (outer : Outer) (stage : Stage)
    → ((walk : Walk) × (stage ≡ Past walk)) ⊎ ((walk : Walk) × (came : Vec ℕ) × (stage ≡ Into walk came))
    → IsStage outer stage → StageSifts tags outer stage [] (Fault Truncated)
midst_of_value tags outer stage (inl (walk, is)) sound = rw is (midst tags outer (Past walk) (rw is at sound) tt)
midst_of_value tags outer stage (inr (walk, came, is)) sound = rw is (midst tags outer (Into walk came) (rw is at sound) tt)
