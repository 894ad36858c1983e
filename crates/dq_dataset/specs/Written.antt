-- Which data sets are read back from what is written.
use Rattle.std.specs.Prelude.{◌≡◌, true}
use Rattle.dq_vr.specs.Dictionary.{known_vr}
use Rattle.dq_dataset.specs.declared.header.Syntax.{Syntax}
use Rattle.dq_dataset.specs.declared.header.Syntax.TheVariants.{Implicit, Explicit}
use Rattle.dq_dataset.specs.Tree.{ElementList, no_elements, element, sequence, ItemList, no_items, item}
use Rattle.dq_dataset.specs.Rules.{is_sequence}

-- The dictionary has the tag of each sequence, also inside items.
abbrev mutual
  pub HasKnownSequences : ElementList → Type 0
  HasKnownSequences no_elements = Unit {0}
  HasKnownSequences (element tag vr octets rest) = HasKnownSequences rest
  HasKnownSequences (sequence tag vr items rest) =
      (is_sequence (known_vr tag) ≡ true) × HaveKnownSequences items × HasKnownSequences rest

  pub HaveKnownSequences : ItemList → Type 0
  HaveKnownSequences no_items = Unit {0}
  HaveKnownSequences (item d rest) = HasKnownSequences d × HaveKnownSequences rest

-- Implicit does not tell a sequence of defined length from octets where the tag is unknown.
abbrev pub IsReadBack : Syntax → ElementList → Type 0
IsReadBack Explicit d = Unit {0}
IsReadBack Implicit d = HasKnownSequences d
