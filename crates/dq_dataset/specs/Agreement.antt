-- The elements lent of octets, compared with the grammar: one for each element, and then the first fault.
use Rattle.std.specs.Prelude.{◌≡◌, List, [], ◌∷◌, ◌++◌, ℕ, Option, None, Result, Ok, Err, ◌⊎◌}
use Rattle.dq_vr.specs.declared.Tag.{Tag}
use Rattle.dq_vr.specs.Dictionary.{known_vr}
use Rattle.std.specs.Prelude.{Some}
use Rattle.dq_dataset.specs.declared.fault.ReadFault.{ReadFault}
use Rattle.dq_dataset.specs.declared.header.Syntax.{Syntax}
use Rattle.dq_dataset.specs.declared.header.Content.{Content}
use Rattle.dq_dataset.specs.declared.header.Bound.TheVariants.{Filled}
use Rattle.dq_dataset.specs.declared.data_set.Element.{Element}
use Rattle.dq_dataset.specs.declared.data_set.Value.{Value}
use Rattle.dq_dataset.specs.declared.data_set.Value.TheVariants.{Octets, Items}
use Rattle.dq_dataset.specs.Tree.{ElementList, no_elements}
use Rattle.dq_dataset.specs.View.{elements_of}
use Rattle.dq_dataset.specs.Rules.{padded_value, vr_of}
use Rattle.dq_dataset.specs.Grammar.{IsPlaced, IsHeader, SpellsValue, SpellsItems, without_group_length, IsSpelled}
use Rattle.dq_dataset.specs.Faults.{HasFault}
use Rattle.dq_dataset.specs.Lending.{Spelled}

-- The octets are those of the value before its pad, or spell its items, up to the last one, in the
-- syntax that is lent.
abbrev pub IsLentValue : Spelled → Value → Type 0
IsLentValue spelled (Octets held) = held ≡ padded_value spelled.vr spelled.octets
IsLentValue spelled (Items items) = SpellsItems Filled spelled.syntax 15 spelled.octets items

pub record IsLent (spelled : Spelled) (element : Element) : Type 0 where
  pub tag : spelled.tag ≡ element.tag
  pub vr : spelled.vr ≡ element.vr
  pub value : IsLentValue spelled element.value

-- One is lent for each element, in order, and then the last ones.
abbrev pub Lends : List (Result Spelled ReadFault) → List Element → List (Result Spelled ReadFault)
    → Type 0
Lends xs [] last = xs ≡ last
Lends [] (e ∷ es) last = ⊥
Lends (Ok x ∷ xs) (e ∷ es) last = IsLent x e × Lends xs es last
Lends (Err f ∷ xs) (e ∷ es) last = ⊥

-- After the tag last stands no element at the front of the octets.
abbrev pub NoElement : Syntax → Option Tag → List ℕ → Type 0
NoElement syntax last octets =
    (tag : Tag) (content : Content) (header value rest : List ℕ) (held : Value) → IsPlaced last tag
    → IsHeader syntax tag content header
    → SpellsValue 16 (vr_of (known_vr tag) content) content value held
    → octets ≡ header ++ (value ++ rest) → ⊥

-- The octets begin with these elements, all that stand before the first fault.
pub data FaultAfter : Syntax → Option Tag → List ℕ → ElementList → ReadFault → Type 0 where
  at_once : (syntax : Syntax) (last : Option Tag) (octets : List ℕ) (fault : ReadFault)
      → NoElement syntax last octets → HasFault Filled syntax 16 last octets fault
      → FaultAfter syntax last octets no_elements fault
  after_one : (syntax : Syntax) (last : Option Tag) (octets : List ℕ) (all : ElementList)
      (fault : ReadFault) (tag : Tag) (content : Content) (header value rest : List ℕ)
      (held : Value) (others : ElementList)
      → IsPlaced last tag → IsHeader syntax tag content header
      → SpellsValue 16 (vr_of (known_vr tag) content) content value held
      → FaultAfter syntax (Some tag) rest others fault
      → octets ≡ header ++ (value ++ rest)
      → all ≡ without_group_length tag (vr_of (known_vr tag) content) held others
      → FaultAfter syntax last octets all fault

-- One is lent for each element of the data set, or for each before the first fault, and then that.
abbrev pub AgreesWith : Syntax → List ℕ → List (Result Spelled ReadFault) → Type 0
AgreesWith syntax octets lent =
    ((d : ElementList) × IsSpelled syntax octets d × Lends lent (elements_of d) [])
    ⊎ ((d : ElementList) × (fault : ReadFault) × FaultAfter syntax None octets d fault
    × Lends lent (elements_of d) (Err fault ∷ []))
