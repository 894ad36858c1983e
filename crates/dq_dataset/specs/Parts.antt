-- The spelling and the lengths of one element.
use Rattle.std.specs.Prelude.{◌≡◌, ℕ, List}
use Rattle.dq_dataset.specs.declared.header.Syntax.{Syntax}
use Rattle.dq_vr.specs.declared.Vr.{Vr}
use Rattle.dq_vr.specs.declared.Vr.TheVariants.{SQ}
use Rattle.dq_dataset.specs.declared.data_set.Element.{Element}
use Rattle.dq_dataset.specs.declared.data_set.Value.{Value}
use Rattle.dq_dataset.specs.declared.data_set.Value.TheVariants.{Octets, Items}
use Rattle.dq_dataset.specs.Tree.{no_elements}
use Rattle.dq_dataset.specs.View.{with_value}
use Rattle.dq_dataset.specs.Canonical.{canonical, HasLengths}

abbrev pub canonical_element : Syntax → Element → List ℕ
canonical_element syntax e = canonical syntax (with_value e e.value no_elements)

abbrev pub ElementHasLengths : Syntax → Element → Type 0
ElementHasLengths syntax e = HasLengths syntax (with_value e e.value no_elements)

-- Items have the VR SQ, so that their length has 4 octets in both syntaxes.
abbrev pub has_sequence_vr : Vr → Value → Type 0
has_sequence_vr vr (Octets octets) = Unit {0}
has_sequence_vr vr (Items items) = vr ≡ SQ

abbrev pub HasSequenceVr : Element → Type 0
HasSequenceVr e = has_sequence_vr e.vr e.value
