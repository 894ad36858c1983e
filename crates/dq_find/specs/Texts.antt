-- Elements with texts.
use Rattle.std.specs.Prelude.{ℕ, List}
use Rattle.dq_vr.specs.declared.Tag.{Tag}
use Rattle.dq_vr.specs.declared.Vr.{Vr}
use Rattle.dq_dataset.specs.declared.data_set.Element.{Element}
use Rattle.dq_dataset.specs.declared.data_set.Value.TheVariants.{Octets}
use Rattle.dq_dataset.specs.Rules.{padded_value}
use Rattle.dq_dataset.specs.Tree.{ElementList, element}
use Rattle.dq_find.specs.declared.texts.Text.{Text}

-- an element with a text, which gets its pad, before others
abbrev pub text : Tag → Vr → List ℕ → ElementList → ElementList
text tag vr value rest = element tag vr (padded_value vr value) rest

abbrev pub element_of : Text → Element
element_of t = record { tag = t.tag; vr = t.vr; value = Octets (padded_value t.vr t.value.now) }
