-- The types that lemmas speak of, with their variants.
pub use Rattle.dq_vr.specs.declared.Tag.{Tag}
pub use Rattle.dq_vr.specs.declared.Vr.{Vr}
pub use Rattle.dq_vr.specs.declared.Vr.TheVariants.{SQ, UN, AE}
pub use Rattle.dq_vr.specs.declared.LengthForm.{LengthForm}
pub use Rattle.dq_vr.specs.declared.LengthForm.TheVariants.{Two, Four}
pub use Rattle.dq_dataset.specs.declared.fault.ReadFault.{ReadFault}
pub use Rattle.dq_dataset.specs.declared.fault.ReadFault.TheVariants.{Truncated, BadVr, TagOrder, BadItem, BadUndefined, TooDeep, NoMemory}
pub use Rattle.dq_dataset.specs.declared.header.Syntax.{Syntax}
pub use Rattle.dq_dataset.specs.declared.header.Syntax.TheVariants.{Implicit, Explicit}
pub use Rattle.dq_dataset.specs.declared.header.Bound.{Bound}
pub use Rattle.dq_dataset.specs.declared.header.Bound.TheVariants.{Filled, Delimited}
pub use Rattle.dq_dataset.specs.declared.header.Content.{Content}
pub use Rattle.dq_dataset.specs.declared.header.Content.TheVariants.{Sequence, Plain}
pub use Rattle.dq_dataset.specs.declared.header.Header.{Header}
pub use Rattle.dq_dataset.specs.declared.data_set.Element.{Element}
pub use Rattle.dq_dataset.specs.declared.data_set.Value.{Value}
pub use Rattle.dq_dataset.specs.declared.data_set.Value.TheVariants.{Octets, Items}
pub use Rattle.dq_dataset.specs.Tree.{ElementList, no_elements, element, sequence, ItemList, no_items, item}
