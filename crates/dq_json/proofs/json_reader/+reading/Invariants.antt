use Rattle.std.proofs.Common.{◌≡◌, ◌+◌, ◌*◌, None, Some}
use Rattle.dq_dataset.specs.Facts.{AreElements, AreItems}
use Rattle.dq_dataset.specs.View.{as_elements, items_of}
use Rattle.dq_json.specs.Contents.{last_tag}
use Rattle.dq_json.specs.JsonReader.{reader_in, data_set_in}
use Rattle.dq_json.proofs.Reading.{ItemsLeft, ElementsLeft}
use Rattle.dq_json.proofs.json_reader.+reading.Given as goal

abbrev pub decreases-data_sets_of : goal.decreases-data_sets_of
decreases-data_sets_of l = 6 * l.levels + 5

abbrev pub decreases-data_set_in : goal.decreases-data_set_in
decreases-data_set_in l = 6 * l.levels + 4

abbrev pub decreases-elements_of : goal.decreases-elements_of
decreases-elements_of l = 6 * l.levels + 3

abbrev pub decreases-element_of : goal.decreases-element_of
decreases-element_of l = 6 * l.levels + 2

abbrev pub decreases-value_of : goal.decreases-value_of
decreases-value_of l = 6 * l.levels + 1

abbrev pub decreases-sequence_of : goal.decreases-sequence_of
decreases-sequence_of l = 6 * l.levels

abbrev pub invariant-data_sets_of-loop-item : goal.invariant-data_sets_of-loop-item
invariant-data_sets_of-loop-item l =
    ItemsLeft (data_set_in l.levels (Some l.tag)) l.items l.data_sets.items l.item-index × AreItems l.levels (items_of l.data_sets.items)

abbrev pub invariant-elements_of-loop-member : goal.invariant-elements_of-loop-member
invariant-elements_of-loop-member l =
    ElementsLeft (reader_in l.levels) l.members l.elements.items l.last l.member-index
    × AreElements l.levels None (as_elements l.elements.items) × (l.last ≡ last_tag None l.elements.items)
