-- The answers to a worklist query: which entries they are of (PS3.4 section K.4.1).
use Rattle.std.specs.Prelude.{◌≡◌, ◌↔◌, true, false, List, map}
use Rattle.dq_list.specs.Among.{IsAmong}
use Rattle.dq_dataset.specs.Tree.{ElementList}
use Rattle.dq_match.specs.Matching.{fits}
use Rattle.dq_match.specs.Responses.{shown_data_set}
use Rattle.dq_tables.specs.declared.row.Kind.TheVariants.{Entry}
use Rattle.dq_tables.specs.Rows.{Record}
use Rattle.dq_tables.specs.Records.{AreInOrder, data_set_of}

-- a record matches keys: it is kept, it is an entry that waits, since no step has started it (PS3.4
-- section K.6.1.2), and it fits them (PS3.4 section K.4.1.2.1)
pub record MatchesKeys (records : List Record) (keys : ElementList) (r : Record) : Type 0 where
  pub kept : IsAmong r records
  pub kind : r.kind ≡ Entry
  pub waiting : r.started ≡ false
  pub fit : fits keys (data_set_of r.octets) ≡ true

-- The answers to keys are what they are shown of the entries that match, in the order of their ids:
-- there is a list of records, strictly rising by key, of which a record is one exactly where it
-- matches, and each answer is what is shown of its record.
pub record AreEntryAnswers (records : List Record) (keys : ElementList)
    (answers : List ElementList) : Type 0 where
  pub matching : List Record
  pub in_order : AreInOrder matching
  pub exactly : (r : Record) → IsAmong r matching ↔ MatchesKeys records keys r
  pub each_shown : answers ≡ map (λ (r : Record). shown_data_set keys (data_set_of r.octets)) matching
