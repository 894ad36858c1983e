-- The records of an institution after a step is changed (PS3.4 section F.7.2.2).
use Rattle.std.specs.Prelude.{◌≡◌, ◌≢◌, ℕ, true, List, Some, None}
use Rattle.dq_vr.specs.declared.Tag.{Tag}
use Rattle.dq_dataset.specs.declared.data_set.Element.{Element}
use Rattle.dq_dataset.specs.Tree.{ElementList}
use Rattle.dq_dataset.specs.Values.{element_at}
use Rattle.dq_tables.specs.declared.row.Kind.{Kind}
use Rattle.dq_tables.specs.declared.row.Kind.TheVariants.{Step}
use Rattle.dq_tables.specs.Rows.{Record}
use Rattle.dq_tables.specs.Lookups.{record_at}
use Rattle.dq_mpps.specs.Attributes.{is_fixed}
use Rattle.dq_mpps.specs.Steps.{step_record}
use Rattle.dq_mpps.specs.NSet.{kept_data_set}

-- the data set of the step that is kept under a UID
abbrev pub step_at : List ℕ → List Record → ElementList
step_at uid records = kept_data_set (record_at Step uid records)

-- The step is kept under its UID, each element that was sent stands in it, and any other as it was
-- kept. What is fixed is as it was kept, and so is each other record.
pub record IsStepChanged (records after : List Record) (uid : List ℕ) (sent : ElementList)
    : Type 0 where
  pub kept : record_at Step uid after ≡ Some (step_record uid (step_at uid after))
  pub stands : (tag : Tag) (e : Element) → element_at tag sent ≡ Some e
      → element_at tag (step_at uid after) ≡ Some e
  pub unsent : (tag : Tag) → element_at tag sent ≡ None
      → element_at tag (step_at uid after) ≡ element_at tag (step_at uid records)
  pub fixed : (e : Element) → is_fixed e ≡ true
      → element_at e.tag (step_at uid after) ≡ element_at e.tag (step_at uid records)
  pub others : (kind : Kind) (key : List ℕ) → (kind ≡ Step → key ≢ uid)
      → record_at kind key after ≡ record_at kind key records
