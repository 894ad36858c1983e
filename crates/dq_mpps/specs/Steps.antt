-- Parts that the creation and the change of a performed procedure step share (PS3.4 section F.7).
use Rattle.std.specs.Prelude.{ℕ, Bool, false, List, [], codes}
use Rattle.dq_vr.specs.Tags.{performed_procedure_step_status}
use Rattle.dq_dataset.specs.declared.header.Syntax.TheVariants.{Explicit}
use Rattle.dq_dataset.specs.Tree.{ElementList}
use Rattle.dq_dataset.specs.Canonical.{canonical}
use Rattle.dq_dataset.specs.Values.{sole_at}
use Rattle.dq_tables.specs.declared.row.Kind.TheVariants.{Step}
use Rattle.dq_tables.specs.Rows.{Record}
use Rattle.dq_tables.specs.Sound.{is_value}

-- the values of Performed Procedure Step Status (0040,0252) (PS3.3 section C.4.14)
abbrev pub in_progress : List ℕ
in_progress = codes "IN PROGRESS"

abbrev pub completed_status : List ℕ
completed_status = codes "COMPLETED"

abbrev pub discontinued_status : List ℕ
discontinued_status = codes "DISCONTINUED"

-- the status, as the only value of its element
unfoldable pub has_status : List ℕ → ElementList → Bool
has_status status d = is_value (sole_at performed_procedure_step_status d) status

-- the record of a step under its SOP Instance UID, with its data set whole
abbrev pub spelled_step : List ℕ → List ℕ → Record
spelled_step uid octets =
    record { kind = Step; key = uid; above = []; octets = octets; started = false }

abbrev pub step_record : List ℕ → ElementList → Record
step_record uid d = spelled_step uid (canonical Explicit d)
