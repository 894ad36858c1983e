use Rattle.std.proofs.Common.{sym, ◌∙◌, inl, inr}
use Rattle.dq_dataset.proofs.FaultyIsRead.{faulty_is_read}
use Rattle.dq_dataset.specs.Tree.{ElementList}
use Rattle.dq_dataset.proofs.Fields.{err_is, no_fault}
use Rattle.dq_dataset.proofs.SpelledOrFaulty.{read_is_faulty, one_of_both}
use Rattle.dq_dataset.proofs.SpelledIsRead.{spelled_is_read}
use Rattle.dq_dataset.proofs.FaultStays.{fault_stays}
use Rattle.dq_dataset.proofs.laws.fault_law.Goals as goal

pub returns-clause-some : goal.returns-clause-some
returns-clause-some c = one_of_both

pub returns-clause-no_other : goal.returns-clause-no_other
returns-clause-no_other c = λ syntax octets d fault spells faulty.
    no_fault d fault (sym (spelled_is_read syntax octets d spells) ∙ faulty_is_read syntax octets fault faulty)

pub returns-clause-one : goal.returns-clause-one
returns-clause-one c = λ syntax octets f g p q. err_is {A = ElementList} f g (sym (faulty_is_read syntax octets f p) ∙ faulty_is_read syntax octets g q)

pub returns-clause-read : goal.returns-clause-read
returns-clause-read c = faulty_is_read

pub returns-clause-faulty : goal.returns-clause-faulty
returns-clause-faulty c = λ syntax octets fault ok e. read_is_faulty syntax octets fault ok e

pub returns-clause-stays_faulty : goal.returns-clause-stays_faulty
returns-clause-stays_faulty c = λ syntax octets more fault ok other faulty.
    elim (fault_stays syntax octets more fault faulty) [ inl missing ↦ absurd (other missing) | inr is ↦ is ]

pub returns-clause-stays : goal.returns-clause-stays
returns-clause-stays c = λ syntax octets more fault ok other e.
    elim (fault_stays syntax octets more fault (read_is_faulty syntax octets fault ok e)) [
      | inl missing ↦ absurd (other missing)
      | inr is ↦ faulty_is_read syntax _ fault is
    ]
