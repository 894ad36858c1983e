-- The answers of a trial.
use Rattle.std.specs.Prelude.{ℕ, List, [], ◌∷◌, ◌++◌, codes, Result, Ok, Err}
use Rattle.std.specs.Fmt.{decimal}
use Rattle.hex.specs.Hex.{encode_lower}
use Rattle.dq_dataset.specs.declared.fault.ReadFault.{ReadFault}
use Rattle.dq_dataset.specs.FaultNumbers.{read_fault_number}
use Rattle.dq_dataset.specs.declared.header.Syntax.TheVariants.{Implicit, Explicit}
use Rattle.dq_dataset.specs.Tree.{ElementList}
use Rattle.dq_dataset.specs.Canonical.{canonical}
use Rattle.dq_test_data_sets.specs.declared.trial.Answer.{Answer}
use Rattle.dq_test_data_sets.specs.declared.trial.Answer.TheVariants.{Fault, Spelled}

-- for what was read, its canonical spellings, and else the first fault
abbrev pub reading_answer : Result ElementList ReadFault → Answer
reading_answer (Ok d) = Spelled (canonical Explicit d) (canonical Implicit d)
reading_answer (Err fault) = Fault fault

-- a hyphen for no octets, else hexadecimal digits
abbrev pub spelled_octets : List ℕ → List ℕ
spelled_octets [] = codes "-"
spelled_octets (octet ∷ octets) = encode_lower (octet ∷ octets)

-- `fault N`, or the spelling in Explicit and the one in Implicit
abbrev pub answer_text : Answer → List ℕ
answer_text (Fault fault) = codes "fault " ++ decimal (read_fault_number fault)
answer_text (Spelled explicit implicit) = spelled_octets explicit ++ codes " " ++ spelled_octets implicit
