-- What a reader answers, beside the grammar.
use Rattle.std.proofs.Common.{◌≡◌, ◌⊎◌, ℕ, List, Result, Ok, Err, arith}
use Rattle.std.specs.Prelude.{IfOk, IfErr}
use Rattle.dq_list.specs.Octets.{AreOctets}
use Rattle.dq_dataset.proofs.Types.{ReadFault, NoMemory, Syntax, ElementList}
use Rattle.dq_dataset.specs.DataSetReader.{GivesOrReadFault, data_set_read}
use Rattle.dq_dataset.specs.Faults.{IsFaulty}
use Rattle.dq_dataset.specs.Grammar.{IsSpelled}
use Rattle.dq_dataset.proofs.SpelledOrFaulty.{reading_is_spelled, read_is_faulty}
use Rattle.dq_dataset.proofs.SpelledIsRead.{spelled_is_read}

pub found_is_spelled : (syntax : Syntax) (octets : List ℕ) (r : Result ElementList ReadFault) → AreOctets octets → GivesOrReadFault (λ d. d) r (data_set_read syntax octets)
    → IfOk r (λ d. IsSpelled syntax octets d)
found_is_spelled syntax octets (Ok d) ok e = reading_is_spelled syntax octets d ok e
found_is_spelled syntax octets (Err f) ok e = tt

pub err_is_faulty : (syntax : Syntax) (octets : List ℕ) (r : Result ElementList ReadFault) → AreOctets octets → GivesOrReadFault (λ d. d) r (data_set_read syntax octets)
    → IfErr r (λ f. (f ≡ NoMemory) ⊎ IsFaulty syntax octets f)
err_is_faulty syntax octets r ok e = grind (arith, read_is_faulty)

pub spelled_is_given : (syntax : Syntax) (octets : List ℕ) (r : Result ElementList ReadFault) (d : ElementList) → IsSpelled syntax octets d
    → GivesOrReadFault (λ d. d) r (data_set_read syntax octets) → GivesOrReadFault (λ d. d) r (Ok d)
spelled_is_given syntax octets r d spells e = grind (arith, spelled_is_read)
