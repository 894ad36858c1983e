-- What is read of octets is the data set that they spell.
use Rattle.std.proofs.Common.{◌≡◌, List, ℕ, Some, Result, Ok, Err, refl, ap, subst, ◌∙◌, arith}
use Rattle.std.specs.Prelude.{nat_lt}
use Rattle.std.proofs.lemmas.Bool.{ltb-true, lt-ltb}
use Rattle.std.specs.List.{list_all}
use Rattle.dq_list.specs.Octets.{AreOctets}
use Rattle.dq_dataset.specs.declared.fault.ReadFault.{ReadFault}
use Rattle.dq_dataset.specs.declared.header.Syntax.{Syntax}
use Rattle.dq_dataset.specs.declared.header.Syntax.TheVariants.{Implicit}
use Rattle.dq_dataset.specs.Tree.{ElementList}
use Rattle.dq_dataset.specs.View.{elements_of}
use Rattle.dq_dataset.specs.DataSetReader.{data_set_read}
use Rattle.dq_dataset.specs.Grammar.{IsSpelled}
use Rattle.dq_list.specs.Readers.{◌>>=◌, only_if}
use Rattle.dq_list.proofs.Readers.{bind_some, provided_some}
use Rattle.dq_dimse.specs.declared.command.Command.{Command}
use Rattle.dq_dimse.specs.Commands.{belongs, unsigned_short_at, id_number, command_from, read_set, command_of}
use Rattle.dq_dimse.specs.CommandElements.{command_field, command_data_set_type}
use Rattle.dq_dimse.specs.CommandFields.{response_bit}
use Rattle.dq_dimse.specs.CommandSets.{SaysCommand, IsCommandSet}

set_read : (r : Result ElementList ReadFault) (set : ElementList) → read_set r ≡ Some set → r ≡ Ok set
set_read (Ok x) set e = cc
set_read (Err f) set e = absurd cc

-- ---- the fields

pub says_command : (set : ElementList) (command : Command) → command_from set ≡ Some command → SaysCommand set command
unfolding command_from
says_command set command e =
    let code = bind_some (unsigned_short_at command_field set) _ command e in
    let type = bind_some (unsigned_short_at command_data_set_type set) _ command code.2 in
    let id = bind_some (unsigned_short_at (id_number code.0) set) _ command type.2 in
    let test = provided_some (nat_lt code.0 response_bit) _ command id.2 in
    subst (SaysCommand set) test.1 (record {
      code = code.1;
      is_request = ltb-true code.0 response_bit test.0;
      id = id.1;
      data_set_type = type.0;
      type_is = type.1;
      with_data = refl;
      sop_class = refl;
      sop_instance = refl;
      no_status = refl;
    })

pub command_said : (set : ElementList) (command : Command) → SaysCommand set command → command_from set ≡ Some command
unfolding command_from
command_said set command h = grind (arith, lt-ltb)

-- ---- the octets

-- what is read is spelled, and what is spelled is read
abbrev pub ReadIsSpelled : Type 0
ReadIsSpelled = (syntax : Syntax) (octets : List ℕ) (d : ElementList) → AreOctets octets → data_set_read syntax octets ≡ Ok d → IsSpelled syntax octets d

abbrev pub SpelledIsRead : Type 0
SpelledIsRead = (syntax : Syntax) (octets : List ℕ) (d : ElementList) → IsSpelled syntax octets d → data_set_read syntax octets ≡ Ok d

pub is_command_set : ReadIsSpelled → (octets : List ℕ) (command : Command) → AreOctets octets → command_of octets ≡ Some command → IsCommandSet octets command
unfolding command_of
is_command_set spelled octets command bytes e =
    let first = bind_some (read_set (data_set_read Implicit octets)) (λ set. only_if (list_all belongs (elements_of set)) set >>= command_from) command e in
    let set = first.0 in
    let second = bind_some (only_if (list_all belongs (elements_of set)) set) command_from command first.2 in
    let test = provided_some (list_all belongs (elements_of set)) set second.0 second.1 in
    record {
      set = set;
      spells = record { spelled = spelled Implicit octets set bytes (set_read (data_set_read Implicit octets) set first.1); own = test.0 };
      says = says_command set command (ap command_from test.1 ∙ second.2);
    }

pub command_set_read : SpelledIsRead → (octets : List ℕ) (command : Command) → IsCommandSet octets command → command_of octets ≡ Some command
unfolding command_of
command_set_read read octets command h = rw (read Implicit octets h.set h.spells.spelled, h.spells.own) (command_said h.set command h.says)
