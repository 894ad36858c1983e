-- Why a text is not the DICOM JSON Model object of a data set, and what is told of it.
use Rattle.std.specs.Prelude.{ℕ, ◌++◌, List, [], ◌∷◌, codes, Option, Some, None}
use Rattle.std.specs.Fmt.{decimal}
use Rattle.dq_vr.specs.declared.Tag.{Tag}
use Rattle.dq_json.specs.declared.json_fault.Rule.{Rule}
use Rattle.dq_json.specs.declared.json_fault.Rule.TheVariants.{Object, Name, Order, Vr, Value, Depth, CharacterSet}
use Rattle.dq_json.specs.declared.json_fault.JsonFault.{JsonFault}
use Rattle.dq_json.specs.declared.json_fault.JsonFault.TheVariants.{Syntax, Form, NoMemory}
use Rattle.dq_json.specs.Text.{tag_digits}

abbrev pub broken : Rule → Option Tag → JsonFault
broken rule place = Form (record { rule = rule; place = place })

abbrev pub rule_word : Rule → List ℕ
rule_word Object = codes "object"
rule_word Name = codes "name"
rule_word Order = codes "order"
rule_word Vr = codes "vr"
rule_word Value = codes "value"
rule_word Depth = codes "depth"
rule_word CharacterSet = codes "character set"

abbrev pub place_text : Option Tag → List ℕ
place_text None = []
place_text (Some tag) = codes " " ++ tag_digits tag

-- the octet, or the rule with the digits of the tag
abbrev pub fault_text : JsonFault → List ℕ
fault_text (Syntax octet) = codes "json octet " ++ decimal octet
fault_text (Form broken) = codes "json " ++ rule_word broken.rule ++ place_text broken.place
fault_text NoMemory = codes "json memory"
