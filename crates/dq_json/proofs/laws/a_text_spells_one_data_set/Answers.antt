use Rattle.std.proofs.Common.{◌≡◌, ℕ, List, inl, inr}
use Rattle.dq_dataset.specs.Tree.{ElementList}
use Rattle.dq_json.specs.declared.json_fault.JsonFault.{JsonFault}
use Rattle.dq_json.specs.declared.json_fault.JsonFault.TheVariants.{NoMemory}
use Rattle.dq_json.specs.JsonReader.{Spells, HasFault}
use Rattle.dq_json.proofs.laws.a_text_spells_one_data_set.Goals as goal

one_spelled : (text : List ℕ) (a b : ElementList) → Spells text a → Spells text b → a ≡ b
one_spelled text a b (utf8, (j, is_j, spells_a)) (same, (k, is_k, spells_b)) = cc

no_fault : (text : List ℕ) (d : ElementList) (fault : JsonFault) → Spells text d → HasFault text fault → fault ≡ NoMemory
no_fault text d fault spells (inl memory) = memory
no_fault text d fault (utf8, (j, is_j, spells)) (inr (inl (octet, is, inl (unlike, at)))) = absurd (unlike utf8)
no_fault text d fault (utf8, (j, is_j, spells)) (inr (inl (octet, is, inr none))) = cc
no_fault text d fault (utf8, (j, is_j, spells)) (inr (inr (k, is_k, failed))) = cc

pub returns-clause-one : goal.returns-clause-one
returns-clause-one c = one_spelled

pub returns-clause-no_fault : goal.returns-clause-no_fault
returns-clause-no_fault c = no_fault
