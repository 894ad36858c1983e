use Rattle.std.proofs.Common.{◌≡◌, drop}
use Rattle.dq_json.specs.Spellings.{octets_in}
use Rattle.dq_json.proofs.Spelled.{behind}
use Rattle.dq_json.proofs.spelled_text.octets_in.Given as goal

abbrev pub invariant-loop-character : goal.invariant-loop-character
invariant-loop-character l =
    octets_in l.table l.characters ≡ behind l.octets.items (octets_in l.table (drop l.character-index l.characters))
