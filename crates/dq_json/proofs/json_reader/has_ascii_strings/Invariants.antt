use Rattle.std.proofs.Common.{◌≡◌, length}
use Rattle.std.specs.List.{list_all}
use Rattle.json.specs.Lex.{tokens}
use Rattle.dq_json.specs.JsonReader.{is_ascii_token}
use Rattle.dq_json.proofs.json_reader.has_ascii_strings.Given as goal

abbrev pub invariant-loop-token : goal.invariant-loop-token
invariant-loop-token l = list_all is_ascii_token (tokens l.text) ≡ list_all is_ascii_token l.reader

abbrev pub decreases-loop-token : goal.decreases-loop-token
decreases-loop-token l = length l.reader
