use Rattle.std.proofs.Common.{sym, ◌∙◌}
use Rattle.dq_json.proofs.json_reader.tag_behind.Goals as goal

pub returns-then-follows-clause-facts : goal.returns-then-follows-clause-facts
returns-then-follows-clause-facts c = record {
  rises = sym c.follows.ensures ∙ c.if-follows.true;
  no_delimiter = c.in-Some.ensures.facts.0;
  no_length = c.in-Some.ensures.facts.1;
  group = c.in-Some.ensures.facts.2;
  number = c.in-Some.ensures.facts.3;
}
