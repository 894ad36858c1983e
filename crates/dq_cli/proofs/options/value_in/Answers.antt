use Rattle.std.proofs.Common.{◌≡◌, List, Option, Some, None, option_map, ap, ◌∙◌}
use Rattle.clap.specs.Words.{Row, Text, first_of, found_of, subcommand_rows_of}
use Rattle.clap.proofs.WalkLemmas.{first_value-rows}
use Rattle.dq_cli.specs.Clap.{value_in}
use Rattle.dq_cli.proofs.options.value_in.Goals as goal

value_in-rows : (name : Text) (rows : List Row) (sub : Option (Text × List Row)) → Some rows ≡ option_map (λ p. p.1) sub → first_of name rows ≡ value_in name sub
value_in-rows name rows None same = cc
value_in-rows name rows (Some p) same = let e : rows ≡ p.1 = cc in ap (first_of name) e

pub returns : goal.returns
returns c =
    c.get_str.ensures ∙ first_value-rows (found_of c.in_ok-options.options.now) c.args.name.now
    ∙ value_in-rows c.args.name.now _ (subcommand_rows_of c.args.matches.now) c.in_ok-options.ensures.rows
