use Rattle.std.proofs.Common.{◌≡◌, List, ℕ, [], map, Option, Some, None, Result, Ok, Err, IfOk, option_map, ap, ◌∙◌}
use Rattle.std.specs.Borrow.{Bor}
use Rattle.std.specs.Prelude.{unwrap_or, Vec}
use Rattle.clap.specs.Words.{Row, Text, all_of, found_of, subcommand_rows_of}
use Rattle.clap.proofs.WalkLemmas.{raw_values-rows}
use Rattle.dq_cli.specs.Clap.{values_in}
use Rattle.dq_cli.proofs.options.values_in.Goals as goal

-- the values of an option, by what the subcommand has for it
values_in-rows : (name : Text) (rows : List Row) (sub : Option (Text × List Row)) (found : Option (List Text))
    → found ≡ all_of name rows → Some rows ≡ option_map (λ p. p.1) sub → unwrap_or found [] ≡ values_in name sub
values_in-rows name rows None found is same = cc
values_in-rows name rows (Some p) found is same =
    let e : rows ≡ p.1 = cc in ap (λ some. unwrap_or some []) is ∙ ap (λ some. unwrap_or (all_of name some) []) e

copied : {A E : Type 0} (r : Result (Vec (Bor (List ℕ)) A) E) (values : List (Bor (List ℕ))) (wanted : List Text)
    → map (λ value. value.now) values ≡ wanted → IfOk r (λ v. v.items ≡ values) → IfOk r (λ v. map (λ value. value.now) v.items ≡ wanted)
copied (Ok v) values wanted is same = rw same is
copied (Err e) values wanted is same = tt

pub returns-in-Some-get_strs : goal.returns-in-Some-get_strs
returns-in-Some-get_strs c =
    copied c.from_slice.result c.in-Some-get_strs.values.now (values_in c.args.name.now (subcommand_rows_of c.args.matches.now))
    (values_in-rows c.args.name.now _ (subcommand_rows_of c.args.matches.now) (Some (map (λ value. value.now) c.in-Some-get_strs.values.now))
    (c.in-Some-get_strs.ensures ∙ raw_values-rows (found_of c.in-Some.options.now) c.args.name.now) c.in-Some.ensures.rows)
    c.from_slice.ensures.items

pub returns-in-None : goal.returns-in-None
returns-in-None c =
    ap (map (λ (value : Bor (List ℕ)). value.now)) c.new-in-None.ensures.items
    ∙ values_in-rows c.args.name.now _ (subcommand_rows_of c.args.matches.now) None
    (c.in-None.ensures ∙ raw_values-rows (found_of c.in-Some.options.now) c.args.name.now) c.in-Some.ensures.rows
