use Rattle.std.proofs.Common.{lit<, sym, arith}
use Rattle.std.proofs.lemmas.List.{take_all, drop_all}
use Rattle.std.proofs.lemmas.Str.Pattern.{split_once_first}
use Rattle.dq_web.proofs.aim.path_and_query.Goals as goal

pub returns-in-Some : goal.returns-in-Some
returns-in-Some c =
    let parts = rw c.in-Some.is at (split_once_first 63 c.args.text.now c.split_once.result c.split_once.ensures.cases (lit< tt)) in
    (parts.1, parts.2)

pub returns-in-None : goal.returns-in-None
returns-in-None c =
    let none = rw c.in-None.is at (split_once_first 63 c.args.text.now c.split_once.result c.split_once.ensures.cases (lit< tt)) in
    (sym (take_all _ c.args.text.now (omega (arith, none))), sym (drop_all _ c.args.text.now (omega (arith, none))))
