use Rattle.std.proofs.Common.{sym, ◌∙◌}
use Rattle.dq_request.proofs.Words.{no_key}
use Rattle.dq_request.proofs.search.key_given.Goals as goal

pub returns-in-None : goal.returns-in-None
returns-in-None c =
    no_key c.args.name.now c.args.text.now c.in-Some.tag c.in-Some-lookup.vr (sym c.tag_named.ensures ∙ c.in-Some.is) (sym c.lookup.ensures ∙ c.in-Some-lookup.is)
    (rw c.in-None.is at c.in_ok-value.ensures)
