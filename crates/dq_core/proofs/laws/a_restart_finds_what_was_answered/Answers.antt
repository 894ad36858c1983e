use Rattle.std.specs.Prelude.{Contains}
use Rattle.dq_config.specs.declared.config.Institution.{Institution}
use Rattle.dq_core.proofs.Running.{begun, left-of}
use Rattle.dq_core.proofs.laws.a_restart_finds_what_was_answered.Goals as goal

pub returns-clause-restart : goal.returns-clause-restart
returns-clause-restart g c = λ honest settled found may.
    let rows = (g.T.Tables.state c.args.tables).rows in
    let now = g.T.Tables.state c.in_ok-outcome.outcome.tables in
    let events = c.args.events.items in
    let given = c.in_ok-outcome.outcome.replies in
    let ran = c.in_ok-outcome.ensures.ran honest in
    let rest = left-of c.args.config rows events given now c.in_ok-outcome.outcome.fault ran (λ none. c.in_ok-outcome.ensures.settled honest none settled)
    (λ some. c.in_ok-outcome.ensures.crash honest some settled) found may in
    let begins = λ (i : Institution) (k : Contains c.args.config i). begun i (c.institutions_have_own_names.ensures c.args.config c.is_sound.ensures) k
    (g.met.T.Tables.sound c.args.tables (c.in_ok-outcome.ensures.was_honest honest)).rising c.requires.formed in
    record {
      answered = ran.first_replies;
      left = rest;
      own_before = λ i k. c.what_a_crash_leaves.ensures.own c.args.config rows events given now.rows found ran rest i (begins i k);
      own_after = λ i k more formed. c.institutions_are_isolated.ensures.replies c.args.config found more i
          (c.what_a_crash_leaves.ensures.again c.args.config rows events given now.rows found rest i (begins i k) more formed);
    }
