use Rattle.dq_tables.specs.Rows.{Record}
use Rattle.std.proofs.Common.{List}
use Rattle.dq_match.specs.ShownPages.{found_page, shown_page}
use Rattle.dq_core.specs.Showing.{found_in, steps_in}
use Rattle.dq_core.proofs.isolation.Showing.{shown-alone, shown-alike}
use Rattle.dq_core.proofs.laws.what_is_shown_is_own.Goals as goal

pub returns-clause-found : goal.returns-clause-found
returns-clause-found c = λ institutions rows events i kind keys page begins.
    shown-alone (λ (records : List Record). found_page page (found_in kind keys records)) institutions i _ _ begins.own_names begins.listed
    (c.institutions_are_isolated.ensures.records institutions rows events i begins)

pub returns-clause-steps : goal.returns-clause-steps
returns-clause-steps c = λ institutions rows events i page begins.
    shown-alone (λ (records : List Record). shown_page page (steps_in records)) institutions i _ _ begins.own_names begins.listed
    (c.institutions_are_isolated.ensures.records institutions rows events i begins)

pub returns-clause-own_rows : goal.returns-clause-own_rows
returns-clause-own_rows c = λ institutions name rows alike kind keys page same.
    shown-alike (λ (records : List Record). found_page page (found_in kind keys records)) institutions name rows alike same

pub returns-clause-own_steps : goal.returns-clause-own_steps
returns-clause-own_steps c = λ institutions name rows alike page same.
    shown-alike (λ (records : List Record). shown_page page (steps_in records)) institutions name rows alike same
