use Rattle.dq_dimse.proofs.Fragments.{are_fragments, only_fragments}
use Rattle.dq_dimse.proofs.laws.fragments_are_the_only.Goals as goal

pub returns-clause-are : goal.returns-clause-are
returns-clause-are c = are_fragments

pub returns-clause-only : goal.returns-clause-only
returns-clause-only c = only_fragments
