-- The answers to a query that were found and not given yet, and the search for the others.
use Rattle.std.specs.Prelude.{List}
use Rattle.dq_dataset.specs.Tree.{ElementList}
use Rattle.dq_find.specs.declared.open_search.OpenSearch.{OpenSearch}

pub record PartialAnswers : Type 0 where
  pub found : List ElementList
  pub search : OpenSearch
