-- What a query is answered, by its keys.
use Rattle.std.proofs.Common.{◌≡◌, ◌≢◌, ℕ, List, [], Option, Some, None, Result, Ok, Err, refl, ap}
use Rattle.dq_dataset.specs.declared.header.Syntax.{Syntax}
use Rattle.dq_dataset.specs.Tree.{ElementList}
use Rattle.dq_dimse.specs.Received.{Message}
use Rattle.dq_dimse.specs.Receiving.{identifier_in}
use Rattle.dq_dimse.specs.Statuses.{success}
use Rattle.dq_match.specs.Parts.{found_of}
use Rattle.dq_match.specs.declared.shown_page.ShownPage.{ShownPage}
use Rattle.dq_tables.specs.Rows.{Record}
use Rattle.dq_worklist.specs.declared.worklist_query.Query.{Query}
use Rattle.dq_worklist.specs.Queries.{worklist_identifier_query, worklist_query, answers_of_entries, listed_by, worklist_outcome, keys_outcome}

pub same_by_keys : (records : List Record) (message : Message) (syntax : Syntax) (identifier : ElementList) → identifier_in message syntax ≡ Ok identifier
    → worklist_outcome records message syntax ≡ keys_outcome records identifier
unfolding worklist_outcome worklist_query keys_outcome
same_by_keys records message syntax identifier is = ap (λ (read : Result ElementList ℕ). listed_by records (worklist_identifier_query read)) is

pub listed_answers : (records : List Record) (message : Message) (syntax : Syntax) (query : Query) → worklist_query message syntax ≡ Ok query
    → (worklist_outcome records message syntax).answers ≡ answers_of_entries records query.keys
unfolding worklist_outcome
listed_answers records message syntax query e = ap (λ (q : Result Query ℕ). (listed_by records q).answers) e

refused_by : (records : List Record) (q : Result Query ℕ) → (listed_by records q).status ≢ success → (listed_by records q).answers ≡ []
refused_by records (Ok query) h = absurd (h refl)
refused_by records (Err status) h = refl

pub none_refused : (records : List Record) (message : Message) (syntax : Syntax) → (worklist_outcome records message syntax).status ≢ success
    → (worklist_outcome records message syntax).answers ≡ []
unfolding worklist_outcome
none_refused records message syntax h = refused_by records (worklist_query message syntax) h

-- the page of what is listed, by its answers
pub same_found : (page : Option ShownPage) (records : List Record) (query : Query) (answers : List ElementList)
    → answers ≡ (found_of page (listed_by records (Ok query))).answers
    → record { status = success; optional = query.optional; answers = answers } ≡ found_of page (listed_by records (Ok query))
same_found None records query answers are = ap (λ (a : List ElementList). record { status = success; optional = query.optional; answers = a }) are
same_found (Some page) records query answers are = ap (λ (a : List ElementList). record { status = success; optional = query.optional; answers = a }) are
