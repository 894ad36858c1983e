-- Worklist queries (PS3.4 sections K.4.1 and K.6.1.2).
use Rattle.std.specs.Prelude.{ℕ, List, Result, Ok, Err, if◌then◌else◌}
use Rattle.std.specs.List.{filter_map}
use Rattle.dq_dataset.specs.declared.header.Syntax.{Syntax}
use Rattle.dq_dataset.specs.Tree.{ElementList}
use Rattle.dq_dimse.specs.Received.{Message}
use Rattle.dq_dimse.specs.Receiving.{identifier_in}
use Rattle.dq_dimse.specs.Statuses.{success, does_not_match_sop_class}
use Rattle.dq_match.specs.declared.responses.Found.{Found}
use Rattle.dq_match.specs.declared.supported.KeyList.TheVariants.{Entry as EntryKeys}
use Rattle.dq_match.specs.declared.supported.KeyScope.TheVariants.{Identifier}
use Rattle.dq_match.specs.Identifiers.{is_query}
use Rattle.dq_match.specs.Supported.{supported_part, has_unsupported}
use Rattle.dq_match.specs.Answers.{refused_with, answer_to_keys}
use Rattle.dq_tables.specs.Rows.{Record}
use Rattle.dq_tables.specs.Records.{data_set_of}
use Rattle.dq_tables.specs.Lookups.{waiting_among}
use Rattle.dq_worklist.specs.declared.worklist_query.Query.{Query}

-- what an identifier asks for: its supported keys, with well-formed values
abbrev pub keys_query : ElementList → Result Query ℕ
keys_query identifier =
    let keys = supported_part (Identifier EntryKeys) identifier in
    let optional = has_unsupported (Identifier EntryKeys) identifier in
    if is_query keys then Ok (record { keys = keys; optional = optional })
    else Err does_not_match_sop_class

abbrev pub worklist_identifier_query : Result ElementList ℕ → Result Query ℕ
worklist_identifier_query (Err status) = Err status
worklist_identifier_query (Ok identifier) = keys_query identifier

-- the query of a message, or the status that refuses it (PS3.4 section K.4.1.1.4)
unfoldable pub worklist_query : Message → Syntax → Result Query ℕ
worklist_query message syntax = worklist_identifier_query (identifier_in message syntax)

-- The answers to the keys of a query that the entries give which wait, in their order. They alone
-- are listed (PS3.4 section K.6.1.2).
unfoldable pub answers_of_entries : List Record → ElementList → List ElementList
answers_of_entries records keys =
    filter_map (λ (r : Record). answer_to_keys keys (data_set_of r.octets)) (waiting_among records)

abbrev pub listed_by : List Record → Result Query ℕ → Found
listed_by records (Err status) = refused_with status
listed_by records (Ok query) =
    record { status = success; optional = query.optional; answers = answers_of_entries records query.keys }

unfoldable pub worklist_outcome : List Record → Message → Syntax → Found
worklist_outcome records message syntax = listed_by records (worklist_query message syntax)

-- the same of an identifier that no message brought
unfoldable pub keys_outcome : List Record → ElementList → Found
keys_outcome records identifier = listed_by records (keys_query identifier)
