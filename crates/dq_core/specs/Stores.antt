-- Properties of the response to a C-STORE (PS3.4 section B.2.3).
use Rattle.std.specs.Prelude.{◌≡◌, ℕ, true, false, List, Some}
use Rattle.std.specs.Result.{result_unwrap_or}
use Rattle.dq_dataset.specs.Tree.{no_elements}
use Rattle.dq_dataset.specs.DataSetReader.{data_set_read}
use Rattle.dq_dimse.specs.Received.{Message}
use Rattle.dq_dimse.specs.Statuses.{success, elements_discarded}
use Rattle.dq_assoc.specs.declared.agreement.AcceptedContext.{AcceptedContext}
use Rattle.dq_assoc.specs.declared.agreement.Agreement.{Agreement}
use Rattle.dq_assoc.specs.declared.classes.Service.TheVariants.{Storage}
use Rattle.dq_assoc.specs.Classes.{service_of}
use Rattle.dq_assoc.specs.Negotiation.{context_of}
use Rattle.dq_assoc.specs.Table.{Sent}
use Rattle.dq_config.specs.declared.config.Institution.{Institution}
use Rattle.dq_config.specs.Limits.{Limits, limits_of}
use Rattle.dq_tables.specs.declared.row.Row.{Row}
use Rattle.dq_tables.specs.Rows.{Record, of, by, after}
use Rattle.dq_store.specs.Levels.{stands_whole}
use Rattle.dq_store.specs.CStore.{Instance, instance_in}
use Rattle.dq_core.specs.Services.{Responses, service_of_message}
use Rattle.dq_core.specs.Conversations.{Arrival, InputAt}

-- Of an instance that was sent 0000 says that each element stands, with equal octets, in the record
-- of its study, of its series or of its image, and B006 that one does not.
pub record SaysWhatStands (records : List Record) (sent : Instance) (status : ℕ) : Type 0 where
  pub whole : status ≡ success → stands_whole records sent ≡ true
  pub discarded : status ≡ elements_discarded → stands_whole records sent ≡ false

-- So does the response to a message on a context of the service, of the institution's records as
-- the message leaves them.
abbrev pub IsToldTruly : Limits → List ℕ → List Row → Agreement → Message → Type 0
IsToldTruly limits name rows agreement message = (context : AcceptedContext) (r : Responses)
    → context_of agreement message.context ≡ Some context → service_of context.class ≡ Storage
    → (service_of_message limits (of name rows) agreement message).responses ≡ Some r
    → SaysWhatStands
    (of name (after (by name (service_of_message limits (of name rows) agreement message).edits) rows))
    (instance_in (result_unwrap_or (data_set_read context.syntax message.octets) no_elements))
    r.final.0.status

-- Each C-STORE on a connection of an institution is answered so, over the rows as it arrives.
abbrev pub IsToldTrulyAt : Institution → Arrival → Type 0
IsToldTrulyAt i (InputAt world (Sent message)) = (agreement : Agreement)
    → IsToldTruly (limits_of i) i.name world.rows agreement message
IsToldTrulyAt i other = Unit {0}
