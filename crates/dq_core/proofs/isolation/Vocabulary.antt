-- The types and the definitions that many lemmas here speak of.
pub use Rattle.dq_pdu.specs.declared.pdu.Request.{Request}
pub use Rattle.dq_assoc.specs.declared.association.Verdict.{Verdict}
pub use Rattle.dq_assoc.specs.Table.{Bad, Input, Line, Released, Requested, Sent, answer_octets, line}
pub use Rattle.dq_assoc.specs.Inputs.{AreInputs, after_leading_pdvs, closing_input, closing_inputs, inputs, inputs_after, inputs_of_roles, inputs_past, leading_pdvs, misplaced_input}
pub use Rattle.dq_assoc.specs.declared.agreement.Agreement.{Agreement}
pub use Rattle.dq_config.specs.declared.config.Institution.{Institution}
pub use Rattle.dq_core.specs.declared.event.Event.{Event}
pub use Rattle.dq_tables.specs.declared.row.Row.{Row}
pub use Rattle.dq_config.specs.Limits.{Limits, limits_of}
pub use Rattle.dq_assoc.specs.Negotiation.{agreement_of, context_ids, context_of}
pub use Rattle.dq_tables.specs.Rows.{Operation, Record, after, records_after_edits}
pub use Rattle.dq_core.specs.Services.{ConsoleOrder, Scheduling, Withdrawal, message_outcome}
pub use Rattle.dq_core.specs.Pages.{OpenQuery, next_page, page_length}
pub use Rattle.dq_core.specs.Answers.{Answer, Progress, after_piece, agreement_by, answer_after, input_answer, input_answers, inputs_added, line_answer, message_answer, no_answer, piece_answer, progress_of, request_in, stranger_answer, then_answer, verdict_at}
pub use Rattle.dq_core.specs.Connections.{Connection, connection_in, new_connection, with_connection, with_piece, with_query, without}
pub use Rattle.dq_core.specs.Owners.{HaveOwnNames, is_institution, is_sound_request, live_of, owner, owner_by}
pub use Rattle.dq_core.specs.Shared.{EventEffect, World, answer_by, answer_turn, end_turn, first_world, operations_by, operations_next, order_turn, ordered_turn, owner_turn, piece_turn, pull_turn, quiet_turn, replies, replies_from, rows_within, turn, world_after, world_after_turn, world_from}
pub use Rattle.dq_core.specs.Own.{Close, Octet, Output, close_if, is_on, is_on_connection, is_own_event, octets_of_pieces, outputs_in, outputs_on, own, owns, replies_at, stream_of}
pub use Rattle.dq_core.specs.Soundness.{AreMade, BringOctets, BringsOctets, CameAsOctets, HoldDataSets, HoldSound, HoldsOctets, ServicesKeep}
pub use Rattle.dq_core.specs.Conversations.{AnotherMessage, AreAllSent, AreFinished, Arrival, Cancel, ConnectionEnd, InputAt, IsAnsweredAt, IsExactAt, Next, NoMessage, PageRequest, all_responses, arrivals, arrivals_at, conversation, conversation_on, exchange, input_arrivals, response_octets_of, responses_in_pages, responses_sent, sequel, without_page_requests}
pub use Rattle.dq_core.specs.declared.event.Reply.{Reply}
pub use Rattle.dq_core.specs.Histories.{is_above, is_well_formed_history, newest_after, opened_numbers, rises_from}
pub use Rattle.dq_core.specs.Runs.{IsLeftOf, IsOwnRun, IsRun}
pub use Rattle.dq_dataset.specs.Tree.{ElementList, no_elements}
pub use Rattle.dq_dataset.specs.declared.header.Syntax.{Syntax}
pub use Rattle.dq_dimse.specs.CommandFields.{c_cancel, c_echo, c_find, c_store, n_create, n_set}
pub use Rattle.dq_dimse.specs.Received.{Message}
pub use Rattle.dq_dimse.specs.Statuses.{elements_discarded, success}
pub use Rattle.dq_assoc.specs.declared.agreement.AcceptedContext.{AcceptedContext}
pub use Rattle.dq_assoc.specs.declared.classes.Service.TheVariants.{PerformedProcedureStep, Storage, StudyRootFind, Verification, WorklistFind}
pub use Rattle.dq_assoc.specs.Classes.{service_of, uid_of}
pub use Rattle.dq_tables.specs.Sound.{IsSound}
pub use Rattle.dq_core.specs.declared.dimse_operation.DimseOperation.{DimseOperation}
pub use Rattle.dq_core.specs.declared.dimse_operation.DimseOperation.TheVariants.{CreateStep, Echo, FindEntries, FindStudies, SetStep, Store}
pub use Rattle.dq_core.specs.Isolation.{Agree, Begins, IsPrefix, own_among, own_operations, own_replies, own_rows_within, replies_alone, stranger_replies, world_alone}
pub use Rattle.dq_core.specs.Alone.{AloneTurn, AloneWorld, alone_after, alone_after_turn, alone_answer, alone_answer_turn, alone_end, alone_live, alone_opening, alone_order, alone_piece, alone_pull, alone_quiet, alone_replies, alone_replies_from, alone_turn, alone_world_from, changes_next, records_within}
pub use Rattle.dq_list.specs.Octets.{AreOctets}
pub use Rattle.dq_assoc.specs.After.{is_closed}
