-- The definitions on worked examples: what the plain server replies to histories, octet for octet, by computation.
use Rattle.std.specs.Prelude.{◌≡◌, ℕ, List, [], ◌∷◌, ◌++◌, codes, take, drop, true, false, refl}
use Rattle.dq_pdu.specs.Stream.{pdus_within}
use Rattle.dq_pdu.specs.PduReader.{first_pdu, pdu_of, associate_of, fields_of, request_of, item_at, pdv_at, proposed_of, user_information_of, data_pdu_of}
use Rattle.dq_pdu.specs.Octets.{successive_parts}
use Rattle.dq_vr.specs.Dictionary.{dictionary, vr_in, known_vr}
use Rattle.dq_vr.specs.Tag.{is_below}
use Rattle.dq_vr.specs.Vr.{vr_with_letters, vr_among, every_vr, letters_of, length_form_of, is_text}
use Rattle.dq_value.specs.Trimming.{is_padded, ignores_leading_spaces, kept_before, without_leading, without_trailing, without_padding, trimmed_value}
use Rattle.dq_value.specs.Title.{without_spaces}
use Rattle.dq_value.specs.Parts as value
use Rattle.dq_dimse.specs.Assembling.{messages_from}
use Rattle.dq_dimse.specs.Receiving.{identifier_in}
use Rattle.dq_dataset.specs.Rules.{content_of, agrees}
use Rattle.dq_dataset.specs.DataSetReader.{tag_at, vr_at, vr_or_fault, length_at, long_length_at, spelling_at, front_at, header_at, end_at, value_by, element_by, elements_after, elements_by, item_by, items_after, items_by, readers, data_set_read}
use Rattle.dq_dataset.specs.Canonical.{header_octets, vr_and_length}
use Rattle.dq_dataset.specs.Sieve.{is_over_limit}
use Rattle.dq_dataset.specs.Values.{sole_at}
use Rattle.dq_dimse.specs.Commands.{command_from, command_of}
use Rattle.dq_assoc.specs.Classes.{class_of}
use Rattle.dq_core.specs.declared.event.Event.TheVariants.{Open, Piece, End, Schedule, Withdraw}
use Rattle.dq_core.proofs.isolation.Vocabulary.{Reply, replies, own}
use Rattle.dq_core.specs.declared.event.Reply.TheVariants.{Octets, Done, Refused, Ignored}
use Rattle.dq_config.specs.Document.{built_in}
use Rattle.dq_config.specs.Routing.{institution_routed, has_route, joins, institution_named}
use Rattle.dq_match.specs.Supported.{is_supported, key_tags, leaves}
use Rattle.dq_match.specs.Values.{are_well_formed, is_universal, matching_of, octets_meet}
use Rattle.dq_find.specs.Levels.{level_named, has_keys_above}
use Rattle.dq_find.specs.Queries.{message_query, records_asked, answers_of_records, about_answers, query_outcome}
use Rattle.dq_find.specs.ComputedKeys.{computed_keys, study_values, modalities_in, all_in_order, put_in_order}
use Rattle.dq_match.specs.Responses.{shown_data_set}
use Rattle.dq_match.specs.Matching.{asked_days, asked_times, start_day, start_time, period}
use Rattle.dq_store.specs.CStore.{names_instance, store_outcome}
use Rattle.dq_worklist.specs.Orders.{schedule_outcome, withdrawn}
use Rattle.dq_tables.specs.Rows.{of}
use Rattle.dq_tables.specs.Lookups.{record_at, records_of, records_above}
use Rattle.dq_tables.specs.Records.{data_set_of}
use Rattle.dq_tables.specs.Keys.{uid_at}
use Rattle.dq_core.specs.Services.{service_of_message, console_outcome}
use Rattle.dq_core.specs.Pages.{reaction}
use Rattle.dq_core.specs.Examples.{request_from, associate_request, acceptance_pdu, modality_title, ct1, ct2, ct9, four_contexts, four_results, find_request, find_accepted, example_element, example_short_element, value_pdu, request_set, response_set, verification, echo, example_response, echo_response, find_command, find_status, find_level, find_studies, find_uids, found_study, store_on, store_status, north, south, two, kept_study, history, reply_with}

-- a C-ECHO with a private element of undefined length after it, a sequence without items
abbrev echo_with_sequence : List ℕ
echo_with_sequence = value_pdu 90 86 3 (request_set 56 verification 0x0030 0x0101 ++ 0 ∷ 0 ∷ 0x05 ∷ 0x10 ∷ 0xff ∷ 0xff ∷ 0xff ∷ 0xff ∷ 0xfe ∷ 0xff ∷ 0xdd ∷ 0xe0 ∷ 0 ∷ 0 ∷ 0 ∷ 0 ∷ [])

-- and with an empty element of another group after it
abbrev echo_of_two_groups : List ℕ
echo_of_two_groups = value_pdu 82 78 3 (request_set 56 verification 0x0030 0x0101 ++ 0x08 ∷ 0 ∷ 0x18 ∷ 0 ∷ 0 ∷ 0 ∷ 0 ∷ 0 ∷ [])

-- in fragments of two octets, as for a peer that takes PDUs of 8 octets
abbrev in_twos : List ℕ → List ℕ
in_twos (a ∷ b ∷ []) = value_pdu 8 4 3 (a ∷ b ∷ [])
in_twos (a ∷ b ∷ c ∷ octets) = value_pdu 8 4 1 (a ∷ b ∷ []) ++ in_twos (c ∷ octets)
in_twos other = []

-- a C-CANCEL of the message with the id 1
abbrev cancel : List ℕ
cancel = value_pdu 48 44 3
    (example_element 0x0000 4 (30 ∷ 0 ∷ 0 ∷ 0 ∷ []) ++ example_short_element 0x0100 0x0fff ++ example_short_element 0x0120 1 ++ example_short_element 0x0800 0x0101)

-- the short PDUs: their type, and the four octets after the length
abbrev short : ℕ → ℕ → ℕ → ℕ → List ℕ
short kind result source reason = kind ∷ 0 ∷ 0 ∷ 0 ∷ 0 ∷ 4 ∷ 0 ∷ result ∷ source ∷ reason ∷ []

abbrev release : List ℕ
release = short 5 0 0 0

abbrev released : List ℕ
released = short 6 0 0 0

-- a request command without a data set, with a Command Field and a class of 18 octets
abbrev command : ℕ → List ℕ → List ℕ
command code class = value_pdu 74 70 3 (request_set 56 (example_element 0x0002 18 class) code 0x0101)

abbrev verification_class : List ℕ
verification_class = codes "1.2.840.10008.1.1" ++ 0 ∷ []

-- octets, after which the connection is closed
abbrev closed : List ℕ → Reply
closed octets = Octets 1 octets true

-- where messages are served, or refused
with_messages :
    -- a C-ECHO, a PDU a piece, and as one piece
    (replies built_in [] (history (associate_request modality_title ∷ echo ∷ release ∷ [])) ≡ Done ∷ reply_with (acceptance_pdu modality_title) ∷ reply_with echo_response ∷ closed released ∷ [])
    × (replies built_in [] (history ((associate_request modality_title ++ echo ++ release) ∷ [])) ≡ Done ∷ closed (acceptance_pdu modality_title ++ echo_response ++ released) ∷ [])
    -- a sequence in a command set, an element of another group, and fragments of two octets for a peer that takes PDUs of 8
    × (replies built_in [] (history (associate_request modality_title ∷ echo_with_sequence ∷ [])) ≡ Done ∷ reply_with (acceptance_pdu modality_title) ∷ reply_with echo_response ∷ [])
    × (replies built_in [] (history (associate_request modality_title ∷ echo_of_two_groups ∷ [])) ≡ Done ∷ reply_with (acceptance_pdu modality_title) ∷ closed (short 7 0 2 6) ∷ [])
    × (replies built_in [] (history (request_from 1 modality_title 1 8 ∷ echo ∷ [])) ≡ Done ∷ reply_with (acceptance_pdu modality_title) ∷ reply_with
    (in_twos (response_set 66 verification 0x8030 0x0101 0x0000)) ∷ [])
    -- a C-ECHO of another class than the context has; a C-FIND on Verification, of whatever class; a C-CANCEL
    × (replies built_in [] (history (associate_request modality_title ∷ command 0x0030 (codes "1.2.840.10008.1.20") ∷ [])) ≡ Done ∷ reply_with (acceptance_pdu modality_title) ∷ reply_with
    (example_response 0x8030 0x0122) ∷ [])
    × (replies built_in [] (history (associate_request modality_title ∷ command 0x0020 verification_class ∷ command 0x0020
    (codes "1.2.840.10008.1.20") ∷ [])) ≡ Done ∷ reply_with (acceptance_pdu modality_title) ∷ reply_with (example_response 0x8020 0x0211) ∷ reply_with (example_response 0x8020 0x0211) ∷ [])
    × (replies built_in [] (history (associate_request modality_title ∷ cancel ∷ echo ∷ [])) ≡ Done ∷ reply_with (acceptance_pdu modality_title) ∷ reply_with [] ∷ reply_with echo_response ∷ [])
    -- a release in mid-message, and a PDU of unknown type after a message
    × (replies built_in [] (history (associate_request modality_title ∷ (value_pdu 24 20 1 (example_element 0x0000 4
    (56 ∷ 0 ∷ 0 ∷ 0 ∷ []) ++ 0 ∷ 0 ∷ 2 ∷ 0 ∷ 18 ∷ 0 ∷ []) ++ release) ∷ [])) ≡ Done ∷ reply_with (acceptance_pdu modality_title) ∷ closed released ∷ [])
    × (replies built_in [] (history (associate_request modality_title ∷ (echo ++ 8 ∷ 0 ∷ 0 ∷ 0 ∷ 0 ∷ 0 ∷ []) ∷ [])) ≡ Done ∷ reply_with (acceptance_pdu modality_title) ∷ closed (echo_response ++ short 7 0 2 1) ∷ [])
    -- two institutions, PDU by PDU; ends; a piece after the close, and one before the opening
    × (replies (two 4) [] (Open 1 ∷ Open 2 ∷ Piece 2 (associate_request ct2) ∷ Piece 1 (associate_request ct1) ∷ Piece 2 echo ∷ Piece 1 echo ∷
    Piece 1 release ∷ End 1 ∷ End 2 ∷ End 2 ∷ Piece 2 echo ∷ End 9 ∷ []) ≡ Done ∷ Done ∷ Octets 2 (acceptance_pdu ct2) false ∷ Octets 1 (acceptance_pdu ct1)
    false ∷ Octets 2 echo_response false ∷ Octets 1 echo_response false ∷ Octets 1 released true ∷ Ignored ∷ Done ∷ Ignored ∷ Ignored ∷ Ignored ∷ [])
unfolding pdus_within first_pdu pdu_of associate_of fields_of request_of item_at pdv_at proposed_of user_information_of data_pdu_of successive_parts institution_routed has_route joins built_in class_of
    without_spaces without_leading without_trailing kept_before messages_from command_from command_of data_set_read readers elements_by element_by elements_after value_by
    items_by item_by items_after front_at header_at end_at is_below tag_at spelling_at long_length_at content_of known_vr vr_in dictionary trimmed_value without_padding is_padded
    ignores_leading_spaces service_of_message reaction
with_messages = (refl, refl, refl, refl, refl, refl, refl, refl, refl, refl, refl)

-- where no message is served
without_a_message :
    -- a pair of titles that no institution has; a version without bit 0; a maximum length that leaves no room; a context with an even id
    (replies built_in [] (history (associate_request ct9 ∷ [])) ≡ Done ∷ closed (short 3 1 1 1) ∷ [])
    × (replies built_in [] (history (request_from 2 modality_title 1 16384 ∷ [])) ≡ Done ∷ closed (short 3 1 2 2) ∷ [])
    × (replies built_in [] (history (request_from 2 ct9 1 7 ∷ [])) ≡ Done ∷ closed (short 3 1 2 2) ∷ [])
    × (replies built_in [] (history (request_from 1 modality_title 1 7 ∷ [])) ≡ Done ∷ closed (short 3 1 1 1) ∷ [])
    × (replies built_in [] (history (request_from 1 modality_title 2 16384 ∷ [])) ≡ Done ∷ closed (short 7 0 0 0) ∷ [])
    -- Explicit before Implicit; result 4 where no syntax is taken, and 3 where the class is not served
    × (replies built_in [] (history (four_contexts ∷ [])) ≡ Done ∷ reply_with four_results ∷ [])
    -- a value, a release, and a PDU of unknown type with a piece after it, where a request is due; the peer's abort there
    × (replies built_in [] (history (value_pdu 6 2 3 [] ∷ [])) ≡ Done ∷ closed (short 7 0 0 0) ∷ [])
    × (replies built_in [] (history (release ∷ [])) ≡ Done ∷ closed (short 7 0 0 0) ∷ [])
    × (replies built_in [] (history ((8 ∷ 0 ∷ 0 ∷ 0 ∷ 0 ∷ 0 ∷ []) ∷ (0 ∷ []) ∷ [])) ≡ Done ∷ closed (short 7 0 0 0) ∷ Ignored ∷ [])
    × (replies built_in [] (history (short 7 0 0 0 ∷ echo ∷ [])) ≡ Done ∷ closed [] ∷ Ignored ∷ [])
    -- a second request, a PDU of 65,537 octets, a value longer than its PDU, no values, the peer's abort
    × (replies built_in [] (history (associate_request modality_title ∷ associate_request modality_title ∷ [])) ≡ Done ∷ reply_with (acceptance_pdu modality_title) ∷ closed (short 7 0 2 2) ∷ [])
    × (replies built_in [] (history (associate_request modality_title ∷ (4 ∷ 0 ∷ 0 ∷ 1 ∷ 0 ∷ 1 ∷ []) ∷ [])) ≡ Done ∷ reply_with (acceptance_pdu modality_title) ∷ closed (short 7 0 2 6) ∷ [])
    × (replies built_in [] (history (associate_request modality_title ∷ value_pdu 6 3 3 [] ∷ [])) ≡ Done ∷ reply_with (acceptance_pdu modality_title) ∷ closed (short 7 0 2 6) ∷ [])
    × (replies built_in [] (history (associate_request modality_title ∷ (4 ∷ 0 ∷ 0 ∷ 0 ∷ 0 ∷ 0 ∷ []) ∷ [])) ≡ Done ∷ reply_with (acceptance_pdu modality_title) ∷ closed (short 7 0 2 6) ∷ [])
    × (replies built_in [] (history (associate_request modality_title ∷ short 7 0 0 0 ∷ [])) ≡ Done ∷ reply_with (acceptance_pdu modality_title) ∷ closed [] ∷ [])
    -- an institution that may have one association open: a second is busy, another institution is not, and a release or an end gives the place back
    × (replies (two 1) [] (Open 1 ∷ Open 2 ∷ Open 3 ∷ Piece 1 (associate_request ct1) ∷ Piece 2 (associate_request ct1) ∷ Piece 3 (associate_request
    ct2) ∷ Piece 1 release ∷ Open 4 ∷ Piece 4 (associate_request ct1) ∷ End 4 ∷ Open 5 ∷ Piece 5 (associate_request ct1) ∷ []) ≡ Done ∷ Done ∷ Done ∷ Octets 1
    (acceptance_pdu ct1) false ∷ Octets 2 (short 3 2 3 2) true ∷ Octets 3 (acceptance_pdu ct2) false ∷ Octets 1 released true ∷ Done ∷ Octets 4
    (acceptance_pdu ct1) false ∷ Done ∷ Done ∷ Octets 5 (acceptance_pdu ct1) false ∷ [])
    -- of a request that does not pass the checks nobody asks whether it is busy
    × (replies (two 1) [] (Open 1 ∷ Open 2 ∷ Piece 1 (associate_request ct1) ∷ Piece 2 (request_from 2 ct1 1 16384) ∷ []) ≡ Done ∷ Done ∷ Octets 1
    (acceptance_pdu ct1) false ∷ Octets 2 (short 3 1 2 2) true ∷ [])
    -- whose the events are: a connection's, also before it is known, and the console's
    × (own (two 4) north (Open 1 ∷ Open 2 ∷ Piece 2 (associate_request ct2) ∷ End 1 ∷ Piece 1 echo ∷ Open 3 ∷ Piece 3
    (associate_request ct1) ∷ Schedule south [] ∷ Withdraw north [] ∷ []) ≡ Open 3 ∷ Piece 3 (associate_request ct1) ∷ Withdraw north [] ∷ [])
    × (own (two 4) north (Piece 1 [] ∷ Open 1 ∷ Piece 1 (take 20 (associate_request ct1)) ∷ Piece 1 (drop 20
    (associate_request ct1)) ∷ []) ≡ Piece 1 [] ∷ Open 1 ∷ Piece 1 (take 20 (associate_request ct1)) ∷ Piece 1 (drop 20 (associate_request ct1)) ∷ [])
unfolding pdus_within first_pdu pdu_of associate_of fields_of request_of item_at pdv_at proposed_of user_information_of data_pdu_of successive_parts institution_routed has_route joins built_in class_of
    without_spaces without_leading without_trailing kept_before messages_from
without_a_message = (refl, refl, refl, refl, refl, refl, refl, refl, refl, refl, refl, refl, refl, refl, refl, refl, refl, refl, refl)

-- an order for an institution that is not configured
orders : replies (two 4) [] (Schedule (codes "EAST") [] ∷ Withdraw (codes "EAST") [] ∷ []) ≡ Refused 6 ∷ Refused 6 ∷ []
unfolding pdus_within first_pdu pdu_of associate_of fields_of request_of item_at pdv_at proposed_of user_information_of data_pdu_of successive_parts institution_routed has_route joins built_in class_of
    without_spaces without_leading without_trailing kept_before messages_from institution_named
orders = refl

-- a Study Root query with an identifier that can't be read
abbrev find : List ℕ
find = find_command ++ value_pdu 8 4 2 (8 ∷ 0 ∷ [])

abbrev not_understood : List ℕ
not_understood = find_status 0xc000

a_query : replies built_in [] (history (four_contexts ∷ find ∷ [])) ≡ Done ∷ reply_with four_results ∷ reply_with not_understood ∷ []
unfolding pdus_within first_pdu pdu_of associate_of fields_of request_of item_at pdv_at proposed_of user_information_of data_pdu_of successive_parts institution_routed has_route joins built_in class_of
    without_spaces without_leading without_trailing kept_before messages_from command_from command_of data_set_read readers elements_by element_by elements_after value_by
    items_by item_by items_after front_at header_at end_at is_below tag_at spelling_at long_length_at content_of known_vr vr_in dictionary trimmed_value without_padding is_padded
    ignores_leading_spaces service_of_message reaction query_outcome message_query identifier_in
a_query = refl

-- an entry that can't be read, and one that is not there
orders_of_the_worklist : replies (two 4) [] (Schedule north (8 ∷ 0 ∷ []) ∷ Withdraw south [] ∷ []) ≡ Refused 1 ∷ Refused 5 ∷ []
unfolding data_set_read readers elements_by element_by elements_after value_by items_by item_by items_after front_at header_at end_at is_below tag_at spelling_at
    long_length_at content_of known_vr vr_in dictionary institution_named of record_at console_outcome schedule_outcome withdrawn
orders_of_the_worklist = refl

-- a query for all studies over no rows: the response with 0000, and no other; one for a level that there is not
pub a_query_over_no_rows :
    (replies built_in [] (history (four_contexts ∷ find_studies ∷ [])) ≡ Done ∷ reply_with four_results ∷ reply_with (find_status 0) ∷ [])
    × (replies built_in [] (history (four_contexts ∷ find_level (codes "VISIT ") ∷ [])) ≡ Done ∷ reply_with four_results ∷ reply_with
    (find_status 0xa900) ∷ [])
unfolding pdus_within first_pdu pdu_of associate_of fields_of request_of item_at pdv_at proposed_of user_information_of data_pdu_of successive_parts institution_routed has_route joins built_in class_of
    without_spaces without_leading without_trailing kept_before messages_from command_from command_of data_set_read readers elements_by element_by elements_after value_by
    items_by item_by items_after front_at header_at end_at is_below tag_at spelling_at long_length_at content_of known_vr vr_in dictionary trimmed_value without_padding is_padded
    ignores_leading_spaces service_of_message reaction query_outcome message_query identifier_in level_named has_keys_above is_supported key_tags leaves answers_of_records records_asked records_of of
    vr_at vr_or_fault vr_with_letters vr_among every_vr letters_of agrees length_at length_form_of is_text are_well_formed is_universal matching_of value.element_values
    value.value_pieces value.has_separator value.pieces value.onto_first uid_at sole_at
a_query_over_no_rows = (refl, refl)

-- A C-STORE without a data set: that names no instance. On Verification the operation is not recognized, and no instance is named.
pub stores :
    (replies built_in [] (history (four_contexts ∷ store_on 3 ∷ [])) ≡ Done ∷ reply_with four_results ∷ reply_with (store_status 3 0xa900) ∷ [])
    × (replies built_in [] (history (associate_request modality_title ∷ store_on 1 ∷ [])) ≡ Done ∷ reply_with (acceptance_pdu modality_title) ∷ reply_with (example_response 0x8001 0x0211) ∷ [])
unfolding pdus_within first_pdu pdu_of associate_of fields_of request_of item_at pdv_at proposed_of user_information_of data_pdu_of successive_parts institution_routed has_route joins built_in class_of
    without_spaces without_leading without_trailing kept_before messages_from command_from command_of data_set_read readers elements_by element_by elements_after value_by
    items_by item_by items_after front_at header_at end_at is_below tag_at spelling_at long_length_at content_of known_vr vr_in dictionary trimmed_value without_padding is_padded
    ignores_leading_spaces service_of_message reaction store_outcome is_over_limit names_instance uid_at sole_at
stores = (refl, refl)

-- A study that one institution keeps is found there, and not at another.
pub a_kept_study :
    (replies (two 4) (kept_study ∷ []) (history (find_request ct1 ∷ find_uids ∷ [])) ≡ Done ∷ reply_with (find_accepted ct1) ∷ reply_with
    (found_study ++ find_status 0) ∷ [])
    × (replies (two 4) (kept_study ∷ []) (history (find_request ct2 ∷ find_uids ∷ [])) ≡ Done ∷ reply_with (find_accepted ct2) ∷ reply_with (find_status 0) ∷ [])
unfolding pdus_within first_pdu pdu_of associate_of fields_of request_of item_at pdv_at proposed_of user_information_of data_pdu_of successive_parts institution_routed has_route joins built_in class_of
    without_spaces without_leading without_trailing kept_before messages_from command_from command_of data_set_read readers elements_by element_by elements_after value_by
    items_by item_by items_after front_at header_at end_at is_below tag_at spelling_at long_length_at content_of known_vr vr_in dictionary trimmed_value without_padding is_padded
    ignores_leading_spaces service_of_message reaction query_outcome message_query identifier_in level_named has_keys_above is_supported key_tags leaves answers_of_records records_asked records_of of
    vr_at vr_or_fault vr_with_letters vr_among every_vr letters_of agrees length_at length_form_of is_text are_well_formed is_universal matching_of value.element_values
    value.value_pieces value.has_separator value.pieces value.onto_first uid_at sole_at data_set_of about_answers shown_data_set octets_meet asked_days asked_times
    start_day start_time period computed_keys study_values modalities_in all_in_order put_in_order records_above header_octets vr_and_length
a_kept_study = (refl, refl)
