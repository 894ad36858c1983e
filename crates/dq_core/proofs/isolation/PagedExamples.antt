-- The pages of a search on worked examples, octet for octet, by computation.
use Rattle.std.specs.Prelude.{◌≡◌, true, [], ◌∷◌, ◌++◌, codes, refl}
use Rattle.dq_pdu.specs.Stream.{pdus_within}
use Rattle.dq_pdu.specs.PduReader.{first_pdu, pdu_of, associate_of, fields_of, request_of, item_at, pdv_at, proposed_of, user_information_of, data_pdu_of}
use Rattle.dq_pdu.specs.Octets.{successive_parts}
use Rattle.dq_vr.specs.Dictionary.{dictionary, vr_in, known_vr}
use Rattle.dq_vr.specs.Tag.{is_below}
use Rattle.dq_vr.specs.Vr.{vr_with_letters, vr_among, every_vr, letters_of, length_form_of, is_text}
use Rattle.dq_value.specs.Trimming.{is_padded, ignores_leading_spaces, kept_before, without_leading, without_trailing, without_padding, trimmed_value}
use Rattle.dq_value.specs.Title.{without_spaces}
use Rattle.dq_value.specs.Parts as value
use Rattle.dq_dimse.specs.Assembling.{messages_from}
use Rattle.dq_dimse.specs.Receiving.{identifier_in}
use Rattle.dq_dataset.specs.Rules.{content_of, agrees}
use Rattle.dq_dataset.specs.DataSetReader.{tag_at, vr_at, vr_or_fault, length_at, long_length_at, spelling_at, front_at, header_at, end_at, value_by, element_by, elements_after, elements_by, item_by, items_after, items_by, readers, data_set_read}
use Rattle.dq_dataset.specs.Canonical.{header_octets, vr_and_length}
use Rattle.dq_dataset.specs.Values.{sole_at}
use Rattle.dq_dimse.specs.Commands.{command_from, command_of}
use Rattle.dq_assoc.specs.Classes.{class_of}
use Rattle.dq_core.specs.declared.event.Event.TheVariants.{Piece, Pull}
use Rattle.dq_core.specs.declared.event.Reply.TheVariants.{Octets, Done, Ignored}
use Rattle.dq_config.specs.Routing.{institution_routed, has_route, joins}
use Rattle.dq_match.specs.Supported.{is_supported, key_tags, leaves}
use Rattle.dq_match.specs.Values.{are_well_formed, is_universal, matching_of, octets_meet}
use Rattle.dq_find.specs.Levels.{level_named, has_keys_above}
use Rattle.dq_find.specs.Queries.{message_query, records_asked, answers_of_records, about_answers, query_outcome}
use Rattle.dq_find.specs.ComputedKeys.{computed_keys, study_values, modalities_in, all_in_order, put_in_order}
use Rattle.dq_match.specs.Responses.{shown_data_set}
use Rattle.dq_match.specs.Matching.{asked_days, asked_times, start_day, start_time, period}
use Rattle.dq_tables.specs.Rows.{of}
use Rattle.dq_tables.specs.Lookups.{records_of, records_above}
use Rattle.dq_tables.specs.Records.{data_set_of}
use Rattle.dq_tables.specs.Keys.{uid_at}
use Rattle.dq_core.specs.Services.{service_of_message}
use Rattle.dq_core.specs.Pages.{reaction}
use Rattle.dq_core.proofs.isolation.Vocabulary.{replies}
use Rattle.dq_core.specs.Examples.{ct1, find_accepted, find_status, find_level, two, studies_from, found_from, cancel_request, search_then, find_and_echo_then, find_and_echo_accepted, echo_on, echoed_on, release, release_response, reply_with}

pub paged_searches :
    -- 130 studies: 64, 64, then 2 and 0000, and nothing after that
    (replies (two 4) (studies_from 100 130) (search_then (Pull 1 ∷ Pull 1 ∷ Pull 1 ∷ [])) ≡ Done ∷ reply_with (find_accepted ct1)
    ∷ reply_with (found_from 100 64) ∷ reply_with (found_from 164 64) ∷ reply_with (found_from 228 2 ++ find_status 0) ∷ reply_with [] ∷ [])
    -- 65 studies: a C-CANCEL of another message has no effect, and one of the search ends it
    × (replies (two 4) (studies_from 100 65) (search_then (Piece 1 (cancel_request 2) ∷ Piece 1 (cancel_request 1) ∷ Pull 1 ∷ [])) ≡ Done ∷ reply_with (find_accepted ct1)
    ∷ reply_with (found_from 100 64) ∷ reply_with [] ∷ reply_with (find_status 0xfe00) ∷ reply_with [] ∷ [])
    -- another message first brings what is left
    × (replies (two 4) (studies_from 100 65) (search_then (Piece 1 (find_level (codes "VISIT ")) ∷ Pull 1 ∷ [])) ≡ Done ∷ reply_with (find_accepted ct1)
    ∷ reply_with (found_from 100 64) ∷ reply_with (found_from 164 1 ++ find_status 0 ++ find_status 0xa900) ∷ reply_with [] ∷ [])
    -- a C-ECHO on its own context brings what is left before its response, and a release closes
    × (replies (two 4) (studies_from 100 130) (find_and_echo_then (Piece 1 (echo_on 3 2) ∷ Pull 1 ∷ Piece 1 release ∷ Pull 1 ∷ []))
    ≡ Done ∷ reply_with (find_and_echo_accepted ct1) ∷ reply_with (found_from 100 64)
    ∷ reply_with (found_from 164 66 ++ find_status 0 ++ echoed_on 3 2) ∷ reply_with [] ∷ Octets 1 release_response true ∷ Ignored ∷ [])
unfolding pdus_within first_pdu pdu_of associate_of fields_of request_of item_at pdv_at proposed_of user_information_of data_pdu_of successive_parts institution_routed has_route joins class_of
    without_spaces without_leading without_trailing kept_before messages_from command_from command_of data_set_read readers elements_by element_by elements_after value_by
    items_by item_by items_after front_at header_at end_at is_below tag_at spelling_at long_length_at content_of known_vr vr_in dictionary trimmed_value without_padding is_padded
    ignores_leading_spaces service_of_message reaction query_outcome message_query identifier_in level_named has_keys_above is_supported key_tags leaves answers_of_records records_asked records_of of
    vr_at vr_or_fault vr_with_letters vr_among every_vr letters_of agrees length_at length_form_of is_text are_well_formed is_universal matching_of value.element_values
    value.value_pieces value.has_separator value.pieces value.onto_first uid_at sole_at data_set_of about_answers shown_data_set octets_meet asked_days asked_times
    start_day start_time period computed_keys study_values modalities_in all_in_order put_in_order records_above header_octets vr_and_length
paged_searches = (refl, refl, refl, refl)
