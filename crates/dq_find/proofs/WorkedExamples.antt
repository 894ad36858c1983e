-- What is found on a worked example, by computation.
use Rattle.std.proofs.Common.{◌≡◌, [], ◌∷◌, codes, refl}
use Rattle.dq_vr.specs.Dictionary.{dictionary, vr_in, known_vr}
use Rattle.dq_vr.specs.Tag.{is_below}
use Rattle.dq_vr.specs.Vr.{length_form_of, is_text, letters_of, every_vr, vr_among, vr_with_letters}
use Rattle.dq_value.specs.Parts.{has_separator, onto_first, pieces, value_pieces, element_values}
use Rattle.dq_value.specs.Trimming.{is_padded, ignores_leading_spaces, kept_before, without_leading, without_trailing, without_padding, trimmed_value}
use Rattle.dq_value.specs.Title.{without_spaces}
use Rattle.dq_dataset.specs.Rules.{agrees, content_of}
use Rattle.dq_dataset.specs.DataSetReader.{tag_at, long_length_at, length_at, vr_or_fault, vr_at, spelling_at, front_at, header_at, end_at, value_by, element_by, elements_after, elements_by, readers, data_set_read}
use Rattle.dq_dataset.specs.Canonical.{header_octets, vr_and_length}
use Rattle.dq_dataset.specs.Values.{sole_at}
use Rattle.dq_dataset.specs.declared.header.Syntax.TheVariants.{Explicit}
use Rattle.dq_dimse.specs.Receiving.{identifier_in}
use Rattle.dq_match.specs.Matching.{asked_days, asked_times, start_day, start_time, period}
use Rattle.dq_match.specs.Responses.{shown_data_set}
use Rattle.dq_match.specs.Supported.{key_tags, leaves, is_supported, below}
use Rattle.dq_match.specs.Values.{matching_of, is_universal, octets_meet, are_well_formed}
use Rattle.dq_tables.specs.Lookups.{records_of, records_above}
use Rattle.dq_tables.specs.Keys.{uid_at}
use Rattle.dq_tables.specs.Records.{data_set_of}
use Rattle.dq_find.specs.ComputedKeys.{put_in_order, all_in_order, modalities_in, study_values, computed_keys}
use Rattle.dq_find.specs.Modalities.{modalities_of}
use Rattle.dq_find.specs.Levels.{level_named, has_keys_above}
use Rattle.dq_find.specs.Queries.{message_query, about_answers, records_asked, answers_of_records, query_outcome}
use Rattle.dq_find.specs.Examples.{query_request, identifier, kept_studies, jane_doe_answer, found_studies}

pub nothing_found : query_outcome [] (codes "ARCHIVE") (query_request identifier) Explicit ≡ found_studies []
unfolding query_outcome message_query identifier_in data_set_read readers elements_by element_by elements_after value_by front_at header_at end_at tag_at spelling_at vr_at vr_or_fault
    length_at long_length_at is_below known_vr vr_in dictionary length_form_of vr_with_letters vr_among every_vr letters_of is_text agrees content_of
    level_named trimmed_value without_padding is_padded ignores_leading_spaces without_leading without_trailing kept_before key_tags leaves is_supported below
    has_keys_above is_universal are_well_formed matching_of element_values value_pieces pieces onto_first has_separator answers_of_records records_asked records_of header_octets vr_and_length
nothing_found = refl

pub one_found : query_outcome kept_studies (codes "ARCHIVE") (query_request identifier) Explicit ≡ found_studies (jane_doe_answer ∷ [])
unfolding query_outcome message_query identifier_in data_set_read readers elements_by element_by elements_after value_by front_at header_at end_at tag_at spelling_at vr_at vr_or_fault
    length_at long_length_at is_below known_vr vr_in dictionary length_form_of vr_with_letters vr_among every_vr letters_of is_text agrees content_of
    level_named trimmed_value without_padding is_padded ignores_leading_spaces without_leading without_trailing kept_before key_tags leaves is_supported below
    has_keys_above is_universal are_well_formed matching_of element_values value_pieces pieces onto_first has_separator answers_of_records records_asked records_of
    records_above data_set_of computed_keys study_values modalities_in all_in_order put_in_order modalities_of octets_meet period asked_days asked_times start_day
    start_time shown_data_set about_answers without_spaces sole_at uid_at header_octets vr_and_length
one_found = refl
