-- What the worklist lists on a worked example, by computation.
use Rattle.std.proofs.Common.{◌≡◌, [], ◌∷◌, codes, refl}
use Rattle.dq_vr.specs.Dictionary.{dictionary, vr_in, known_vr}
use Rattle.dq_vr.specs.Tag.{is_below}
use Rattle.dq_vr.specs.Vr.{length_form_of, is_text, letters_of, every_vr, vr_among, vr_with_letters}
use Rattle.dq_value.specs.Parts.{has_separator, onto_first, pieces, value_pieces, element_values}
use Rattle.dq_value.specs.Trimming.{is_padded, ignores_leading_spaces, kept_before, without_leading, without_trailing, without_padding, trimmed_value}
use Rattle.dq_dataset.specs.Rules.{agrees, content_of}
use Rattle.dq_dataset.specs.DataSetReader.{tag_at, long_length_at, length_at, vr_or_fault, vr_at, spelling_at, front_at, header_at, end_at, value_by, element_by, elements_after, elements_by, item_front_at, item_header_at, content_by, item_by, items_after, items_by, readers, data_set_read}
use Rattle.dq_dataset.specs.Canonical.{header_octets, item_header_of, vr_and_length}
use Rattle.dq_dataset.specs.Values.{sole_at}
use Rattle.dq_dataset.specs.declared.header.Syntax.TheVariants.{Explicit}
use Rattle.dq_dimse.specs.Receiving.{identifier_in}
use Rattle.dq_match.specs.Matching.{asked_days, asked_times, start_day, start_time, period}
use Rattle.dq_match.specs.Responses.{shown_data_set}
use Rattle.dq_match.specs.Supported.{key_tags, leaves, is_supported, below}
use Rattle.dq_match.specs.Values.{matching_of, is_universal, octets_meet, are_well_formed}
use Rattle.dq_tables.specs.Rows.{as_started}
use Rattle.dq_tables.specs.Lookups.{records_of}
use Rattle.dq_tables.specs.Records.{data_set_of}
use Rattle.dq_worklist.specs.Queries.{worklist_query, answers_of_entries, worklist_outcome}
use Rattle.dq_worklist.specs.Examples.{worklist_request, asked_steps, entry, example_answer, found_entries}

pub one_listed : worklist_outcome (entry ∷ []) (worklist_request (asked_steps (codes "CT"))) Explicit ≡ found_entries (example_answer ∷ [])
unfolding worklist_outcome worklist_query identifier_in data_set_read readers elements_by element_by elements_after items_by item_by items_after item_front_at item_header_at content_by value_by
    front_at header_at end_at tag_at spelling_at vr_at vr_or_fault length_at long_length_at is_below known_vr vr_in dictionary length_form_of vr_with_letters vr_among
    every_vr letters_of is_text agrees content_of header_octets item_header_of vr_and_length trimmed_value without_padding is_padded ignores_leading_spaces without_leading
    without_trailing kept_before key_tags leaves is_supported below is_universal are_well_formed matching_of element_values value_pieces pieces onto_first has_separator answers_of_entries
    records_of data_set_of octets_meet period sole_at asked_days asked_times start_day start_time shown_data_set
one_listed = refl

pub none_listed : worklist_outcome (entry ∷ []) (worklist_request (asked_steps (codes "MR"))) Explicit ≡ found_entries []
unfolding worklist_outcome worklist_query identifier_in data_set_read readers elements_by element_by elements_after items_by item_by items_after item_front_at item_header_at content_by value_by
    front_at header_at end_at tag_at spelling_at vr_at vr_or_fault length_at long_length_at is_below known_vr vr_in dictionary length_form_of vr_with_letters vr_among
    every_vr letters_of is_text agrees content_of header_octets item_header_of vr_and_length trimmed_value without_padding is_padded ignores_leading_spaces without_leading
    without_trailing kept_before key_tags leaves is_supported below is_universal are_well_formed matching_of element_values value_pieces pieces onto_first has_separator answers_of_entries
    records_of data_set_of octets_meet period sole_at asked_days asked_times start_day start_time shown_data_set
none_listed = refl

pub started_unlisted : worklist_outcome (as_started entry ∷ []) (worklist_request (asked_steps (codes "CT"))) Explicit ≡ found_entries []
unfolding worklist_outcome worklist_query identifier_in data_set_read readers elements_by element_by elements_after items_by item_by items_after item_front_at item_header_at content_by value_by
    front_at header_at end_at tag_at spelling_at vr_at vr_or_fault length_at long_length_at is_below known_vr vr_in dictionary length_form_of vr_with_letters vr_among
    every_vr letters_of is_text agrees content_of header_octets item_header_of vr_and_length trimmed_value without_padding is_padded ignores_leading_spaces without_leading
    without_trailing kept_before key_tags leaves is_supported below is_universal are_well_formed matching_of element_values value_pieces pieces onto_first has_separator answers_of_entries
    records_of data_set_of octets_meet period sole_at asked_days asked_times start_day start_time shown_data_set
started_unlisted = refl
