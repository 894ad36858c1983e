-- Counting images, and what is computed of the records that are found.
use Rattle.std.proofs.Common.{◌≡◌, ℕ, ◌+◌, ◌<◌, List, map, length, get_or, drop, sym, ap, ◌∙◌, arith}
use Rattle.std.proofs.lemmas.List.{length-map}
use Rattle.std.proofs.lemmas.List.Sums.{sum_by-cons}
use Rattle.dq_tables.specs.declared.row.Kind.TheVariants.{Series as SeriesKind, Image as ImageKind}
use Rattle.dq_tables.specs.declared.row.Row.{Row}
use Rattle.dq_tables.specs.Rows.{Record, record_of, row_of}
use Rattle.dq_tables.specs.Lookups.{records_above}
use Rattle.dq_tables.proofs.RecordLists.{own_records}
use Rattle.dq_find.specs.declared.level.Level.TheVariants.{Study}
use Rattle.dq_find.specs.ComputedKeys.{images_below, modalities_in, backslash_joined, study_values, computed_keys}
use Rattle.dq_match.proofs.Parts.{from_place}

pub counted_more : (records : List Record) (item : Row) (key : List ℕ) (series : List Row) (at number images all : ℕ) → at < length series
    → item ≡ get_or series at item → key ≡ item.key → images ≡ length (records_above ImageKind key records)
    → number + images_below records (map record_of (drop at series)) ≡ all
    → number + images + images_below records (map record_of (drop (at + 1) series)) ≡ all
counted_more records item key series at number images all within is same_key counted so_far =
    let step : images_below records (map record_of (drop at series)) ≡ images + images_below records (map record_of (drop (at + 1) series)) =
    ap (λ (rows : List Row). images_below records (map record_of rows)) (from_place series at item within is)
    ∙ sum_by-cons (λ (one : Record). length (records_above ImageKind one.key records)) (record_of item) (map record_of (drop (at + 1) series))
    ∙ ap (λ n. n + images_below records (map record_of (drop (at + 1) series)))
    (ap (λ (k : List ℕ). length (records_above ImageKind k records)) (sym same_key) ∙ sym counted) in
    omega arith

-- what is computed of a study, of the rows of its series
pub computed_of_rows : (institution key : List ℕ) (records : List Record) (series : List Row) (modalities : List ℕ) (number images : ℕ)
    → series ≡ map (row_of institution) (records_above SeriesKind key records) → modalities ≡ backslash_joined (modalities_in (map record_of series))
    → number ≡ length series → images ≡ images_below records (map record_of series)
    → study_values modalities number images ≡ computed_keys records Study key
unfolding computed_keys
computed_of_rows institution key records series modalities number images found modalities_is number_is images_is =
    let same : map record_of series ≡ records_above SeriesKind key records =
    ap (map record_of) found ∙ own_records institution (records_above SeriesKind key records) in
    (λ i. study_values (modalities_is i) ((number_is ∙ sym (length-map series record_of)) i) (images_is i))
    ∙ ap (λ (rs : List Record). study_values (backslash_joined (modalities_in rs)) (length rs) (images_below records rs)) same
