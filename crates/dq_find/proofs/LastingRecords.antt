-- What is left of a search follows from the records that last.
use Rattle.std.proofs.Common.{◌≡◌, ℕ, Bool, true, false, ◌&&◌, List, [], ◌∷◌, filter, find, length, drop, sum_by, Some, refl, sym, ap, ◌∙◌, if◌then◌else◌}
use Rattle.std.specs.List.{filter_map}
use Rattle.std.specs.Str.{bytes_eq}
use Rattle.std.proofs.lemmas.Bool.{and_parts}
use Rattle.dq_vr.specs.Tags as tags
use Rattle.dq_dataset.specs.Tree.{ElementList}
use Rattle.dq_dataset.specs.Editing.{merged_data_set}
use Rattle.dq_tables.specs.declared.row.Kind.{Kind}
use Rattle.dq_tables.specs.declared.row.Kind.TheVariants as kind
use Rattle.dq_tables.specs.Rows.{Record}
use Rattle.dq_tables.specs.Lookups.{same_kind, record_at, records_of, records_above}
use Rattle.dq_tables.specs.Records.{data_set_of}
use Rattle.dq_tables.proofs.RecordLists.{one_kind}
use Rattle.dq_archive.specs.Additions.{is_lasting, lasting_records}
use Rattle.dq_find.specs.declared.level.Level.{Level}
use Rattle.dq_find.specs.declared.level.Level.TheVariants.{Study, Series, Image}
use Rattle.dq_find.specs.declared.query.Query.{Query}
use Rattle.dq_find.specs.declared.open_search.SearchCursor.{SearchCursor}
use Rattle.dq_find.specs.declared.open_search.SearchCursor.TheVariants.{Under, Named, Nothing}
use Rattle.dq_find.specs.declared.open_search.OpenSearch.{OpenSearch}
use Rattle.dq_find.specs.Levels.{kind_of}
use Rattle.dq_find.specs.ComputedKeys.{images_below, modalities_in, backslash_joined, study_values, series_values, computed_keys}
use Rattle.dq_find.specs.Candidates.{under, named_record}
use Rattle.dq_find.specs.Queries.{answer_if, key_above, record_answer, records_asked, records_behind}
use Rattle.dq_find.specs.OpenSearches.{candidates_left, left_of}
use Rattle.dq_find.proofs.SearchPages.{narrower}

-- ---- what is found among the records that last

lasting_by : (k : Kind) (r : Record) → is_lasting k ≡ true → same_kind r.kind k ≡ true → is_lasting r.kind ≡ true
lasting_by k r lasts h = ap is_lasting (one_kind r.kind k h) ∙ lasts

found_by_step : (p q : Record → Bool) (r : Record) (rs : List Record) (a b : Bool) → p r ≡ a → q r ≡ b → (p r ≡ true → q r ≡ true)
    → find p (filter q rs) ≡ find p rs → find p (if b then r ∷ filter q rs else filter q rs) ≡ (if a then Some r else find p rs)
found_by_step p q r rs true true a b imp rest = rw a refl
found_by_step p q r rs false true a b imp rest = rw a rest
found_by_step p q r rs true false a b imp rest = absurd (cc (sym b ∙ imp a))
found_by_step p q r rs false false a b imp rest = rest

found_still : (p q : Record → Bool) → ((r : Record) → p r ≡ true → q r ≡ true) → (rs : List Record) → find p (filter q rs) ≡ find p rs
found_still p q imp [] = refl
found_still p q imp (r ∷ rs) = found_by_step p q r rs (p r) (q r) refl refl (imp r) (found_still p q imp rs)

level_lasts : (level : Level) → is_lasting (kind_of level) ≡ true
level_lasts Study = refl
level_lasts Series = refl
level_lasts Image = refl

module _ (records : List Record) where
  of_lasting : (k : Kind) → is_lasting k ≡ true → records_of k (lasting_records records) ≡ records_of k records
  unfolding records_of lasting_records
  of_lasting k lasts = narrower (λ (r : Record). same_kind r.kind k) (λ (r : Record). is_lasting r.kind) (λ r h. lasting_by k r lasts h) records

  above_lasting : (k : Kind) (above : List ℕ) → is_lasting k ≡ true → records_above k above (lasting_records records) ≡ records_above k above records
  unfolding records_above
  above_lasting k above lasts = ap (filter (λ (r : Record). bytes_eq r.above above)) (of_lasting k lasts)

  at_lasting : (k : Kind) (key : List ℕ) → is_lasting k ≡ true → record_at k key (lasting_records records) ≡ record_at k key records
  unfolding record_at lasting_records
  at_lasting k key lasts =
      found_still (λ (r : Record). same_kind r.kind k && bytes_eq r.key key) (λ (r : Record). is_lasting r.kind)
      (λ r h. lasting_by k r lasts (and_parts (same_kind r.kind k) (bytes_eq r.key key) h).0) records

  asked_lasting : (level : Level) (keys : ElementList) → records_asked (lasting_records records) level keys ≡ records_asked records level keys
  unfolding records_asked
  asked_lasting Study keys = of_lasting kind.Study refl
  asked_lasting Series keys = above_lasting kind.Series (key_above tags.study_instance_uid keys) refl
  asked_lasting Image keys = above_lasting kind.Image (key_above tags.series_instance_uid keys) refl

  -- ---- what is computed and answered of one

  images_lasting : (series : List Record) → images_below (lasting_records records) series ≡ images_below records series
  images_lasting series = λ i. sum_by (λ (one : Record). length (above_lasting kind.Image one.key refl i)) series

  computed_lasting : (level : Level) (key : List ℕ) → computed_keys (lasting_records records) level key ≡ computed_keys records level key
  unfolding computed_keys
  computed_lasting Study key =
      ap (λ (series : List Record). study_values (backslash_joined (modalities_in series)) (length series) (images_below (lasting_records records) series))
      (above_lasting kind.Series key refl)
      ∙ ap (study_values (backslash_joined (modalities_in (records_above kind.Series key records))) (length (records_above kind.Series key records)))
      (images_lasting (records_above kind.Series key records))
  computed_lasting Series key = ap (λ (rs : List Record). series_values (length rs)) (above_lasting kind.Image key refl)
  computed_lasting Image key = refl

  module _ (called : List ℕ) (query : Query) where
    answer_lasting : (r : Record) → record_answer (lasting_records records) called query r ≡ record_answer records called query r
    answer_lasting r =
        ap (λ (values : ElementList). answer_if called query (merged_data_set (data_set_of r.octets) values)) (computed_lasting query.level r.key)

    named_lasting : (uid : List ℕ) → named_record (lasting_records records) query uid ≡ named_record records query uid
    named_lasting uid = ap (under query.level query.keys) (at_lasting (kind_of query.level) uid (level_lasts query.level))

    candidates_lasting : (left : SearchCursor) → candidates_left (lasting_records records) query left ≡ candidates_left records query left
    candidates_lasting (Under after) = ap (records_behind after) (asked_lasting query.level query.keys)
    candidates_lasting (Named keys from) = λ i. filter_map (λ (uid : List ℕ). named_lasting uid i) (drop from keys)
    candidates_lasting Nothing = refl

  left_lasting : (search : OpenSearch) → left_of search (lasting_records records) ≡ left_of search records
  unfolding left_of
  left_lasting search = λ i. filter_map (λ (r : Record). answer_lasting search.called search.query r i)
      (candidates_lasting search.called search.query search.cursor i)

pub left_by : (search : OpenSearch) (one other : List Record) → lasting_records one ≡ lasting_records other → left_of search one ≡ left_of search other
left_by search one other same = sym (left_lasting one search) ∙ ap (left_of search) same ∙ left_lasting other search
