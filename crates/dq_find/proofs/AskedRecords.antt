-- A kept record that fits has the unique key above that the query gives, and is asked for.
use Rattle.std.proofs.Common.{◌≡◌, ℕ, Bool, true, false, not, ◌&&◌, List, [], ◌∷◌, Option, Some, None, is_some, unwrap_or, Result, Ok, Err, refl, sym, ap, ◌∙◌, arith}
use Rattle.std.specs.Str.{bytes_eq}
use Rattle.std.specs.List.{AllByRecursion, list_any}
use Rattle.std.proofs.lemmas.Bool.{and_parts, not-true}
use Rattle.std.proofs.lemmas.Slice.Eq.{bytes_eq-Decides}
use Rattle.dq_list.specs.Among.{IsAmong}
use Rattle.dq_vr.specs.declared.Tag.{Tag}
use Rattle.dq_vr.specs.declared.Vr.TheVariants.{UI}
use Rattle.dq_vr.specs.Tags as tags
use Rattle.dq_value.specs.Trimming.{is_padded}
use Rattle.dq_value.specs.Uid.{is_uid}
use Rattle.dq_dataset.specs.declared.fault.ReadFault.{ReadFault}
use Rattle.dq_dataset.specs.declared.header.Syntax.TheVariants.{Explicit}
use Rattle.dq_dataset.specs.Tree.{ElementList}
use Rattle.dq_dataset.specs.View.{elements_of}
use Rattle.dq_dataset.specs.DataSetReader.{data_set_read}
use Rattle.dq_dataset.specs.Values.{sole_at}
use Rattle.dq_dataset.proofs.KnownVrs.{HasKnownVr, read_has_known_vrs}
use Rattle.dq_match.specs.declared.keys.Nesting.TheVariants.{Outer}
use Rattle.dq_match.specs.Keys.{is_tag}
use Rattle.dq_match.specs.StandardMatching.{EachIsMet}
use Rattle.dq_match.specs.Matching.{fits}
use Rattle.dq_match.specs.Values.{matching_of}
use Rattle.dq_match.specs.Wildcards.{any_run}
use Rattle.dq_match.proofs.OneValue.{is_met_by}
use Rattle.dq_tables.specs.declared.row.Row.{Row}
use Rattle.dq_tables.specs.declared.row.Kind.{Kind}
use Rattle.dq_tables.specs.Rows.{Record, record_of, of}
use Rattle.dq_tables.specs.Records.{data_set_of}
use Rattle.dq_tables.specs.Keys.{uid_at}
use Rattle.dq_tables.specs.Sound.{OwnEach, is_own_row, is_record_of, may_be_started, is_value, has_key, has_above}
use Rattle.dq_archive.proofs.OwnRecords.{of_each, passed, value_from}
use Rattle.dq_find.specs.declared.level.Level.{Level}
use Rattle.dq_find.specs.declared.level.Level.TheVariants.{Study, Series, Image}
use Rattle.dq_find.specs.Levels.{kind_of, has_keys_above}
use Rattle.dq_find.specs.ComputedKeys.{with_computed}
use Rattle.dq_find.specs.Answers.{HasKeyAbove}
use Rattle.dq_find.proofs.QueryLaws.{IsUnder}
use Rattle.dq_find.specs.Queries.{computed_tags}
use Rattle.dq_find.proofs.RowAnswers.{stays}
use Rattle.dq_find.proofs.NamedRecords.{IsKeyOf, unique_keys_are_uids, sole_of_uid, one_alone}

-- ---- what a kept record has of its own

pub record HasOwn (r : Record) : Type 0 where
  pub known : AllByRecursion HasKnownVr (elements_of (data_set_of r.octets))
  pub key : has_key r.kind r.key (data_set_of r.octets) ≡ true
  pub above : has_above r.kind r.above (data_set_of r.octets) ≡ true

own_by : (read : Result ElementList ReadFault) (row : Row) → data_set_read Explicit row.octets ≡ read → is_record_of read row ≡ true → HasOwn (record_of row)
unfolding data_set_of
own_by (Err fault) row is own = absurd (cc)
own_by (Ok d) row is own = grind (arith, and_parts, read_has_known_vrs)

row_own : (row : Row) → is_own_row row ≡ true → HasOwn (record_of row)
unfolding is_own_row
row_own row own =
    own_by (data_set_read Explicit row.octets) row refl (and_parts (may_be_started row.kind row.started) (is_record_of (data_set_read Explicit row.octets) row) own).1

pub has_own : (institution : List ℕ) (rows : List Row) (r : Record) → OwnEach rows → IsAmong r (of institution rows) → HasOwn r
has_own institution rows r = of_each HasOwn row_own r institution rows

-- ---- a UID that is asked for is met by itself alone

given : (value : Option (List ℕ)) → is_some value ≡ true → value ≡ Some (unwrap_or value [])
given None h = absurd (cc)
given (Some v) h = refl

abbrev is_no_asterisk : List ℕ → Bool
is_no_asterisk uid = not (bytes_eq uid (any_run ∷ []))

uid_met : (uid key : List ℕ) → is_no_asterisk uid ≡ true → is_met_by UI uid key ≡ true → bytes_eq key uid ≡ true
unfolding is_padded matching_of
uid_met uid key plain met = grind (arith, not-true, bytes_eq-Decides)

no_asterisk : (uid : List ℕ) (b : Bool) → bytes_eq uid (any_run ∷ []) ≡ b → is_uid uid ≡ true → not b ≡ true
unfolding is_uid
no_asterisk uid true is h = absurd (let wrong : is_uid (any_run ∷ []) ≡ true = ap is_uid (sym ((bytes_eq-Decides uid (any_run ∷ [])).0 is)) ∙ h in cc)
no_asterisk uid false is h = refl

uid_is_plain : (tag : Tag) (keys : ElementList) (uid : List ℕ) → uid_at tag keys ≡ Some uid → is_no_asterisk uid ≡ true
unfolding uid_at
uid_is_plain tag keys uid h = no_asterisk uid (bytes_eq uid (any_run ∷ [])) refl (passed is_uid (sole_at tag keys) uid h).1

-- what the law of matching says of keys
abbrev pub EachAlone : ElementList → Type 0
EachAlone keys = (held : ElementList) → fits keys held ≡ true → EachIsMet Outer keys held

module _ (records : List Record) (keys : ElementList) (known : AllByRecursion HasKnownVr (elements_of keys)) (alone : EachAlone keys) (r : Record)
    (own : HasOwn r) where
  abbrev held : ElementList
  held = data_set_of r.octets

  same_uid : (level : Level) (tag : Tag) → IsKeyOf UI tag → list_any (λ one. is_tag one tag) computed_tags ≡ false
      → is_some (uid_at tag keys) ≡ true → is_value (uid_at tag held) r.above ≡ true → fits keys (with_computed records level r) ≡ true
      → uid_at tag held ≡ uid_at tag keys
  same_uid level tag is other there said fit =
      let wanted = given (uid_at tag keys) there in
      let asked : List ℕ = unwrap_or (uid_at tag keys) [] in
      let has = value_from (uid_at tag held) r.above said in
      let met = one_alone UI tag is keys held (with_computed records level r) known own.known (stays records level r.key held tag other)
      (alone (with_computed records level r) fit) asked r.above (sole_of_uid tag keys asked wanted) (sole_of_uid tag held r.above has) in
      let same = (bytes_eq-Decides r.above asked).0 (uid_met asked r.above (uid_is_plain tag keys asked wanted) met) in
      has ∙ ap (λ (o : List ℕ). Some o) same ∙ sym wanted

  own_value : (level : Level) → r.kind ≡ kind_of level → has_above (kind_of level) r.above held ≡ true
  own_value level is = ap (λ (k : Kind). has_above k r.above held) (sym is) ∙ own.above

  -- a record that fits has the key above
  pub key_above_met : (level : Level) → r.kind ≡ kind_of level → has_keys_above level keys ≡ true → fits keys (with_computed records level r) ≡ true
      → HasKeyAbove level keys held
  unfolding has_above has_keys_above
  key_above_met Study is there fit = tt
  key_above_met Series is there fit =
      same_uid Series tags.study_instance_uid (unique_keys_are_uids Study) refl
      (and_parts (is_some (uid_at tags.study_instance_uid keys)) true there).0 (own_value Series is) fit
  key_above_met Image is there fit =
      let others = and_parts (is_some (uid_at tags.study_instance_uid keys)) (is_some (uid_at tags.series_instance_uid keys) && true) there in
      same_uid Image tags.series_instance_uid (unique_keys_are_uids Series) refl
      (and_parts (is_some (uid_at tags.series_instance_uid keys)) true others.1).0 (own_value Image is) fit

  key_to : (tag : Tag) → is_value (uid_at tag held) r.above ≡ true → uid_at tag held ≡ uid_at tag keys → r.above ≡ unwrap_or (uid_at tag keys) []
  key_to tag said same = ap (λ (o : Option (List ℕ)). unwrap_or o []) (sym (value_from (uid_at tag held) r.above said) ∙ same)

  -- and is under the record that it names
  pub under_met : (level : Level) → r.kind ≡ kind_of level → HasKeyAbove level keys held → IsUnder level keys r
  unfolding has_above
  under_met Study is key = tt
  under_met Series is key = key_to tags.study_instance_uid (own_value Series is) key
  under_met Image is key = key_to tags.series_instance_uid (own_value Image is) key
