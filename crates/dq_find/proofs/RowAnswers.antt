-- The answers of one row after the other, and what is not computed where no key asks for it.
use Rattle.std.proofs.Common.{◌≡◌, ℕ, Bool, true, false, cond, ◌||◌, List, [], ◌∷◌, ◌++◌, Option, Some, None, option_map, is_some, refl, sym, ap, ◌∙◌, arith}
use Rattle.std.specs.List.{list_any, list_all, filter_map}
use Rattle.std.proofs.lemmas.Bool.{or_parts}
use Rattle.std.proofs.lemmas.Bool.Decides.{nat_tests}
use Rattle.dq_vr.specs.declared.Tag.{Tag}
use Rattle.dq_vr.specs.Tags as tags
use Rattle.dq_dataset.specs.declared.data_set.Element.{Element}
use Rattle.dq_dataset.specs.declared.data_set.Value.TheVariants.{Octets, Items}
use Rattle.dq_dataset.specs.Tree.{ElementList, no_elements, element, sequence}
use Rattle.dq_dataset.specs.View.{elements_of, has_tag, list_of}
use Rattle.dq_dataset.specs.Editing.{merged_data_set}
use Rattle.dq_dataset.specs.Values.{element_at}
use Rattle.dq_match.specs.declared.keys.Nesting.TheVariants.{Outer}
use Rattle.dq_match.specs.AsLent.{is_met_at_once}
use Rattle.dq_match.specs.StandardMatching.{EachIsMet}
use Rattle.dq_match.specs.Keys.{is_tag, other_than_keys}
use Rattle.dq_match.specs.Matching.{fits}
use Rattle.dq_match.specs.Responses.{shown_data_set}
use Rattle.dq_match.proofs.Alone.{starts, unfit}
use Rattle.dq_tables.specs.declared.row.Row.{Row}
use Rattle.dq_tables.specs.Rows.{Record, record_of}
use Rattle.dq_find.specs.declared.level.Level.{Level}
use Rattle.dq_find.specs.declared.level.Level.TheVariants.{Study, Series, Image}
use Rattle.dq_find.specs.declared.query.Query.{Query}
use Rattle.dq_find.specs.ComputedKeys.{study_values, series_values, computed_keys}
use Rattle.dq_find.specs.Queries.{answer_elements, answer_if, record_answer, computed_tags, asks_computed}
use Rattle.dq_find.proofs.OtherElements.{element_stays}
use Rattle.dq_find.proofs.AlikeRecords.{Agree, fits_alike, shown_alike}

-- ---- nothing computed is asked for

is_tag-sym : (a b : Tag) → is_tag a b ≡ is_tag b a
is_tag-sym a b = grind (arith, nat_tests)

missing_by : (b : Bool) (e : Element) (others : Option Element) → is_some (cond b (Some e) others) ≡ false → (b ≡ false) × (is_some others ≡ false)
missing_by true e others h = absurd cc
missing_by false e others h = (refl, h)

-- the keys ask for none of the tags
abbrev asks_none : List Tag → ElementList → Bool
asks_none listed keys = list_any (λ tag. is_some (element_at tag keys)) listed

none_here : (listed : List Tag) (e : Element) (rest : ElementList)
    → list_any (λ tag. is_some (cond (is_tag e.tag tag) (Some e) (element_at tag rest))) listed ≡ false
    → (list_any (λ tag. is_tag tag e.tag) listed ≡ false) × (asks_none listed rest ≡ false)
none_here [] e rest h = (refl, refl)
none_here (tag ∷ others) e rest h =
    let parts = or_parts (is_some (cond (is_tag e.tag tag) (Some e) (element_at tag rest)))
    (list_any (λ tag. is_some (cond (is_tag e.tag tag) (Some e) (element_at tag rest))) others) h in
    let here = missing_by (is_tag e.tag tag) e (element_at tag rest) parts.0 in
    let later = none_here others e rest parts.1 in
    ((λ i. (is_tag-sym tag e.tag ∙ here.0) i || later.0 i), (λ i. here.1 i || later.1 i))

module _ (listed : List Tag) (sent : ElementList) (within : (tag : Tag) → list_any (λ one. is_tag one tag) listed ≡ false
    → list_any (has_tag tag) (elements_of sent) ≡ false)
    (held : ElementList) where
  agree_unasked : (keys : ElementList) → asks_none listed keys ≡ false → Agree keys (merged_data_set held sent) held
  agree_unasked no_elements h = tt
  agree_unasked (element t v o rest) h =
      let parts = none_here listed (record { tag = t; vr = v; value = Octets o }) rest h in
      (element_stays t held sent (within t parts.0), agree_unasked rest parts.1)
  agree_unasked (sequence t v items rest) h =
      let parts = none_here listed (record { tag = t; vr = v; value = Items (list_of items) }) rest h in
      (element_stays t held sent (within t parts.0), agree_unasked rest parts.1)

computed_tags_alone : (records : List Record) (level : Level) (key : List ℕ) (tag : Tag) → list_any (λ one. is_tag one tag) computed_tags ≡ false
    → list_any (has_tag tag) (elements_of (computed_keys records level key)) ≡ false
unfolding computed_keys study_values series_values
computed_tags_alone records Study key tag h = grind (arith, nat_tests)
computed_tags_alone records Series key tag h = grind (arith, nat_tests)
computed_tags_alone records Image key tag h = refl

pub stays : (records : List Record) (level : Level) (key : List ℕ) (held : ElementList) (tag : Tag) → list_any (λ one. is_tag one tag) computed_tags ≡ false
    → element_at tag (merged_data_set held (computed_keys records level key)) ≡ element_at tag held
stays records level key held tag other = element_stays tag held (computed_keys records level key) (computed_tags_alone records level key tag other)

-- a record is answered alike without what is computed
pub answered_alike : (records : List Record) (called key : List ℕ) (query : Query) (held : ElementList) → asks_computed query ≡ false
    → answer_if called query held ≡ answer_if called query (merged_data_set held (computed_keys records query.level key))
answered_alike records called key query held h =
    let sent : ElementList = computed_keys records query.level key in
    let agree = agree_unasked computed_tags sent (λ tag other. computed_tags_alone records query.level key tag other) held query.keys h in
    let fit = fits_alike query.keys (merged_data_set held sent) held agree (stays records query.level key held tags.scheduled_procedure_step_start_date refl)
    (stays records query.level key held tags.scheduled_procedure_step_start_time refl) in
    let show = shown_alike query.keys (merged_data_set held sent) held agree (stays records query.level key held tags.specific_character_set refl) in
    sym (λ i. option_map (answer_elements called query) (cond (fit i) (Some (show i)) None))

-- what a kept element does not meet alone
abbrev pub met_later : List Tag
met_later = other_than_keys ++ (computed_tags ++ starts)

-- a record that does not meet the keys that are kept does not answer, whatever is computed of it
pub not_met : (records : List Record) (called key : List ℕ) (query : Query) (held : ElementList)
    → ((whole : ElementList) → fits query.keys whole ≡ true → EachIsMet Outer query.keys whole)
    → list_all (is_met_at_once met_later held) (elements_of query.keys) ≡ false
    → answer_if called query (merged_data_set held (computed_keys records query.level key)) ≡ None
not_met records called key query held alone unmet =
    let whole : ElementList = merged_data_set held (computed_keys records query.level key) in
    ap (λ b. option_map (answer_elements called query) (cond b (Some (shown_data_set query.keys whole)) None))
    (unfit computed_tags query.keys held whole (stays records query.level key held) (alone whole) unmet)

-- the answers of some rows
abbrev pub row_answers : List Record → List ℕ → Query → List Row → List ElementList
row_answers records called query rows = filter_map (λ (row : Row). record_answer records called query (record_of row)) rows
