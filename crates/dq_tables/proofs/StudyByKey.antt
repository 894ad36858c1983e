-- The one study with a key, among the studies of its institution.
use Rattle.std.proofs.Common.{◌≡◌, ℕ, Bool, true, false, ◌&&◌, List, [], ◌∷◌, filter, find, Option, Some, None, option_to_list, refl, sym, ap, ◌∙◌}
use Rattle.std.specs.Str.{bytes_eq}
use Rattle.std.proofs.lemmas.List.Elements.{filter_agree}
use Rattle.dq_tables.specs.declared.choice.Choice.{Choice}
use Rattle.dq_tables.specs.declared.row.Kind.{Kind}
use Rattle.dq_tables.specs.declared.row.Kind.TheVariants.{Study}
use Rattle.dq_tables.specs.declared.row.Row.{Row}
use Rattle.dq_tables.specs.Rows.{IsRising, RowPlace, place, record_of}
use Rattle.dq_tables.specs.Lookups.{row_at, rows_of, is_of_kind}
use Rattle.dq_tables.specs.StudyChoices.{is_none_or, has_asked_key, is_chosen, studies_in}
use Rattle.dq_tables.proofs.Order.{is_at, both_tests}
use Rattle.dq_tables.proofs.InOrder.{row_at_is, at_is_found}
use Rattle.dq_tables.proofs.Members.{one_at}

none_step : {X : Type 0} (p : X → Bool) (x : X) (xs : List X) (b : Bool) → p x ≡ b → find p (x ∷ xs) ≡ None → (find p xs ≡ None → filter p xs ≡ [])
    → filter p (x ∷ xs) ≡ []
none_step p x xs true h e on = absurd (let f = rw h at e in cc)
none_step p x xs false h e on = rw h (on (rw h at e))

none_passes : {X : Type 0} (p : X → Bool) (xs : List X) → find p xs ≡ None → filter p xs ≡ []
none_passes p [] e = refl
none_passes p (x ∷ xs) e = none_step p x xs (p x) refl e (none_passes p xs)

alone : (p : RowPlace) (rows : List Row) (found : Option Row) → IsRising rows → row_at p.kind p.institution p.key rows ≡ found
    → filter (is_at p) rows ≡ option_to_list found
alone p rows None rising found = none_passes (is_at p) rows (sym (row_at_is p rows) ∙ found)
alone p rows (Some row) rising found = one_at p rows row rising found

module _ (kind : Kind) (institution uid : List ℕ) (rows : List Row) (rising : IsRising rows) where
  abbrev keyed : Row → Bool
  keyed row = bytes_eq row.key uid

  abbrev here : RowPlace
  here = place kind institution uid

  -- the rows with the key are the one that is found, if it is
  keyed_is : filter keyed (rows_of kind institution rows) ≡ option_to_list (row_at kind institution uid rows)
  unfolding rows_of
  keyed_is =
      both_tests (is_of_kind kind institution) keyed rows
      ∙ filter_agree (λ (row : Row). is_of_kind kind institution row && keyed row) (is_at here) (at_is_found here) rows
      ∙ alone here rows (row_at kind institution uid rows) rising refl

twice : (a b : Bool) → (a && (a && b)) ≡ (a && b)
twice true b = refl
twice false b = refl

abbrev has_key : Choice → Row → Bool
has_key choice row = has_asked_key choice row.key

with_asked : (choice : Choice) (uid : List ℕ) (rows : List Row) → choice.uid ≡ Some uid
    → filter (λ (row : Row). bytes_eq row.key uid) rows ≡ filter (has_key choice) rows
with_asked choice uid rows is =
    sym (ap (λ (u : Option (List ℕ)). filter (λ (row : Row). is_none_or (bytes_eq row.key) u) rows) is)

-- those that pass a test that the key passes too are among those with the key
among_keyed : (choice : Choice) (test : Row → Bool) → ((row : Row) → (has_key choice row && test row) ≡ test row)
    → (rows : List Row) → filter test (filter (has_key choice) rows) ≡ filter test rows
among_keyed choice test passes rows =
    both_tests (has_key choice) test rows ∙ filter_agree (λ (row : Row). has_key choice row && test row) test passes rows

chosen_keyed : (choice : Choice) (institution : List ℕ) (rows : List Row)
    → filter (λ (row : Row). is_chosen choice (record_of row)) (filter (has_key choice) (rows_of Study institution rows)) ≡ studies_in choice institution rows
unfolding studies_in is_chosen
chosen_keyed choice institution rows =
    among_keyed choice (λ (row : Row). is_chosen choice (record_of row)) (λ row. twice (has_key choice row) _) (rows_of Study institution rows)

-- the study that has the key which a choice asks for gives all that it takes
pub chosen_of_one : (choice : Choice) (institution uid : List ℕ) (rows : List Row) → IsRising rows → choice.uid ≡ Some uid
    → filter (λ (row : Row). is_chosen choice (record_of row)) (option_to_list (row_at Study institution uid rows)) ≡ studies_in choice institution rows
chosen_of_one choice institution uid rows rising is =
    ap (filter (λ (row : Row). is_chosen choice (record_of row)))
    (sym (keyed_is Study institution uid rows rising) ∙ with_asked choice uid (rows_of Study institution rows) is)
    ∙ chosen_keyed choice institution rows
