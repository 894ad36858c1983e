-- The records behind one that answered, and their answers.
use Rattle.std.proofs.Common.{◌≡◌, ℕ, zero, suc, ◌+◌, Bool, List, [], ◌∷◌, ◌++◌, drop, filter, Option, Some, None, is_some, slice_get, Ok, refl, sym, ap, ◌∙◌, arith, if◌then◌else◌}
use Rattle.std.specs.List.{filter_map, cons_option}
use Rattle.dq_dataset.specs.Tree.{ElementList}
use Rattle.dq_tables.specs.declared.row.Row.{Row}
use Rattle.dq_tables.specs.Rows.{Record, IsRising, of}
use Rattle.dq_find.specs.declared.query.Query.{Query}
use Rattle.dq_find.specs.Answers.{answering_behind}
use Rattle.dq_find.specs.Levels.{level_of}
use Rattle.dq_find.specs.Queries.{level_query, record_answer, asked_records, records_behind, answers_behind, found_behind, keys_outcome_after}
use Rattle.dq_find.proofs.QueryLaws.{asked_in_order}
use Rattle.dq_find.proofs.SearchPages.{later_of_one}

module _ {A : Type 0} (f : Record → Option A) where
  abbrev gives : Record → Bool
  gives r = is_some (f r)

  -- a record that gives something stands among the others, and those after it give what comes after
  pub record StandsAt (xs : List Record) (n : ℕ) (r : Record) : Type 0 where
    pub before : List Record
    pub later : List Record
    pub parts : xs ≡ before ++ (r ∷ later)
    pub behind : filter_map f later ≡ drop (suc n) (filter_map f xs)

  first_of : (x r : Record) (xs : List Record) (n : ℕ) (a : A) → slice_get (x ∷ filter gives xs) n ≡ Some r
      → ((m : ℕ) → slice_get (filter gives xs) m ≡ Some r → StandsAt xs m r)
      → (before : List Record) × (later : List Record) × (x ∷ xs ≡ before ++ (r ∷ later)) × (filter_map f later ≡ drop (suc n) (a ∷ filter_map f xs))
  first_of x r xs zero a is rest = ([], xs, ap (λ (y : Record). y ∷ xs) (the_same is), refl)
    where
      the_same : Some x ≡ Some r → x ≡ r
      the_same e = cc e
  first_of x r xs (suc m) a is rest =
      let found = rest m is in (x ∷ found.before, found.later, ap (λ (ys : List Record). x ∷ ys) found.parts, found.behind)

  step : (x r : Record) (xs : List Record) (n : ℕ) (o : Option A) → f x ≡ o → slice_get (if is_some o then x ∷ filter gives xs else filter gives xs) n ≡ Some r
      → ((m : ℕ) → slice_get (filter gives xs) m ≡ Some r → StandsAt xs m r)
      → (before : List Record) × (later : List Record) × (x ∷ xs ≡ before ++ (r ∷ later)) × (filter_map f later ≡ drop (suc n) (cons_option o (filter_map f xs)))
  step x r xs n None none is rest =
      let found = rest n is in (x ∷ found.before, found.later, ap (λ (ys : List Record). x ∷ ys) found.parts, found.behind)
  step x r xs n (Some a) some is rest = first_of x r xs n a is rest

  pub stands_at : (xs : List Record) (n : ℕ) (r : Record) → slice_get (filter gives xs) n ≡ Some r → StandsAt xs n r
  stands_at [] n r is = absurd cc
  stands_at (x ∷ xs) n r is =
      let found = step x r xs n (f x) refl is (λ m e. stands_at xs m r e) in
      record { before = found.0; later = found.1; parts = found.2; behind = found.3 }

  -- and what it gives stands there among what is given
  here : (x r : Record) (xs : List Record) (n : ℕ) (o : Option A) → f x ≡ o → slice_get (if is_some o then x ∷ filter gives xs else filter gives xs) n ≡ Some r
      → ((m : ℕ) → slice_get (filter gives xs) m ≡ Some r → slice_get (filter_map f xs) m ≡ f r)
      → slice_get (cons_option o (filter_map f xs)) n ≡ f r
  here x r xs n None none is rest = rest n is
  here x r xs zero (Some a) some is rest = sym some ∙ ap f (the_same is)
    where
      the_same : Some x ≡ Some r → x ≡ r
      the_same e = cc e
  here x r xs (suc m) (Some a) some is rest = rest m is

  pub given_at : (xs : List Record) (n : ℕ) (r : Record) → slice_get (filter gives xs) n ≡ Some r → slice_get (filter_map f xs) n ≡ f r
  given_at [] n r is = absurd cc
  given_at (x ∷ xs) n r is = here x r xs n (f x) refl is (λ m e. given_at xs m r e)

module _ (institution : List ℕ) (rows : List Row) (rising : IsRising rows) (after : Option (List ℕ)) (called : List ℕ) (query : Query) (number : ℕ)
    (last : Record) (is : slice_get (answering_behind after (of institution rows) called query) number ≡ Some last) where
  answers_on : answers_behind (Some last.key) (of institution rows) called query ≡ drop (number + 1) (answers_behind after (of institution rows) called query)
  unfolding answers_behind
  answers_on =
      let records = of institution rows in
      let asked = asked_records records query in
      let at = stands_at (record_answer records called query) (records_behind after asked) number last is in
      let one_more : suc number ≡ number + 1 = omega arith in
      ap (filter_map (record_answer records called query)) (later_of_one asked (asked_in_order institution rows query rising) after at.before last at.later at.parts)
      ∙ at.behind
      ∙ (λ i. drop (one_more i) (filter_map (record_answer records called query) (records_behind after asked)))

module _ (institution : List ℕ) (rows : List Row) (after : Option (List ℕ)) (called : List ℕ) (identifier : ElementList) (query : Query) (number : ℕ)
    (last : Record) (rising : IsRising rows) (asked : level_query identifier (level_of identifier) ≡ Ok query)
    (is : slice_get (answering_behind after (of institution rows) called query) number ≡ Some last) where
  pub last_given : slice_get (keys_outcome_after after (of institution rows) called identifier).answers number ≡ record_answer (of institution rows) called query last
  unfolding keys_outcome_after answers_behind
  last_given =
      let records = of institution rows in
      (λ i. slice_get (found_behind after records called (asked i)).answers number)
      ∙ given_at (record_answer records called query) (records_behind after (asked_records records query)) number last is

  pub goes_on : (keys_outcome_after (Some last.key) (of institution rows) called identifier).answers
      ≡ drop (number + 1) (keys_outcome_after after (of institution rows) called identifier).answers
  unfolding keys_outcome_after
  goes_on =
      let records = of institution rows in
      (λ i. (found_behind (Some last.key) records called (asked i)).answers)
      ∙ answers_on institution rows rising after called query number last is
      ∙ (λ i. drop (number + 1) (found_behind after records called (sym asked i)).answers)
