-- Answers that a page takes of some records in order, a few at a time.
use Rattle.std.proofs.Common.{◌≡◌, ℕ, zero, suc, ◌<◌, ◌≤◌, ◌⊎◌, List, [], ◌∷◌, ◌++◌, length, take, drop, map, Option, Ok, inl, inr, refl, sym, ap, ◌∙◌, arith}
use Rattle.std.proofs.lemmas.List.{length-map, take-append-drop}
use Rattle.dq_dataset.specs.Tree.{ElementList}
use Rattle.dq_match.specs.Parts.{with_others}
use Rattle.dq_match.specs.declared.page_collector.PageCollector.{PageCollector}
use Rattle.dq_tables.specs.Records.{AreInOrder}
use Rattle.dq_tables.specs.Rows.{Record, row_of}
use Rattle.dq_tables.specs.TableStates.{State}
use Rattle.dq_tables.specs.declared.row.Row.{Row}
use Rattle.dq_archive.proofs.PastLookups.{LooksSoFar, looks_on}
use Rattle.dq_archive.specs.PastArchives.{QueriesOnly, records_in}
use Rattle.dq_archive.specs.declared.past.Past.{Past}
use Rattle.dq_find.specs.OpenSearches.{last_key}
use Rattle.dq_find.specs.Queries.{records_behind}
use Rattle.dq_find.specs.StudyImages.{Takes, TakesAnswers}
use Rattle.dq_find.proofs.SearchPages.{after_last, ends_of, last_of}
use Rattle.dq_find.proofs.StudyImages.{StillTakes, some_taken, full_takes, takes_on}

-- none comes behind fewer than were asked for
none_behind : (most : ℕ) (xs : List Record) → length (take most xs) < most → drop most xs ≡ []
none_behind zero xs few = absurd (omega arith)
none_behind (suc most) [] few = refl
none_behind (suc most) (x ∷ xs) few = none_behind most xs (omega arith)

-- as many as were asked for have a last one, and the others come behind it
module _ (institution : List ℕ) (all : List Record) (ordered : AreInOrder all) (after : Option (List ℕ)) (most : ℕ) where
  abbrev part : List Record
  part = take most (records_behind after all)

  behind_by : 0 < most → (part ≡ []) ⊎ ((before : List Record) × (r : Record) × (part ≡ before ++ (r ∷ []))) → most ≤ length part
      → drop most (records_behind after all) ≡ records_behind (last_key (map (row_of institution) part)) all
  behind_by some (inl none) many = absurd (let few : length part ≡ 0 = ap length none in omega arith)
  behind_by some (inr (before, r, is)) many =
      after_last all ordered after most before r is
      ∙ sym (ap (λ (key : Option (List ℕ)). records_behind key all) (ap (λ l. last_key (map (row_of institution) l)) is ∙ last_of institution before r))

  behind_last : 0 < most → (rows : List Row) → rows ≡ map (row_of institution) part → most ≤ length rows
      → drop most (records_behind after all) ≡ records_behind (last_key rows) all
  behind_last some rows listed many =
      behind_by some (ends_of part) (let same : length rows ≡ length part = ap length listed ∙ length-map part (row_of institution) in omega arith)
      ∙ ap (λ (them : List Row). records_behind (last_key them) all) (sym listed)

  none_left : (rows : List Row) → rows ≡ map (row_of institution) part → length rows < most → drop most (records_behind after all) ≡ []
  none_left rows listed few =
      none_behind most (records_behind after all)
      (let same : length rows ≡ length part = ap length listed ∙ length-map part (row_of institution) in omega arith)

-- Some of the records of a look-up, and the answers that they give. A page that took none of them at first has still to
-- take what those behind a key give.
abbrev pub LeftBehind : (List Record → List Record) → (List Record → List Record → List ElementList) → PageCollector → PageCollector → Option (List ℕ)
    → List Record → Type 0
LeftBehind all given start page after records =
    StillTakes page (given records (records_behind after (all records))) start (given records (all records)) × AreInOrder (all records)

-- a few records behind a key, as rows
abbrev pub few_rows : List ℕ → ℕ → (List Record → List Record) → Option (List ℕ) → List Record → List Row
few_rows institution most all after records = map (row_of institution) (take most (records_behind after (all records)))

module _ {T : Type 0} (state : T → State) (institution : List ℕ) (most : ℕ) (all : List Record → List Record)
    (given : List Record → List Record → List ElementList) (start : PageCollector) where
  -- these were looked at, and what the others give is left
  abbrev LeftOthers : PageCollector → Option (List ℕ) → List Row → List Record → Type 0
  LeftOthers page after rows records =
      StillTakes page (given records (drop most (records_behind after (all records)))) start (given records (all records)) × AreInOrder (all records)
      × (rows ≡ few_rows institution most all after records)

  part_taken : ((records xs ys : List Record) → given records (xs ++ ys) ≡ given records xs ++ given records ys) → (records : List Record)
      (page next : PageCollector) (after : Option (List ℕ))
      → StillTakes page (given records (records_behind after (all records))) start (given records (all records))
      → Takes page (given records (take most (records_behind after (all records)))) next
      → StillTakes next (given records (drop most (records_behind after (all records)))) start (given records (all records))
  part_taken both records page next after so_far takes =
      let rest = records_behind after (all records) in
      let parts : given records rest ≡ given records (take most rest) ++ given records (drop most rest) =
      ap (given records) (sym (take-append-drop most rest)) ∙ both records (take most rest) (drop most rest) in
      some_taken page next start (given records (take most rest)) (given records (drop most rest)) (given records (all records)) takes
      (λ others. ap (λ (answers : List ElementList). with_others page (answers ++ others)) (sym parts) ∙ so_far others)

  -- a few more were looked at
  pub few_taken : ((records xs ys : List Record) → given records (xs ++ ys) ≡ given records xs ++ given records ys) → (old one two three : Past T)
      (after : Option (List ℕ)) (rows : List Row) (page next : PageCollector)
      → LooksSoFar state old one (tt {0}) (LeftBehind all given start page after) → QueriesOnly state one two (few_rows institution most all after) (Ok rows)
      → (look : List Record → List ElementList) → TakesAnswers state two three page next look (Ok (tt {0}))
      → ((records : List Record) → rows ≡ few_rows institution most all after records
      → look records ≡ given records (take most (records_behind after (all records))))
      → LooksSoFar state old three (tt {0}) (LeftOthers next after rows)
  few_taken both old one two three after rows page next so_far listed look takes alike =
      let Found : List Record → Type 0 =
      λ records. LeftBehind all given start page after records × (rows ≡ few_rows institution most all after records) in
      let found = looks_on state old one two (tt {0}) (LeftBehind all given start page after) so_far rows rows (few_rows institution most all after) Found
      listed (λ records left is. (left, is)) in
      takes_on state old two three rows Found found page next look takes (tt {0}) (LeftOthers next after rows)
      (λ records fact taken. (
        part_taken both records page next after fact.0.0
            (λ others. taken others ∙ ap (λ (answers : List ElementList). with_others page (answers ++ others)) (alike records fact.1)),
        fact.0.1,
        fact.1,
      ))

  module _ (old new : Past T) (after : Option (List ℕ)) (rows : List Row) (page : PageCollector)
      (so_far : LooksSoFar state old new (tt {0}) (LeftOthers page after rows)) where
    -- as many as were asked for: what comes behind the last of them is left
    pub left_behind : 0 < most → most ≤ length rows → LooksSoFar state old new (tt {0}) (LeftBehind all given start page (last_key rows))
    left_behind some many = record {
      same = so_far.same;
      reads = so_far.reads;
      fact = λ h.
          (let records = records_in state old in
          let fact = so_far.fact h in (
            λ others. ap (λ (them : List Record). with_others page (given records them ++ others))
                (sym (behind_last institution (all records) fact.1 after most some rows fact.2 many)) ∙ fact.0 others,
            fact.1,
          ));
    }

    -- fewer came than were asked for, so no other one gives anything
    pub taken_all : ((records : List Record) → given records [] ≡ []) → length rows < most
        → TakesAnswers state old new start page (λ records. given records (all records)) (Ok (tt {0}))
    taken_all nothing few = record {
      same = so_far.same;
      reads = so_far.reads;
      taken = λ h others.
          (let records = records_in state old in
          let fact = so_far.fact h in
          let none : given records (drop most (records_behind after (all records))) ≡ [] =
          ap (given records) (none_left institution (all records) fact.1 after most rows fact.2 few) ∙ nothing records in
          ap (λ (answers : List ElementList). with_others page (answers ++ others)) (sym none) ∙ fact.0 others);
    }

  -- the page is full
  pub taken_full : (old new : Past T) (after : Option (List ℕ)) (page : PageCollector) → LooksSoFar state old new (tt {0}) (LeftBehind all given start page after)
      → ((others : List ElementList) → with_others page others ≡ page.answers)
      → TakesAnswers state old new start page (λ records. given records (all records)) (Ok (tt {0}))
  taken_full old new after page so_far full = record {
    same = so_far.same;
    reads = so_far.reads;
    taken = λ h.
        (let records = records_in state old in
        full_takes page start (given records (records_behind after (all records))) (given records (all records)) full (so_far.fact h).0);
  }
