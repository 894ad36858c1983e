-- A C-FIND that is open finds what it would have found, whatever is stored since.
use Rattle.std.proofs.Common.{◌≡◌, ◌≢◌, ℕ, zero, suc, ◌+◌, ◌≤◌, ◌<◌, Bool, true, false, ◌&&◌, List, [], ◌∷◌, ◌++◌, length, drop, map, Option, Some, None, option_map, is_some, Contains, refl, sym, ap, subst, ◌∙◌, arith, length-append, length-set, get_or}
use Rattle.std.proofs.lemmas.List.{get_or-set_same, get_or-set_other}
use Rattle.std.proofs.lemmas.List.Quantifiers.{position-Some}
use Rattle.std.specs.Str.{bytes_eq}
use Rattle.std.proofs.lemmas.Bool.{false≢true}
use Rattle.std.proofs.lemmas.Slice.Eq.{bytes_eq-Decides}
use Rattle.slab.specs.Slab.{Slab, get}
use Rattle.dq_dataset.specs.Tree.{ElementList}
use Rattle.dq_match.specs.declared.responses.Found.{Found}
use Rattle.dq_config.specs.declared.config.Institution.{Institution}
use Rattle.dq_tables.specs.declared.row.Row.{Row}
use Rattle.dq_tables.specs.Rows.{Record, of}
use Rattle.dq_archive.specs.declared.additions.Addition.{Addition}
use Rattle.dq_archive.specs.Additions.{lasting_records, without, IsTold}
use Rattle.dq_find.specs.OpenSearches.{left_of}
use Rattle.dq_find.proofs.LastingRecords.{left_by}
use Rattle.dq_core.specs.declared.answers.Answers.{Answers}
use Rattle.dq_core.specs.declared.answers.Answers.TheVariants as answers
use Rattle.dq_core.specs.declared.pages.OpenQuery.{OpenQuery as HeldQuery}
use Rattle.dq_core.specs.declared.slot.Slot.{Slot}
use Rattle.dq_core.specs.Additions.{log_at, log_of, with_log}
use Rattle.dq_core.specs.Connections.{Connection}
use Rattle.dq_core.specs.Pages.{OpenQuery}
use Rattle.dq_core.specs.Queries.{at_hand, to_be_found, status_of, optional_of, found_left, open_query_of, records_since}
use Rattle.dq_core.specs.Services.{responses}
use Rattle.dq_core.specs.Slots.{IsBegunAt, query_at, is_of_institution, IsAt, AreAt}
use Rattle.dq_core.specs.OpenAssociations.{institution_index}
use Rattle.dq_core.proofs.OpenAssociations.{listed-place}

-- ---- one query

dropped : (log told : List Addition) (since : ℕ) → since ≤ length log → drop since (log ++ told) ≡ drop since log ++ told
dropped log told zero le = refl
dropped [] told (suc since) le = absurd (omega (arith, le))
dropped (x ∷ log) told (suc since) le = dropped log told since (omega (arith, le))

found_alike : (one other : List Record) → lasting_records one ≡ lasting_records other → (it : Answers) → to_be_found one it ≡ to_be_found other it
found_alike one other same (answers.Found queue) = refl
found_alike one other same (answers.Lazy lazy) = left_by lazy.search one other same

found_left-alike : (one other : List Record) → lasting_records one ≡ lasting_records other → (it : Answers) → found_left one it ≡ found_left other it
found_left-alike one other same it =
    ap (λ (more : List ElementList). record { status = status_of it; optional = optional_of it; answers = at_hand it ++ more }) (found_alike one other same it)

pub query_alike : (one other : List Record) → lasting_records one ≡ lasting_records other → (q : HeldQuery) → open_query_of one q ≡ open_query_of other q
query_alike one other same q =
    ap (λ (f : Found). record { context = q.context.id; limit = q.limit; left = responses q.context q.command f })
    (found_left-alike one other same q.answers)

-- what is told since is left out
told_alike : {name : List ℕ} {before now : List Row} {log new : List Addition} → IsTold name before now log new → (since : ℕ) → since ≤ length log
    → lasting_records (records_since name now new since) ≡ lasting_records (records_since name before log since)
told_alike {name = name} {now = now} {log = log} told since le =
    ap (λ (l : List Addition). lasting_records (without l (of name now))) (ap (drop since) told.behind ∙ dropped log told.told since le)
    ∙ told.stays (drop since log)

-- ---- the queries of all slots

module _ (institutions : List Institution) (rows now : List Row) (logs new : List (List Addition)) where
  -- a query began before, and finds what it would have found
  abbrev pub Kept : Option (List ℕ) → Option HeldQuery → Type 0
  Kept home query =
      IsBegunAt institutions logs home query
      → IsBegunAt institutions new home query × (query_at institutions now new home query ≡ query_at institutions rows logs home query)

  none-at : (home : Option (List ℕ)) → query_at institutions now new home None ≡ query_at institutions rows logs home None
  none-at None = refl
  none-at (Some home) = refl

  pub no-query : (home : Option (List ℕ)) → Kept home None
  no-query home begun = (tt, none-at home)

  -- where all of an institution is as it was
  pub same-kept : (home : List ℕ) (q : HeldQuery) → of home now ≡ of home rows → log_of institutions new home ≡ log_of institutions logs home
      → Kept (Some home) (Some q)
  same-kept home q records log begun = (
    (subst (λ (l : List Addition). q.since ≤ length l) (sym log) begun.0, begun.1, begun.2, begun.3),
    (λ i. Some (open_query_of (without (drop q.since (log i)) (records i)) q)),
  )

  -- where what was added to it is told
  pub told-kept : (home : List ℕ) (q : HeldQuery) → IsTold home rows now (log_of institutions logs home) (log_of institutions new home)
      → Kept (Some home) (Some q)
  told-kept home q told begun = (
    (omega (arith, begun.0, ap length told.behind, length-append (log_of institutions logs home) told.told), begun.1, begun.2, begun.3),
    ap Some (query_alike (records_since home now (log_of institutions new home) q.since) (records_since home rows (log_of institutions logs home) q.since)
        (told_alike told q.since begun.0) q),
  )

  module _ (name : List ℕ) (others : (other : List ℕ) → other ≢ name → (of other now ≡ of other rows) × (log_of institutions new other ≡ log_of institutions logs other)) where
    kept-by : (home : List ℕ) (q : HeldQuery) (b : Bool) → bytes_eq home name ≡ b
        → (home ≡ name → Kept (Some home) (Some q)) → Kept (Some home) (Some q)
    kept-by home q true e own = own ((bytes_eq-Decides home name).0 e)
    kept-by home q false e own =
        let same = others home (λ f. false≢true (sym e ∙ (bytes_eq-Decides home name).1 f)) in same-kept home q same.0 same.1

    pub all-kept : IsTold name rows now (log_of institutions logs name) (log_of institutions new name) → (home : Option (List ℕ)) (query : Option HeldQuery) → Kept home query
    all-kept told home None = no-query home
    all-kept told None (Some q) = λ begun. absurd begun
    all-kept told (Some home) (Some q) = kept-by home q (bytes_eq home name) refl
        (λ f. told-kept home q (subst (λ (n : List ℕ). IsTold n rows now (log_of institutions logs n) (log_of institutions new n)) (sym f) told))

    pub unsearched-kept : (home : Option (List ℕ)) (query : Option HeldQuery) → (is_of_institution name home && is_some query) ≡ false → Kept home query
    unsearched-kept home None free = no-query home
    unsearched-kept None (Some q) free = λ begun. absurd begun
    unsearched-kept (Some home) (Some q) free = kept-by home q (bytes_eq home name) refl
        (λ f. absurd (false≢true (sym free ∙ (λ i. (bytes_eq-Decides home name).1 f i && true))))

  -- each slot keeps what its connection asks
  pub all-stay : (slots : Slab Slot) → ((place : ℕ) (slot : Slot) → get slots place ≡ Some slot → Kept slot.institution slot.query)
      → (es : List (ℕ × ℕ)) (cs : List Connection) → AreAt institutions rows logs slots es cs → AreAt institutions now new slots es cs
  all-stay slots kept [] [] h = tt
  all-stay slots kept [] (c ∷ cs) h = absurd h
  all-stay slots kept (x ∷ es) [] h = absurd h
  all-stay slots kept (x ∷ es) (c ∷ cs) h =
      let w = h.0 in
      let k = kept x.1 w.slot w.there w.asks.begun in (
        record {
          slot = w.slot;
          there = w.there;
          numbered = w.numbered;
          held = w.held;
          asks = record { begun = k.0; query = k.1 ∙ w.asks.query };
        },
        all-stay slots kept es cs h.1,
      )

-- ---- logs

module _ (institutions : List Institution) (logs : List (List Addition)) (i : Institution) (listed : Contains institutions i)
    (many : length logs ≡ length institutions) (log : List Addition) where
  abbrev with-it : List (List Addition)
  with-it = with_log logs (institution_index institutions i.name) log

  own-at : (o : Option ℕ) → (place : ℕ) → o ≡ Some place → place < length logs → log_at (with_log logs o log) o ≡ log
  own-at o place e within = rw e (get_or-set_same logs place log [] within)

  pub own-log : log_of institutions with-it i.name ≡ log
  own-log =
      let at = listed-place institutions i listed in
      own-at (institution_index institutions i.name) at.0 at.1 (omega (arith, at.2, many))

  apart-places : (other : List ℕ) (one two : ℕ) → institution_index institutions i.name ≡ Some one → institution_index institutions other ≡ Some two
      → other ≢ i.name → two ≢ one
  apart-places other one two e d n f =
      let first = (position-Some (λ (x : Institution). bytes_eq x.name i.name) institutions one i e).1 in
      let second = (position-Some (λ (x : Institution). bytes_eq x.name other) institutions two i d).1 in
      let moved : bytes_eq (get_or institutions one i).name other ≡ true = rw f at second in
      n (sym ((bytes_eq-Decides (get_or institutions one i).name other).0 moved) ∙ (bytes_eq-Decides (get_or institutions one i).name i.name).0 first)

  other-at : (other : List ℕ) (o : Option ℕ) → institution_index institutions other ≡ o → other ≢ i.name → log_at with-it o ≡ log_at logs o
  other-at other None d n = refl
  other-at other (Some two) d n =
      let at = listed-place institutions i listed in
      rw at.1 (get_or-set_other logs at.0 two log [] (apart-places other at.0 two at.1 d n))

  pub other-log : (other : List ℕ) → other ≢ i.name → log_of institutions with-it other ≡ log_of institutions logs other
  other-log other n = other-at other (institution_index institutions other) refl n

  pub same-many : length with-it ≡ length institutions
  same-many = with-length (institution_index institutions i.name) ∙ many
    where
      with-length : (o : Option ℕ) → length (with_log logs o log) ≡ length logs
      with-length None = refl
      with-length (Some place) = length-set logs place log
