-- The C-FIND that is open in a slot, as a piece is taken and answered there.
use Rattle.std.proofs.Common.{◌≡◌, ℕ, ◌≤◌, Bool, true, false, ◌&&◌, List, length, Option, Some, None, is_some, ◌⊎◌, inl, inr, refl, sym, ap, subst, ◌∙◌}
use Rattle.std.specs.Str.{bytes_eq}
use Rattle.std.proofs.lemmas.Bool.{false≢true}
use Rattle.std.proofs.lemmas.Slice.Eq.{bytes_eq-Decides}
use Rattle.dq_assoc.specs.declared.agreement.Agreement.{Agreement}
use Rattle.dq_config.specs.declared.config.Institution.{Institution}
use Rattle.dq_config.specs.Routing.{institution_named}
use Rattle.dq_tables.specs.declared.row.Row.{Row}
use Rattle.dq_archive.specs.declared.additions.Addition.{Addition}
use Rattle.dq_core.specs.declared.pages.OpenQuery.{OpenQuery as HeldQuery}
use Rattle.dq_core.specs.Additions.{log_at, log_of, owner_place}
use Rattle.dq_core.specs.Pages.{OpenQuery}
use Rattle.dq_core.specs.Queries.{query_then, query_by, IsBegun}
use Rattle.dq_core.specs.Slots.{associated_institution, is_of_institution, institution_at, IsBegunAt, query_at}

-- no C-FIND of an institution is open in a slot
abbrev pub IsFree : Option Institution → Option (List ℕ) → Option HeldQuery → Type 0
IsFree None home query = ⊥
IsFree (Some i) home query = (is_of_institution i.name home && is_some query) ≡ false

module _ (institutions : List Institution) (rows : List Row) (logs : List (List Addition)) where
  none-of : (q : Option Institution) (home : Option (List ℕ)) (log : List Addition) → query_by q rows log None ≡ query_at institutions rows logs home None
  none-of None None log = refl
  none-of None (Some home) log = refl
  none-of (Some i) None log = refl
  none-of (Some i) (Some home) log = refl

  -- ---- as it is taken

  abbrev pub Comes : Option Institution → Option (List ℕ) → Option HeldQuery → List Addition → Type 0
  Comes q home query log = (query_by q rows log query ≡ query_at institutions rows logs home query) × IsBegun log query

  searched : (i : Institution) (home : List ℕ) (query : HeldQuery) (log : List Addition) → home ≡ i.name
      → IsBegunAt institutions logs (Some home) (Some query) → log ≡ log_of institutions logs i.name → Comes (Some i) (Some home) (Some query) log
  searched i home query log name begun is = (
    ap (λ (l : List Addition). query_then i.name rows l (Some query)) is ∙ (λ j. query_then (sym name j) rows (log_of institutions logs (sym name j)) (Some query)),
    subst (λ (l : List Addition). query.since ≤ length l) (sym (is ∙ ap (log_of institutions logs) (sym name))) begun.0,
  )

  not-free : (i : Institution) (home : List ℕ) (next : Option (List ℕ)) (query : HeldQuery) → home ≡ i.name
      → (Some home ≡ None) ⊎ (next ≡ Some home) → IsFree (Some i) next (Some query) → ⊥
  not-free i home next query name (inl none) free = cc
  not-free i home next query name (inr same) free =
      false≢true (sym (subst (λ (h : Option (List ℕ)). (is_of_institution i.name h && true) ≡ false) same free) ∙ (λ j. (bytes_eq-Decides home i.name).1 name j && true))

  pub comes : (q : Option Institution) (agreed : Option Agreement) (home next : Option (List ℕ)) (query : Option HeldQuery) (log : List Addition)
      → home ≡ associated_institution q agreed → (home ≡ None) ⊎ (next ≡ home) → IsBegunAt institutions logs home query
      → (log ≡ log_at logs (owner_place institutions q)) ⊎ IsFree q next query → Comes q home query log
  comes q agreed home next None log is stays begun taken = (none-of q home log, tt)
  comes q agreed None next (Some query) log is stays begun taken = absurd begun
  comes None agreed (Some home) next (Some query) log is stays begun taken = cc
  comes (Some i) None (Some home) next (Some query) log is stays begun taken = cc
  comes (Some i) (Some agreement) (Some home) next (Some query) log is stays begun (inl same) =
      let name : home ≡ i.name = cc in searched i home query log name begun same
  comes (Some i) (Some agreement) (Some home) next (Some query) log is stays begun (inr free) =
      let name : home ≡ i.name = cc in absurd (not-free i home next query name stays free)

  -- ---- as it is answered

  abbrev pub Stays : Option Institution → Option (List ℕ) → Option HeldQuery → List Addition → Type 0
  Stays q home query log = (query_at institutions rows logs home query ≡ query_by q rows log query) × IsBegunAt institutions logs home query

  pub goes-on : (q : Option Institution) (agreed : Option Agreement) (home : Option (List ℕ)) (query : Option HeldQuery) (log : List Addition)
      → home ≡ associated_institution q agreed → (home ≡ None → query ≡ None)
      → ((i : Institution) → q ≡ Some i → (log_of institutions logs i.name ≡ log) × (institution_named institutions i.name ≡ Some i))
      → IsBegun log query → Stays q home query log
  goes-on q agreed home None log is homeless logged begun = (sym (none-of q home log), tt)
  goes-on q agreed None (Some query) log is homeless logged begun = let none : Some query ≡ None = homeless refl in cc
  goes-on None agreed (Some home) (Some query) log is homeless logged begun = cc
  goes-on (Some i) None (Some home) (Some query) log is homeless logged begun = cc
  goes-on (Some i) (Some agreement) (Some home) (Some query) log is homeless logged begun =
      let name : home ≡ i.name = cc in
      let it = logged i refl in
      let same : log_of institutions logs home ≡ log = ap (log_of institutions logs) name ∙ it.0 in (
        (λ j. query_then (name j) rows (same j) (Some query)),
        (
          subst (λ (l : List Addition). query.since ≤ length l) (sym same) begun,
          i,
          ap (institution_named institutions) name ∙ it.1,
          sym name,
        ),
      )

  -- ---- as it is pulled

  pub pulled-at : (home : Option (List ℕ)) (i : Institution) (query : HeldQuery) (log : List Addition) → institution_at institutions home ≡ Some i
      → log ≡ log_of institutions logs i.name → IsBegunAt institutions logs home (Some query) → (left : Option HeldQuery)
      → query_at institutions rows logs home left ≡ query_then i.name rows log left
  pulled-at None i query log there is begun left = cc
  pulled-at (Some home) i query log there is begun left =
      let both : Some i ≡ Some begun.1 = sym there ∙ begun.2 in
      let same : i ≡ begun.1 = cc in
      let name : home ≡ i.name = sym begun.3 ∙ ap (λ (x : Institution). x.name) (sym same) in
      (λ k. query_then (name k) rows (log_of institutions logs (name k)) left) ∙ ap (λ (l : List Addition). query_then i.name rows l left) (sym is)
