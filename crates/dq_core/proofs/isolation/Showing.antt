-- What an institution is shown is its own.
use Rattle.std.proofs.Common.{◌≡◌, ℕ, List, [], ◌∷◌, Option, Some, None, refl, sym, ap, ◌∙◌}
use Rattle.std.specs.Prelude.{Contains}
use Rattle.std.specs.Option.{option_map}
use Rattle.std.proofs.lemmas.Slice.Eq.{bytes_eq-Decides}
use Rattle.dq_config.specs.declared.config.Institution.{Institution}
use Rattle.dq_config.specs.Routing.{institution_named}
use Rattle.dq_tables.specs.declared.row.Row.{Row}
use Rattle.dq_tables.specs.Rows.{Record, of}
use Rattle.dq_core.specs.Owners.{HaveOwnNames}
use Rattle.dq_core.specs.Showing.{shown_of}
use Rattle.dq_core.proofs.isolation.Named.{named-own}
use Rattle.dq_core.proofs.isolation.Others.{named-name}

named-alone : (i : Institution) → institution_named (i ∷ []) i.name ≡ Some i
unfolding institution_named
named-alone i = rw ((bytes_eq-Decides i.name i.name).1 refl) refl

module _ {A : Type 0} (see : List Record → A) where
  -- on a server that it has alone
  pub shown-alone : (institutions : List Institution) (i : Institution) (rows alone : List Row) → HaveOwnNames institutions → Contains institutions i
      → of i.name rows ≡ of i.name alone → shown_of institutions i.name rows see ≡ shown_of (i ∷ []) i.name alone see
  shown-alone institutions i rows alone names listed same =
      ap (option_map (λ (j : Institution). see (of j.name rows))) (named-own institutions i names listed)
      ∙ ap (λ (records : List Record). Some (see records)) same
      ∙ sym (ap (option_map (λ (j : Institution). see (of j.name alone))) (named-alone i))

  shown-by : (name : List ℕ) (rows alike : List Row) → of name rows ≡ of name alike → (o : Option Institution)
      → ((i : Institution) → o ≡ Some i → i.name ≡ name)
      → option_map (λ (j : Institution). see (of j.name rows)) o ≡ option_map (λ (j : Institution). see (of j.name alike)) o
  shown-by name rows alike same None named = refl
  shown-by name rows alike same (Some i) named =
      ap (λ (records : List Record). Some (see records)) (ap (λ (n : List ℕ). of n rows) (named i refl) ∙ same ∙ sym (ap (λ (n : List ℕ). of n alike) (named i refl)))

  -- whatever others keep
  pub shown-alike : (institutions : List Institution) (name : List ℕ) (rows alike : List Row) → of name rows ≡ of name alike
      → shown_of institutions name rows see ≡ shown_of institutions name alike see
  shown-alike institutions name rows alike same = shown-by name rows alike same (institution_named institutions name)
      (λ i found. (bytes_eq-Decides i.name name).0 (named-name name institutions i found))
