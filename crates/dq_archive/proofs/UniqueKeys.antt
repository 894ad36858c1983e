-- The record of a kind that has a key is the only one with it.
use Rattle.std.proofs.Common.{◌≡◌, ℕ, Bool, true, false, ◌&&◌, List, [], ◌∷◌, find, filter, Some, cond, refl, sym, ap, ◌∙◌, if◌then◌else◌}
use Rattle.std.specs.List.{AllByRecursion}
use Rattle.std.specs.Option.{option_to_list}
use Rattle.std.specs.Str.{bytes_eq}
use Rattle.std.specs.declared.cmp.Ordering.TheVariants.{Less}
use Rattle.std.proofs.lemmas.Cmp.{nat_list_cmp_total, tied_itself}
use Rattle.std.proofs.lemmas.Slice.Eq.{bytes_eq-Decides}
use Rattle.dq_tables.specs.declared.row.Kind.{Kind}
use Rattle.dq_tables.specs.Rows.{Record, octet_order}
use Rattle.dq_tables.specs.Lookups.{same_kind, record_at, records_of}
use Rattle.dq_tables.specs.Records.{AreInOrder}

module _ (kind : Kind) (uid : List ℕ) where
  abbrev is_of_kind : Record → Bool
  is_of_kind r = same_kind r.kind kind

  abbrev is_named : Record → Bool
  is_named r = bytes_eq r.key uid

  -- in order, none comes after it
  none_after : (key : List ℕ) → key ≡ uid → (later : List Record) → AllByRecursion (λ (r : Record). octet_order key r.key ≡ Less) later
      → filter is_named later ≡ []
  none_after key is [] after = refl
  none_after key is (r ∷ later) after = by_first (is_named r) refl (none_after key is later after.1)
    where
      by_first : (b : Bool) → is_named r ≡ b → filter is_named later ≡ [] → (if b then r ∷ filter is_named later else filter is_named later) ≡ []
      by_first true same rest =
          absurd (cc (sym after.0 ∙ ap (octet_order key) ((bytes_eq-Decides r.key uid).0 same ∙ sym is) ∙ tied_itself nat_list_cmp_total key))
      by_first false same rest = rest

  named_step : (r : Record) (rs : List Record) (a b : Bool) → is_named r ≡ b → AreInOrder (if a then r ∷ filter is_of_kind rs else filter is_of_kind rs)
      → (AreInOrder (filter is_of_kind rs) → filter is_named (filter is_of_kind rs) ≡ option_to_list (find (λ s. is_of_kind s && is_named s) rs))
      → filter is_named (if a then r ∷ filter is_of_kind rs else filter is_of_kind rs)
      ≡ option_to_list (cond (a && b) (Some r) (find (λ s. is_of_kind s && is_named s) rs))
  named_step r rs false b is ordered rest = rest ordered
  named_step r rs true false is ordered rest =
      ap (λ b. if b then r ∷ filter is_named (filter is_of_kind rs) else filter is_named (filter is_of_kind rs)) is ∙ rest ordered.1
  named_step r rs true true is ordered rest =
      ap (λ b. if b then r ∷ filter is_named (filter is_of_kind rs) else filter is_named (filter is_of_kind rs)) is
      ∙ ap (λ later. r ∷ later) (none_after r.key ((bytes_eq-Decides r.key uid).0 is) (filter is_of_kind rs) ordered.0)

  pub only_named : (records : List Record) → AreInOrder (records_of kind records)
      → filter is_named (records_of kind records) ≡ option_to_list (record_at kind uid records)
  unfolding records_of record_at
  only_named [] ordered = refl
  only_named (r ∷ rs) ordered = named_step r rs (is_of_kind r) (is_named r) refl ordered (only_named rs)
