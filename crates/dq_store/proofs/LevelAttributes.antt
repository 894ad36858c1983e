-- What stands at a level afterwards, without what is cut out.
use Rattle.std.proofs.Common.{◌≡◌, Bool, true, false, ◌||◌, ◌&&◌, List, [], ◌∷◌, Option, Some, None, filter, refl, sym, ap, ◌∙◌, if◌then◌else◌}
use Rattle.std.specs.List.{list_any}
use Rattle.std.specs.Option.{option_map}
use Rattle.std.specs.Prelude.{unwrap_or}
use Rattle.dq_vr.specs.declared.Tag.{Tag}
use Rattle.dq_dataset.specs.declared.data_set.Element.{Element}
use Rattle.dq_dataset.specs.Tree.{ElementList}
use Rattle.dq_dataset.specs.View.{elements_of}
use Rattle.dq_dataset.specs.Editing.{cut_out, is_listed}
use Rattle.dq_dataset.specs.Same.{has_element, same_element}
use Rattle.dq_dataset.proofs.Same.{same_is_equal}
use Rattle.dq_dataset.proofs.Views.{elements_of-as_elements}
use Rattle.dq_tables.specs.declared.row.Row.{Row}
use Rattle.dq_tables.specs.Rows.{record_of}
use Rattle.dq_tables.specs.Records.{data_set_of}
use Rattle.dq_store.specs.CStore.{data_set_afterwards}

-- an element is among those that are listed where it is listed, and is among them
joined : (listed e_listed same rest : Bool) → (same ≡ true → listed ≡ e_listed)
    → (e_listed && (same || rest)) ≡ (if listed then same || (e_listed && rest) else e_listed && rest)
joined true true true rest alike = refl
joined true true false rest alike = refl
joined true false true rest alike = absurd (let no = alike refl in cc)
joined true false false rest alike = refl
joined false true true rest alike = absurd (let no = alike refl in cc)
joined false true false rest alike = refl
joined false false same rest alike = refl

any_if : {X : Type 0} (f : X → Bool) (x : X) (xs : List X) (b : Bool)
    → list_any f (if b then x ∷ xs else xs) ≡ (if b then f x || list_any f xs else list_any f xs)
any_if f x xs true = refl
any_if f x xs false = refl

none : (b : Bool) → (b && false) ≡ false
none true = refl
none false = refl

module _ (tags : List Tag) (e : Element) where
  abbrev is_e : Element → Bool
  is_e = λ held. same_element held e

  in_filter : (held : List Element) → (is_listed tags e && list_any is_e held) ≡ list_any is_e (filter (is_listed tags) held)
  in_filter [] = none (is_listed tags e)
  in_filter (x ∷ held) =
      joined (is_listed tags x) (is_listed tags e) (same_element x e) (list_any is_e held)
      (λ same. ap (is_listed tags) ((same_is_equal x e).0 same))
      ∙ ap (λ rest. if is_listed tags x then same_element x e || rest else rest) (in_filter held)
      ∙ sym (any_if is_e x (filter (is_listed tags) held) (is_listed tags x))

pub has_in_cut : (tags : List Tag) (d : ElementList) (e : Element) → (is_listed tags e && has_element d e) ≡ has_element (cut_out tags d) e
has_in_cut tags d e =
    in_filter tags e (elements_of d)
    ∙ sym (ap (list_any (λ (held : Element). same_element held e)) (elements_of-as_elements (filter (is_listed tags) (elements_of d))))

pub stands_in : (row : Option Row) (tags : List Tag) (sent : ElementList)
    → data_set_afterwards (option_map record_of row) tags sent ≡ unwrap_or (option_map (λ (r : Row). data_set_of r.octets) row) (cut_out tags sent)
stands_in (Some row) tags sent = refl
stands_in None tags sent = refl

pub listed_has : (tags : List Tag) (d : ElementList) (e : Element) (listed : Bool) → listed ≡ is_listed tags e → listed ≡ true
    → has_element d e ≡ has_element (cut_out tags d) e
listed_has tags d e listed is there =
    ap (λ (b : Bool). b && has_element d e) (sym there ∙ is) ∙ has_in_cut tags d e

pub unlisted_has : (tags : List Tag) (d : ElementList) (e : Element) (listed : Bool) → listed ≡ is_listed tags e → listed ≡ false
    → listed ≡ has_element (cut_out tags d) e
unlisted_has tags d e listed is none =
    none ∙ ap (λ (b : Bool). b && has_element d e) (sym none ∙ is) ∙ has_in_cut tags d e
