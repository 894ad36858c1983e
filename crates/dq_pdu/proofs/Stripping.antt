-- An identifier without its padding: nothing but padding is lost, and none is left.
use Rattle.std.proofs.Common.{◌≡◌, ℕ, true, List, [], ◌∷◌, ◌++◌, refl, ap, ◌∙◌, inl, inr, arith}
use Rattle.std.specs.Prelude.{◌&&◌}
use Rattle.std.specs.List.{list_all}
use Rattle.std.proofs.lemmas.Bool.{and_parts, and_from, cases_Bool}
use Rattle.dq_list.specs.Lengths.{is_empty}
use Rattle.dq_pdu.specs.Octets.{is_uid_padding, without_uid_padding}
use Rattle.dq_pdu.specs.Writing.{is_bare}
use Rattle.dq_pdu.proofs.WritingLaws.{stays_bare}

empty_is : (xs : List ℕ) → is_empty xs ≡ true → xs ≡ []
empty_is [] e = refl
empty_is (x ∷ xs) e = absurd cc

pub lost : (octets : List ℕ) → (padding : List ℕ) × (octets ≡ without_uid_padding octets ++ padding) × (list_all is_uid_padding padding ≡ true)
lost [] = ([], refl, refl)
lost (x ∷ xs) =
    let ih = lost xs in
    elim (cases_Bool (is_uid_padding x && is_empty (without_uid_padding xs))) [
      | inl gone ↦
          let p = and_parts (is_uid_padding x) (is_empty (without_uid_padding xs)) gone in
          let all : xs ≡ ih.0 = ih.1 ∙ ap (λ (front : List ℕ). front ++ ih.0) (empty_is (without_uid_padding xs) p.1) in
          rw gone (x ∷ ih.0, ap (λ (o : List ℕ). x ∷ o) all, and_from (is_uid_padding x) (list_all is_uid_padding ih.0) p.0 ih.2)
      | inr stays ↦ rw stays (ih.0, ap (λ (o : List ℕ). x ∷ o) ih.1, ih.2)
    ]

pub unpadded_again : (octets : List ℕ) → without_uid_padding (without_uid_padding octets) ≡ without_uid_padding octets
unpadded_again [] = refl
unpadded_again (x ∷ xs) = grind (arith, cases_Bool, unpadded_again xs)

pub left : (octets : List ℕ) → is_bare (without_uid_padding octets) ≡ true
left octets = stays_bare (without_uid_padding octets) (unpadded_again octets)
