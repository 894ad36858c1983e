-- What is read has the facts of every data set.
use Rattle.std.proofs.Common.{◌≡◌, ℕ, suc, refl, sym, ap, subst, ◌∙◌, inl, inr, ◌+◌, ◌-◌, ◌<◌, ◌≤◌, true, List, length, Option, Some, None, Ok, arith}
use Rattle.dq_dataset.proofs.Types.{Tag, Syntax, Filled, Element, ElementList, no_elements, element, sequence, ItemList, no_items, item}
use Rattle.dq_dataset.specs.View.{as_elements, elements_of}
use Rattle.dq_dataset.specs.DataSetReader.{fits_enclosing, content_by, readers, data_set_read}
use Rattle.dq_dataset.specs.Grammar.{bound_of}
use Rattle.dq_dataset.specs.Facts.{AreElements, AreItems, IsDataSet}
use Rattle.dq_dataset.proofs.Views.{as_elements-elements_of}
use Rattle.dq_dataset.proofs.Fields.{IsBytes, ok_is, no_fault}
use Rattle.dq_dataset.proofs.SpelledIsRead.{elements_again, content_again}
use Rattle.dq_dataset.proofs.FaultyIsRead.{elements_in_item, elements_fail}
use Rattle.dq_dataset.proofs.SpelledOrFaulty.{body_told, are_told, reading_is_spelled}
use Rattle.dq_dataset.proofs.SpelledIsSound.{elements_are, spelled_is_sound}

mutual
  pub AreElements-deeper : (a b : ℕ) (last : Option Tag) (d : ElementList) → a ≤ b → AreElements a last d → AreElements b last d
  AreElements-deeper a b last no_elements le h = tt
  AreElements-deeper a b last (element t v o rest) le h = (h.0, h.1, AreElements-deeper a b (Some t) rest le h.2)
  AreElements-deeper a b last (sequence t v items rest) le h =
      (h.0, h.1, omega (arith, h.2), AreItems-deeper (a - 1) (b - 1) items (omega arith) h.3, AreElements-deeper a b (Some t) rest le h.4)

  pub AreItems-deeper : (a b : ℕ) (items : ItemList) → a ≤ b → AreItems a items → AreItems b items
  AreItems-deeper a b no_items le h = tt
  AreItems-deeper a b (item d rest) le h = (AreElements-deeper a b None d le h.0, AreItems-deeper a b rest le h.1)

pub content_is_data_set : (syntax : Syntax) (levels : ℕ) (extent : Option ℕ) (bytes : List ℕ) (es : List Element) (rest : List ℕ) → levels ≤ 16
    → fits_enclosing extent bytes ≡ true → IsBytes bytes
    → ((n : ℕ) → length bytes < n → content_by (readers n) syntax levels extent bytes ≡ Ok (es, rest)) → IsDataSet (as_elements es)
content_is_data_set syntax levels extent bytes es rest le enough ok e =
    let n = length bytes in
    let read = e (suc n) (omega arith) in
    elim (body_told _ _ _ (suc n) ((are_told (suc n)).elements syntax levels None) extent bytes enough ok (omega arith)) [
      | inl s ↦
          let spells = elements_again (bound_of extent) syntax levels None s.2.octets s.0 s.2.spells.1 in
          let again : content_by (readers (suc n)) syntax levels extent bytes ≡ Ok (elements_of s.0, s.1) =
          ap (content_by (readers (suc n)) syntax levels extent) s.2.takes.parts
          ∙ content_again syntax levels extent s.2.octets s.0 s.2.spells.0 spells s.1 n (omega (arith, ap length s.2.takes.parts)) in
          let same : elements_of s.0 ≡ es = ap (λ (p : List Element × List ℕ). p.0) (ok_is (elements_of s.0, s.1) (es, rest) (sym again ∙ read)) in
          AreElements-deeper levels 16 None (as_elements es) le
          (subst (λ (d : ElementList). AreElements levels None d) (sym (as_elements-elements_of s.0) ∙ ap as_elements same)
          (elements_are (bound_of extent) syntax levels None s.2.octets s.0 s.2.spells.1))
      | inr bad ↦
          let failed = ap (content_by (readers (suc n)) syntax levels extent) bad.parts
          ∙ elements_in_item syntax levels extent bad.value bad.rest bad.fault bad.reach
          (elements_fail (bound_of extent) syntax levels None bad.value bad.fault bad.faulty) n (omega (arith, ap length bad.parts)) in
          absurd (no_fault (es, rest) bad.fault (sym read ∙ failed))
    ]

pub elements_are_data_set : (syntax : Syntax) (bytes : List ℕ) (es : List Element) (rest : List ℕ) → IsBytes bytes
    → ((n : ℕ) → length bytes < n → (readers n).elements Filled syntax 16 None bytes ≡ Ok (es, rest)) → IsDataSet (as_elements es)
unfolding data_set_read
elements_are_data_set syntax bytes es rest ok e =
    spelled_is_sound syntax bytes (as_elements es)
    (reading_is_spelled syntax bytes (as_elements es) ok (rw (e (length bytes + 1) (omega arith)) refl))
