-- What is put together of data sets is a data set.
use Rattle.std.proofs.Common.{◌≡◌, ℕ, ◌-◌, true, Option, Some, None, refl, arith}
use Rattle.std.proofs.lemmas.Bool.{cond_both}
use Rattle.std.proofs.lemmas.Bool.Decides.{nat_tests}
use Rattle.dq_vr.specs.declared.Tag.{Tag}
use Rattle.dq_vr.specs.Tag.{is_below}
use Rattle.dq_dataset.specs.Tree.{ElementList, no_elements, element, sequence, ItemList, no_items, item}
use Rattle.dq_dataset.specs.DataSetReader.{follows}
use Rattle.dq_dataset.specs.Facts.{IsElementTag, AreElements, AreItems}
use Rattle.dq_match.specs.declared.supported.KeyScope.{KeyScope}
use Rattle.dq_match.specs.Supported.{is_supported, below, supported_part, supported_items}

is_below-trans : (a b c : Tag) → is_below a b ≡ true → is_below b c ≡ true → is_below a c ≡ true
unfolding is_below
is_below-trans a b c p q = grind (arith, nat_tests)

pub follows-trans : (last : Option Tag) (tag next : Tag) → follows last tag ≡ true → follows (Some tag) next ≡ true → follows last next ≡ true
follows-trans None tag next e f = refl
follows-trans (Some last) tag next e f = is_below-trans last tag next e f

earlier : (last : Option Tag) (tag next : Tag) → follows last tag ≡ true → IsElementTag (Some tag) next → IsElementTag last next
earlier last tag next e h = grind (arith, nat_tests, follows-trans)

-- elements after a tag are elements after an earlier one
pub after_earlier : (levels : ℕ) (last : Option Tag) (tag : Tag) (d : ElementList) → follows last tag ≡ true
    → AreElements levels (Some tag) d → AreElements levels last d
after_earlier levels last tag no_elements e h = tt
after_earlier levels last tag (element t v o rest) e h = (earlier last tag t e h.0, h.1, h.2)
after_earlier levels last tag (sequence t v items rest) e h = (earlier last tag t e h.0, h.1, h.2, h.3, h.4)

-- ---- the supported part

mutual
  pub part_facts : (scope : KeyScope) (levels : ℕ) (last : Option Tag) (d : ElementList) → AreElements levels last d
      → AreElements levels last (supported_part scope d)
  part_facts scope levels last no_elements h = tt
  part_facts scope levels last (element t v o rest) h =
      let others = part_facts scope levels (Some t) rest h.2 in
      cond_both (is_supported scope t) (element t v o (supported_part scope rest)) (supported_part scope rest)
      (λ d. AreElements levels last d)
      (λ is. (h.0, h.1, others)) (λ none. after_earlier levels last t (supported_part scope rest) h.0.rises others)
  part_facts scope levels last (sequence t v items rest) h =
      let others = part_facts scope levels (Some t) rest h.4 in
      cond_both (is_supported scope t) (sequence t v (supported_items (below scope t) items) (supported_part scope rest))
      (supported_part scope rest)
      (λ d. AreElements levels last d)
      (λ is. (h.0, h.1, h.2, items_facts (below scope t) (levels - 1) items h.3, others))
      (λ none. after_earlier levels last t (supported_part scope rest) h.0.rises others)

  pub items_facts : (scope : KeyScope) (levels : ℕ) (items : ItemList) → AreItems levels items → AreItems levels (supported_items scope items)
  items_facts scope levels no_items h = tt
  items_facts scope levels (item d rest) h = (part_facts scope levels None d h.0, items_facts scope levels rest h.1)
