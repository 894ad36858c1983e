-- A data set as the definitions see it (PS3.5 section 7).
use Rattle.std.specs.Prelude.{◌≡◌, ℕ, ◌+◌, List, refl}
use Rattle.std.proofs.Common.{ap}
use base.Stored.{Gv, gnil, gnum, gcons}
use Rattle.std.specs.Coded.{Coded, coded_ℕ, coded_list}
use Rattle.dq_vr.specs.declared.Tag.{Tag}
use Rattle.dq_vr.specs.declared.Vr.{Vr}
use Rattle.dq_vr.specs.contracts.Tag as tag
use Rattle.dq_vr.specs.contracts.Vr as vr

-- Elements in order, each with octets or with the items of a sequence. An item is itself elements.
mutual
  pub data ElementList : Type 0 where
    no_elements : ElementList
    element : Tag → Vr → List ℕ → ElementList → ElementList
    sequence : Tag → Vr → ItemList → ElementList → ElementList

  pub data ItemList : Type 0 where
    no_items : ItemList
    item : ElementList → ItemList → ItemList

abbrev mutual
  pub item_count : ElementList → ℕ
  item_count no_elements = 0
  item_count (element t v o rest) = item_count rest
  item_count (sequence t v items rest) = items_count items + item_count rest

  pub items_count : ItemList → ℕ
  items_count no_items = 0
  items_count (item d rest) = item_count d + items_count rest + 1

abbrev mutual
  pub code : ElementList → Gv
  code no_elements = gnil
  code (element t v o rest) =
      gcons (gcons (gnum 0) (gcons (tag.the_row.coded.code t)
      (gcons (vr.the_row.coded.code v) ((coded_list coded_ℕ).code o)))) (code rest)
  code (sequence t v items rest) =
      gcons (gcons (gnum 1) (gcons (tag.the_row.coded.code t)
      (gcons (vr.the_row.coded.code v) (code_items items)))) (code rest)

  pub code_items : ItemList → Gv
  code_items no_items = gnil
  code_items (item d rest) = gcons (code d) (code_items rest)

abbrev head : Gv → Gv
head gnil = gnil
head (gnum n) = gnil
head (gcons a b) = a

abbrev tail : Gv → Gv
tail gnil = gnil
tail (gnum n) = gnil
tail (gcons a b) = b

mutual
  pub inj : (x y : ElementList) → code x ≡ code y → x ≡ y
  inj no_elements no_elements p = refl
  inj no_elements (element t v o r) p = cc
  inj no_elements (sequence t v s r) p = cc
  inj (element t v o r) no_elements p = cc
  inj (sequence t v s r) no_elements p = cc
  inj (element t v o r) (sequence t' v' s' r') p = cc
  inj (sequence t v s r) (element t' v' o' r') p = cc
  inj (element t v o r) (element t' v' o' r') p = λ i.
      element (tag.the_row.coded.inj t t' (ap (λ g. head (tail (head g))) p) i)
      (vr.the_row.coded.inj v v' (ap (λ g. head (tail (tail (head g)))) p) i)
      ((coded_list coded_ℕ).inj o o' (ap (λ g. tail (tail (tail (head g)))) p) i)
      (inj r r' (ap tail p) i)
  inj (sequence t v s r) (sequence t' v' s' r') p = λ i.
      sequence (tag.the_row.coded.inj t t' (ap (λ g. head (tail (head g))) p) i)
      (vr.the_row.coded.inj v v' (ap (λ g. head (tail (tail (head g)))) p) i)
      (inj_items s s' (ap (λ g. tail (tail (tail (head g)))) p) i) (inj r r' (ap tail p) i)

  pub inj_items : (x y : ItemList) → code_items x ≡ code_items y → x ≡ y
  inj_items no_items no_items p = refl
  inj_items no_items (item d r) p = cc
  inj_items (item d r) no_items p = cc
  inj_items (item d r) (item d' r') p =
      λ i. item (inj d d' (ap head p) i) (inj_items r r' (ap tail p) i)

abbrev pub elements_code : Coded ElementList
elements_code = record { code = code; inj = inj }
