-- Reading members or items one after the other, as a loop does.
use Rattle.std.proofs.Common.{◌≡◌, ℕ, zero, suc, ◌+◌, ◌-◌, ◌<◌, ◌≤◌, List, [], ◌∷◌, ◌++◌, length, drop, get_or, Option, Some, None, Result, Ok, Err, refl, sym, ap, ◌∙◌, append_assoc, arith, inl, inr, ◌⊎◌}
use Rattle.std.proofs.lemmas.List.{append-nil, drop_more, drop_all}
use denote.Bor.{Bor}
use Rattle.json.specs.declared.value.Value.{Value}
use Rattle.json.specs.Find.{as_object}
use Rattle.json.specs.Json.{Json, Items, Members, document}
use Rattle.json.specs.Value.{value_view, items_view, members_view}
use Rattle.dq_vr.specs.declared.Tag.{Tag}
use Rattle.dq_dataset.specs.Tree.{ElementList}
use Rattle.dq_dataset.specs.declared.data_set.Element.{Element}
use Rattle.dq_dataset.specs.View.{as_elements}
use Rattle.dq_json.specs.declared.json_fault.Rule.TheVariants as rule
use Rattle.dq_json.specs.declared.json_fault.JsonFault.{JsonFault}
use Rattle.dq_json.specs.declared.json_fault.JsonFault.TheVariants.{NoMemory}
use Rattle.dq_json.specs.Faults.{broken}
use Rattle.dq_json.specs.JsonReader.{◌>>=◌, ItemReader, data_sets_by, element_by, elements_by, reader_in, data_set_in, data_set_by, marked, spelled, HasFault}

-- what was read before, and what is still read
abbrev pub with_front : {X : Type 0} → List X → Result (List X) JsonFault → Result (List X) JsonFault
with_front front read = read >>= λ xs. Ok (front ++ xs)

pub with_front-nil : {X : Type 0} (read : Result (List X) JsonFault) → read ≡ with_front [] read
with_front-nil (Ok xs) = refl
with_front-nil (Err e) = refl

after_one : {X : Type 0} (done : List X) (x : X) (read : Result (List X) JsonFault)
    → with_front done (read >>= λ xs. Ok (x ∷ xs)) ≡ with_front (done ++ x ∷ []) read
after_one done x (Ok xs) = ap Ok (sym (append_assoc done (x ∷ []) xs))
after_one done x (Err e) = refl

-- ---- items

items_first : (read : Json → Result ElementList JsonFault) (done : List ElementList) (j : Json) (others : Items) (d : ElementList) → read j ≡ Ok d
    → with_front done (read j >>= λ d. data_sets_by read others >>= λ ds. Ok (d ∷ ds)) ≡ with_front (done ++ d ∷ []) (data_sets_by read others)
items_first read done j others d is = rw is (after_one done d (data_sets_by read others))

items_fail : (read : Json → Result ElementList JsonFault) (done : List ElementList) (j : Json) (others : Items) (e : JsonFault) → read j ≡ Err e
    → with_front done (read j >>= λ d. data_sets_by read others >>= λ ds. Ok (d ∷ ds)) ≡ Err e
items_fail read done j others e is = rw is refl

module _ {A : Type 0} (read : Json → Result ElementList JsonFault) (all : List (Value A)) (done : List ElementList) (i : ℕ) where
  abbrev pub ItemsLeft : Type 0
  ItemsLeft = data_sets_by read (items_view all) ≡ with_front done (data_sets_by read (items_view (drop i all)))

  items_at : ItemsLeft → (v : Value A) → i < length all → v ≡ get_or all i v
      → data_sets_by read (items_view all)
      ≡ with_front done (read (value_view v) >>= λ d. data_sets_by read (items_view (drop (i + 1) all)) >>= λ ds. Ok (d ∷ ds))
  items_at left v lt is =
      left ∙ ap (λ (vs : List (Value A)). with_front done (data_sets_by read (items_view vs)))
      (drop_more all i v lt ∙ ap (λ (x : Value A). x ∷ drop (i + 1) all) (sym is))

  pub items_more : ItemsLeft → (v : Value A) → i < length all → v ≡ get_or all i v → (d : ElementList) → read (value_view v) ≡ Ok d
      → data_sets_by read (items_view all) ≡ with_front (done ++ d ∷ []) (data_sets_by read (items_view (drop (i + 1) all)))
  items_more left v lt is d found = items_at left v lt is ∙ items_first read done (value_view v) (items_view (drop (i + 1) all)) d found

  pub items_failed : ItemsLeft → (v : Value A) → i < length all → v ≡ get_or all i v → (e : JsonFault) → read (value_view v) ≡ Err e
      → data_sets_by read (items_view all) ≡ Err e
  items_failed left v lt is e failed = items_at left v lt is ∙ items_fail read done (value_view v) (items_view (drop (i + 1) all)) e failed

  pub items_ended : ItemsLeft → length all ≤ i → data_sets_by read (items_view all) ≡ Ok done
  items_ended left le =
      left ∙ ap (λ (vs : List (Value A)). with_front done (data_sets_by read (items_view vs))) (drop_all i all le)
      ∙ ap Ok (append-nil done)

-- ---- elements

abbrev Member : Type 0 → Type 0
Member A = Bor (List ℕ) × Value A

elements_first : (deeper : ItemReader) (done : List Element) (last : Option Tag) (name : List ℕ) (j : Json) (others : Members) (e : Element)
    → element_by deeper last name j ≡ Ok e
    → with_front done (element_by deeper last name j >>= λ first. elements_by deeper (Some first.tag) others >>= λ rest. Ok (first ∷ rest))
    ≡ with_front (done ++ e ∷ []) (elements_by deeper (Some e.tag) others)
elements_first deeper done last name j others e is = rw is (after_one done e (elements_by deeper (Some e.tag) others))

elements_fail : (deeper : ItemReader) (done : List Element) (last : Option Tag) (name : List ℕ) (j : Json) (others : Members) (e : JsonFault)
    → element_by deeper last name j ≡ Err e
    → with_front done (element_by deeper last name j >>= λ first. elements_by deeper (Some first.tag) others >>= λ rest. Ok (first ∷ rest)) ≡ Err e
elements_fail deeper done last name j others e is = rw is refl

one_member : {A : Type 0} (deeper : ItemReader) (last : Option Tag) (m : Member A) (ms : List (Member A))
    → elements_by deeper last (members_view (m ∷ ms))
    ≡ (element_by deeper last m.0.now (value_view m.1) >>= λ first. elements_by deeper (Some first.tag) (members_view ms) >>= λ rest. Ok (first ∷ rest))
unfolding elements_by
one_member deeper last m ms = refl

module _ {A : Type 0} (deeper : ItemReader) (all : List (Member A)) (done : List Element) (last : Option Tag) (i : ℕ) where
  abbrev pub ElementsLeft : Type 0
  ElementsLeft = elements_by deeper None (members_view all) ≡ with_front done (elements_by deeper last (members_view (drop i all)))

  elements_at : ElementsLeft → (m : Member A) → i < length all → m ≡ get_or all i m
      → elements_by deeper None (members_view all)
      ≡ with_front done (element_by deeper last m.0.now (value_view m.1)
      >>= λ first. elements_by deeper (Some first.tag) (members_view (drop (i + 1) all)) >>= λ rest. Ok (first ∷ rest))
  elements_at left m lt is =
      left ∙ ap (λ (ms : List (Member A)). with_front done (elements_by deeper last (members_view ms)))
      (drop_more all i m lt ∙ ap (λ (x : Member A). x ∷ drop (i + 1) all) (sym is))
      ∙ ap (with_front done) (one_member deeper last m (drop (i + 1) all))

  pub elements_more : ElementsLeft → (m : Member A) → i < length all → m ≡ get_or all i m → (e : Element)
      → element_by deeper last m.0.now (value_view m.1) ≡ Ok e
      → elements_by deeper None (members_view all) ≡ with_front (done ++ e ∷ []) (elements_by deeper (Some e.tag) (members_view (drop (i + 1) all)))
  elements_more left m lt is e found =
      elements_at left m lt is ∙ elements_first deeper done last m.0.now (value_view m.1) (members_view (drop (i + 1) all)) e found

  pub elements_failed : ElementsLeft → (m : Member A) → i < length all → m ≡ get_or all i m → (e : JsonFault)
      → element_by deeper last m.0.now (value_view m.1) ≡ Err e → elements_by deeper None (members_view all) ≡ Err e
  elements_failed left m lt is e failed =
      elements_at left m lt is ∙ elements_fail deeper done last m.0.now (value_view m.1) (members_view (drop (i + 1) all)) e failed

  pub elements_stopped : ElementsLeft → (m : Member A) → i < length all → m ≡ get_or all i m → (e : JsonFault)
      → (e ≡ NoMemory) ⊎ (element_by deeper last m.0.now (value_view m.1) ≡ Err e)
      → (e ≡ NoMemory) ⊎ (elements_by deeper None (members_view all) ≡ Err e)
  elements_stopped left m lt is e (inl memory) = inl memory
  elements_stopped left m lt is e (inr failed) = inr (elements_failed left m lt is e failed)

  pub elements_ended : ElementsLeft → length all ≤ i → elements_by deeper None (members_view all) ≡ Ok done
  unfolding elements_by
  elements_ended left le =
      left ∙ ap (λ (ms : List (Member A)). with_front done (elements_by deeper last (members_view ms))) (drop_all i all le)
      ∙ ap Ok (append-nil done)

-- ---- levels

pub by_level : (levels : ℕ) (place : Option Tag) (j : Json) → data_set_in levels place j ≡ data_set_by (reader_in levels) place j
unfolding data_set_in
by_level zero place j = refl
by_level (suc levels) place j = refl

-- where a level is left, data sets are read with one less
pub level_left : (levels : ℕ) → (levels ≡ 0 → ⊥) → reader_in levels ≡ Some (λ tag. data_set_in (levels - 1) (Some tag))
level_left zero left = absurd (left refl)
level_left (suc fewer) left = ap (λ (n : ℕ). Some (λ (tag : Tag). data_set_in n (Some tag))) (omega arith)

-- ---- objects

pub no_object : (levels : ℕ) (place : Option Tag) (j : Json) → None ≡ as_object j → data_set_in levels place j ≡ Err (broken rule.Object place)
unfolding data_set_by
no_object levels place j none = by_level levels place j ∙ rw (← none) refl

object_at : (levels : ℕ) (place : Option Tag) (j : Json) (ms : Members) → Some ms ≡ as_object j
    → data_set_in levels place j ≡ (elements_by (reader_in levels) None ms >>= λ es. Ok (as_elements es))
unfolding data_set_by
object_at levels place j ms is = by_level levels place j ∙ rw (← is) refl

pub object_read : (levels : ℕ) (place : Option Tag) (j : Json) (ms : Members) → Some ms ≡ as_object j
    → (es : List Element) → elements_by (reader_in levels) None ms ≡ Ok es → data_set_in levels place j ≡ Ok (as_elements es)
object_read levels place j ms is es read = object_at levels place j ms is ∙ rw read refl

pub object_failed : (levels : ℕ) (place : Option Tag) (j : Json) (ms : Members) → Some ms ≡ as_object j
    → (e : JsonFault) → (e ≡ NoMemory) ⊎ (elements_by (reader_in levels) None ms ≡ Err e) → (e ≡ NoMemory) ⊎ (data_set_in levels place j ≡ Err e)
object_failed levels place j ms is e (inl memory) = inl memory
object_failed levels place j ms is e (inr failed) = inr (object_at levels place j ms is ∙ rw failed refl)

-- ---- texts

pub form_fault : (octets : List ℕ) (j : Json) (e : JsonFault) → document octets ≡ Some j
    → (e ≡ NoMemory) ⊎ (data_set_in 16 None j ≡ Err e) → HasFault octets e
form_fault octets j e is (inl memory) = inl memory
form_fault octets j e is (inr failed) = inr (inr (j, is, rw failed refl))

pub spelled_so : (octets : List ℕ) (j : Json) (d m : ElementList) → data_set_in 16 None j ≡ Ok d → m ≡ marked octets d → spelled octets j ≡ Ok m
spelled_so octets j d m read is = rw (read, is) refl
