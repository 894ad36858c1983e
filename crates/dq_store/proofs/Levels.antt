-- What is cut out for a level is of that level, and the attributes that are kept are those of the levels.
use Rattle.std.proofs.Common.{◌≡◌, Bool, true, false, ◌||◌, List, [], ◌∷◌, ◌++◌, filter, refl, sym, ◌∙◌, ap, subst, if◌then◌else◌}
use Rattle.std.specs.List.{list_all, list_any}
use Rattle.std.proofs.lemmas.Bool.{and_parts, false≢true}
use Rattle.dq_vr.specs.declared.Tag.{Tag}
use Rattle.dq_dataset.specs.declared.data_set.Element.{Element}
use Rattle.dq_dataset.specs.Tree.{ElementList}
use Rattle.dq_dataset.specs.View.{as_elements, elements_of, has_tag}
use Rattle.dq_dataset.specs.Editing.{cut_out, is_listed}
use Rattle.dq_dataset.specs.Same.{has_element, same_element}
use Rattle.dq_dataset.proofs.Same.{same_is_equal}
use Rattle.dq_dataset.proofs.Views.{as_elements-elements_of, elements_of-as_elements}
use Rattle.dq_vr.specs.StudyRoot.{kept_attributes}
use Rattle.dq_vr.specs.StudyRoot.{study_attributes, series_attributes, image_attributes}
use Rattle.dq_store.specs.Levels.{has_only}

-- ---- what is cut out

passed_step : {X : Type 0} (p : X → Bool) (x : X) (rest : List X) (b : Bool) → p x ≡ b → list_all p rest ≡ true
    → list_all p (if b then x ∷ rest else rest) ≡ true
passed_step p x rest true e all = rw e all
passed_step p x rest false e all = all

all_passed : {X : Type 0} (p : X → Bool) (xs : List X) → list_all p (filter p xs) ≡ true
all_passed p [] = refl
all_passed p (x ∷ xs) = passed_step p x (filter p xs) (p x) refl (all_passed p xs)

pub cut_has_only : (tags : List Tag) (d : ElementList) → has_only tags (cut_out tags d) ≡ true
cut_has_only tags d =
    ap (list_all (is_listed tags)) (elements_of-as_elements (filter (is_listed tags) (elements_of d))) ∙ all_passed (is_listed tags) (elements_of d)

-- an element of another level is not in a data set that keeps to its level
other_step : (tags : List Tag) (x e : Element) (same rest : Bool) → same_element x e ≡ same → is_listed tags x ≡ true → is_listed tags e ≡ false
    → rest ≡ false → (same || rest) ≡ false
other_step tags x e true rest is listed unlisted none =
    absurd (false≢true (sym unlisted ∙ subst (λ (y : Element). is_listed tags y ≡ true) ((same_is_equal x e).0 is) listed))
other_step tags x e false rest is listed unlisted none = none

none_among : (tags : List Tag) (e : Element) (xs : List Element) → list_all (is_listed tags) xs ≡ true → is_listed tags e ≡ false
    → list_any (λ (held : Element). same_element held e) xs ≡ false
none_among tags e [] all unlisted = refl
none_among tags e (x ∷ xs) all unlisted =
    let parts = and_parts (is_listed tags x) (list_all (is_listed tags) xs) all in
    other_step tags x e (same_element x e) _ refl parts.0 unlisted (none_among tags e xs parts.1 unlisted)

pub has_no_other : (tags : List Tag) (d : ElementList) (e : Element) → has_only tags d ≡ true → is_listed tags e ≡ false → has_element d e ≡ false
has_no_other tags d e only unlisted = none_among tags e (elements_of d) only unlisted

-- ---- the attributes that are kept

or_again : (a b c : Bool) → (a || (b || c)) ≡ ((a || b) || c)
or_again true b c = refl
or_again false b c = refl

any_append : {X : Type 0} (f : X → Bool) (xs ys : List X) → list_any f (xs ++ ys) ≡ (list_any f xs || list_any f ys)
any_append f [] ys = refl
any_append f (x ∷ xs) ys = ap (λ (b : Bool). f x || b) (any_append f xs ys) ∙ or_again (f x) (list_any f xs) (list_any f ys)

pub kept_are_of_levels : (e : Element) → is_listed kept_attributes e
    ≡ (is_listed study_attributes e || (is_listed series_attributes e || is_listed image_attributes e))
kept_are_of_levels e =
    any_append (λ (tag : Tag). has_tag tag e) study_attributes (series_attributes ++ image_attributes)
    ∙ ap (λ (b : Bool). is_listed study_attributes e || b) (any_append (λ (tag : Tag). has_tag tag e) series_attributes image_attributes)
