-- What is kept of a data set decides as the whole data set does.
use Rattle.std.proofs.Common.{◌≡◌, ℕ, Bool, true, false, ◌||◌, ◌&&◌, not, List, [], ◌∷◌, Option, Some, None, filter, refl, sym, ap, subst, ◌∙◌, if◌then◌else◌}
use Rattle.std.specs.List.{list_all, list_any}
use Rattle.std.proofs.lemmas.Bool.{and_parts, false≢true}
use Rattle.dq_vr.specs.declared.Tag.{Tag}
use Rattle.dq_vr.specs.Tags.{sop_class_uid, sop_instance_uid, study_instance_uid, series_instance_uid}
use Rattle.dq_dataset.specs.declared.data_set.Element.{Element}
use Rattle.dq_dataset.specs.Tree.{ElementList}
use Rattle.dq_dataset.specs.View.{as_elements, elements_of, has_tag}
use Rattle.dq_dataset.specs.Editing.{cut_out, is_listed}
use Rattle.dq_dataset.specs.Same.{has_element, same_element}
use Rattle.dq_dataset.specs.Sieve.{has_other}
use Rattle.dq_dataset.proofs.Same.{same_is_equal}
use Rattle.dq_dataset.proofs.Views.{elements_of-as_elements}
use Rattle.dq_dimse.specs.declared.command.Command.{Command}
use Rattle.dq_vr.specs.StudyRoot.{kept_attributes}
use Rattle.dq_dimse.specs.Statuses.{success, elements_discarded}
use Rattle.dq_config.specs.Limits.{Limits}
use Rattle.dq_tables.specs.Rows.{Record, Edit}
use Rattle.dq_tables.specs.Keys.{uid_at}
use Rattle.dq_tables.specs.ServiceEffects.{first_refusal, refusal_or}
use Rattle.dq_vr.specs.StudyRoot.{study_attributes, series_attributes, image_attributes}
use Rattle.dq_store.specs.CStore.{Instance, Kept, kept_among, instance_in, names_instance, data_set_afterwards, is_in_one_of, is_kept_whole, stored_status, stored_edits, instance_refusals, is_kept_elsewhere, has_series_elsewhere}
use Rattle.dq_store.specs.Views.{kept_status, instance_stored}
use Rattle.dq_store.proofs.Fitting.{is_tag_listed, listed_by_tag, uid_of_cut}

-- ---- the attributes of each level are kept

-- each of some tags is one of all
abbrev pub AllListed : List Tag → List Tag → Type 0
AllListed tags all = list_all (is_tag_listed all) tags ≡ true

either : (a b c : Bool) → (a ≡ true → c ≡ true) → (b ≡ true → c ≡ true) → (a || b) ≡ true → c ≡ true
either true b c f g h = f refl
either false b c f g h = g h

pub listed_too : (tags all : List Tag) → AllListed tags all → (e : Element) → is_listed tags e ≡ true → is_listed all e ≡ true
listed_too [] all h e l = absurd (false≢true l)
listed_too (tag ∷ tags) all h e l =
    let parts = and_parts (is_tag_listed all tag) (list_all (is_tag_listed all) tags) h in
    either (has_tag tag e) (is_listed tags e) (is_listed all e) (listed_by_tag all tag parts.0 e) (listed_too tags all parts.1 e) l

pub study_kept : AllListed study_attributes kept_attributes
study_kept = refl

pub series_kept : AllListed series_attributes kept_attributes
series_kept = refl

pub image_kept : AllListed image_attributes kept_attributes
image_kept = refl

-- ---- what is cut out of what is kept

both_step : {X : Type 0} (p : X → Bool) (x : X) (kept others : List X) (a b : Bool) → p x ≡ a → (a ≡ true → b ≡ true) → filter p kept ≡ others
    → filter p (if b then x ∷ kept else kept) ≡ (if a then x ∷ others else others)
both_step p x kept others true true here both rest = rw here (ap (λ xs. x ∷ xs) rest)
both_step p x kept others true false here both rest = (let no : false ≡ true = both refl in cc)
both_step p x kept others false true here both rest = rw here rest
both_step p x kept others false false here both rest = rest

filter_both : {X : Type 0} (p q : X → Bool) → ((x : X) → p x ≡ true → q x ≡ true) → (xs : List X) → filter p (filter q xs) ≡ filter p xs
filter_both p q both [] = refl
filter_both p q both (x ∷ xs) = both_step p x (filter q xs) (filter p xs) (p x) (q x) refl (both x) (filter_both p q both xs)

pub cut_twice : (tags : List Tag) (d : ElementList) → AllListed tags kept_attributes → cut_out tags (cut_out kept_attributes d) ≡ cut_out tags d
cut_twice tags d listed =
    ap (λ es. as_elements (filter (is_listed tags) es)) (elements_of-as_elements (filter (is_listed kept_attributes) (elements_of d)))
    ∙ ap as_elements (filter_both (is_listed tags) (is_listed kept_attributes) (listed_too tags kept_attributes listed) (elements_of d))

-- ---- whether what was sent is kept whole

swapped : (f a b : Bool) → (f && (a && b)) ≡ (a && (f && b))
swapped true a b = refl
swapped false true b = refl
swapped false false b = refl

whole_step : {X : Type 0} (f q : X → Bool) (x : X) (xs : List X) (b : Bool) → q x ≡ b → (b ≡ false → f x ≡ false)
    → list_all f xs ≡ (not (list_any (λ (y : X). not (q y)) xs) && list_all f (filter q xs))
    → (f x && list_all f xs)
    ≡ (not (not b || list_any (λ (y : X). not (q y)) xs) && list_all f (if b then x ∷ filter q xs else filter q xs))
whole_step f q x xs true e none rest =
    ap (λ (b : Bool). f x && b) rest ∙ swapped (f x) (not (list_any (λ y. not (q y)) xs)) (list_all f (filter q xs))
whole_step f q x xs false e none rest = ap (λ (b : Bool). b && list_all f xs) (none refl)

whole_split : {X : Type 0} (f q : X → Bool) → ((x : X) → q x ≡ false → f x ≡ false) → (xs : List X)
    → list_all f xs ≡ (not (list_any (λ (y : X). not (q y)) xs) && list_all f (filter q xs))
whole_split f q none [] = refl
whole_split f q none (x ∷ xs) = whole_step f q x xs (q x) refl (none x) (whole_split f q none xs)

afterwards_kept : (o : Option Record) (tags : List Tag) (d : ElementList) → AllListed tags kept_attributes
    → data_set_afterwards o tags (cut_out kept_attributes d) ≡ data_set_afterwards o tags d
afterwards_kept (Some kept) tags d listed = refl
afterwards_kept None tags d listed = cut_twice tags d listed

whole_kept : (study series image : Option Record) (d : ElementList) → let k = cut_out kept_attributes d in
    is_kept_whole (data_set_afterwards study study_attributes d) (data_set_afterwards series series_attributes d)
    (data_set_afterwards image image_attributes d) d
    ≡ (not (has_other kept_attributes d)
    && is_kept_whole (data_set_afterwards study study_attributes k) (data_set_afterwards series series_attributes k)
    (data_set_afterwards image image_attributes k) k)
unfolding is_kept_whole
whole_kept study series image d =
    let is_there = λ (e : Element). is_listed kept_attributes e
    && is_in_one_of (data_set_afterwards study study_attributes d) (data_set_afterwards series series_attributes d)
    (data_set_afterwards image image_attributes d) e in
    whole_split is_there (is_listed kept_attributes) (λ e unlisted. rw unlisted refl) (elements_of d)
    ∙ rw (
      afterwards_kept study study_attributes d study_kept,
      afterwards_kept series series_attributes d series_kept,
      afterwards_kept image image_attributes d image_kept,
      elements_of-as_elements (filter (is_listed kept_attributes) (elements_of d)),
    ) refl

abbrev of_parts : ElementList → List ℕ → List ℕ → List ℕ → Instance
of_parts d study series image = record { elements = d; study = study; series = series; image = image }

abbrev whole_status : Bool → ℕ
whole_status whole = if whole then success else elements_discarded

by_other : (other whole : Bool) → whole_status (not other && whole) ≡ (if other then elements_discarded else whole_status whole)
by_other true whole = refl
by_other false whole = refl

status_kept : (kept : Kept) (d : ElementList) (study series image : List ℕ) → stored_status kept (of_parts d study series image)
    ≡ kept_status (has_other kept_attributes d) kept (of_parts (cut_out kept_attributes d) study series image)
unfolding stored_status
status_kept kept d study series image =
    ap whole_status (whole_kept kept.study kept.series kept.image d) ∙ by_other (has_other kept_attributes d) _

edits_kept : (kept : Kept) (d : ElementList) (study series image : List ℕ)
    → stored_edits kept (of_parts d study series image) ≡ stored_edits kept (of_parts (cut_out kept_attributes d) study series image)
unfolding stored_edits
edits_kept kept d study series image =
    rw (cut_twice study_attributes d study_kept, cut_twice series_attributes d series_kept, cut_twice image_attributes d image_kept) refl

parts_kept : (limits : Limits) (records : List Record) (d : ElementList) (study series image : List ℕ)
    → instance_stored limits records false (of_parts d study series image)
    ≡ instance_stored limits records (has_other kept_attributes d) (of_parts (cut_out kept_attributes d) study series image)
unfolding instance_stored is_kept_elsewhere has_series_elsewhere
parts_kept limits records d study series image =
    let sent = of_parts d study series image in
    let kept = kept_among records sent in
    ap (λ (status : ℕ). refusal_or (first_refusal (instance_refusals limits records sent)) (status, stored_edits kept sent))
    (status_kept kept d study series image)
    ∙ ap (λ (edits : List Edit). refusal_or (first_refusal (instance_refusals limits records sent))
    (kept_status (has_other kept_attributes d) kept (of_parts (cut_out kept_attributes d) study series image), edits))
    (edits_kept kept d study series image)

-- ---- the UIDs

class_kept : (d : ElementList) → uid_at sop_class_uid (cut_out kept_attributes d) ≡ uid_at sop_class_uid d
class_kept d = uid_of_cut sop_class_uid kept_attributes d (listed_by_tag kept_attributes sop_class_uid refl)

image_uid_kept : (d : ElementList) → uid_at sop_instance_uid (cut_out kept_attributes d) ≡ uid_at sop_instance_uid d
image_uid_kept d = uid_of_cut sop_instance_uid kept_attributes d (listed_by_tag kept_attributes sop_instance_uid refl)

study_uid_kept : (d : ElementList) → uid_at study_instance_uid (cut_out kept_attributes d) ≡ uid_at study_instance_uid d
study_uid_kept d = uid_of_cut study_instance_uid kept_attributes d (listed_by_tag kept_attributes study_instance_uid refl)

series_uid_kept : (d : ElementList) → uid_at series_instance_uid (cut_out kept_attributes d) ≡ uid_at series_instance_uid d
series_uid_kept d = uid_of_cut series_instance_uid kept_attributes d (listed_by_tag kept_attributes series_instance_uid refl)

pub named_kept : (command : Command) (d : ElementList) → names_instance command (cut_out kept_attributes d) ≡ names_instance command d
unfolding names_instance
named_kept command d = rw (class_kept d, image_uid_kept d, study_uid_kept d, series_uid_kept d) refl

parts_are : (d : ElementList) → instance_in (cut_out kept_attributes d)
    ≡ of_parts (cut_out kept_attributes d) (instance_in d).study (instance_in d).series (instance_in d).image
parts_are d = rw (study_uid_kept d, series_uid_kept d, image_uid_kept d) refl

-- what is kept is stored as the whole data set is
pub kept_decides : (limits : Limits) (records : List Record) (d : ElementList) → instance_stored limits records false (instance_in d)
    ≡ instance_stored limits records (has_other kept_attributes d) (instance_in (cut_out kept_attributes d))
kept_decides limits records d =
    parts_kept limits records d (instance_in d).study (instance_in d).series (instance_in d).image
    ∙ ap (instance_stored limits records (has_other kept_attributes d)) (sym (parts_are d))
