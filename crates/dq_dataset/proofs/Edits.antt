-- What is cut out of a data set, and what is merged from two.
use Rattle.std.proofs.Common.{◌≡◌, ℕ, ◌-◌, ◌<◌, Bool, true, false, cond, ◌&&◌, List, [], ◌∷◌, ◌++◌, length, get_or, take, drop, slice_index_or, Option, Some, None, IfSome, option_to_list, refl, sym, ap, ◌∙◌, append_assoc, ◌+◌, arith}
use Rattle.std.specs.Prelude.{filter, nat_eq}
use Rattle.std.proofs.lemmas.List.{take_all, take_more}
use Rattle.std.proofs.lemmas.Bool.Decides.{nat_tests}
use Rattle.dq_dataset.proofs.Types.{Tag, Vr, Syntax, Element, Value, Octets, Items, ElementList}
use Rattle.dq_vr.specs.Tag.{is_below}
use Rattle.dq_dataset.specs.View.{as_elements, elements_of, with_value}
use Rattle.dq_dataset.specs.Facts.{IsElementTag, AreElements, IsDataSet}
use Rattle.dq_dataset.specs.Canonical.{HasLengths}
use Rattle.dq_dataset.specs.Parts.{ElementHasLengths}
use Rattle.dq_dataset.specs.Editing.{is_listed, cut_out, elements_below, elements_above, merged_elements, merged_data_set}
use Rattle.dq_dataset.proofs.SpelledIsSound.{behind_another, after_earlier, IsValue, with_value_is}
use Rattle.dq_dataset.proofs.Spelled.{lengths-cons}
use Rattle.dq_dataset.proofs.Views.{as_elements-elements_of}

-- ---- tags

abbrev same_tag : Tag → Tag → Bool
same_tag a b = nat_eq a.group b.group && nat_eq a.element b.element

below-asym : (a b : Tag) → is_below a b ≡ true → is_below b a ≡ false
unfolding is_below
below-asym a b h = grind (arith, nat_tests)

below-other : (a b : Tag) → is_below a b ≡ false → same_tag a b ≡ false → is_below b a ≡ true
unfolding is_below
below-other a b h k = grind (arith, nat_tests)

same_tags : (a b : Tag) → same_tag a b ≡ true → a ≡ b
same_tags a b h = grind (arith, nat_tests)

-- ---- one element before others

abbrev Are : ℕ → Option Tag → List Element → Type 0
Are levels last es = AreElements levels last (as_elements es)

abbrev IsHeld : ℕ → Element → Type 0
IsHeld levels e = IsValue levels e.tag e.vr e.value

abbrev HaveLengths : Syntax → List Element → Type 0
HaveLengths s es = HasLengths s (as_elements es)

value_parts : (levels : ℕ) (last : Option Tag) (tag : Tag) (vr : Vr) (held : Value) (others : ElementList)
    → AreElements levels last (with_value (record { tag = tag; vr = vr; value = held }) held others)
    → IsElementTag last tag × IsValue levels tag vr held × AreElements levels (Some tag) others
value_parts levels last tag vr (Octets octets) others h = h
value_parts levels last tag vr (Items items) others h = (h.0, (h.1, h.2, h.3), h.4)

pub facts-parts : (levels : ℕ) (last : Option Tag) (e : Element) (es : List Element) → AreElements levels last (as_elements (e ∷ es))
    → IsElementTag last e.tag × IsValue levels e.tag e.vr e.value × AreElements levels (Some e.tag) (as_elements es)
facts-parts levels last e es h = value_parts levels last e.tag e.vr e.value (as_elements es) h

facts-cons : (levels : ℕ) (last : Option Tag) (e : Element) (es : List Element) → IsElementTag last e.tag → IsHeld levels e → Are levels (Some e.tag) es
    → Are levels last (e ∷ es)
facts-cons levels last e es t v rest = with_value_is levels last e.tag e.vr e.value (as_elements es) t v rest

lengths_join : (s : Syntax) (t : Tag) (v : Vr) (x : Value) (rest : ElementList) → ElementHasLengths s (record { tag = t; vr = v; value = x })
    → HasLengths s rest
    → HasLengths s (with_value (record { tag = t; vr = v; value = x }) x rest)
lengths_join s t v (Octets o) rest h k = (h.0, k)
lengths_join s t v (Items ds) rest h k = (h.0, h.1, k)

lengths-join : (s : Syntax) (e : Element) (es : List Element) → ElementHasLengths s e → HaveLengths s es → HaveLengths s (e ∷ es)
lengths-join s e es h k = lengths_join s e.tag e.vr e.value (as_elements es) h k

-- ---- some of the elements, in order

filter_by : (b : Bool) (levels : ℕ) (last : Option Tag) (e : Element) (es : List Element) → IsElementTag last e.tag → IsHeld levels e
    → Are levels (Some e.tag) es
    → Are levels last (cond b (e ∷ es) es)
filter_by true levels last e es t v rest = facts-cons levels last e es t v rest
filter_by false levels last e es t v rest = after_earlier levels last e.tag (as_elements es) t.rises rest

facts-filter : (p : Element → Bool) (levels : ℕ) (last : Option Tag) (es : List Element) → Are levels last es → Are levels last (filter p es)
facts-filter p levels last [] h = tt
facts-filter p levels last (e ∷ es) h =
    let parts = facts-parts levels last e es h in
    filter_by (p e) levels last e (filter p es) parts.0 parts.1 (facts-filter p levels (Some e.tag) es parts.2)

lengths_by : (b : Bool) (s : Syntax) (e : Element) (es : List Element) → ElementHasLengths s e → HaveLengths s es → HaveLengths s (cond b (e ∷ es) es)
lengths_by true s e es h k = lengths-join s e es h k
lengths_by false s e es h k = k

lengths-filter : (p : Element → Bool) (s : Syntax) (es : List Element) → HaveLengths s es → HaveLengths s (filter p es)
lengths-filter p s [] h = tt
lengths-filter p s (e ∷ es) h =
    let parts = lengths-cons s e es h in
    lengths_by (p e) s e (filter p es) parts.0 (lengths-filter p s es parts.1)

pub cut_is : (tags : List Tag) (d : ElementList) → IsDataSet d → IsDataSet (cut_out tags d)
cut_is tags d h = facts-filter (is_listed tags) 16 None (elements_of d) (rw as_elements-elements_of h)

pub cut_has_lengths : (s : Syntax) (tags : List Tag) (d : ElementList) → HasLengths s d → HasLengths s (cut_out tags d)
cut_has_lengths s tags d h = lengths-filter (is_listed tags) s (elements_of d) (rw as_elements-elements_of h)

-- ---- merging, an element at a time

all_above : (levels : ℕ) (tag : Tag) (es : List Element) → Are levels (Some tag) es → (elements_below tag es ≡ []) × (elements_above tag es ≡ es)
all_above levels tag [] h = (refl, refl)
all_above levels tag (e ∷ es) h =
    let parts = facts-parts levels (Some tag) e es h in
    let above : is_below tag e.tag ≡ true = parts.0.rises in
    let later = all_above levels tag es (after_earlier levels (Some tag) e.tag (as_elements es) above parts.2) in
    (rw (below-asym tag e.tag above) later.0, rw above (ap (λ (xs : List Element). e ∷ xs) later.1))

next_is_new_by : (new : Element) (kept others below above : List Element) → below ≡ [] → above ≡ kept
    → below ++ new ∷ merged_elements above others ≡ new ∷ merged_elements kept others
next_is_new_by new kept others below above b a = rw (b, a) refl

irreflexive : (a : Tag) → is_below a a ≡ false
unfolding is_below
irreflexive a = grind (arith, nat_tests)

next_replaces : (first : Element) (rest : List Element) (new : Element) (others : List Element) → IsDataSet (as_elements (first ∷ rest))
    → same_tag first.tag new.tag ≡ true → merged_elements (first ∷ rest) (new ∷ others) ≡ new ∷ merged_elements rest others
next_replaces first rest new others h same =
    grind (arith, nat_tests, same_tags, facts-parts, all_above, irreflexive, next_is_new_by)

next_joins : (first : Element) (rest : List Element) (new : Element) (others : List Element) → IsDataSet (as_elements (first ∷ rest))
    → is_below first.tag new.tag ≡ false
    → same_tag first.tag new.tag ≡ false → merged_elements (first ∷ rest) (new ∷ others) ≡ new ∷ merged_elements (first ∷ rest) others
next_joins first rest new others h not_below other =
    let after : is_below new.tag first.tag ≡ true = below-other first.tag new.tag not_below other in
    let rises = facts-parts 16 None first rest h in
    let placed = behind_another None (Some new.tag) first.tag after rises.0 in
    let above = all_above 16 new.tag (first ∷ rest) (facts-cons 16 (Some new.tag) first rest placed rises.1 rises.2) in
    next_is_new_by new (first ∷ rest) others (elements_below new.tag (first ∷ rest)) (elements_above new.tag (first ∷ rest)) above.0 above.1

-- the first of a slice, and the others
pub first_and_rest : {A : Type 0} (xs : List A) (x : A) → 0 < length xs → x ≡ get_or xs 0 x → xs ≡ x ∷ take (length xs - 1) (drop 1 xs)
first_and_rest [] x lt is = absurd (omega arith)
first_and_rest (y ∷ ys) x lt is = grind (arith, nat_tests, take_all)

-- comparing goes on behind two that are the same
pub same_so_far : {A : Type 0} (items others left rest : List A) (i : ℕ) (x y : A) → i < length items → x ≡ get_or items i x → others ≡ take i items ++ left
    → left ≡ y ∷ rest → x ≡ y
    → others ≡ take (i + 1) items ++ rest
same_so_far {A} items others left rest i x y lt is before parts same =
    let next : take (i + 1) items ≡ take i items ++ x ∷ [] = take_more items i x lt ∙ ap (λ (z : A). take i items ++ z ∷ []) (sym is) in
    rw (next, append_assoc) (before ∙ ap (λ (z : List A). take i items ++ z) (parts ∙ ap (λ (z : A). z ∷ rest) (sym same)))

-- the same of slices
pub kept_first : (kept sent : List Element) (first : Element) (rest : List Element) (new : Element) (others : List Element) → kept ≡ first ∷ rest
    → sent ≡ new ∷ others
    → is_below first.tag new.tag ≡ true → merged_elements kept sent ≡ first ∷ merged_elements rest sent
kept_first kept sent first rest new others k s h = rw (k, s, h, below-asym first.tag new.tag h) refl

pub replaced_first : (kept sent : List Element) (first : Element) (rest : List Element) (new : Element) (others : List Element) → kept ≡ first ∷ rest
    → sent ≡ new ∷ others
    → IsDataSet (as_elements kept) → same_tag first.tag new.tag ≡ true → merged_elements kept sent ≡ new ∷ merged_elements rest others
replaced_first kept sent first rest new others k s h same = rw (k, s) (next_replaces first rest new others (rw k at h) same)

pub joined_first : (kept sent : List Element) (first : Element) (rest : List Element) (new : Element) (others : List Element) → kept ≡ first ∷ rest
    → sent ≡ new ∷ others
    → IsDataSet (as_elements kept) → is_below first.tag new.tag ≡ false → same_tag first.tag new.tag ≡ false
    → merged_elements kept sent ≡ new ∷ merged_elements kept others
joined_first kept sent first rest new others k s h below other = rw (k, s) (next_joins first rest new others (rw k at h) below other)

-- the same of lists whose first element is taken
after_first : (kept : List Element) → IsDataSet (as_elements kept) → IsDataSet (as_elements (drop 1 kept))
after_first [] h = h
after_first (first ∷ rest) h =
    let parts = facts-parts 16 None first rest h in
    after_earlier 16 None first.tag (as_elements rest) parts.0.rises parts.2

pub rest_is : (kept : List Element) (first : Option Element) (rest : List Element) → kept ≡ option_to_list first ++ rest → IsDataSet (as_elements kept)
    → IfSome first (λ _. IsDataSet (as_elements rest))
rest_is kept None rest k h = tt
rest_is kept (Some first) rest k h = after_first (first ∷ rest) (rw k at h)

pub left_is : (first : Option Element) (kept left : List Element) → left ≡ drop 1 kept → IsDataSet (as_elements kept)
    → IfSome first (λ _. IsDataSet (as_elements left))
left_is None kept left is h = tt
left_is (Some first) kept left is h = rw is (after_first kept h)

pub kept_taken : (kept sent : List Element) (first : Option Element) (rest : List Element) (f n : Element) → kept ≡ option_to_list first ++ rest
    → f ≡ slice_index_or kept 0 f → 0 < length sent → n ≡ slice_index_or sent 0 n → is_below f.tag n.tag ≡ true
    → IfSome first (λ e. merged_elements kept sent ≡ e ∷ merged_elements rest sent)
kept_taken kept sent None rest f n k f_is some n_is h = tt
kept_taken kept [] (Some first) rest f n k f_is some n_is h = absurd (omega (arith, some))
kept_taken kept (new ∷ others) (Some first) rest f n k f_is some n_is h =
    kept_first kept (new ∷ others) first rest new others k refl (rw (rw k at f_is, n_is) at h)

pub replaced_taken : (kept sent : List Element) (first : Option Element) (others : List Element) (f n : Element) → sent ≡ option_to_list first ++ others
    → n ≡ slice_index_or sent 0 n → 0 < length kept → f ≡ slice_index_or kept 0 f → IsDataSet (as_elements kept) → same_tag f.tag n.tag ≡ true
    → IfSome first (λ e. merged_elements kept sent ≡ e ∷ merged_elements (drop 1 kept) others)
replaced_taken kept sent None others f n s n_is some f_is is h = tt
replaced_taken [] sent (Some new) others f n s n_is some f_is is h = absurd (omega (arith, some))
replaced_taken (first ∷ rest) sent (Some new) others f n s n_is some f_is is h =
    replaced_first (first ∷ rest) sent first rest new others refl s is (rw (f_is, rw s at n_is) at h)

pub joined_taken : (kept sent : List Element) (first : Option Element) (others : List Element) (f n : Element) → sent ≡ option_to_list first ++ others
    → n ≡ slice_index_or sent 0 n → 0 < length kept → f ≡ slice_index_or kept 0 f → IsDataSet (as_elements kept) → is_below f.tag n.tag ≡ false
    → same_tag f.tag n.tag ≡ false → IfSome first (λ e. merged_elements kept sent ≡ e ∷ merged_elements kept others)
joined_taken kept sent None others f n s n_is some f_is is below other = tt
joined_taken [] sent (Some new) others f n s n_is some f_is is below other = absurd (omega (arith, some))
joined_taken (first ∷ rest) sent (Some new) others f n s n_is some f_is is below other =
    joined_first (first ∷ rest) sent first rest new others refl s is (rw (f_is, rw s at n_is) at below) (rw (f_is, rw s at n_is) at other)

-- ---- what is merged is a data set

before_by : (b : Bool) (levels : ℕ) (last : Option Tag) (x : Element) (below : List Element) (e : Element) (rest : List Element) → is_below x.tag e.tag ≡ b
    → IsElementTag last x.tag
    → IsHeld levels x → IsElementTag last e.tag → (IsElementTag (Some x.tag) e.tag → Are levels (Some x.tag) (below ++ e ∷ rest))
    → Are levels last (below ++ e ∷ rest) → Are levels last (cond b (x ∷ below) below ++ e ∷ rest)
before_by true levels last x below e rest is tx vx te later others =
    facts-cons levels last x (below ++ e ∷ rest) tx vx (later (behind_another last (Some x.tag) e.tag is te))
before_by false levels last x below e rest is tx vx te later others = others

before_one : (levels : ℕ) (last : Option Tag) (kept : List Element) (e : Element) (rest : List Element) → Are levels last kept → IsElementTag last e.tag
    → IsHeld levels e → Are levels (Some e.tag) rest → Are levels last (elements_below e.tag kept ++ e ∷ rest)
before_one levels last [] e rest k t v r = facts-cons levels last e rest t v r
before_one levels last (x ∷ xs) e rest k t v r =
    let parts = facts-parts levels last x xs k in
    before_by (is_below x.tag e.tag) levels last x (elements_below e.tag xs) e rest refl parts.0 parts.1 t
    (λ placed. before_one levels (Some x.tag) xs e rest parts.2 placed v r)
    (before_one levels last xs e rest (after_earlier levels last x.tag (as_elements xs) parts.0.rises parts.2) t v r)

above_by : (b : Bool) (levels : ℕ) (last : Option Tag) (tag : Tag) (x : Element) (above : List Element) → is_below tag x.tag ≡ b → IsElementTag last x.tag
    → IsHeld levels x
    → Are levels (Some x.tag) above → Are levels (Some tag) above → Are levels (Some tag) (cond b (x ∷ above) above)
above_by true levels last tag x above is t v later others = facts-cons levels (Some tag) x above (behind_another last (Some tag) x.tag is t) v later
above_by false levels last tag x above is t v later others = others

facts-above : (levels : ℕ) (last : Option Tag) (tag : Tag) (es : List Element) → Are levels last es → Are levels (Some tag) (elements_above tag es)
facts-above levels last tag [] h = tt
facts-above levels last tag (x ∷ xs) h =
    let parts = facts-parts levels last x xs h in
    above_by (is_below tag x.tag) levels last tag x (elements_above tag xs) refl parts.0 parts.1
    (facts-filter (λ e. is_below tag e.tag) levels (Some x.tag) xs parts.2)
    (facts-above levels (Some x.tag) tag xs parts.2)

facts-merged : (levels : ℕ) (last : Option Tag) (kept sent : List Element) → Are levels last kept → Are levels last sent
    → Are levels last (merged_elements kept sent)
facts-merged levels last kept [] k s = k
facts-merged levels last kept (e ∷ sent) k s =
    let parts = facts-parts levels last e sent s in
    before_one levels last kept e (merged_elements (elements_above e.tag kept) sent) k parts.0 parts.1
    (facts-merged levels (Some e.tag) (elements_above e.tag kept) sent (facts-above levels last e.tag kept k) parts.2)

pub merged_is : (kept sent : ElementList) → IsDataSet kept → IsDataSet sent → IsDataSet (merged_data_set kept sent)
merged_is kept sent k s = facts-merged 16 None (elements_of kept) (elements_of sent) (rw as_elements-elements_of k) (rw as_elements-elements_of s)

lengths-append : (s : Syntax) (xs ys : List Element) → HaveLengths s xs → HaveLengths s ys → HaveLengths s (xs ++ ys)
lengths-append s [] ys h k = k
lengths-append s (x ∷ xs) ys h k =
    let parts = lengths-cons s x xs h in
    lengths-join s x (xs ++ ys) parts.0 (lengths-append s xs ys parts.1 k)

lengths-merged : (s : Syntax) (kept sent : List Element) → HaveLengths s kept → HaveLengths s sent → HaveLengths s (merged_elements kept sent)
lengths-merged s kept [] k h = k
lengths-merged s kept (e ∷ sent) k h =
    let parts = lengths-cons s e sent h in
    lengths-append s (elements_below e.tag kept) (e ∷ merged_elements (elements_above e.tag kept) sent) (lengths-filter (λ x. is_below x.tag e.tag) s kept k)
    (lengths-join s e (merged_elements (elements_above e.tag kept) sent) parts.0
    (lengths-merged s (elements_above e.tag kept) sent (lengths-filter (λ x. is_below e.tag x.tag) s kept k) parts.1))

pub merged_has_lengths : (s : Syntax) (kept sent : ElementList) → HasLengths s kept → HasLengths s sent → HasLengths s (merged_data_set kept sent)
merged_has_lengths s kept sent k h = lengths-merged s (elements_of kept) (elements_of sent) (rw as_elements-elements_of k) (rw as_elements-elements_of h)
