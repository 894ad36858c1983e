-- Titles without the spaces at their ends.
use Rattle.std.proofs.Common.{◌≡◌, ℕ, true, false, List, [], ◌∷◌, ◌++◌, append_assoc, append-nil, refl, sym, ap, ◌∙◌}
use Rattle.std.proofs.lemmas.Bool.{and_parts}
use Rattle.std.specs.List.{list_all}
use Rattle.dq_value.specs.Trimming.{is_space, without_leading, without_trailing, kept_before, first_is, last_is}
use Rattle.dq_value.specs.Title.{IsStripped, without_spaces}
use Rattle.dq_value.proofs.Kept.{leads, trails, first_kept, last_stays, last_kept, leading_same, trailing_same}

pub strips : (title : List ℕ) → IsStripped title (without_spaces title)
unfolding without_spaces
strips title =
    let behind = trails is_space title in
    let front = leads is_space (without_trailing is_space title) in
    record {
      before = front.before;
      after = behind.after;
      whole = behind.whole ∙ ap (λ ys. ys ++ behind.after) front.whole
          ∙ append_assoc front.before (without_leading is_space (without_trailing is_space title)) behind.after;
      spaces_before = front.all;
      spaces_after = behind.all;
      no_space_first = first_kept is_space (without_trailing is_space title);
      no_space_last = last_stays is_space is_space (without_trailing is_space title) (last_kept is_space title);
    }

-- spaces before are taken
leading_taken : (before rest : List ℕ) → list_all is_space before ≡ true → without_leading is_space (before ++ rest) ≡ without_leading is_space rest
unfolding without_leading
leading_taken [] rest h = refl
leading_taken (x ∷ before) rest h =
    let (here, more) = and_parts (is_space x) (list_all is_space before) h in
    rw here (leading_taken before rest more)

-- and spaces after: nothing but spaces is nothing, and what ends otherwise stays
all_taken : (after : List ℕ) → list_all is_space after ≡ true → without_trailing is_space after ≡ []
unfolding without_trailing kept_before
all_taken [] h = refl
all_taken (x ∷ after) h =
    let (here, more) = and_parts (is_space x) (list_all is_space after) h in
    rw (all_taken after more, here) refl

trailing_taken : (rest after : List ℕ) → list_all is_space after ≡ true → without_trailing is_space (rest ++ after) ≡ without_trailing is_space rest
unfolding without_trailing
trailing_taken [] after h = all_taken after h
trailing_taken (x ∷ rest) after h = ap (kept_before is_space x) (trailing_taken rest after h)

last_after : (before kept : List ℕ) (x : ℕ) → last_is is_space (x ∷ kept) ≡ false → last_is is_space (before ++ x ∷ kept) ≡ false
last_after [] kept x h = h
last_after (y ∷ []) kept x h = h
last_after (y ∷ z ∷ before) kept x h = last_after (z ∷ before) kept x h

cleared : (before kept : List ℕ) → list_all is_space before ≡ true → first_is is_space kept ≡ false → last_is is_space kept ≡ false
    → without_leading is_space (without_trailing is_space (before ++ kept)) ≡ kept
unfolding without_leading
cleared before [] spaces first last = search (append-nil, all_taken)
cleared before (x ∷ kept) spaces first last = search (trailing_same, last_after, leading_taken, leading_same)

pub alone : (title kept : List ℕ) → IsStripped title kept → kept ≡ without_spaces title
unfolding without_spaces
alone title kept given =
    sym (
    ap (λ ys. without_leading is_space (without_trailing is_space ys)) (given.whole ∙ sym (append_assoc given.before kept given.after))
    ∙ ap (without_leading is_space) (trailing_taken (given.before ++ kept) given.after given.spaces_after)
    ∙ cleared given.before kept given.spaces_before given.no_space_first given.no_space_last)

pub again : (title : List ℕ) → without_spaces (without_spaces title) ≡ without_spaces title
unfolding without_spaces
again title =
    let once = strips title in
    ap (without_leading is_space) (trailing_same is_space (without_leading is_space (without_trailing is_space title)) once.no_space_last)
    ∙ leading_same is_space (without_leading is_space (without_trailing is_space title)) once.no_space_first
