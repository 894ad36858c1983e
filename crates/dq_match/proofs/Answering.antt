-- The answers that some data sets give to keys.
use Rattle.std.proofs.Common.{◌≡◌, Bool, true, false, inl, inr, List, [], ◌∷◌, map, filter, Option, Some, None, refl, sym, ap, ◌∙◌, if◌then◌else◌}
use Rattle.std.specs.List.{filter_map, cons_option}
use Rattle.dq_list.specs.Among.{IsAmong}
use Rattle.dq_dataset.specs.Tree.{ElementList}
use Rattle.dq_match.specs.Matching.{fits}
use Rattle.dq_match.specs.Responses.{shown_data_set}
use Rattle.dq_match.specs.Answers.{answer_to_keys}

-- ---- one of what is given

module _ {X Y : Type 0} (f : X → Option Y) (y : Y) where
  given_here : (o : Option Y) (given : List Y) → o ≡ Some y → IsAmong y (cons_option o given)
  given_here None given e = cc
  given_here (Some z) given e = inl (cc)

  given_later : (o : Option Y) (given : List Y) → IsAmong y given → IsAmong y (cons_option o given)
  given_later None given h = h
  given_later (Some z) given h = inr h

  pub given_to : (x : X) (xs : List X) → IsAmong x xs → f x ≡ Some y → IsAmong y (filter_map f xs)
  given_to x [] h e = absurd h
  given_to x (z ∷ zs) (inl is) e = given_here (f z) (filter_map f zs) (ap f is ∙ e)
  given_to x (z ∷ zs) (inr h) e = given_later (f z) (filter_map f zs) (given_to x zs h e)

pub given_of_each : {X Y Z : Type 0} (f : Y → Option Z) (g : X → Y) (xs : List X) → filter_map f (map g xs) ≡ filter_map (λ (x : X). f (g x)) xs
given_of_each f g [] = refl
given_of_each f g (x ∷ xs) = ap (cons_option (f (g x))) (given_of_each f g xs)

-- what is given where a test holds is given of those that pass it
given_one : {X Y : Type 0} (g : X → Y) (x : X) (kept : List X) (b : Bool)
    → cons_option (if b then Some (g x) else None) (map g kept) ≡ map g (if b then x ∷ kept else kept)
given_one g x kept true = refl
given_one g x kept false = refl

pub given_where : {X Y : Type 0} (f : X → Option Y) (p : X → Bool) (g : X → Y) → ((x : X) → f x ≡ (if p x then Some (g x) else None)) → (xs : List X)
    → filter_map f xs ≡ map g (filter p xs)
given_where f p g is [] = refl
given_where f p g is (x ∷ xs) = (λ i. cons_option (is x i) (given_where f p g is xs i)) ∙ given_one g x (filter p xs) (p x)

-- where what does not pass gives nothing, it may be left out
skip_step : {X Y : Type 0} (f : X → Option Y) (p : X → Bool) (x : X) (xs : List X) (b : Bool) → p x ≡ b → (p x ≡ false → f x ≡ None)
    → filter_map f (filter p xs) ≡ filter_map f xs → filter_map f (if b then x ∷ filter p xs else filter p xs) ≡ cons_option (f x) (filter_map f xs)
skip_step f p x xs true is none rest = ap (cons_option (f x)) rest
skip_step f p x xs false is none rest = rest ∙ ap (λ (o : Option _). cons_option o (filter_map f xs)) (sym (none is))

pub given_skipped : {X Y : Type 0} (f : X → Option Y) (p : X → Bool) (xs : List X) → ((x : X) → IsAmong x xs → p x ≡ false → f x ≡ None)
    → filter_map f (filter p xs) ≡ filter_map f xs
given_skipped f p [] none = refl
given_skipped f p (x ∷ xs) none = skip_step f p x xs (p x) refl (none x (inl refl)) (given_skipped f p xs (λ y h. none y (inr h)))

-- ---- the answer to keys

pub answer_to : (keys held : ElementList) → fits keys held ≡ true → answer_to_keys keys held ≡ Some (shown_data_set keys held)
answer_to keys held fit = rw fit refl
