-- One of some values, where a filter keeps some.
use Rattle.std.proofs.Common.{◌≡◌, Bool, true, false, inl, inr, List, [], ◌∷◌, ◌++◌, filter, refl, sym, ap, ◌∙◌, if◌then◌else◌}
use Rattle.dq_list.specs.Among.{IsAmong}

kept_from : {X : Type 0} (p : X → Bool) (x y : X) (kept ys : List X) (b : Bool) → p y ≡ b → (IsAmong x kept → IsAmong x ys × (p x ≡ true))
    → IsAmong x (if b then y ∷ kept else kept) → IsAmong x (y ∷ ys) × (p x ≡ true)
kept_from p x y kept ys true e rest (inl is) = (inl is, ap p (sym is) ∙ e)
kept_from p x y kept ys true e rest (inr h) = let r = rest h in (inr r.0, r.1)
kept_from p x y kept ys false e rest h = let r = rest h in (inr r.0, r.1)

pub filtered_from : {X : Type 0} (p : X → Bool) (x : X) (xs : List X) → IsAmong x (filter p xs) → IsAmong x xs × (p x ≡ true)
filtered_from p x [] h = absurd h
filtered_from p x (y ∷ ys) h = kept_from p x y (filter p ys) ys (p y) refl (filtered_from p x ys) h

kept_here : {X : Type 0} (x y : X) (kept : List X) (b : Bool) → b ≡ true → y ≡ x → IsAmong x (if b then y ∷ kept else kept)
kept_here x y kept true e is = inl is
kept_here x y kept false e is = absurd (cc)

kept_later : {X : Type 0} (x y : X) (kept : List X) (b : Bool) → IsAmong x kept → IsAmong x (if b then y ∷ kept else kept)
kept_later x y kept true h = inr h
kept_later x y kept false h = h

pub among_filter : {X : Type 0} (p : X → Bool) (x : X) (xs : List X) → IsAmong x xs → p x ≡ true → IsAmong x (filter p xs)
among_filter p x [] h e = absurd h
among_filter p x (y ∷ ys) (inl is) e = kept_here x y (filter p ys) (p y) (ap p is ∙ e) is
among_filter p x (y ∷ ys) (inr h) e = kept_later x y (filter p ys) (p y) (among_filter p x ys h e)

pub among_between : {X : Type 0} (x : X) (before past : List X) → IsAmong x ((before ++ (x ∷ [])) ++ past)
among_between x [] past = inl refl
among_between x (y ∷ before) past = inr (among_between x before past)
