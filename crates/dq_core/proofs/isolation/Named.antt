-- The institution with a name, and its limits.
use Rattle.std.proofs.Common.{◌≡◌, ℕ, zero, suc, ◌<◌, Bool, true, false, List, [], ◌∷◌, length, get_or, Option, Some, None, ◌⊎◌, inl, inr, refl, sym, ap, ◌∙◌, arith}
use Rattle.std.specs.Prelude.{find, Contains}
use Rattle.std.proofs.lemmas.Bool.{false≢true}
use Rattle.std.proofs.lemmas.Slice.Eq.{bytes_eq-Decides}
use Rattle.dq_core.proofs.isolation.Vocabulary.{Request, inputs, Institution, limits_of, request_in, HaveOwnNames, is_sound_request, owner_by, owner}
use Rattle.std.specs.Str.{bytes_eq}
use Rattle.dq_config.specs.Routing.{institution_routed, institution_named}
use Rattle.dq_core.proofs.isolation.Isolating.{Configured}
use Rattle.dq_core.proofs.isolation.Others.{named-name}

abbrev pub IsIn : Institution → List Institution → Type 0
IsIn i [] = ⊥
IsIn i (x ∷ xs) = (i ≡ x) ⊎ IsIn i xs

pub in-at : (i : Institution) (xs : List Institution) (k : ℕ) → k < length xs → get_or xs k i ≡ i → IsIn i xs
in-at i [] k l e = absurd (omega arith)
in-at i (x ∷ xs) zero l e = inl (sym e)
in-at i (x ∷ xs) (suc k) l e = inr (in-at i xs k (omega arith) e)

contains-next : (i x : Institution) (xs : List Institution) → Contains xs i → Contains (x ∷ xs) i
contains-next i x xs (k, l, e) = (suc k, omega arith, e)

pub contains-in : (i : Institution) (xs : List Institution) → IsIn i xs → Contains xs i
contains-in i [] h = absurd h
contains-in i (x ∷ xs) h = elim h [ inl e ↦ (zero, omega arith, sym e) | inr later ↦ contains-next i x xs (contains-in i xs later) ]

find-at : (p : Institution → Bool) (x : Institution) (xs : List Institution) (b : Bool) → p x ≡ b → (i : Institution) → find p (x ∷ xs) ≡ Some i
    → (find p xs ≡ Some i → IsIn i xs) → IsIn i (x ∷ xs)
find-at p x xs true h i e later = let same : Some x ≡ Some i = rw h at e in let i_is : i ≡ x = cc in inl i_is
find-at p x xs false h i e later = inr (later (rw h at e))

find-in : (p : Institution → Bool) (xs : List Institution) (i : Institution) → find p xs ≡ Some i → IsIn i xs
find-in p [] i e = cc
find-in p (x ∷ xs) i e = find-at p x xs (p x) refl i e (find-in p xs i)

-- one that passes is found, if not an earlier one
finds-at : (p : Institution → Bool) (x : Institution) (xs : List Institution) (i : Institution) (b : Bool) → p x ≡ b → p i ≡ true → IsIn i (x ∷ xs)
    → (IsIn i xs → (j : Institution) × (find p xs ≡ Some j)) → (j : Institution) × (find p (x ∷ xs) ≡ Some j)
finds-at p x xs i true h k c later = (x, rw h refl)
finds-at p x xs i false h k c later = elim c [
  | inl e ↦ absurd (false≢true (sym h ∙ sym (ap p e) ∙ k))
  | inr others ↦ ((later others).0, rw h (later others).1)
]

finds : (p : Institution → Bool) (xs : List Institution) (i : Institution) → p i ≡ true → IsIn i xs → (j : Institution) × (find p xs ≡ Some j)
finds p [] i k c = absurd c
finds p (x ∷ xs) i k c = finds-at p x xs i (p x) refl k c (finds p xs i k)

routed-in : (institutions : List Institution) (called calling : List ℕ) (i : Institution) → institution_routed institutions called calling ≡ Some i → IsIn i institutions
unfolding institution_routed
routed-in institutions called calling i e = find-in _ institutions i e

owned-in : (institutions : List Institution) (request : Request) (i : Institution) (b : Bool) → is_sound_request request ≡ b
    → owner_by institutions (Some request) ≡ Some i → IsIn i institutions
owned-in institutions request i true h e = routed-in institutions request.called request.calling i (rw h at e)
owned-in institutions request i false h e = let none : None ≡ Some i = rw h at e in cc

owner-by_in : (institutions : List Institution) (o : Option Request) (i : Institution) → owner_by institutions o ≡ Some i → IsIn i institutions
owner-by_in institutions None i e = cc
owner-by_in institutions (Some request) i e = owned-in institutions request i (is_sound_request request) refl e

-- the owner of a stream is one of the institutions
pub owned-contained : (institutions : List Institution) (stream : List ℕ) (i : Institution) → owner institutions stream ≡ Some i → Contains institutions i
owned-contained institutions stream i e = contains-in i institutions (owner-by_in institutions (request_in (inputs stream)) i e)

named-in : (institutions : List Institution) (name : List ℕ) (i : Institution) → institution_named institutions name ≡ Some i → IsIn i institutions
unfolding institution_named
named-in institutions name i e = find-in _ institutions i e

named-found : (institutions : List Institution) (i : Institution) → IsIn i institutions → (j : Institution) × (institution_named institutions i.name ≡ Some j)
unfolding institution_named
named-found institutions i c = finds (λ (j : Institution). bytes_eq j.name i.name) institutions i ((bytes_eq-Decides i.name i.name).1 refl) c

-- an institution of a configuration whose names are distinct
pub configured : (institutions : List Institution) (i : Institution) → HaveOwnNames institutions → Contains institutions i
    → Configured institutions i.name (limits_of i)
configured institutions i names c =
    let found = named-found institutions i (in-at i institutions c.0 c.1 c.2) in
    let same : found.0.name ≡ i.name = (bytes_eq-Decides found.0.name i.name).0 (named-name i.name institutions found.0 found.1) in
    record {
      owner_limits = λ stream j e n. ap limits_of (names j i (contains-in j institutions (owner-by_in institutions (request_in (inputs stream)) j e)) c n);
      known = (found.0, found.1, same, ap limits_of (names found.0 i (contains-in found.0 institutions (named-in institutions i.name found.0 found.1)) c same));
    }

-- it is found by its name
pub named-own : (institutions : List Institution) (i : Institution) → HaveOwnNames institutions → Contains institutions i
    → institution_named institutions i.name ≡ Some i
named-own institutions i names c =
    let found = named-found institutions i (in-at i institutions c.0 c.1 c.2) in
    let same : found.0.name ≡ i.name = (bytes_eq-Decides found.0.name i.name).0 (named-name i.name institutions found.0 found.1) in
    found.1 ∙ ap (λ (j : Institution). Some j)
    (names found.0 i (contains-in found.0 institutions (named-in institutions i.name found.0 found.1)) c same)

-- a name finds the institution that has it
pub own-names : (institutions : List Institution) → ((i : Institution) → Contains institutions i → institution_named institutions i.name ≡ Some i)
    → HaveOwnNames institutions
own-names institutions found = λ i j c d e. let both : Some i ≡ Some j = sym (found i c) ∙ ap (institution_named institutions) e ∙ found j d in cc
