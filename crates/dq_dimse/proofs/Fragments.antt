-- Fragments of a size.
use Rattle.std.proofs.Common.{◌≡◌, ℕ, zero, suc, ◌+◌, ◌<◌, ◌≤◌, Bool, true, false, cond, List, [], ◌∷◌, length, take, drop, refl, sym, ap, ◌∙◌}
use Rattle.std.proofs.Common.{arith, length-drop, length-take, length-append}
use Rattle.std.specs.List.{flat_map}
use Rattle.std.proofs.lemmas.Bool.{le-leb, lt-leb, cases_lt}
use Rattle.std.proofs.lemmas.List.{append-nil, take-append-drop, take_at, drop_at}
use Rattle.dq_dimse.specs.Sending.{fragments_within, AreSized, AreFragmentsOf}

abbrev pub together : List (List ℕ) → List ℕ
together run = flat_map (λ (part : List ℕ). part) run

pub one_fragment : (fuel size : ℕ) (octets : List ℕ) → length octets ≤ size → fragments_within fuel size octets ≡ octets ∷ []
one_fragment zero size octets le = refl
one_fragment (suc fuel) size octets le = rw (le-leb _ _ le) refl

more_fragments : (fuel size : ℕ) (octets : List ℕ) → size < length octets
    → fragments_within (suc fuel) size octets ≡ take size octets ∷ fragments_within fuel size (drop size octets)
more_fragments fuel size octets lt = rw (lt-leb _ _ lt) refl

pub fragments_join : (fuel size : ℕ) (octets : List ℕ) → together (fragments_within fuel size octets) ≡ octets
fragments_join zero size octets = append-nil octets
fragments_join (suc fuel) size octets =
    grind (
      arith,
      cases_lt,
      more_fragments,
      take-append-drop,
      one_fragment,
      append-nil,
      fragments_join fuel size (drop size octets),
    )

-- a fragment before others
sized_cases : (size : ℕ) (f : List ℕ) (b : Bool) (x y : List ℕ) (ys : List (List ℕ)) → length f ≡ size → 0 < length x → 0 < length y
    → AreSized size (cond b (x ∷ []) (y ∷ ys)) → AreSized size (f ∷ cond b (x ∷ []) (y ∷ ys))
sized_cases size f true x y ys e p q h = (e, p, h)
sized_cases size f false x y ys e p q h = (e, q, h)

sized_before : (size : ℕ) (f : List ℕ) (fuel : ℕ) (octets : List ℕ) → length f ≡ size → 0 < length octets → 0 < size
    → AreSized size (fragments_within fuel size octets) → AreSized size (f ∷ fragments_within fuel size octets)
sized_before size f zero octets e some pos h = (e, some, h)
sized_before size f (suc fuel) octets e some pos h = grind (arith, sized_cases, length-take)

pub fragments_sized : (fuel size : ℕ) (octets : List ℕ) → 0 < size → length octets ≤ fuel → AreSized size (fragments_within fuel size octets)
fragments_sized zero size octets some enough = omega arith
fragments_sized (suc fuel) size octets some enough =
    grind (
      arith,
      cases_lt,
      more_fragments,
      sized_before,
      length-take,
      length-drop,
      one_fragment,
      fragments_sized fuel size (drop size octets) some (omega (arith, length-drop size octets)),
    )

only_within : (fuel size : ℕ) (octets : List ℕ) (run : List (List ℕ)) → 0 < size → length octets ≤ fuel → together run ≡ octets → AreSized size run
    → run ≡ fragments_within fuel size octets
only_within fuel size octets [] some enough e h = absurd h
only_within fuel size octets (f ∷ []) some enough e h = grind (arith, append-nil, one_fragment)
only_within zero size octets (f ∷ g ∷ run) some enough e h = grind (arith, length-append)
only_within (suc fuel) size octets (f ∷ g ∷ run) some enough e h =
    let n : length f + length (together (g ∷ run)) ≡ length octets = sym (length-append f (together (g ∷ run))) ∙ ap length e in
    let m : length (together (g ∷ run)) ≡ length g + length (together run) = length-append g (together run) in
    let k : length f ≡ size = h.0 in
    let p : 0 < length g = h.1 in
    let front : f ≡ take size octets = sym (take_at f (together (g ∷ run)) size k) ∙ ap (take size) e in
    let rest : together (g ∷ run) ≡ drop size octets = sym (drop_at f (together (g ∷ run)) size k) ∙ ap (drop size) e in
    let ih = only_within fuel size (drop size octets) (g ∷ run) some (omega (arith, length-drop size octets)) rest h.2 in
    ap (λ (x : List ℕ). x ∷ g ∷ run) front ∙ ap (λ (xs : List (List ℕ)). take size octets ∷ xs) ih ∙ sym (more_fragments fuel size octets (omega arith))

pub are_fragments : (size : ℕ) (octets : List ℕ) → 0 < size → AreFragmentsOf size octets (fragments_within (length octets) size octets)
are_fragments size octets some =
    record { joined = fragments_join (length octets) size octets; sized = fragments_sized (length octets) size octets some (omega arith) }

pub only_fragments : (size : ℕ) (octets : List ℕ) (run : List (List ℕ)) → 0 < size → AreFragmentsOf size octets run
    → run ≡ fragments_within (length octets) size octets
only_fragments size octets run some h = only_within (length octets) size octets run some (omega arith) h.joined h.sized
