-- Pieces and halves against the octets that they part.
use Rattle.std.proofs.Common.{◌≡◌, ℕ, ◌<◌, Bool, true, false, cond, List, [], ◌∷◌, ◌++◌, length, Option, Some, None, ◌||◌, ◌&&◌, nat_eq, refl, sym, ap, ◌∙◌, arith, ◌↔◌}
use Rattle.std.specs.List.{list_any, join_with_byte}
use Rattle.std.proofs.lemmas.Bool.{or_parts}
use Rattle.std.proofs.lemmas.Bool.Decides.{nat_tests}
use Rattle.dq_value.specs.Parts.{pieces, onto_first, IsParting}
use Rattle.dq_value.specs.Range.{halves, behind, range_ends, ends_of_halves, end_of, has_no_octets, is_hyphen, Ends, IsRange}

abbrev holds : ℕ → List ℕ → Bool
holds separator octets = list_any (λ octet. nat_eq octet separator) octets

join-joined : (separator x : ℕ) (ps : List (List ℕ)) → join_with_byte separator (onto_first x ps) ≡ x ∷ join_with_byte separator ps
unfolding onto_first
join-joined separator x [] = refl
join-joined separator x (p ∷ []) = refl
join-joined separator x (p ∷ (q ∷ ps)) = refl

join-empty : (separator : ℕ) (ps : List (List ℕ)) → 0 < length ps → join_with_byte separator ([] ∷ ps) ≡ separator ∷ join_with_byte separator ps
join-empty separator [] h = absurd (omega arith)
join-empty separator (p ∷ ps) h = refl

some-case : (b : Bool) (x : ℕ) (ps : List (List ℕ)) → 0 < length (cond b ([] ∷ ps) (onto_first x ps))
unfolding onto_first
some-case true x ps = omega arith
some-case false x [] = omega arith
some-case false x (p ∷ ps) = omega arith

pieces_some : (separator : ℕ) (xs : List ℕ) → 0 < length (pieces separator xs)
unfolding pieces
pieces_some separator [] = omega arith
pieces_some separator (x ∷ xs) = some-case (nat_eq x separator) x (pieces separator xs)

whole-case : (b : Bool) (separator x : ℕ) (ps : List (List ℕ)) → b ≡ nat_eq x separator → 0 < length ps
    → join_with_byte separator (cond b ([] ∷ ps) (onto_first x ps)) ≡ x ∷ join_with_byte separator ps
whole-case true separator x ps same some = grind (arith, nat_tests, join-empty)
whole-case false separator x ps same some = join-joined separator x ps

pieces_whole : (separator : ℕ) (xs : List ℕ) → join_with_byte separator (pieces separator xs) ≡ xs
unfolding pieces
pieces_whole separator [] = refl
pieces_whole separator (x ∷ xs) = grind (arith, nat_tests, whole-case, pieces_some, pieces_whole separator xs)

free-case : (b : Bool) (separator x : ℕ) (ps : List (List ℕ)) → nat_eq x separator ≡ b → list_any (holds separator) ps ≡ false
    → list_any (holds separator) (cond b ([] ∷ ps) (onto_first x ps)) ≡ false
unfolding onto_first
free-case true separator x ps same free = free
free-case false separator x [] apart free = rw apart refl
free-case false separator x (p ∷ ps) apart free = rw apart free

pieces_free : (separator : ℕ) (xs : List ℕ) → list_any (holds separator) (pieces separator xs) ≡ false
unfolding pieces
pieces_free separator [] = refl
pieces_free separator (x ∷ xs) = free-case (nat_eq x separator) separator x (pieces separator xs) refl (pieces_free separator xs)

pieces-free : (separator : ℕ) (xs : List ℕ) → holds separator xs ≡ false → pieces separator xs ≡ xs ∷ []
unfolding pieces onto_first
pieces-free separator [] h = refl
pieces-free separator (x ∷ xs) h =
    let parts = or_parts (nat_eq x separator) (holds separator xs) h in
    rw (parts.0, pieces-free separator xs parts.1) refl

pieces-append : (separator : ℕ) (xs ys : List ℕ) → holds separator xs ≡ false → pieces separator (xs ++ separator ∷ ys) ≡ xs ∷ pieces separator ys
unfolding pieces onto_first
pieces-append separator [] ys h = grind (arith, nat_tests)
pieces-append separator (x ∷ xs) ys h =
    let parts = or_parts (nat_eq x separator) (holds separator xs) h in
    rw (parts.0, pieces-append separator xs ys parts.1) refl

pieces-join : (separator : ℕ) (ps : List (List ℕ)) → 0 < length ps → list_any (holds separator) ps ≡ false → pieces separator (join_with_byte separator ps) ≡ ps
pieces-join separator [] some free = absurd (omega arith)
pieces-join separator (p ∷ []) some free = pieces-free separator p (or_parts (holds separator p) false free).0
pieces-join separator (p ∷ (q ∷ ps)) some free =
    let parts = or_parts (holds separator p) (list_any (holds separator) (q ∷ ps)) free in
    pieces-append separator p (join_with_byte separator (q ∷ ps)) parts.0 ∙ ap (λ rest. p ∷ rest) (pieces-join separator (q ∷ ps) (omega arith) parts.1)

pub one_parting : (separator : ℕ) (octets : List ℕ) (found : List (List ℕ)) → IsParting separator octets found ↔ (found ≡ pieces separator octets)
one_parting separator octets found = (
  λ parting. sym (pieces-join separator found parting.some parting.free) ∙ ap (pieces separator) parting.whole,
  λ same. rw same (record { whole = pieces_whole separator octets; some = pieces_some separator octets; free = pieces_free separator octets }),
)

halves-append : (separator : ℕ) (xs ys : List ℕ) → holds separator xs ≡ false → halves separator (xs ++ separator ∷ ys) ≡ Some (xs, ys)
unfolding halves behind
halves-append separator [] ys h = grind (arith, nat_tests)
halves-append separator (x ∷ xs) ys h =
    let parts = or_parts (nat_eq x separator) (holds separator xs) h in
    rw (parts.0, halves-append separator xs ys parts.1) refl

pub range_read : (octets from to : List ℕ) → IsRange octets from to → range_ends octets ≡ Some (end_of from, end_of to)
unfolding range_ends ends_of_halves
range_read octets from to range = grind (arith, nat_tests, halves-append)

abbrev AreHalves : ℕ → List ℕ → List ℕ × List ℕ → Type 0
AreHalves separator xs h = (xs ≡ h.0 ++ separator ∷ h.1) × (holds separator h.0 ≡ false)

found-case : (b : Bool) (separator x : ℕ) (xs : List ℕ) (o : Option (List ℕ × List ℕ)) (h : List ℕ × List ℕ) → nat_eq x separator ≡ b
    → ((g : List ℕ × List ℕ) → o ≡ Some g → AreHalves separator xs g) → cond b (Some ([], xs)) (behind x o) ≡ Some h → AreHalves separator (x ∷ xs) h
unfolding behind
found-case true separator x xs o h same inner e = grind (arith, nat_tests)
found-case false separator x xs None h apart inner e = absurd (cc)
found-case false separator x xs (Some g) h apart inner e = grind (arith, nat_tests)

are_halves : (separator : ℕ) (xs : List ℕ) (h : List ℕ × List ℕ) → halves separator xs ≡ Some h → AreHalves separator xs h
unfolding halves
are_halves separator [] h e = absurd (cc)
are_halves separator (x ∷ xs) h e = found-case (nat_eq x separator) separator x xs (halves separator xs) h refl (are_halves separator xs) e

test-case : (t : Bool) (x found : Ends) → cond t None (Some x) ≡ Some found → (t ≡ false) × (found ≡ x)
test-case true x found e = absurd (cc)
test-case false x found e = (refl, cc)

abbrev HasEnds : List ℕ → Ends → Type 0
HasEnds octets found = (from : List ℕ) × (to : List ℕ) × IsRange octets from to × (found ≡ (end_of from, end_of to))

only-case : (octets : List ℕ) (o : Option (List ℕ × List ℕ)) (found : Ends) → halves 0x2d octets ≡ o → ends_of_halves o ≡ Some found → HasEnds octets found
unfolding ends_of_halves
only-case octets None found same e = absurd (cc)
only-case octets (Some h) found same e =
    let test = test-case (list_any is_hyphen h.1 || (has_no_octets h.0 && has_no_octets h.1)) (end_of h.0, end_of h.1) found e in
    let free = or_parts (list_any is_hyphen h.1) (has_no_octets h.0 && has_no_octets h.1) test.0 in
    let cut = are_halves 0x2d octets h same in
    (h.0, h.1, record { whole = cut.0; before = cut.1; after = free.0; closed = free.1 }, test.1)

pub range_only : (octets : List ℕ) (found : Ends) → range_ends octets ≡ Some found → HasEnds octets found
unfolding range_ends
range_only octets found e = only-case octets (halves 0x2d octets) found refl e
