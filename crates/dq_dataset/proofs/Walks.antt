-- Where octets lead: each step of a walk, taken backwards.
use Rattle.std.proofs.Common.{◌≡◌, ℕ, ◌+◌, ◌-◌, ◌≤◌, ◌<◌, List, [], ◌∷◌, ◌++◌, length, take, drop, reverse, Option, Some, refl, sym, ap, subst, ◌∙◌, append_assoc, arith, inl, inr, ◌⊎◌}
use Rattle.std.proofs.lemmas.Bool.{cases_lt}
use Rattle.std.proofs.lemmas.List.{length-append, append-nil, length-take, take-append-drop, nil_from_length, reverse-append}
use Rattle.dq_dataset.proofs.Types.{ReadFault, Truncated, Filled, Delimited, no_elements}
use Rattle.dq_dataset.specs.declared.sieve.walk.Reach.{Reach}
use Rattle.dq_dataset.specs.declared.sieve.walk.Reach.TheVariants.{Measured, Within, Endless}
use Rattle.dq_dataset.specs.declared.sieve.walk.Cursor.{Cursor}
use Rattle.dq_dataset.specs.declared.sieve.walk.Cursor.TheVariants.{InOctets, InItems, InElements}
use Rattle.dq_dataset.specs.Grammar.{no_more, no_item}
use Rattle.dq_dataset.specs.Sifting.{reach_of, bound_by, Finishes, HasFirstFault, Extends, IsSplitByReach, Leads, LeadsTo, FaultLeads, AreNested, IsPart, HasMore}
use Rattle.dq_dataset.proofs.Fronts.{truncated, item_truncated}

-- ---- one place

-- a place that is finished: what follows leads on from those around it
pub finished : (place : Cursor) (around : List Cursor) (left : ℕ) (value octets : List ℕ) (end : Option ReadFault) → Finishes place value
    → Extends (reach_of place) left value → length value ≤ left ⊎ (left ≡ 0) → LeadsTo (left - length value) around octets end
    → LeadsTo left (place ∷ around) (value ++ octets) end
finished place around left value octets end is extends fits_in h9 = grind (arith, length-append)

-- what fills its length is over when nothing is left of it
pub is_empty : (place : Cursor) (until : ℕ) → reach_of place ≡ Measured until → Finishes place []
is_empty (InOctets n) until e = tt
is_empty (InItems syntax levels (Measured n)) until e = ([], no_item Filled syntax levels [] refl)
is_empty (InItems syntax levels (Within n)) until e = absurd cc
is_empty (InItems syntax levels Endless) until e = absurd cc
is_empty (InElements syntax levels last (Measured n)) until e = (no_elements, no_more Filled syntax levels last [] refl)
is_empty (InElements syntax levels last (Within n)) until e = absurd cc
is_empty (InElements syntax levels last Endless) until e = absurd cc

-- some of the octets of a value
pub passed : (until left : ℕ) (around : List Cursor) (taken octets : List ℕ) (end : Option ReadFault) → length taken + until ≤ left
    → LeadsTo (left - length taken) (InOctets until ∷ around) octets end → LeadsTo left (InOctets until ∷ around) (taken ++ octets) end
passed until left around taken octets end le (inl (short, cut)) = inl (omega (arith, length-append taken octets), cut)
passed until left around taken octets end le (inr (enough, inl s)) = absurd s.stops
passed until left around taken octets end le (inr (enough, inr (value, rest, parts, extends, is, leads))) =
    let all : taken ++ octets ≡ (taken ++ value) ++ rest = ap (λ (x : List ℕ). taken ++ x) parts ∙ sym (append_assoc taken value rest) in
    let behind : left - length taken - length value ≡ left - length (taken ++ value) = omega (arith, length-append taken value) in
    inr (
      omega (arith, length-append taken octets),
      inr (taken ++ value, rest, all, omega (arith, length-append taken value), tt, subst (λ (n : ℕ). Leads n around rest end) behind leads),
    )

-- ---- faults

abbrev pub Around : Reach → ℕ → ℕ → Type 0
Around Endless left taken = left ≡ 0
Around (Measured until) left taken = taken + until ≤ left
Around (Within until) left taken = taken + until ≤ left

-- what of the octets to come is within reach
pub record Near (reach : Reach) (left : ℕ) (front octets : List ℕ) : Type 0 where
  pub t : List ℕ
  pub beyond : List ℕ
  pub parts : octets ≡ t ++ beyond
  pub limit : IsSplitByReach reach left (front ++ t) beyond

near_by : (until left : ℕ) (front octets : List ℕ) → length front + until ≤ left → left ≤ length (front ++ octets)
    → length (front ++ take (left - until - length front) octets) + until ≡ left
near_by until left front octets within enough =
    omega (arith, length-append front octets, length-append front (take (left - until - length front) octets), length-take (left - until - length front) octets)

near : (reach : Reach) (left : ℕ) (front octets : List ℕ) → Around reach left (length front) → left ≤ length (front ++ octets) → Near reach left front octets
near (Measured until) left front octets within enough =
    let n = left - until - length front in
    record { t = take n octets; beyond = drop n octets; parts = sym (take-append-drop n octets); limit = near_by until left front octets within enough }
near (Within until) left front octets within enough =
    let n = left - until - length front in
    record { t = take n octets; beyond = drop n octets; parts = sym (take-append-drop n octets); limit = near_by until left front octets within enough }
near Endless left front octets within enough = record { t = octets; beyond = []; parts = sym (append-nil octets); limit = refl }

short_of : (reach : Reach) (left : ℕ) (front octets : List ℕ) → Around reach left (length front) → length octets < left - length front
    → length (front ++ octets) < left
short_of reach left front octets within short = grind (arith, length-append)

-- a fault of the front and of all that is within reach behind it
pub failed : (place : Cursor) (around : List Cursor) (left : ℕ) (front octets : List ℕ) (fault : ReadFault) (end : Option ReadFault)
    → Around (reach_of place) left (length front)
    → ((t beyond : List ℕ) → IsSplitByReach (reach_of place) left (front ++ t) beyond → HasFirstFault place (front ++ t) fault)
    → FaultLeads fault (left - length front) octets end → LeadsTo left (place ∷ around) (front ++ octets) end
failed place around left front octets fault end within stops (inl (short, cut)) = inl (short_of (reach_of place) left front octets within short, cut)
failed place around left front octets fault end within stops (inr (enough, is)) =
    let all : left ≤ length (front ++ octets) = omega (arith, length-append front octets) in
    let n = near (reach_of place) left front octets within all in
    inr (
      all,
      inl (record {
        near = front ++ n.t;
        beyond = n.beyond;
        parts = ap (λ (x : List ℕ). front ++ x) n.parts ∙ sym (append_assoc front n.t n.beyond);
        limit = n.limit;
        fault = fault;
        stops = stops n.t n.beyond n.limit;
        is = is;
      }),
    )

-- the same, where it is Truncated in any case
pub cut_off : (place : Cursor) (around : List Cursor) (left missing : ℕ) (front octets : List ℕ) (end : Option ReadFault)
    → Around (reach_of place) left (length front)
    → ((t beyond : List ℕ) → IsSplitByReach (reach_of place) left (front ++ t) beyond → HasFirstFault place (front ++ t) Truncated)
    → FaultLeads Truncated missing octets end → LeadsTo left (place ∷ around) (front ++ octets) end
cut_off place around left missing front octets end within stops leads =
    let is : end ≡ Some Truncated = elim leads [ inl x ↦ x.1 | inr x ↦ x.1 ] in
    elim (cases_lt (length octets) (left - length front)) [
      | inl short ↦ failed place around left front octets Truncated end within stops (inl (short, is))
      | inr enough ↦ failed place around left front octets Truncated end within stops (inr (enough, is))
    ]

-- what is not whole is Truncated where nothing follows
pub stops_in_part : (place : Cursor) (front : List ℕ) → IsPart place front → (bound_by (reach_of place) ≡ Delimited) ⊎ (0 < length front)
    → HasFirstFault place front Truncated
stops_in_part place front is h = grind (arith, item_truncated, truncated)

nothing_near : (front t beyond : List ℕ) (until left : ℕ) → length (front ++ t) + until ≡ left → length front + until ≡ left → front ++ t ≡ front
nothing_near front t beyond until left limit full =
    ap (λ (x : List ℕ). front ++ x) (nil_from_length t (omega (arith, length-append front t))) ∙ append-nil front

-- a header of which nothing more is within reach
pub part_is_cut_off : (place : Cursor) (around : List Cursor) (left missing until : ℕ) (front octets : List ℕ) (end : Option ReadFault)
    → IsPart place front → (reach_of place ≡ Within until) ⊎ ((reach_of place ≡ Measured until) × (0 < length front)) → length front + until ≡ left
    → FaultLeads Truncated missing octets end → LeadsTo left (place ∷ around) (front ++ octets) end
part_is_cut_off place around left missing until front octets end is h9 full leads =
    grind (arith, cut_off, nothing_near, stops_in_part)

-- with no defined length around, all that came is within reach
unfinished_endless : (place : Cursor) (around : List Cursor) (left : ℕ) (front : List ℕ) → reach_of place ≡ Endless → left ≡ 0 → HasFirstFault place front Truncated
    → LeadsTo left (place ∷ around) front (Some Truncated)
unfinished_endless place around left front endless none stops =
    inr (
      omega arith,
      inl (record { near = front; beyond = []; parts = sym (append-nil front); limit = rw endless refl; fault = Truncated; stops = stops; is = refl }),
    )

-- a walk that ends with octets missing is Truncated
pub unfinished : (place : Cursor) (around : List Cursor) (left : ℕ) (front : List ℕ) → AreNested left (place ∷ around) → IsPart place front
    → HasMore (reach_of place) left front → LeadsTo left (place ∷ around) front (Some Truncated)
unfinished (InOctets until) around left front lies part left_over = inl (omega arith, refl)
unfinished (InItems syntax levels (Measured until)) around left front lies part left_over = inl (omega arith, refl)
unfinished (InItems syntax levels (Within until)) around left front lies part left_over = inl (omega arith, refl)
unfinished (InItems syntax levels Endless) around left front lies part left_over =
    unfinished_endless (InItems syntax levels Endless) around left front refl lies.0 (item_truncated Delimited syntax levels front (inl refl) part)
unfinished (InElements syntax levels last (Measured until)) around left front lies part left_over = inl (omega arith, refl)
unfinished (InElements syntax levels last (Within until)) around left front lies part left_over = inl (omega arith, refl)
unfinished (InElements syntax levels last Endless) around left front lies part left_over =
    unfinished_endless (InElements syntax levels last Endless) around left front refl lies.0
    (truncated Delimited syntax levels last front (inl refl) part)

-- ---- closing

-- what is full is closed
pub closed : (place : Cursor) (around : List Cursor) (left until : ℕ) (octets : List ℕ) (end : Option ReadFault) → reach_of place ≡ Measured until
    → until ≡ left → LeadsTo left around octets end → LeadsTo left (place ∷ around) octets end
closed place around left until octets end is full leads = grind (arith, finished, is_empty)

pub popped : (old new : List Cursor) (place : Cursor) → old ≡ new ++ place ∷ [] → reverse old ≡ place ∷ reverse new
popped old new place e = ap reverse e ∙ reverse-append new (place ∷ [])
