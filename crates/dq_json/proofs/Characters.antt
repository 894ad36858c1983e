-- The octet of a character in a set stands for it, and each octet with a character is that of its character.
use Rattle.std.proofs.Common.{◌≡◌, ◌≢◌, ℕ, zero, suc, ◌+◌, ◌-◌, ◌<◌, ◌≤◌, Bool, true, false, not, ◌&&◌, ◌||◌, List, [], ◌∷◌, length, get_or, Option, Some, None, nat_eq, nat_lt, refl, sym, ap, subst, ◌∙◌, ◌⊎◌, inl, inr, arith, if◌then◌else◌}
use Rattle.std.specs.Prelude.{option_map, position}
use Rattle.std.specs.List.{list_all, position_or_len}
use Rattle.std.proofs.lemmas.Bool.{and_parts, cases_lt}
use Rattle.std.proofs.lemmas.List.Folds.{list_all_at}
use Rattle.std.proofs.lemmas.List.Quantifiers.{position-Some}
use Rattle.std.proofs.lemmas.List.Sums.{position_or_len_is}
use Rattle.std.proofs.lemmas.Option.{none-some}
use lib.Utf8.{scalar, low_scalar}
use borrow.Author.Tests.{ltb-true, le-ltb, lt-ltb, eqb-true, eq-eqb, ne_eqb, not-true, both_ways}
use Rattle.dq_json.specs.declared.code_tables.CodeTable.{CodeTable}
use Rattle.dq_json.specs.declared.code_tables.CodeTable.TheVariants.{Latin1, Latin2, Latin3, Latin4, Latin5, Cyrillic, Arabic, Greek, Hebrew, Thai}
use Rattle.dq_json.specs.Text.{high_half, character_in}
use Rattle.dq_json.specs.Spellings.{octet_in}

abbrev is_it : ℕ → ℕ → Bool
is_it character other = nat_eq other character

-- ---- the tables

half_length : (table : CodeTable) → length (high_half table) ≡ 96
unfolding high_half
half_length Latin1 = refl
half_length Latin2 = refl
half_length Latin3 = refl
half_length Latin4 = refl
half_length Latin5 = refl
half_length Cyrillic = refl
half_length Arabic = refl
half_length Greek = refl
half_length Hebrew = refl
half_length Thai = refl

-- a character that is not ASCII
abbrev is_high : ℕ → Bool
is_high character = not (nat_lt character 128) && scalar character

abbrev is_other : ℕ → ℕ → Bool
is_other character other = not (nat_eq other character)

-- each character but U+FFFD is there once
abbrev are_apart : List ℕ → Bool
are_apart [] = true
are_apart (c ∷ cs) = (nat_eq c 0xFFFD || list_all (is_other c) cs) && are_apart cs

half_sound : (table : CodeTable) → (list_all is_high (high_half table) && are_apart (high_half table)) ≡ true
unfolding high_half
half_sound Latin1 = refl
half_sound Latin2 = refl
half_sound Latin3 = refl
half_sound Latin4 = refl
half_sound Latin5 = refl
half_sound Cyrillic = refl
half_sound Arabic = refl
half_sound Greek = refl
half_sound Hebrew = refl
half_sound Thai = refl

-- ---- an octet, and its character

low_stands : (table : CodeTable) (octet : ℕ) → octet < 128 → character_in table octet ≡ octet
unfolding character_in
low_stands table octet low = rw (lt-ltb octet 128 low) refl

middle_stands : (table : CodeTable) (octet : ℕ) → 128 ≤ octet → octet < 160 → character_in table octet ≡ 0xFFFD
unfolding character_in
middle_stands table octet past below = rw (le-ltb octet 128 past, lt-ltb octet 160 below) refl

high_stands : (table : CodeTable) (k : ℕ) → character_in table (k + 160) ≡ get_or (high_half table) k 0
unfolding character_in
high_stands table k =
    let past : nat_lt (k + 160) 128 ≡ false = le-ltb (k + 160) 128 (omega arith) in
    let above : nat_lt (k + 160) 160 ≡ false = le-ltb (k + 160) 160 (omega arith) in
    let back : (k + 160) - 160 ≡ k = omega arith in
    rw (past, above, back) refl

-- ---- a character, and its octet

octet_by : (low none : Bool) (place : Option ℕ) (character octet : ℕ)
    → (if low then Some character else if none then None else option_map (λ k. k + 160) place) ≡ Some octet
    → ((low ≡ true) × (octet ≡ character)) ⊎ ((k : ℕ) × (place ≡ Some k) × (octet ≡ k + 160))
octet_by true none place character octet is = inl (refl, cc)
octet_by false true place character octet is = absurd (none-some octet is)
octet_by false false None character octet is = absurd (none-some octet is)
octet_by false false (Some k) character octet is = inr (k, refl, cc)

octet_cases : (table : CodeTable) (character octet : ℕ) → octet_in table character ≡ Some octet
    → ((nat_lt character 128 ≡ true) × (octet ≡ character))
    ⊎ ((k : ℕ) × (position (is_it character) (high_half table) ≡ Some k) × (octet ≡ k + 160))
unfolding octet_in
octet_cases table character octet is =
    octet_by (nat_lt character 128) (nat_eq character 0xFFFD) (position (is_it character) (high_half table)) character octet is

low_by : (table : CodeTable) (character octet : ℕ) → nat_lt character 128 ≡ true → octet ≡ character
    → (octet < 0x100) × (character_in table octet ≡ character)
low_by table character octet low same =
    let small : octet < 128 = subst (λ (x : ℕ). x < 128) (sym same) (ltb-true character 128 low) in
    (omega arith, low_stands table octet small ∙ same)

high_by : (table : CodeTable) (character octet k : ℕ) → position (is_it character) (high_half table) ≡ Some k → octet ≡ k + 160
    → (octet < 0x100) × (character_in table octet ≡ character)
high_by table character octet k here at =
    let found = position-Some (is_it character) (high_half table) k 0 here in
    let few : k < 96 = subst (λ (n : ℕ). k < n) (half_length table) found.0 in
    (omega arith, ap (character_in table) at ∙ (high_stands table k ∙ eqb-true (get_or (high_half table) k 0) character found.1))

-- the octet of a character stands for it
pub octet_stands : (table : CodeTable) (character octet : ℕ) → octet_in table character ≡ Some octet
    → (octet < 0x100) × (character_in table octet ≡ character)
octet_stands table character octet is = elim (octet_cases table character octet is) [
  | inl low ↦ low_by table character octet low.0 low.1
  | inr high ↦ high_by table character octet high.0 high.1 high.2
]

-- ---- an octet that stands for a character is its octet

holds_by : (b : Bool) (p : ℕ → Bool) (xs : List ℕ) (k : ℕ) → k < length xs → list_all p xs ≡ true → p (get_or xs k 0) ≡ b → b ≡ true
holds_by true p xs k within all is = refl
holds_by false p xs k within all is = absurd (both_ways (list_all p xs) (list_all_at p xs k 0 within is) all)

all_at : (p : ℕ → Bool) (xs : List ℕ) (k : ℕ) → k < length xs → list_all p xs ≡ true → p (get_or xs k 0) ≡ true
all_at p xs k within all = holds_by (p (get_or xs k 0)) p xs k within all refl

or_second : (a b : Bool) → a ≡ false → (a || b) ≡ true → b ≡ true
or_second true b is h = absurd (both_ways true is refl)
or_second false b is h = h

apart_at : (cs : List ℕ) (j k : ℕ) → are_apart cs ≡ true → j < k → k < length cs → get_or cs k 0 ≢ 0xFFFD
    → get_or cs j 0 ≢ get_or cs k 0
apart_at [] j k apart before within is same = absurd (omega arith)
apart_at (c ∷ cs) j zero apart before within is same = absurd (omega arith)
apart_at (c ∷ cs) zero (suc k) apart before within is same =
    let here = (and_parts (nat_eq c 0xFFFD || list_all (is_other c) cs) (are_apart cs) apart).0 in
    let others = or_second (nat_eq c 0xFFFD) (list_all (is_other c) cs) (ne_eqb c 0xFFFD (λ e. is (sym same ∙ e))) here in
    let other = not-true (nat_eq (get_or cs k 0) c) (all_at (is_other c) cs k (omega arith) others) in
    both_ways (nat_eq (get_or cs k 0) c) other (eq-eqb (get_or cs k 0) c (sym same))
apart_at (c ∷ cs) (suc j) (suc k) apart before within is same =
    apart_at cs j k (and_parts (nat_eq c 0xFFFD || list_all (is_other c) cs) (are_apart cs) apart).1 (omega arith) (omega arith) is same

place_is : (cs : List ℕ) (k : ℕ) → are_apart cs ≡ true → k < length cs → get_or cs k 0 ≢ 0xFFFD
    → position (is_it (get_or cs k 0)) cs ≡ Some k
place_is cs k apart within is =
    let first : position_or_len (is_it (get_or cs k 0)) cs ≡ k =
    position_or_len_is (is_it (get_or cs k 0)) cs k 0 (omega arith)
    (λ j before. ne_eqb (get_or cs j 0) (get_or cs k 0) (apart_at cs j k apart before within is))
    (λ _. eq-eqb (get_or cs k 0) (get_or cs k 0) refl) in
    rw (first, lt-ltb k (length cs) within) refl

pub low_octet : (table : CodeTable) (character : ℕ) → character < 128 → octet_in table character ≡ Some character
unfolding octet_in
low_octet table character low = rw (lt-ltb character 128 low) refl

octet_at : (table : CodeTable) (character k : ℕ) → nat_lt character 128 ≡ false → character ≢ 0xFFFD
    → position (is_it character) (high_half table) ≡ Some k → octet_in table character ≡ Some (k + 160)
unfolding octet_in
octet_at table character k past is here = rw (past, ne_eqb character 0xFFFD is, here) refl

module _ (table : CodeTable) (k : ℕ) (few : k < 96) where
  within : k < length (high_half table)
  within = subst (λ (n : ℕ). k < n) (sym (half_length table)) few

  sound : (list_all is_high (high_half table) ≡ true) × (are_apart (high_half table) ≡ true)
  sound = and_parts (list_all is_high (high_half table)) (are_apart (high_half table)) (half_sound table)

  high : (not (nat_lt (get_or (high_half table) k 0) 128) ≡ true) × (scalar (get_or (high_half table) k 0) ≡ true)
  high = and_parts (not (nat_lt (get_or (high_half table) k 0) 128)) (scalar (get_or (high_half table) k 0))
      (all_at is_high (high_half table) k within sound.0)

  high_octet : character_in table (k + 160) ≢ 0xFFFD → octet_in table (character_in table (k + 160)) ≡ Some (k + 160)
  high_octet is =
      let one : get_or (high_half table) k 0 ≢ 0xFFFD = λ e. is (high_stands table k ∙ e) in
      ap (octet_in table) (high_stands table k)
      ∙ octet_at table (get_or (high_half table) k 0) k (not-true (nat_lt (get_or (high_half table) k 0) 128) high.0) one
      (place_is (high_half table) k sound.1 within one)

  high_scalar : scalar (character_in table (k + 160)) ≡ true
  high_scalar = ap scalar (high_stands table k) ∙ high.1

-- at octets of each kind
by_kind : (table : CodeTable) (P : ℕ → Type 0) → ((octet : ℕ) → octet < 128 → P octet) → ((octet : ℕ) → 128 ≤ octet → octet < 160 → P octet)
    → ((k : ℕ) → k < 96 → P (k + 160)) → (octet : ℕ) → octet < 0x100 → P octet
by_kind table P low middle upper octet byte = elim (cases_lt octet 128) [
  | inl below ↦ low octet below
  | inr past ↦ elim (cases_lt octet 160) [
    | inl below ↦ middle octet past below
    | inr above ↦ subst P (let same : (octet - 160) + 160 ≡ octet = omega arith in same) (upper (octet - 160) (omega arith))
  ]
]

pub own_octet : (table : CodeTable) (octet : ℕ) → octet < 0x100 → character_in table octet ≢ 0xFFFD
    → octet_in table (character_in table octet) ≡ Some octet
own_octet table octet byte is =
    by_kind table (λ o. character_in table o ≢ 0xFFFD → octet_in table (character_in table o) ≡ Some o)
    (λ o low has. ap (octet_in table) (low_stands table o low) ∙ low_octet table o low)
    (λ o past below has. absurd (has (middle_stands table o past below)))
    (λ k few has. high_octet table k few has)
    octet byte is

pub octet_scalar : (table : CodeTable) (octet : ℕ) → octet < 0x100 → scalar (character_in table octet) ≡ true
octet_scalar table octet byte =
    by_kind table (λ o. scalar (character_in table o) ≡ true)
    (λ o low. ap scalar (low_stands table o low) ∙ low_scalar o (omega arith))
    (λ o past below. ap scalar (middle_stands table o past below))
    (λ k few. high_scalar table k few)
    octet byte

pub no_octet : (table : CodeTable) (character octet : ℕ) → octet_in table character ≡ None → octet < 0x100 → character ≢ 0xFFFD
    → character_in table octet ≢ character
no_octet table character octet none byte is same =
    none-some octet (sym none ∙ (ap (octet_in table) (sym same) ∙ own_octet table octet byte (λ e. is (sym same ∙ e))))
