-- Values that are met by equality, and values that are looked up in a set.
use Rattle.std.proofs.lemmas.Bool.{and_parts}
use Rattle.std.proofs.Common.{◌≡◌, ℕ, Bool, true, false, not, nat_eq, nat_cmp, cond, ◌&&◌, ◌||◌, List, [], ◌∷◌, refl, sym, ap, ◌∙◌, arith}
use Rattle.std.specs.Global.{Vec}
use Rattle.std.specs.BTreeSet.{insert_key}
use Rattle.std.specs.List.{list_any, list_all}
use Rattle.std.specs.Cmp.Lexicographic.{slice_cmp}
use Rattle.std.specs.Ordering.{match_ordering, is_eq}
use Rattle.std.specs.declared.cmp.Ordering.{Ordering}
use Rattle.std.specs.declared.cmp.Ordering.TheVariants.{Less, Equal, Greater}
use Rattle.std.proofs.lemmas.Bool.{and_parts}
use Rattle.std.proofs.lemmas.Bool.Decides.{nat_tests}
use Rattle.std.proofs.lemmas.Map.Text.{is_eq-slice_cmp}
use Rattle.std.proofs.lemmas.Slice.Eq.{bytes_eq-Decides}
use Rattle.dq_list.specs.Octets.{octets_of_vectors}
use Rattle.dq_match.specs.declared.wildcards.Casing.TheVariants.{Exact}
use Rattle.dq_match.specs.declared.values.Matching.TheVariants.{WildCard}
use Rattle.dq_match.specs.Wildcards.{wild, after_run, after_one, stands_for, any_run, any_one}
use Rattle.dq_match.specs.Values.{is_same}
use Rattle.dq_match.specs.SeveralValues.{is_one_of_values, AreMetByEquality, is_plain}

-- ---- a pattern without wild cards fits itself alone

plain_parts : (a b c : Bool) → (not (a || b) && c) ≡ true → (a ≡ false) × (b ≡ false) × (c ≡ true)
plain_parts true b c h = absurd cc
plain_parts false true c h = absurd cc
plain_parts false false c h = (refl, refl, h)

pub plain_meets : (value text : List ℕ) → is_plain value ≡ true → wild Exact value text ≡ is_same value text
plain_meets [] [] plain = refl
plain_meets [] (octet ∷ others) plain = refl
plain_meets (wanted ∷ value) [] plain = grind (arith, plain_parts)
plain_meets (wanted ∷ value) (octet ∷ others) plain =
    let parts = plain_parts (nat_eq wanted any_run) (nat_eq wanted any_one) (is_plain value) plain in
    ap (λ (b : Bool). cond b (after_run (wild Exact value) (octet ∷ others)) (after_one (stands_for Exact wanted) (wild Exact value) (octet ∷ others))) parts.0
    ∙ (λ i. (parts.1 i || nat_eq wanted octet) && plain_meets value others parts.2 i)

same_back : (a b : List ℕ) → is_same a b ≡ is_same b a
same_back [] [] = refl
same_back [] (y ∷ ys) = refl
same_back (x ∷ xs) [] = refl
same_back (x ∷ xs) (y ∷ ys) =
    let first : nat_eq x y ≡ nat_eq y x = grind (arith, nat_tests) in
    (λ i. first i && same_back xs ys i)

pub plain_by_equality : (keys : List (List ℕ)) → list_all is_plain keys ≡ true → AreMetByEquality WildCard keys
plain_by_equality [] plain value = refl
plain_by_equality (key ∷ keys) plain value =
    let parts = and_parts (is_plain key) (list_all is_plain keys) plain in
    (λ i. (plain_meets key value parts.0 ∙ same_back key value) i || plain_by_equality keys parts.1 value i)

-- ---- a value that is put into a set

abbrev order : Vec ℕ → Vec ℕ → Ordering
order a b = slice_cmp nat_cmp a.items b.items

same_items : (a b : List ℕ) → slice_cmp nat_cmp a b ≡ Equal → a ≡ b
same_items a b e = (bytes_eq-Decides a b).0 (sym (is_eq-slice_cmp a b) ∙ ap is_eq e)

put_by : (o : Ordering) (value : List ℕ) (new first : Vec ℕ) (others put : List (Vec ℕ)) → order new first ≡ o
    → is_one_of_values value (octets_of_vectors put) ≡ (is_same value new.items || is_one_of_values value (octets_of_vectors others))
    → is_one_of_values value (octets_of_vectors (match_ordering o (new ∷ (first ∷ others)) (first ∷ others) (first ∷ put)))
    ≡ (is_same value new.items || (is_same value first.items || is_one_of_values value (octets_of_vectors others)))
put_by Less value new first others put is rest = refl
put_by Equal value new first others put is rest = grind (arith, same_items new.items first.items is)
put_by Greater value new first others put is rest = grind arith

put_among : (value : List ℕ) (new : Vec ℕ) (set : List (Vec ℕ))
    → is_one_of_values value (octets_of_vectors (insert_key order set new)) ≡ (is_same value new.items || is_one_of_values value (octets_of_vectors set))
put_among value new [] = refl
put_among value new (first ∷ others) =
    put_by (order new first) value new first others (insert_key order others new) refl (put_among value new others)

-- what is in the set or still to come stays so
pub one_more : (value octets : List ℕ) (new : Vec ℕ) (before after : List (Vec ℕ)) (left others : List (List ℕ)) (whole : Bool)
    → after ≡ insert_key order before new → new.items ≡ octets → left ≡ octets ∷ others
    → (is_one_of_values value (octets_of_vectors before) || is_one_of_values value left) ≡ whole → (is_one_of_values value (octets_of_vectors after) || is_one_of_values value others) ≡ whole
one_more value octets new before after left others whole put is first so_far =
    (λ i. (ap (λ (vs : List (Vec ℕ)). is_one_of_values value (octets_of_vectors vs)) put ∙ put_among value new before) i || is_one_of_values value others)
    ∙ regroup (is_same value new.items) (is_one_of_values value (octets_of_vectors before)) (is_one_of_values value others)
    ∙ (λ i. is_one_of_values value (octets_of_vectors before) || (is_same value (is i) || is_one_of_values value others))
    ∙ ap (λ (vs : List (List ℕ)). is_one_of_values value (octets_of_vectors before) || is_one_of_values value vs) (sym first) ∙ so_far
  where
    regroup : (a b c : Bool) → ((a || b) || c) ≡ (b || (a || c))
    regroup true true c = refl
    regroup true false c = refl
    regroup false b c = refl

-- a look-up in the set
pub found_in : (value : List ℕ) (set : List (Vec ℕ)) → list_any (λ (v : Vec ℕ). is_eq (slice_cmp nat_cmp value v.items)) set ≡ is_one_of_values value (octets_of_vectors set)
found_in value [] = refl
found_in value (first ∷ others) = (λ i. is_eq-slice_cmp value first.items i || found_in value others i)
