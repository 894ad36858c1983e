-- The faults at a header, in their order, are those that reading meets.
use Rattle.std.proofs.Common.{◌≡◌, ℕ, zero, suc, ◌≤◌, Bool, true, false, not, cond, ltb, eqb, ◌&&◌, ◌||◌, List, [], ◌∷◌, length, take, drop, Option, Some, None, Result, Ok, Err, refl, subst, arith, inl, ◌⊎◌}
use Rattle.std.specs.Int.{Width, w16, w32, byte_len, from_le_bytes}
use Rattle.std.proofs.lemmas.Bool.{ltb-true, ltb-false, lt-ltb, le-ltb, ne_eqb}
use Rattle.dq_dataset.proofs.Types.{Tag, Vr, LengthForm, Two, Four, ReadFault, Truncated, BadVr, BadItem, BadUndefined, TooDeep, Syntax, Implicit, Explicit, Bound, Filled, Delimited, Plain, Sequence}
use Rattle.dq_vr.specs.Dictionary.{known_vr}
use Rattle.dq_vr.specs.Vr.{length_form_of, vr_with_letters}
use Rattle.dq_dataset.specs.Rules.{agrees, content_of}
use Rattle.dq_dataset.specs.DataSetReader.{◌>>=◌, check, number_at, tag_at, long_length_at, length_at, vr_or_fault, vr_at, spelling_at, fits_enclosing, front_at, header_at, item_front_at, item_header_at, end_at}
use Rattle.dq_dataset.specs.Faults.{number_in, tag_in, spelled_vr, defined_length, size_by, header_size, extent_by, extent_in, first_of, is_allowed, faults_of_content, header_faults, item_faults, ends_here}
use Rattle.dq_dataset.proofs.Fields.{done}
use Rattle.dq_dataset.proofs.Headers.{fits_step, content_step, spelling_step, rises_step, placed_step, item_length_step}

abbrev pub fault_of : {X : Type 0} → Result X ReadFault → Option ReadFault
fault_of (Ok x) = None
fault_of (Err fault) = Some fault

-- ---- eight octets at least

abbrev pub eight : ℕ → ℕ → ℕ → ℕ → ℕ → ℕ → ℕ → ℕ → List ℕ → List ℕ
eight a b c d e f g h rest = a ∷ b ∷ c ∷ d ∷ e ∷ f ∷ g ∷ h ∷ rest

-- fewer than eight octets, or eight and others
pub by_eight : (P : List ℕ → Type 0) → ((octets : List ℕ) → ltb (length octets) 8 ≡ true → P octets)
    → ((a b c d e f g h : ℕ) (rest : List ℕ) → P (eight a b c d e f g h rest)) → (octets : List ℕ) → P octets
by_eight P short each (a ∷ b ∷ c ∷ d ∷ e ∷ f ∷ g ∷ h ∷ rest) = each a b c d e f g h rest
by_eight P short each octets = short octets (lt-ltb (length octets) 8 (omega arith))

number_of : (w : Width) (octets : List ℕ) → byte_len w ≤ length octets
    → number_at w octets ≡ Ok (from_le_bytes w (take (byte_len w) octets), drop (byte_len w) octets)
number_of w octets le = rw (le-ltb (length octets) (byte_len w) le) refl

tag_of : (a b c d e f g h : ℕ) (rest : List ℕ) → tag_at (eight a b c d e f g h rest) ≡ Ok (tag_in (eight a b c d e f g h rest), e ∷ f ∷ g ∷ h ∷ rest)
unfolding tag_at
tag_of a b c d e f g h rest = grind (arith, le-ltb, number_of)

no_tag : (octets : List ℕ) → ltb (length octets) 8 ≡ true → tag_at octets ≡ Err Truncated
unfolding tag_at
no_tag octets short = rw short refl

long_length : (octets : List ℕ) → 4 ≤ length octets → long_length_at octets ≡ Ok (defined_length (number_in w32 0 octets), drop 4 octets)
unfolding long_length_at
long_length octets le = rw (number_of w32 octets le) refl

-- ---- what follows the length

fits_fault : {X : Type 0} (x : X) (b : Bool) → fault_of (check b Truncated >>= λ whole. Ok x) ≡ first_of ((not b, Truncated) ∷ [])
fits_fault x true = refl
fits_fault x false = refl

nest_faults : (levels : ℕ) (tag : Tag) (syntax : Syntax) (extent : Option ℕ) (rest : List ℕ)
    → fault_of (content_step levels tag rest (Sequence syntax extent) >>= fits_step) ≡ first_of ((eqb levels 0, TooDeep) ∷ (not (fits_enclosing extent rest), Truncated) ∷ [])
nest_faults zero tag syntax extent rest = refl
nest_faults (suc n) tag syntax extent rest = grind (arith, lt-ltb, ne_eqb, fits_fault)

some_faults : (levels : ℕ) (tag : Tag) (n : ℕ) (rest : List ℕ) (a b : Bool)
    → fault_of (cond a (done (Sequence Explicit (Some n))) (cond b (Ok (Sequence Implicit (Some n))) (Ok (Plain n))) >>= content_step levels tag rest >>= fits_step)
    ≡ first_of (((a || (b || false)) && eqb levels 0, TooDeep) ∷ (not (fits_enclosing (Some n) rest), Truncated) ∷ [])
some_faults levels tag n rest a b = grind (arith, nest_faults, fits_fault)

none_faults : (levels : ℕ) (tag : Tag) (rest : List ℕ) (a b c : Bool)
    → fault_of (cond a (done (Sequence Explicit None)) (cond b (Ok (Sequence Implicit None)) (cond c (Ok (Sequence Implicit None)) (Err BadUndefined)))
    >>= content_step levels tag rest >>= fits_step)
    ≡ first_of ((not (a || (b || c)), BadUndefined) ∷ ((a || (b || c)) && eqb levels 0, TooDeep) ∷ (false, Truncated) ∷ [])
none_faults levels tag rest a b c = grind (arith, nest_faults)

content_faults : (levels : ℕ) (tag : Tag) (spelled : Option Vr) (extent : Option ℕ) (rest : List ℕ)
    → fault_of (content_of (known_vr tag) spelled extent >>= content_step levels tag rest >>= fits_step)
    ≡ first_of (faults_of_content levels (known_vr tag) spelled extent rest)
unfolding content_of
content_faults levels tag spelled extent rest = grind (arith, some_faults, none_faults)

-- ---- the header of an element

-- a test, what follows it, and whether the value fits
gate : {Y : Type 0} (b : Bool) (f : ReadFault) (k : Unit {0} → Result Y ReadFault) (last : Y → Result Y ReadFault) (others : List (Bool × ReadFault))
    → fault_of (k tt >>= last) ≡ first_of others → fault_of (check b f >>= k >>= last) ≡ first_of ((not b, f) ∷ others)
gate true f k last others h = h
gate false f k last others h = refl

gate_not : {Y : Type 0} (b : Bool) (f : ReadFault) (k : Unit {0} → Result Y ReadFault) (last : Y → Result Y ReadFault) (others : List (Bool × ReadFault))
    → fault_of (k tt >>= last) ≡ first_of others → fault_of (check (not b) f >>= k >>= last) ≡ first_of ((b, f) ∷ others)
gate_not true f k last others h = refl
gate_not false f k last others h = h

abbrev from_vr : Syntax → ℕ → Tag → List ℕ → List (Bool × ReadFault)
from_vr syntax levels tag octets =
    (not (is_allowed syntax (known_vr tag) (spelled_vr syntax octets)), BadVr) ∷
    (ltb (length octets) (header_size (spelled_vr syntax octets)), Truncated) ∷
    faults_of_content levels (known_vr tag) (spelled_vr syntax octets) (extent_in (spelled_vr syntax octets) octets) (drop (header_size (spelled_vr syntax octets)) octets)

module _ (levels : ℕ) (tag : Tag) (a b c d e f g h : ℕ) (rest : List ℕ) where
  abbrev all : List ℕ
  all = eight a b c d e f g h rest

  eight_at_least : ltb (length all) 8 ≡ false
  eight_at_least = le-ltb (length all) 8 (omega arith)

  implicit_faults : fault_of (spelling_at Implicit (known_vr tag) (e ∷ f ∷ g ∷ h ∷ rest) >>= spelling_step levels tag >>= fits_step)
      ≡ first_of ((not true, BadVr) ∷ (ltb (length all) 8, Truncated) ∷ faults_of_content levels (known_vr tag) None (defined_length (number_in w32 4 all)) rest)
  unfolding spelling_at
  implicit_faults = rw (long_length (e ∷ f ∷ g ∷ h ∷ rest) (omega arith), eight_at_least) (content_faults levels tag None (defined_length (number_in w32 4 all)) rest)

  abbrev explicit_step : Vr → Option ℕ × List ℕ → Result ((Option Vr × Option ℕ) × List ℕ) ReadFault
  explicit_step vr n = Ok ((Some vr, n.0), n.1)

  short_rest : (vr : Vr) (short : Bool) → ltb (length rest) 4 ≡ short
      → fault_of ((long_length_at rest >>= explicit_step vr) >>= spelling_step levels tag >>= fits_step)
      ≡ first_of ((ltb (length all) 12, Truncated) ∷ faults_of_content levels (known_vr tag) (Some vr) (defined_length (number_in w32 8 all)) (drop 4 rest))
  unfolding long_length_at
  short_rest vr true is = grind (arith, lt-ltb, ltb-true)
  short_rest vr false is =
      let long : ltb (length all) 12 ≡ false = le-ltb (length all) 12 (omega (arith, ltb-false (length rest) 4 is)) in
      rw (is, long) (content_faults levels tag (Some vr) (defined_length (number_in w32 8 all)) (drop 4 rest))

  by_form : (vr : Vr) (agreed : Bool) (form : LengthForm)
      → fault_of ((check agreed BadVr >>= λ ok. length_at form (g ∷ h ∷ rest) >>= explicit_step vr) >>= spelling_step levels tag >>= fits_step)
      ≡ first_of ((not agreed, BadVr) ∷ (ltb (length all) (size_by form), Truncated) ∷ faults_of_content levels (known_vr tag) (Some vr) (extent_by form all)
      (drop (size_by form) all))
  unfolding length_at
  by_form vr false form = refl
  by_form vr true Two = rw (number_of w16 (g ∷ h ∷ rest) (omega arith), eight_at_least) (content_faults levels tag (Some vr) (Some (number_in w16 6 all)) rest)
  by_form vr true Four = rw (number_of w16 (g ∷ h ∷ rest) (omega arith)) (short_rest vr (ltb (length rest) 4) refl)

  explicit_faults : (o : Option Vr)
      → fault_of
      ((vr_or_fault o (g ∷ h ∷ rest) >>= λ vr. check (agrees (known_vr tag) vr.0) BadVr >>= λ ok. length_at (length_form_of vr.0) vr.1 >>= explicit_step vr.0)
      >>= spelling_step levels tag >>= fits_step)
      ≡ first_of ((not (is_allowed Explicit (known_vr tag) o), BadVr) ∷ (ltb (length all) (header_size o), Truncated)
      ∷ faults_of_content levels (known_vr tag) o (extent_in o all) (drop (header_size o) all))
  unfolding vr_or_fault
  explicit_faults None = refl
  explicit_faults (Some vr) = by_form vr (agrees (known_vr tag) vr) (length_form_of vr)

  spelling_faults : (syntax : Syntax)
      → fault_of (spelling_at syntax (known_vr tag) (e ∷ f ∷ g ∷ h ∷ rest) >>= spelling_step levels tag >>= fits_step)
      ≡ first_of (from_vr syntax levels tag all)
  unfolding spelling_at vr_at
  spelling_faults Implicit = implicit_faults
  spelling_faults Explicit = explicit_faults (vr_with_letters (e ∷ f ∷ []))

long_header : (syntax : Syntax) (levels : ℕ) (last : Option Tag) (a b c d e f g h : ℕ) (rest : List ℕ)
    → fault_of (header_at syntax levels last (eight a b c d e f g h rest)) ≡ first_of (header_faults syntax levels last (eight a b c d e f g h rest))
unfolding header_at front_at
long_header syntax levels last a b c d e f g h rest =
    grind (arith, tag_of, le-ltb, gate_not, placed_step, fits_step, gate, rises_step, spelling_faults)

pub header_faults_are : (syntax : Syntax) (levels : ℕ) (last : Option Tag) (octets : List ℕ)
    → fault_of (header_at syntax levels last octets) ≡ first_of (header_faults syntax levels last octets)
unfolding header_at front_at
header_faults_are syntax levels last =
    by_eight (λ octets. fault_of (header_at syntax levels last octets) ≡ first_of (header_faults syntax levels last octets))
    (λ octets short. rw (no_tag octets short, short) refl) (long_header syntax levels last)

-- ---- the header of an item

long_item : (a b c d e f g h : ℕ) (rest : List ℕ) → fault_of (item_header_at (eight a b c d e f g h rest)) ≡ first_of (item_faults (eight a b c d e f g h rest))
unfolding item_header_at item_front_at
long_item a b c d e f g h rest = grind (arith, tag_of, le-ltb, long_length, gate, item_length_step, fits_fault)

pub item_faults_are : (octets : List ℕ) → fault_of (item_header_at octets) ≡ first_of (item_faults octets)
unfolding item_header_at item_front_at
item_faults_are =
    by_eight (λ octets. fault_of (item_header_at octets) ≡ first_of (item_faults octets)) (λ octets short. rw (no_tag octets short, short) refl) long_item

-- ---- ends

-- where nothing ends: no end, too few octets, or an end with another length than 0
abbrev pub NoEnd : Bound → ℕ → List ℕ → Type 0
NoEnd bound element octets =
    (end_at bound element octets ≡ Ok None)
    ⊎ (((end_at bound element octets ≡ Err Truncated) × (ltb (length octets) 8 ≡ true))
    ⊎ ((end_at bound element octets ≡ Err BadItem) × (ltb (length octets) 8 ≡ false) × (eqb (tag_in octets).group 0xFFFE ≡ true)
    × (eqb (tag_in octets).element element ≡ true)))

abbrev Ending : Bool → Bound → ℕ → List ℕ → Type 0
Ending true bound element octets = (rest : List ℕ) × (end_at bound element octets ≡ Ok (Some rest))
Ending false bound element octets = NoEnd bound element octets

abbrev end_says : List ℕ → Bool → Bool → Bool → Result (Option (List ℕ)) ReadFault
end_says rest x y z = cond (x && y) (check z BadItem >>= λ ok. Ok (Some rest)) (Ok None)

module _ (element a b c d e f g h : ℕ) (rest : List ℕ) where
  abbrev whole : List ℕ
  whole = eight a b c d e f g h rest

  end_is_said : end_at Delimited element whole ≡ end_says rest (eqb (tag_in whole).group 0xFFFE) (eqb (tag_in whole).element element)
      (eqb (number_in w32 4 whole) 0)
  unfolding end_at
  end_is_said = rw (tag_of a b c d e f g h rest, number_of w32 (e ∷ f ∷ g ∷ h ∷ rest) (omega arith)) refl

  ending_by : (x y z : Bool) → end_at Delimited element whole ≡ end_says rest x y z → eqb (tag_in whole).group 0xFFFE ≡ x
      → eqb (tag_in whole).element element ≡ y
      → Ending ((x && y) && z) Delimited element whole
  ending_by x y z is p q = grind (arith, le-ltb)

  long_ending : Ending (ends_here Delimited element whole) Delimited element whole
  long_ending = grind (arith, le-ltb, ending_by, end_is_said)

filled_by : (element : ℕ) (octets : List ℕ) (b : Bool) → end_at Filled element octets ≡ Ok (cond b (Some octets) None) → Ending b Filled element octets
filled_by element octets true is = (octets, is)
filled_by element octets false is = inl is

ending : (bound : Bound) (element : ℕ) (octets : List ℕ) → Ending (ends_here bound element octets) bound element octets
unfolding end_at
ending Filled element octets = filled_by element octets (eqb (length octets) 0) refl
ending Delimited element octets = grind (arith, by_eight, no_tag, long_ending)

pub no_end_here : (bound : Bound) (element : ℕ) (octets : List ℕ) → ends_here bound element octets ≡ false → NoEnd bound element octets
no_end_here bound element octets other = subst (λ (b : Bool). Ending b bound element octets) other (ending bound element octets)

pub an_end_here : (bound : Bound) (element : ℕ) (octets : List ℕ) → ends_here bound element octets ≡ true → (rest : List ℕ)
    × (end_at bound element octets ≡ Ok (Some rest))
an_end_here bound element octets here = subst (λ (b : Bool). Ending b bound element octets) here (ending bound element octets)
