-- Octets cut into PDUs, as a loop writes them.
use Rattle.std.proofs.Common.{◌≡◌, ℕ, zero, suc, ◌+◌, ◌<◌, ◌≤◌, Bool, true, false, cond, leb, List, [], ◌∷◌, ◌++◌, length, take, drop, refl, sym, ap}
use Rattle.std.proofs.Common.{◌∙◌, append_assoc, arith, length-drop}
use Rattle.std.specs.List.{flat_map}
use Rattle.std.proofs.lemmas.Bool.{le-leb, lt-leb}
use Rattle.std.proofs.lemmas.Bool.Decides.{nat_tests}
use Rattle.std.proofs.lemmas.List.{append-nil}
use Rattle.dq_pdu.specs.Writing.{body, pdu_octets, is_writable, p_data}
use Rattle.dq_dimse.specs.Sending.{IsPduLimit, pdu_limit, fragment_size, fragments_within, pdus_of}
use Rattle.dq_dimse.proofs.Fragments.{one_fragment}

abbrev pub pdus_within : ℕ → Bool → ℕ → ℕ → List ℕ → List ℕ
pdus_within context command fuel size octets = flat_map pdu_octets (pdus_of context command (fragments_within fuel size octets))

pdu_length : (context : ℕ) (command last : Bool) (octets : List ℕ) → length (body (p_data context command last octets)) ≡ length octets + 6
pdu_length context command last octets = grind (arith, nat_tests, append-nil)

pub has_room : (limit : ℕ) → IsPduLimit limit → (fragment_size limit + 6 ≤ pdu_limit limit) × (pdu_limit limit ≤ 16384)
has_room limit h = grind (arith, nat_tests)

pub pdu_short : (limit context : ℕ) (command last : Bool) (octets : List ℕ) → IsPduLimit limit → length octets ≤ fragment_size limit
    → length (body (p_data context command last octets)) ≤ pdu_limit limit
pdu_short limit context command last octets h short =
    let r = has_room limit h in
    let n = pdu_length context command last octets in
    omega arith

pub pdu_writable : (limit context : ℕ) (command last : Bool) (octets : List ℕ) → IsPduLimit limit → length octets ≤ fragment_size limit
    → is_writable (p_data context command last octets) ≡ true
pdu_writable limit context command last octets h short =
    let r = has_room limit h in
    let n = pdu_short limit context command last octets h short in
    le-leb (length (body (p_data context command last octets))) 65536 (omega arith)

-- what was written, and after it the PDUs of the rest, are the whole
pub record Cuts (context : ℕ) (command : Bool) (size : ℕ) (written rest total : List ℕ) : Type 0 where
  pub fuel : ℕ
  pub enough : length rest ≤ fuel
  pub whole : written ++ pdus_within context command fuel size rest ≡ total

chosen : (context : ℕ) (command : Bool) (f : List ℕ) (b : Bool) (x y : List ℕ) (ys : List (List ℕ))
    → pdus_of context command (f ∷ cond b (x ∷ []) (y ∷ ys)) ≡ p_data context command false f ∷ pdus_of context command (cond b (x ∷ []) (y ∷ ys))
chosen context command f true x y ys = refl
chosen context command f false x y ys = refl

-- a PDU before others is not the last
pdus_of-cons : (context : ℕ) (command : Bool) (f : List ℕ) (fuel size : ℕ) (octets : List ℕ) → pdus_of context command
    (f ∷ fragments_within fuel size octets) ≡ p_data context command false f ∷ pdus_of context command (fragments_within fuel size octets)
pdus_of-cons context command f zero size octets = refl
pdus_of-cons context command f (suc fuel) size octets =
    chosen context command f (leb (length octets) size) octets (take size octets) (fragments_within fuel size (drop size octets))

one_more : (context : ℕ) (command : Bool) (size : ℕ) (written rest total : List ℕ) (fuel : ℕ) → 0 < size → size < length rest → length rest ≤ fuel
    → written ++ pdus_within context command fuel size rest ≡ total
    → Cuts context command size (written ++ pdu_octets (p_data context command false (take size rest))) (drop size rest) total
one_more context command size written rest total zero some long enough w = absurd (omega arith)
one_more context command size written rest total (suc fuel) some long enough w =
    let no : leb (length rest) size ≡ false = lt-leb (length rest) size long in
    let step : pdus_within context command (suc fuel) size rest ≡ pdu_octets
    (p_data context command false (take size rest)) ++ pdus_within context command fuel size (drop size rest) =
    rw (no, pdus_of-cons context command (take size rest) fuel size (drop size rest)) refl in
    record { fuel = fuel; enough = omega (arith, length-drop size rest); whole = append_assoc written _ _ ∙ ap (λ (xs : List ℕ). written ++ xs) (sym step) ∙ w }

pub goes_on : (context : ℕ) (command : Bool) (size : ℕ) (written rest total : List ℕ) → 0 < size → size < length rest
    → Cuts context command size written rest total
    → Cuts context command size (written ++ pdu_octets (p_data context command false (take size rest))) (drop size rest) total
goes_on context command size written rest total some long c = one_more context command size written rest total c.fuel some long c.enough c.whole

pub ends : (context : ℕ) (command : Bool) (size : ℕ) (written rest total : List ℕ) → length rest ≤ size → Cuts context command size written rest total
    → written ++ pdu_octets (p_data context command true rest) ≡ total
ends context command size written rest total le c = grind (arith, nat_tests, one_fragment, append-nil)
