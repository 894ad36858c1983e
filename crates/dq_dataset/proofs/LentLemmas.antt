-- The list of what is lent, element by element.
use Rattle.std.proofs.Common.{◌≡◌, ◌≢◌, ℕ, zero, suc, ◌+◌, ◌≤◌, ◌<◌, Bool, false, cond, eqb, eq-eqb, List, [], ◌∷◌, length, Option, Some, Result, Ok, Err, refl, sym, ap, subst, ◌∙◌, arith}
use Rattle.std.proofs.lemmas.Bool.{ne_eqb}
use Rattle.std.proofs.lemmas.List.{length-append}
use Rattle.dq_list.specs.Octets.{AreOctets}
use Rattle.dq_dataset.proofs.Types.{Tag, ReadFault, Syntax, Header, Value}
use Rattle.dq_dataset.specs.DataSetReader.{◌>>=◌, length_of, header_at, value_by, readers}
use Rattle.dq_dataset.specs.Lending.{Spelled, inner_syntax, spelled_as, octets_before_rest, next_at, lent_after, lent_in, lent_from}
use Rattle.dq_dataset.proofs.Fields.{bind_ok, ok_is}
use Rattle.dq_dataset.proofs.Headers.{ReadsHeader, header_takes, header_long}
use Rattle.dq_dataset.proofs.SpelledOrFaulty.{ReadsValue, value_takes}

abbrev pub Found : Type 0
Found = (Header × List ℕ) × List ℕ

abbrev pub NextReads : Syntax → Option Tag → List ℕ → Found → Type 0
NextReads syntax last octets found =
    (behind : List ℕ) × ReadsHeader syntax 16 last octets found.0.0 behind × (held : Value) × ReadsValue 16 found.0.0.vr found.0.0.content behind held found.1
    × (found.0.1 ≡ octets_before_rest (length_of found.0.0.content) behind found.1)

abbrev pub found_step : Header × List ℕ → Value × List ℕ → Result Found ReadFault
found_step header value = Ok ((header.0, octets_before_rest (length_of header.0.content) header.1 value.1), value.1)

abbrev pub header_step : Header × List ℕ → Result Found ReadFault
header_step header = value_by (readers (length header.1 + 1)) 16 header.0.vr header.0.content header.1 >>= found_step header

pub next_reads : (syntax : Syntax) (last : Option Tag) (octets : List ℕ) (found : Found) → AreOctets octets → next_at syntax last octets ≡ Ok found
    → NextReads syntax last octets found
unfolding next_at
next_reads syntax last octets found ok e =
    let h = bind_ok (header_at syntax 16 last octets) header_step found e in
    let behind = h.0.1 in
    let v = bind_ok (value_by (readers (length behind + 1)) 16 h.0.0.vr h.0.0.content behind) (found_step h.0) found h.2 in
    let (header, whole) = header_takes syntax 16 last octets h.0.0 behind ok h.1 in
    let value = value_takes 16 h.0.0.vr h.0.0.content behind header.nests whole header.takes.rest_fits v.0.0 v.0.1 v.1 in
    let one : NextReads syntax last octets ((h.0.0, octets_before_rest (length_of h.0.0.content) h.0.1 v.0.1), v.0.1) = (h.0.1, header, v.0.0, value, refl) in
    let same = ok_is ((h.0.0, octets_before_rest (length_of h.0.0.content) h.0.1 v.0.1), v.0.1) found v.2 in
    subst (λ (x : Found). NextReads syntax last octets x) same one

-- what is left is shorter
pub next_shorter : (syntax : Syntax) (last : Option Tag) (octets : List ℕ) (found : Found) → AreOctets octets → next_at syntax last octets ≡ Ok found
    → AreOctets found.1 × (length found.1 < length octets)
next_shorter syntax last octets found ok e =
    let (behind, header, held, value, is) = next_reads syntax last octets found ok e in
    let eight = header_long syntax found.0.0.tag found.0.0.content header.octets header.header in
    (value.takes.rest_fits, omega (arith, ap length header.takes.parts, ap length value.takes.parts, length-append {A = ℕ}, eight))

abbrev pub Lent : Type 0
Lent = List (Result Spelled ReadFault)

abbrev spelled : Syntax → Found → Spelled
spelled syntax found = spelled_as syntax found.0.0 found.0.1

-- the same list after an element
same_choice : (b : Bool) (x y : Lent) (f : Result Spelled ReadFault) → x ≡ y → cond b x (f ∷ x) ≡ cond b y (f ∷ y)
same_choice b x y f e = ap (λ (z : Lent). cond b z (f ∷ z)) e

abbrev SameLent : ℕ → Syntax → Type 0
SameLent n syntax = (m : ℕ) (last : Option Tag) (octets : List ℕ) → AreOctets octets → length octets ≤ n → length octets ≤ m
    → lent_in n syntax last octets ≡ lent_in m syntax last octets

same_after : (n m : ℕ) (syntax : Syntax) (last : Option Tag) (octets : List ℕ) (r : Result Found ReadFault) → SameLent n syntax → AreOctets octets
    → length octets ≤ suc n → length octets ≤ suc m → next_at syntax last octets ≡ r
    → lent_after syntax (lent_in n syntax) r ≡ lent_after syntax (lent_in m syntax) r
same_after n m syntax last octets (Err f) ih ok le le' e = refl
same_after n m syntax last octets (Ok found) ih ok le le' e =
    let s = next_shorter syntax last octets found ok e in
    same_choice (eqb found.0.0.tag.element 0) _ _ (Ok (spelled syntax found)) (ih m (Some found.0.0.tag) found.1 s.0 (omega (arith, s.1)) (omega (arith, s.1)))

lent_nothing : (m : ℕ) (syntax : Syntax) (last : Option Tag) (octets : List ℕ) → length octets ≡ 0 → lent_in m syntax last octets ≡ []
unfolding lent_in
lent_nothing zero syntax last octets e = refl
lent_nothing (suc m) syntax last octets e = rw (eq-eqb (length octets) 0 e) refl

-- more steps than are used change nothing
same_lent : (n : ℕ) (syntax : Syntax) → SameLent n syntax
unfolding lent_in
same_lent zero syntax m last octets ok le le' = sym (lent_nothing m syntax last octets (omega arith))
same_lent (suc n) syntax zero last octets ok le le' = lent_nothing (suc n) syntax last octets (omega arith)
same_lent (suc n) syntax (suc m) last octets ok le le' =
    ap (λ (x : Lent). cond (eqb (length octets) 0) [] x) (same_after n m syntax last octets (next_at syntax last octets) (same_lent n syntax) ok le le' refl)

-- ---- one step

lent_some : (k : ℕ) (syntax : Syntax) (last : Option Tag) (octets : List ℕ) (r : Result Found ReadFault) → length octets ≡ suc k
    → next_at syntax last octets ≡ r
    → lent_from syntax last octets ≡ lent_after syntax (lent_in k syntax) r
unfolding lent_in
lent_some k syntax last octets r len e =
    let some : eqb (length octets) 0 ≡ false = ne_eqb (length octets) 0 (λ bad. omega (arith, len)) in
    ap (λ (n : ℕ). lent_in n syntax last octets) len ∙ ap (λ (b : Bool). cond b [] (lent_after syntax (lent_in k syntax) (next_at syntax last octets))) some
    ∙ ap (lent_after syntax (lent_in k syntax)) e

a_step : (n : ℕ) → 0 < n → (k : ℕ) × (n ≡ suc k)
a_step zero h = absurd (omega arith)
a_step (suc k) h = (k, refl)

pub lent_fault : (syntax : Syntax) (last : Option Tag) (octets : List ℕ) (f : ReadFault) → 0 < length octets → next_at syntax last octets ≡ Err f
    → lent_from syntax last octets ≡ Err f ∷ []
lent_fault syntax last octets f some e = let k = a_step (length octets) some in lent_some k.0 syntax last octets (Err f) k.1 e

pub lent_end : (syntax : Syntax) (last : Option Tag) (octets : List ℕ) → length octets ≡ 0 → lent_from syntax last octets ≡ []
lent_end syntax last octets e = lent_nothing (length octets) syntax last octets e

lent_next : (syntax : Syntax) (last : Option Tag) (octets : List ℕ) (found : Found) → AreOctets octets → 0 < length octets
    → next_at syntax last octets ≡ Ok found
    → lent_from syntax last octets ≡ cond (eqb found.0.0.tag.element 0) (lent_from syntax (Some found.0.0.tag) found.1)
    (Ok (spelled syntax found) ∷ lent_from syntax (Some found.0.0.tag) found.1)
lent_next syntax last octets found ok some e =
    let k = a_step (length octets) some in
    let s = next_shorter syntax last octets found ok e in
    lent_some k.0 syntax last octets (Ok found) k.1 e
    ∙ same_choice (eqb found.0.0.tag.element 0) _ _ (Ok (spelled syntax found))
    (same_lent k.0 syntax (length found.1) (Some found.0.0.tag) found.1 s.0 (omega (arith, s.1, k.1)) (omega arith))

pub lent_dropped : (syntax : Syntax) (last : Option Tag) (octets : List ℕ) (h : Header) (value rest : List ℕ) → AreOctets octets → 0 < length octets
    → next_at syntax last octets ≡ Ok ((h, value), rest)
    → h.tag.element ≡ 0 → lent_from syntax last octets ≡ lent_from syntax (Some h.tag) rest
lent_dropped syntax last octets h value rest ok some e none = lent_next syntax last octets ((h, value), rest) ok some e ∙ rw (eq-eqb h.tag.element 0 none) refl

pub lent_element : (syntax : Syntax) (last : Option Tag) (octets : List ℕ) (h : Header) (value rest : List ℕ) (inner : Syntax) → AreOctets octets
    → 0 < length octets
    → next_at syntax last octets ≡ Ok ((h, value), rest) → h.tag.element ≢ 0 → inner ≡ inner_syntax syntax h.content
    → lent_from syntax last octets ≡ Ok (record { tag = h.tag; vr = h.vr; syntax = inner; octets = value }) ∷ lent_from syntax (Some h.tag) rest
lent_element syntax last octets h value rest inner ok some e ne is =
    rw is (lent_next syntax last octets ((h, value), rest) ok some e ∙ rw (ne_eqb h.tag.element 0 ne) refl)

pub not_empty : (b : Bool) (octets : List ℕ) → b ≡ eqb (length octets) 0 → b ≡ false → 0 < length octets
not_empty b [] e f = absurd cc
not_empty b (x ∷ octets) e f = omega arith
