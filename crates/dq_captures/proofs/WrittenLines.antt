-- What parts of lines add to what was written.
use Rattle.std.proofs.Common.{◌≡◌, ℕ, suc, ◌+◌, ◌<◌, min, List, [], ◌∷◌, ◌++◌, length, get_or, take, drop, take-append-drop, drop-cons, Option, Some, None, Result, Ok, Err, OnErr, append_assoc, append-nil, sym, ap, ◌∙◌, arith}
use Rattle.std.specs.Io.KnownBytes.{Keeps, Appends}
use Rattle.std.proofs.Math.Seq.{take-append-add}
use Rattle.std.proofs.lemmas.List.{take-append-le, take_min, take_all}
use Rattle.std.proofs.lemmas.Grind.{flat_map-append}
use Rattle.std.specs.List.{flat_map}
use Rattle.dq_captures.specs.Surroundings.{AppendsPart, BreaksOff}

take_of_front : (k : ℕ) (line rest : List ℕ) → take (min k (length line)) (line ++ rest) ≡ take k line
take_of_front k line rest = take-append-le (min k (length line)) line rest (omega arith) ∙ take_min k line

-- a part of what comes after what was written
pub AppendsPart-after : (before mid after : Option (List ℕ)) (done line rest : List ℕ) → Appends before mid done → AppendsPart mid after line
    → AppendsPart before after (done ++ (line ++ rest))
AppendsPart-after None mid after done line rest first part = (0, tt)
AppendsPart-after (Some xs) None after done line rest first part = absurd first
AppendsPart-after (Some xs) (Some ys) None done line rest first part = absurd part.1
AppendsPart-after (Some xs) (Some ys) (Some zs) done line rest first part =
    let k = min part.0 (length line) in
    let octets : take (length done + k) (done ++ (line ++ rest)) ≡ done ++ take part.0 line =
    take-append-add done (line ++ rest) k ∙ ap (λ l. done ++ l) (take_of_front part.0 line rest) in
    (length done + k, part.1 ∙ ap (λ l. l ++ take part.0 line) first ∙ append_assoc xs done (take part.0 line) ∙ ap (λ l. xs ++ l) (sym octets))

pub Appends-none : (known : Option (List ℕ)) → Appends known known []
Appends-none None = tt
Appends-none (Some xs) = sym (append-nil xs)

pub AppendsPart-front : (before after : Option (List ℕ)) (line rest : List ℕ) → AppendsPart before after line → AppendsPart before after (line ++ rest)
AppendsPart-front before after line rest part = AppendsPart-after before before after [] line rest (Appends-none before) part

pub AppendsPart-whole : (before after : Option (List ℕ)) (octets : List ℕ) → Appends before after octets → AppendsPart before after octets
AppendsPart-whole None after octets whole = (0, tt)
AppendsPart-whole (Some xs) None octets whole = absurd whole
AppendsPart-whole (Some xs) (Some ys) octets whole = (length octets, whole ∙ ap (λ l. xs ++ l) (sym (take_all (length octets) octets (omega arith))))

pub OnErr-known : {T E P : Type 0} (r : Result T E) → P → OnErr r P
OnErr-known (Ok x) known = tt
OnErr-known (Err e) known = known

-- ---- one text after another

pub Appends-then : (before mid after : Option (List ℕ)) (first later : List ℕ) → Appends before mid first → Appends mid after later
    → Appends before after (first ++ later)
Appends-then None mid after first later a b = tt
Appends-then (Some xs) None after first later a b = absurd a
Appends-then (Some xs) (Some ys) None first later a b = absurd b
Appends-then (Some xs) (Some ys) (Some zs) first later a b = b ∙ ap (λ l. l ++ later) a ∙ append_assoc xs first later

-- the first text broke off
pub BreaksOff-first : {May : Type 0} (before after : Option (List ℕ)) (first later : List ℕ) → BreaksOff May before after first
    → BreaksOff May before after (first ++ later)
BreaksOff-first before after first later off = (off.0, AppendsPart-front before after first later off.1)

-- it was written, and the next one broke off
pub BreaksOff-later : {May Then : Type 0} (before mid after : Option (List ℕ)) (first later : List ℕ) → (Then → May)
    → Appends before mid first → BreaksOff Then mid after later → BreaksOff May before after (first ++ later)
BreaksOff-later before mid after first later fails done off = (
  fails off.0,
  rw append-nil at (AppendsPart-after before mid after first later [] done off.1),
)

-- ---- items of a list, a text each

module _ {X : Type 0} (text : X → List ℕ) where
  -- the texts before that of an item, its own, and those after it
  texts-at : (xs : List X) (i : ℕ) (x : X) → i < length xs → x ≡ get_or xs i x
      → flat_map text xs ≡ flat_map text (take i xs) ++ (text x ++ flat_map text (drop (suc i) xs))
  texts-at xs i x below here =
      let rest : drop i xs ≡ x ∷ drop (suc i) xs = drop-cons xs i x below ∙ ap (λ r. r ∷ drop (suc i) xs) (sym here) in
      ap (flat_map text) (sym (take-append-drop i xs)) ∙ flat_map-append text (take i xs) (drop i xs)
      ∙ ap (λ l. flat_map text (take i xs) ++ flat_map text l) rest

  pub BreaksOff-item : {May Then : Type 0} (before mid after : Option (List ℕ)) (xs : List X) (i : ℕ) (x : X) → i < length xs → x ≡ get_or xs i x → (Then → May)
      → Appends before mid (flat_map text (take i xs)) → BreaksOff Then mid after (text x) → BreaksOff May before after (flat_map text xs)
  BreaksOff-item before mid after xs i x below here fails done off = (
    fails off.0,
    rw (texts-at xs i x below here) (AppendsPart-after before mid after (flat_map text (take i xs)) (text x) (flat_map text (drop (suc i) xs)) done off.1),
  )

  pub AppendsPart-items : (before after : Option (List ℕ)) (xs : List X) (k : ℕ) → AppendsPart before after (flat_map text (take k xs))
      → AppendsPart before after (flat_map text xs)
  AppendsPart-items before after xs k part =
      let whole : flat_map text xs ≡ flat_map text (take k xs) ++ flat_map text (drop k xs) =
      ap (flat_map text) (sym (take-append-drop k xs)) ∙ flat_map-append text (take k xs) (drop k xs) in
      rw whole (AppendsPart-front before after (flat_map text (take k xs)) (flat_map text (drop k xs)) part)

-- ---- one write after another

-- what was written, and what is left to write
abbrev pub Written : Option (List ℕ) → Option (List ℕ) → List ℕ → List ℕ → Type 0
Written before now octets rest = (done : List ℕ) × (done ++ rest ≡ octets) × Appends before now done

pub Written-more : (before mid after : Option (List ℕ)) (octets rest : List ℕ) (k : ℕ) → Written before mid octets rest → Appends mid after (take k rest)
    → Written before after octets (drop k rest)
Written-more None mid after octets rest k done added =
    (done.0 ++ take k rest, append_assoc done.0 (take k rest) (drop k rest) ∙ ap (λ l. done.0 ++ l) (take-append-drop k rest) ∙ done.1, tt)
Written-more (Some xs) None after octets rest k done added = absurd done.2
Written-more (Some xs) (Some ys) None octets rest k done added = absurd added
Written-more (Some xs) (Some ys) (Some zs) octets rest k done added = (
  done.0 ++ take k rest,
  append_assoc done.0 (take k rest) (drop k rest) ∙ ap (λ l. done.0 ++ l) (take-append-drop k rest) ∙ done.1,
  added ∙ ap (λ l. l ++ take k rest) done.2 ∙ append_assoc xs done.0 (take k rest),
)

pub Written-part : (before after : Option (List ℕ)) (octets rest : List ℕ) → Written before after octets rest → AppendsPart before after octets
Written-part before after octets rest done =
    rw (← done.1) (AppendsPart-front before after done.0 rest (AppendsPart-whole before after done.0 done.2))

pub Appends-kept : (before mid after : Option (List ℕ)) (octets : List ℕ) → Appends before mid octets → Keeps mid after → Appends before after octets
Appends-kept None mid after octets done kept = tt
Appends-kept (Some xs) None after octets done kept = absurd done
Appends-kept (Some xs) (Some ys) None octets done kept = absurd kept
Appends-kept (Some xs) (Some ys) (Some zs) octets done kept = kept ∙ done

pub Written-kept : (before mid after : Option (List ℕ)) (octets rest : List ℕ) → Written before mid octets rest → Keeps mid after
    → Written before after octets rest
Written-kept before mid after octets rest done kept = (done.0, done.1, Appends-kept before mid after done.0 done.2 kept)
