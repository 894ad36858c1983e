-- Octets that are spelled some at a time.
use Rattle.std.proofs.Common.{◌≡◌, ℕ, ◌/◌, ◌%◌, List, [], ◌∷◌, ◌++◌, slice_index, Option, Result, Ok, Err, IsOk, OnOk, refl, append_assoc, append-nil, sym, ap, subst, ◌∙◌}
use Rattle.std.specs.Io.KnownBytes.{Appends}
use Rattle.hex.specs.Hex.{encode_with, encode_lower, lower_digits}
use Rattle.dq_captures.specs.Surroundings.{BreaksOff}
use Rattle.dq_captures.proofs.WrittenLines.{Appends-none, Appends-then, AppendsPart-after}

encode-append : (digits xs ys : List ℕ) → encode_with digits (xs ++ ys) ≡ encode_with digits xs ++ encode_with digits ys
unfolding encode_with
encode-append digits [] ys = refl
encode-append digits (x ∷ xs) ys = ap (λ l. slice_index digits (x / 16) ∷ slice_index digits (x % 16) ∷ l) (encode-append digits xs ys)

-- some are spelled, and these are left
abbrev pub Spelled : Option (List ℕ) → Option (List ℕ) → List ℕ → List ℕ → Type 0
Spelled before now octets rest = (done : List ℕ) × (done ++ rest ≡ octets) × Appends before now (encode_lower done)

module _ (before mid after : Option (List ℕ)) (octets rest first later : List ℕ) (is : rest ≡ first ++ later) (so : Spelled before mid octets rest) where
  pub spelled-more : Appends mid after (encode_lower first) → Spelled before after octets later
  spelled-more added = (
    so.0 ++ first,
    append_assoc so.0 first later ∙ ap (λ l. so.0 ++ l) (sym is) ∙ so.1,
    rw (encode-append lower_digits so.0 first) (Appends-then before mid after (encode_lower so.0) (encode_lower first) so.2 added),
  )

  pub spelled-part : {May Then : Type 0} → (Then → May) → BreaksOff Then mid after (encode_lower first) → BreaksOff May before after (encode_lower octets)
  spelled-part fails off =
      let whole : encode_lower octets ≡ encode_lower so.0 ++ (encode_lower first ++ encode_lower later) =
      ap encode_lower (sym so.1 ∙ ap (λ l. so.0 ++ l) is) ∙ encode-append lower_digits so.0 (first ++ later)
      ∙ ap (λ l. encode_lower so.0 ++ l) (encode-append lower_digits first later) in
      (fails off.0, rw whole (AppendsPart-after before mid after (encode_lower so.0) (encode_lower first) (encode_lower later) so.2 off.1))

encode-none : encode_lower [] ≡ []
unfolding encode_with
encode-none = refl

pub spelled-none : (written : Option (List ℕ)) (octets : List ℕ) → Spelled written written octets octets
spelled-none written octets = ([], refl, rw encode-none (Appends-none written))

-- what is so of a success that there is
pub of-success : {T E P : Type 0} (r : Result T E) → IsOk r → OnOk r P → P
of-success (Ok x) is holds = holds
of-success (Err e) is holds = absurd (cc)
