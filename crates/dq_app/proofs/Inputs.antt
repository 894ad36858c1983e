-- What is read of an input up to a limit.
use Rattle.std.proofs.Common.{◌≡◌, ◌⊎◌, ℕ, zero, suc, ◌+◌, ◌<◌, ◌≤◌, List, length, take, Option, Some, None, Result, Ok, Err, IfErr, IfSome, inl, refl, ap, ◌∙◌, arith}
use Rattle.std.specs.Str.{IsUtf8}
use Rattle.std.proofs.lemmas.List.{take_all, length-take}
use Rattle.std.specs.Result.{IsErrAnd}
use Rattle.dq_captures.specs.declared.capture.CaptureFault.{CaptureFault}
use Rattle.dq_captures.specs.declared.capture.CaptureFault.TheVariants.{Line, NoMemory}
use Rattle.dq_captures.specs.Captures.{IsFirstBadLine, lines_of}
use Rattle.dq_app.specs.Program.{RefusesCapture, capture_limit, stop_of_capture}

abbrev Read : Option (List ℕ) → List ℕ → Type 0
Read given read = IfSome given (λ all. read ≡ take (capture_limit + 1) all)

-- what is not above the limit is all that was given
pub read_whole : (given : Option (List ℕ)) (read : List ℕ) → Read given read → length read ≤ capture_limit
    → IfSome given (λ octets. (read ≡ octets) × (length octets ≤ capture_limit))
read_whole None read same bounded = tt
read_whole (Some xs) read same bounded =
    let all : length xs ≤ capture_limit + 1 = omega (arith, ap length same, length-take (capture_limit + 1) xs) in
    (same ∙ take_all (capture_limit + 1) xs all, omega (arith, ap length same, length-take (capture_limit + 1) xs))

-- what is above it is too long
pub read_long : (given : Option (List ℕ)) (read : List ℕ) → Read given read → capture_limit < length read
    → IfSome given (λ octets. (capture_limit < length octets) ⊎ (IsUtf8 octets → ⊥))
read_long None read same long = tt
read_long (Some xs) read same long = inl (omega (arith, ap length same, length-take (capture_limit + 1) xs))

-- a capture that was read whole is refused by its first bad line, or for want of memory
pub refuses : (may_fail : Type 0) (given : Option (List ℕ)) (read : List ℕ) (fault : CaptureFault)
    → IfSome given (λ octets. (read ≡ octets) × (length octets ≤ capture_limit)) → IsUtf8 read
    → ((number : ℕ) → fault ≡ Line number → IsFirstBadLine (lines_of read) number) → RefusesCapture may_fail given (stop_of_capture fault)
refuses may_fail given read NoMemory all valid line = refl
refuses may_fail given read (Line zero) all valid line = let bad = line 0 refl in absurd (omega (arith, bad.counted.0))
refuses may_fail None read (Line (suc number)) all valid line = tt
refuses may_fail (Some xs) read (Line (suc number)) all valid line = (all.1, rw all.0 at valid, rw all.0 at (line (suc number) refl))

-- what holds of the error that is there holds if there is one
pub if_error : {T E : Type 0} (P : E → Type 0) (r : Result T E) (e : E) → IsErrAnd r (λ x. x ≡ e) → P e → IfErr r P
if_error P (Ok x) e is holds = tt
if_error P (Err x) e is holds = rw is holds
