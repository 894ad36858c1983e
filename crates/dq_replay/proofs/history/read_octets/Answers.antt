use Rattle.std.proofs.Common.{◌≡◌, ◌≤◌, ◌+◌, ℕ, List, length, take, Option, Some, None, IfSome, ap, ◌∙◌, arith}
use Rattle.std.proofs.lemmas.List.{take_all, length-take}
use Rattle.dq_replay.proofs.history.read_octets.Goals as goal

-- what is shorter than the most that is read is all that was given
read_whole : (most : ℕ) (given : Option (List ℕ)) (read : List ℕ) → IfSome given (λ all. read ≡ take (most + 1) all) → length read ≤ most
    → IfSome given (λ octets. read ≡ octets)
read_whole most None read same bounded = tt
read_whole most (Some xs) read same bounded =
    let all : length xs ≤ most + 1 = omega (arith, ap length same, length-take (most + 1) xs) in
    same ∙ take_all (most + 1) xs all

pub returns : goal.returns
returns g c = read_whole 67108864 (g.R.Source.octets c.args.input) c.in-Ok.octets.items c.in-Ok.ensures.read (omega arith)
