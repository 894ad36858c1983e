-- The octets of data fragments, which are kept up to a limit.
use Rattle.std.proofs.Common.{◌≡◌, ℕ, ◌<◌, Bool, true, false, cond, ltb, List, [], ◌++◌, length, refl, sym, ap, ◌∙◌, arith, length-append}
use Rattle.std.specs.Prelude.{◌||◌}
use Rattle.std.proofs.lemmas.Bool.{ltb-true, lt-ltb, le-ltb}
use Rattle.dq_dimse.specs.declared.command.Command.{Command}
use Rattle.dq_dimse.specs.Received.{Message}
use Rattle.dq_dimse.specs.Messages.{data_limit, HasOctets}
use Rattle.dq_dimse.specs.Assembling.{begun_with, with_fragment}

-- one more fragment of octets of which some were kept
abbrev is_past : ℕ → Bool → List ℕ → Bool
is_past limit over octets = over || ltb limit (length octets)

record Grows (limit : ℕ) (over : Bool) (kept before fragment : List ℕ) : Type 0 where
  pub over_is : is_past limit over (kept ++ fragment) ≡ ltb limit (length (before ++ fragment))
  pub octets_are :
      cond (is_past limit over (kept ++ fragment)) [] (kept ++ fragment)
      ≡ cond (is_past limit over (kept ++ fragment)) [] (before ++ fragment)

grows : (limit : ℕ) (over : Bool) (kept before fragment : List ℕ) → over ≡ ltb limit (length before) → kept ≡ cond over [] before
    → Grows limit over kept before fragment
grows limit true kept before fragment e h =
    let long : limit < length before = ltb-true limit (length before) (sym e) in
    record { over_is = sym (lt-ltb limit (length (before ++ fragment)) (omega (arith, length-append before fragment))); octets_are = refl }
grows limit false kept before fragment e h = record {
  over_is = ap (λ (xs : List ℕ). ltb limit (length (xs ++ fragment))) h;
  octets_are = ap (λ (xs : List ℕ). cond (ltb limit (length (kept ++ fragment))) [] (xs ++ fragment)) h;
}

-- what is kept of a data set with one more fragment
pub with_fragment-octets : (message : Message) (before fragment : List ℕ) → HasOctets message before
    → HasOctets (with_fragment message fragment) (before ++ fragment)
with_fragment-octets message before fragment h =
    let g = grows (data_limit message.command) message.over message.octets before fragment h.over_is h.octets_are in
    record { over_is = g.over_is; octets_are = g.octets_are }

none_passes : (command : Command) → ltb (data_limit command) 0 ≡ false
none_passes command = le-ltb (data_limit command) 0 (omega arith)

pub begun_octets : (context : ℕ) (command : Command) → HasOctets (begun_with context command) []
begun_octets context command = record { over_is = sym (none_passes command); octets_are = refl }

-- what is kept is told by the octets
over_only : (m n : Message) (octets : List ℕ) → m.command ≡ n.command → HasOctets m octets → HasOctets n octets → m.over ≡ n.over
over_only m n octets e g h = g.over_is ∙ ap (λ (c : Command). ltb (data_limit c) (length octets)) e ∙ sym h.over_is

abbrev message_of : ℕ → Command → List ℕ → Bool → Message
message_of context command octets over = record { context = context; command = command; octets = octets; over = over }

pub message_only : (m n : Message) (octets : List ℕ) → m.context ≡ n.context → m.command ≡ n.command → HasOctets m octets → HasOctets n octets → m ≡ n
message_only m n octets c k g h = grind (arith, over_only)
