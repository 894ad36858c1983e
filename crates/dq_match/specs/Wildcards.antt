-- Wild card matching (PS3.4 section C.2.2.2.4).
use Rattle.std.specs.Prelude.{◌≡◌, ◌≢◌, ℕ, Bool, false, List, [], ◌∷◌, ◌++◌, nat_eq, ◌||◌, ◌&&◌, if◌then◌else◌}
use Rattle.std.specs.Char.{to_ascii_lowercase}
use Rattle.dq_list.specs.Lengths.{is_empty}
use Rattle.dq_match.specs.declared.wildcards.Casing.{Casing}
use Rattle.dq_match.specs.declared.wildcards.Casing.TheVariants.{Exact, Folded}

-- `*` stands for any run of octets, and `?` for any one octet
abbrev pub any_run : ℕ
any_run = 0x2a

abbrev pub any_one : ℕ
any_one = 0x3f

-- an octet as it is compared: in names letters of either case are one
abbrev pub compared_octet : Casing → ℕ → ℕ
compared_octet Exact octet = octet
compared_octet Folded octet = to_ascii_lowercase octet

abbrev pub same : Casing → ℕ → ℕ → Bool
same casing a b = nat_eq (compared_octet casing a) (compared_octet casing b)

-- the pattern fits the text
pub data FitsPattern : Casing → List ℕ → List ℕ → Type 0 where
  ended : (casing : Casing) → FitsPattern casing [] []
  run : (casing : Casing) (pattern before after : List ℕ) → FitsPattern casing pattern after
      → FitsPattern casing (any_run ∷ pattern) (before ++ after)
  one : (casing : Casing) (octet : ℕ) (pattern text : List ℕ) → FitsPattern casing pattern text
      → FitsPattern casing (any_one ∷ pattern) (octet ∷ text)
  itself : (casing : Casing) (wanted octet : ℕ) (pattern text : List ℕ) → wanted ≢ any_run
      → compared_octet casing wanted ≡ compared_octet casing octet → FitsPattern casing pattern text
      → FitsPattern casing (wanted ∷ pattern) (octet ∷ text)

-- ---- computed

-- what is left after some run passes the test
abbrev pub after_run : (List ℕ → Bool) → List ℕ → Bool
after_run test [] = test []
after_run test (octet ∷ others) = test (octet ∷ others) || after_run test others

-- the first octet passes a test, and what is left the other
abbrev pub after_one : (ℕ → Bool) → (List ℕ → Bool) → List ℕ → Bool
after_one first test [] = false
after_one first test (octet ∷ others) = first octet && test others

abbrev pub stands_for : Casing → ℕ → ℕ → Bool
stands_for casing wanted octet = nat_eq wanted any_one || same casing wanted octet

abbrev pub wild : Casing → List ℕ → List ℕ → Bool
wild casing [] text = is_empty text
wild casing (wanted ∷ pattern) text =
    if nat_eq wanted any_run then after_run (wild casing pattern) text
    else after_one (stands_for casing wanted) (wild casing pattern) text
