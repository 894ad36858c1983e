-- Lists of connections: those among them that pass a test of their numbers, and numbers that are apart.
use Rattle.std.proofs.Common.{◌≡◌, ℕ, ◌==◌, Bool, true, false, List, [], ◌∷◌, ◌++◌, Some, None, refl, arith}
use Rattle.std.specs.Prelude.{filter}
use Rattle.std.specs.List.{AllByRecursion}
use Rattle.std.proofs.lemmas.Bool.Decides.{nat_tests}
use Rattle.dq_core.proofs.isolation.Vocabulary.{Answer, after_piece, Connection, new_connection, with_piece, connection_in, without, with_connection}

-- the connections whose numbers pass a test
abbrev pub among : (ℕ → Bool) → List Connection → List Connection
among mine cs = filter (λ (c : Connection). mine c.number) cs

pub at-number : (a b : ℕ) → (a == b) ≡ true → a ≡ b
at-number a b h = grind (arith, nat_tests)

pub differ : (a b : ℕ) → (a == b) ≡ false → (b == a) ≡ false
differ a b h = grind (arith, nat_tests)

module _ (mine : ℕ → Bool) where
  pub among-opened : (number : ℕ) (cs : List Connection) → mine number ≡ true
      → among mine (cs ++ new_connection number ∷ []) ≡ among mine cs ++ new_connection number ∷ []
  among-opened number [] m = grind (arith, nat_tests)
  among-opened number (c ∷ cs) m = grind (arith, nat_tests, among-opened number cs m)

  pub among-other_opened : (number : ℕ) (cs : List Connection) → mine number ≡ false
      → among mine (cs ++ new_connection number ∷ []) ≡ among mine cs
  among-other_opened number [] m = grind (arith, nat_tests)
  among-other_opened number (c ∷ cs) m = grind (arith, nat_tests, among-other_opened number cs m)

  -- what is held under a number that is among them
  pub in-among : (number : ℕ) (cs : List Connection) → mine number ≡ true → connection_in number (among mine cs) ≡ connection_in number cs
  in-among number [] m = refl
  in-among number (c ∷ cs) m = grind (arith, nat_tests, in-among number cs m)

  pub without-among : (number : ℕ) (cs : List Connection) → mine number ≡ true → among mine (without number cs) ≡ without number (among mine cs)
  without-among number [] m = refl
  without-among number (c ∷ cs) m = grind (arith, nat_tests, without-among number cs m)

  pub with-among : (changed : Connection) (cs : List Connection) → mine changed.number ≡ true
      → among mine (with_connection changed cs) ≡ with_connection changed (among mine cs)
  with-among changed [] m = refl
  with-among changed (c ∷ cs) m = grind (arith, nat_tests, with-among changed cs m)

  pub piece-among : (c : Connection) (piece : List ℕ) (answer : Answer) (cs : List Connection) → mine c.number ≡ true
      → among mine (after_piece c piece answer cs) ≡ after_piece c piece answer (among mine cs)
  piece-among c piece answer cs m = grind (arith, without-among c.number cs m, with-among (with_piece c piece answer.next.query) cs m)

  -- a number that is not among them changes nothing
  pub without-other : (number : ℕ) (cs : List Connection) → mine number ≡ false → among mine (without number cs) ≡ among mine cs
  without-other number [] m = refl
  without-other number (c ∷ cs) m = grind (arith, nat_tests, without-other number cs m)

  pub with-other : (changed : Connection) (cs : List Connection) → mine changed.number ≡ false
      → among mine (with_connection changed cs) ≡ among mine cs
  with-other changed [] m = refl
  with-other changed (c ∷ cs) m = grind (arith, nat_tests, with-other changed cs m)

  pub piece-other : (c : Connection) (piece : List ℕ) (answer : Answer) (cs : List Connection) → mine c.number ≡ false
      → among mine (after_piece c piece answer cs) ≡ among mine cs
  piece-other c piece answer cs m = grind (arith, without-other c.number cs m, with-other (with_piece c piece answer.next.query) cs m)

-- each number once
abbrev pub NotNumbered : ℕ → Connection → Type 0
NotNumbered number c = (c.number == number) ≡ false

abbrev pub AreApart : List Connection → Type 0
AreApart [] = Unit {0}
AreApart (c ∷ cs) = AllByRecursion (NotNumbered c.number) cs × AreApart cs

pub found-number : (number : ℕ) (cs : List Connection) (c : Connection) → connection_in number cs ≡ Some c → c.number ≡ number
found-number number [] d e = cc
found-number number (c ∷ cs) d e = grind (arith, nat_tests, found-number number cs d)

-- a connection that takes the place of another is found under its number
pub found-with : (changed : Connection) (cs : List Connection) (c : Connection) → connection_in changed.number cs ≡ Some c
    → connection_in changed.number (with_connection changed cs) ≡ Some changed
found-with changed [] d e = cc
found-with changed (c ∷ cs) d e = grind (arith, nat_tests, found-with changed cs d)

pub others-found : (changed : Connection) (number : ℕ) (cs : List Connection) → (number ≡ changed.number → ⊥)
    → connection_in number (with_connection changed cs) ≡ connection_in number cs
others-found changed number [] h = refl
others-found changed number (c ∷ cs) h = grind (arith, nat_tests, others-found changed number cs h)

-- where none is found, none has the number
pub none-has : (number : ℕ) (cs : List Connection) → connection_in number cs ≡ None → AllByRecursion (NotNumbered number) cs
none-has number [] e = tt
none-has number (c ∷ cs) e = grind (arith, nat_tests, none-has number cs)

-- facts of each connection
pub each-both : (P Q R : Connection → Type 0) → ((c : Connection) → P c → Q c → R c) → (cs : List Connection) → AllByRecursion P cs → AllByRecursion Q cs
    → AllByRecursion R cs
each-both P Q R f [] p q = tt
each-both P Q R f (c ∷ cs) p q = (f c p.0 q.0, each-both P Q R f cs p.1 q.1)

pub each-weaker : (P Q : Connection → Type 0) → ((c : Connection) → P c → Q c) → (cs : List Connection) → AllByRecursion P cs → AllByRecursion Q cs
each-weaker P Q f [] each = tt
each-weaker P Q f (c ∷ cs) each = (f c each.0, each-weaker P Q f cs each.1)

module _ (P : Connection → Type 0) where
  -- what a fact of each says of the one that is found
  pub found-has : (number : ℕ) (cs : List Connection) (d : Connection) → connection_in number cs ≡ Some d → AllByRecursion P cs → P d
  found-has number [] d e each = cc
  found-has number (c ∷ cs) d e each = grind (arith, nat_tests, found-has number cs d)

  pub each-append : (cs : List Connection) (c : Connection) → AllByRecursion P cs → P c → AllByRecursion P (cs ++ c ∷ [])
  each-append [] c each p = (p, tt)
  each-append (d ∷ cs) c each p = (each.0, each-append cs c each.1 p)

  pub each-without : (number : ℕ) (cs : List Connection) → AllByRecursion P cs → AllByRecursion P (without number cs)
  each-without number [] each = tt
  each-without number (c ∷ cs) each = grind (arith, nat_tests, each-without number cs)

  pub each-with : (changed : Connection) (cs : List Connection) → P changed → AllByRecursion P cs → AllByRecursion P (with_connection changed cs)
  each-with changed [] p each = tt
  each-with changed (c ∷ cs) p each = grind (arith, nat_tests, each-with changed cs)

-- the connections that are left have other numbers
pub left-have : (number : ℕ) (cs : List Connection) → AreApart cs → AllByRecursion (NotNumbered number) (without number cs)
left-have number [] a = tt
left-have number (c ∷ cs) a = grind (arith, nat_tests, left-have number cs, at-number c.number number)

pub apart-without : (number : ℕ) (cs : List Connection) → AreApart cs → AreApart (without number cs)
apart-without number [] a = tt
apart-without number (c ∷ cs) a = grind (arith, nat_tests, each-without (NotNumbered c.number) number cs, apart-without number cs)

pub apart-opened : (c : Connection) (cs : List Connection) → AllByRecursion (λ (d : Connection). (c.number == d.number) ≡ false) cs → AreApart cs
    → AreApart (cs ++ c ∷ [])
apart-opened c [] others a = (tt, tt)
apart-opened c (d ∷ cs) others a = (each-append (NotNumbered d.number) cs c a.0 others.0, apart-opened c cs others.1 a.1)

pub apart-with : (changed : Connection) (cs : List Connection) → AreApart cs → AreApart (with_connection changed cs)
apart-with changed [] a = tt
apart-with changed (c ∷ cs) a = grind (arith, nat_tests, each-with (NotNumbered c.number) changed cs, apart-with changed cs, at-number c.number changed.number)

-- a fact of the changed connection, and of each that has another number
pub others-with : (P Q : Connection → Type 0) (changed : Connection) → Q changed → ((d : Connection) → P d → NotNumbered changed.number d → Q d)
    → (cs : List Connection) → AreApart cs → AllByRecursion P cs → AllByRecursion Q (with_connection changed cs)
others-with P Q changed q f [] a each = tt
others-with P Q changed q f (c ∷ cs) a each =
    grind (arith, nat_tests, f c, each-both P (NotNumbered changed.number) Q f cs, others-with P Q changed q f cs, at-number c.number changed.number)

pub others-without : (P Q : Connection → Type 0) (number : ℕ) → ((d : Connection) → P d → NotNumbered number d → Q d)
    → (cs : List Connection) → AreApart cs → AllByRecursion P cs → AllByRecursion Q (without number cs)
others-without P Q number f cs a each = each-both P (NotNumbered number) Q f (without number cs) (each-without P number cs each) (left-have number cs a)
