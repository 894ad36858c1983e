-- Slots at their places and the connections that they are held for: which of both has a number, and what is held after a change there.
use Rattle.std.proofs.Common.{◌≡◌, ◌≢◌, ℕ, ◌<◌, ◌==◌, Bool, true, false, List, [], ◌∷◌, ◌++◌, length, Option, Some, None, is_some, refl, sym, ap, ◌∙◌, arith}
use Rattle.std.specs.List.{AllByRecursion}
use Rattle.std.specs.List.Sorted.{IsStrictlySortedBy}
use Rattle.std.specs.Map.{keys_of, lookup, remove_entry}
use Rattle.std.specs.Ordering.{nat_cmp}
use Rattle.std.specs.declared.cmp.Ordering.TheVariants.{Less}
use Rattle.std.specs.BTreeMap.{is_at, insert_entry}
use Rattle.std.proofs.lemmas.Bool.Decides.{nat_tests}
use Rattle.slab.specs.Slab.{Slab, get}
use Rattle.dq_config.specs.declared.config.Institution.{Institution}
use Rattle.dq_tables.specs.declared.row.Row.{Row}
use Rattle.dq_archive.specs.declared.additions.Addition.{Addition}
use Rattle.dq_core.specs.declared.slot.Slot.{Slot}
use Rattle.dq_core.specs.Connections.{Connection, connection_in, without, with_connection}
use Rattle.dq_core.specs.Histories.{is_above}
use Rattle.dq_core.specs.Slots.{IsHeld, Asks, IsAt, AreAt}

-- whether an entry has a number
abbrev pub has_number : ℕ → ℕ → Bool
has_number number = is_at (nat_cmp number)

key-is : (number key : ℕ) → has_number number key ≡ true → key ≡ number
key-is number key h = grind (arith, nat_tests)

key-differs : (number key : ℕ) → has_number number key ≡ false → (key == number) ≡ false
key-differs number key h = grind (arith, nat_tests)

key-same : (number key : ℕ) → key ≡ number → (key == number) ≡ true
key-same number key h = grind (arith, nat_tests)

key-above : (number key : ℕ) → nat_cmp number key ≡ Less → key ≢ number
key-above number key h e = absurd (grind (arith, nat_tests))

abbrev AllElse : Slab Slot → Slab Slot → ℕ → Type 0
AllElse slots new place = (other : ℕ) → other ≢ place → get new other ≡ get slots other

module _ (institutions : List Institution) (rows : List Row) (logs : List (List Addition)) (number place : ℕ) where
  -- the slot at the place is held for the connection with the number
  pub record Found (slots : Slab Slot) (cs : List Connection) : Type 0 where
    pub connection : Connection
    pub slot : Slot
    pub is_in : connection_in number cs ≡ Some connection
    pub same : connection.number ≡ number
    pub there : get slots place ≡ Some slot
    pub held : IsHeld institutions slot connection
    pub asks : Asks institutions rows logs slot connection

  abbrev Finds : List (ℕ × ℕ) → Type 0
  Finds es = lookup (has_number number) es ≡ Some place

  found-step : (slots : Slab Slot) (x : ℕ × ℕ) (es : List (ℕ × ℕ)) (c : Connection) (cs : List Connection) (b : Bool) → has_number number x.0 ≡ b
      → IsAt institutions rows logs slots x.0 x.1 c → (Finds es → Found slots cs) → Finds (x ∷ es) → Found slots (c ∷ cs)
  found-step slots x es c cs true t w later e =
      let same : c.number ≡ number = sym w.numbered ∙ key-is number x.0 t in
      let first : Some x.1 ≡ Some place = rw t at e in
      let here : x.1 ≡ place = cc in record {
        connection = c;
        slot = w.slot;
        is_in = rw (key-same number c.number same) refl;
        same = same;
        there = rw (← here) w.there;
        held = w.held;
        asks = w.asks;
      }
  found-step slots x es c cs false t w later e =
      let other : (c.number == number) ≡ false = rw (← w.numbered) (key-differs number x.0 t) in
      let rest = later (rw t at e) in record {
        connection = rest.connection;
        slot = rest.slot;
        is_in = rw other rest.is_in;
        same = rest.same;
        there = rest.there;
        held = rest.held;
        asks = rest.asks;
      }

  pub found : (slots : Slab Slot) (es : List (ℕ × ℕ)) (cs : List Connection) → AreAt institutions rows logs slots es cs → Finds es → Found slots cs
  found slots [] cs h e = cc
  found slots (x ∷ es) [] h e = absurd h
  found slots (x ∷ es) (c ∷ cs) h e = found-step slots x es c cs (has_number number x.0) refl h.0 (λ f. found slots es cs h.1 f) e

  -- ---- changes at the place

  -- the place of a slot with another number is another
  apart-one : (slots : Slab Slot) (x : ℕ × ℕ) (c : Connection) (s : Slot) → IsAt institutions rows logs slots x.0 x.1 c → get slots place ≡ Some s
      → s.number ≡ number → x.0 ≢ number → x.1 ≢ place
  apart-one slots x c s w t n d e =
      let both : Some w.slot ≡ Some s = sym w.there ∙ ap (get slots) e ∙ t in
      let same : w.slot ≡ s = cc in
      d (w.numbered ∙ sym w.held.number ∙ ap (λ (slot : Slot). slot.number) same ∙ n)

  stays-one : (slots new : Slab Slot) (x : ℕ × ℕ) (c : Connection) → AllElse slots new place → x.1 ≢ place → IsAt institutions rows logs slots x.0 x.1 c
      → IsAt institutions rows logs new x.0 x.1 c
  stays-one slots new x c u d w = record { slot = w.slot; there = u x.1 d ∙ w.there; numbered = w.numbered; held = w.held; asks = w.asks }

  -- what has other numbers stays where it is
  stays : (slots new : Slab Slot) (es : List (ℕ × ℕ)) (cs : List Connection) (s : Slot) → AllElse slots new place → get slots place ≡ Some s
      → s.number ≡ number → AllByRecursion (λ y. nat_cmp number y ≡ Less) (keys_of es) → AreAt institutions rows logs slots es cs → AreAt institutions rows logs new es cs
  stays slots new [] [] s u t n a h = tt
  stays slots new [] (c ∷ cs) s u t n a h = absurd h
  stays slots new (x ∷ es) [] s u t n a h = absurd h
  stays slots new (x ∷ es) (c ∷ cs) s u t n a h = (
    stays-one slots new x c u (apart-one slots x c s h.0 t n (key-above number x.0 a.0)) h.0,
    stays slots new es cs s u t n a.1 h.1,
  )

  not-key : (key : ℕ) → has_number number key ≡ false → key ≢ number
  not-key key f e = absurd (grind (arith, nat_tests))

  module _ (slots new : Slab Slot) (s : Slot) (u : AllElse slots new place) (t : get slots place ≡ Some s) (n : s.number ≡ number) where
    abbrev Left : List (ℕ × ℕ) → List Connection → Type 0
    Left es cs = AreAt institutions rows logs new (remove_entry (has_number number) es) (without number cs)

    left-step : (x : ℕ × ℕ) (es : List (ℕ × ℕ)) (c : Connection) (cs : List Connection) (b : Bool) → has_number number x.0 ≡ b
        → IsStrictlySortedBy nat_cmp (keys_of (x ∷ es)) → IsAt institutions rows logs slots x.0 x.1 c → AreAt institutions rows logs slots es cs
        → (IsStrictlySortedBy nat_cmp (keys_of es) → Finds es → Left es cs) → Finds (x ∷ es) → Left (x ∷ es) (c ∷ cs)
    unfolding IsStrictlySortedBy
    left-step x es c cs true b o w h later e =
        let key = key-is number x.0 b in
        let above : AllByRecursion (λ y. nat_cmp number y ≡ Less) (keys_of es) = rw key at o.0 in
        rw (b, key-same number c.number (sym w.numbered ∙ key)) (stays slots new es cs s u t n above h)
    left-step x es c cs false b o w h later e =
        let other : (c.number == number) ≡ false = rw (← w.numbered) (key-differs number x.0 b) in
        rw (b, other) (stays-one slots new x c u (apart-one slots x c s w t n (not-key x.0 b)) w, later o.1 (rw b at e))

    -- what is left where the slot is taken out
    pub left : (es : List (ℕ × ℕ)) (cs : List Connection) → IsStrictlySortedBy nat_cmp (keys_of es) → AreAt institutions rows logs slots es cs → Finds es → Left es cs
    unfolding IsStrictlySortedBy
    left [] cs o h e = cc
    left (x ∷ es) [] o h e = absurd h
    left (x ∷ es) (c ∷ cs) o h e = left-step x es c cs (has_number number x.0) refl o h.0 h.1 (λ p f. left es cs p h.1 f) e

    module _ (slot : Slot) (with_it : Connection) (written : get new place ≡ Some slot) (is : with_it.number ≡ number) (held : IsHeld institutions slot with_it)
        (asks : Asks institutions rows logs slot with_it) where
      abbrev Changed : List (ℕ × ℕ) → List Connection → Type 0
      Changed es cs = AreAt institutions rows logs new es (with_connection with_it cs)

      changed-step : (x : ℕ × ℕ) (es : List (ℕ × ℕ)) (c : Connection) (cs : List Connection) (b : Bool) → has_number number x.0 ≡ b
          → IsStrictlySortedBy nat_cmp (keys_of (x ∷ es)) → IsAt institutions rows logs slots x.0 x.1 c → AreAt institutions rows logs slots es cs
          → (IsStrictlySortedBy nat_cmp (keys_of es) → Finds es → Changed es cs) → Finds (x ∷ es) → Changed (x ∷ es) (c ∷ cs)
      unfolding IsStrictlySortedBy
      changed-step x es c cs true b o w h later e =
          let key = key-is number x.0 b in
          let above : AllByRecursion (λ y. nat_cmp number y ≡ Less) (keys_of es) = rw key at o.0 in
          let first : Some x.1 ≡ Some place = rw b at e in
          let here : x.1 ≡ place = cc in
          let same : (c.number == with_it.number) ≡ true = rw is (key-same number c.number (sym w.numbered ∙ key)) in
          rw same (
            record { slot = slot; there = rw here written; numbered = key ∙ sym is; held = held; asks = asks },
            stays slots new es cs s u t n above h,
          )
      changed-step x es c cs false b o w h later e =
          let other : (c.number == with_it.number) ≡ false = rw (is, ← w.numbered) (key-differs number x.0 b) in
          rw other (stays-one slots new x c u (apart-one slots x c s w t n (not-key x.0 b)) w, later o.1 (rw b at e))

      -- what is held where the slot is another
      pub changed : (es : List (ℕ × ℕ)) (cs : List Connection) → IsStrictlySortedBy nat_cmp (keys_of es) → AreAt institutions rows logs slots es cs → Finds es
          → Changed es cs
      unfolding IsStrictlySortedBy
      changed [] cs o h e = cc
      changed (x ∷ es) [] o h e = absurd h
      changed (x ∷ es) (c ∷ cs) o h e = changed-step x es c cs (has_number number x.0) refl o h.0 h.1 (λ p f. changed es cs p h.1 f) e

  -- ---- a connection that is opened

  abbrev AllBelow : List (ℕ × ℕ) → Type 0
  AllBelow es = AllByRecursion (λ (e : ℕ × ℕ). e.0 < number) es

  vacant-apart : (slots : Slab Slot) (x : ℕ × ℕ) (c : Connection) → IsAt institutions rows logs slots x.0 x.1 c → get slots place ≡ None → x.1 ≢ place
  vacant-apart slots x c w t e = let both : Some w.slot ≡ None = sym w.there ∙ ap (get slots) e ∙ t in cc

  pub inserts-last : (es : List (ℕ × ℕ)) → AllBelow es → insert_entry nat_cmp es number place ≡ es ++ (number, place) ∷ []
  inserts-last [] a = refl
  inserts-last (x ∷ es) a = let first = a.0 in grind (arith, nat_tests, inserts-last es a.1)

  pub opened : (slots new : Slab Slot) (es : List (ℕ × ℕ)) (cs : List Connection) (slot : Slot) (c : Connection) → AllElse slots new place
      → get slots place ≡ None → get new place ≡ Some slot → IsHeld institutions slot c → Asks institutions rows logs slot c → number ≡ c.number → AreAt institutions rows logs slots es cs
      → AreAt institutions rows logs new (es ++ (number, place) ∷ []) (cs ++ c ∷ [])
  opened slots new [] [] slot c u t written held asks n h = (record { slot = slot; there = written; numbered = n; held = held; asks = asks }, tt)
  opened slots new [] (d ∷ cs) slot c u t written held asks n h = absurd h
  opened slots new (x ∷ es) [] slot c u t written held asks n h = absurd h
  opened slots new (x ∷ es) (d ∷ cs) slot c u t written held asks n h = (
    stays-one slots new x d u (vacant-apart slots x d h.0 t) h.0,
    opened slots new es cs slot c u t written held asks n h.1,
  )

-- ---- numbers that are not held

pub found-none : (institutions : List Institution) (rows : List Row) (logs : List (List Addition)) (number : ℕ) (slots : Slab Slot) (es : List (ℕ × ℕ)) (cs : List Connection)
    → AreAt institutions rows logs slots es cs → lookup (has_number number) es ≡ None → connection_in number cs ≡ None
found-none institutions rows logs number slots [] [] h e = refl
found-none institutions rows logs number slots [] (c ∷ cs) h e = absurd h
found-none institutions rows logs number slots (x ∷ es) [] h e = absurd h
found-none institutions rows logs number slots (x ∷ es) (c ∷ cs) h e = none-step institutions rows logs number slots x es c cs (has_number number x.0) refl h.0
    (λ f. found-none institutions rows logs number slots es cs h.1 f) e
  where
    none-step : (institutions : List Institution) (rows : List Row) (logs : List (List Addition)) (number : ℕ) (slots : Slab Slot) (x : ℕ × ℕ) (es : List (ℕ × ℕ)) (c : Connection) (cs : List Connection)
        (b : Bool) → has_number number x.0 ≡ b → IsAt institutions rows logs slots x.0 x.1 c → (lookup (has_number number) es ≡ None → connection_in number cs ≡ None)
        → lookup (has_number number) (x ∷ es) ≡ None → connection_in number (c ∷ cs) ≡ None
    none-step institutions rows logs number slots x es c cs true t w later e = let first : Some x.1 ≡ None = rw t at e in cc
    none-step institutions rows logs number slots x es c cs false t w later e =
        let other : (c.number == number) ≡ false = rw (← w.numbered) (key-differs number x.0 t) in
        let rest = later (rw t at e) in rw other rest

-- a slot has a number where a connection has it
pub is-held : (institutions : List Institution) (rows : List Row) (logs : List (List Addition)) (number : ℕ) (slots : Slab Slot) (es : List (ℕ × ℕ)) (cs : List Connection) (o : Option ℕ)
    → AreAt institutions rows logs slots es cs → o ≡ lookup (has_number number) es → is_some o ≡ is_some (connection_in number cs)
is-held institutions rows logs number slots es cs None h e = rw (found-none institutions rows logs number slots es cs h (sym e)) refl
is-held institutions rows logs number slots es cs (Some place) h e = rw (found institutions rows logs number place slots es cs h (sym e)).is_in refl

-- ---- the newest number

pub all-below : (newest : Option ℕ) (number : ℕ) (es : List (ℕ × ℕ)) → is_above newest number ≡ true
    → AllByRecursion (λ (e : ℕ × ℕ). is_above newest e.0 ≡ false) es → AllByRecursion (λ (e : ℕ × ℕ). e.0 < number) es
all-below newest number [] a b = tt
all-below None number (x ∷ es) a b = cc
all-below (Some newest) number (x ∷ es) a b = let first = b.0 in (grind (arith, nat_tests), all-below (Some newest) number es a b.1)

pub none-above : (number place : ℕ) (es : List (ℕ × ℕ)) → AllByRecursion (λ (e : ℕ × ℕ). e.0 < number) es
    → AllByRecursion (λ (e : ℕ × ℕ). is_above (Some number) e.0 ≡ false) (es ++ (number, place) ∷ [])
none-above number place [] a = (grind (arith, nat_tests), tt)
none-above number place (x ∷ es) a = let first = a.0 in (grind (arith, nat_tests), none-above number place es a.1)

left-one : (P : ℕ × ℕ → Type 0) (test : ℕ → Bool) (x : ℕ × ℕ) (es : List (ℕ × ℕ)) (b : Bool) → test x.0 ≡ b → AllByRecursion P (x ∷ es)
    → AllByRecursion P (remove_entry test es) → AllByRecursion P (remove_entry test (x ∷ es))
left-one P test x es true t a rest = rw t a.1
left-one P test x es false t a rest = rw t (a.0, rest)

pub all-left : (P : ℕ × ℕ → Type 0) (test : ℕ → Bool) (es : List (ℕ × ℕ)) → AllByRecursion P es → AllByRecursion P (remove_entry test es)
all-left P test [] a = tt
all-left P test (x ∷ es) a = left-one P test x es (test x.0) refl a (all-left P test es a.1)

pub same-length : (institutions : List Institution) (rows : List Row) (logs : List (List Addition)) (slots : Slab Slot) (es : List (ℕ × ℕ)) (cs : List Connection) → AreAt institutions rows logs slots es cs
    → length es ≡ length cs
same-length institutions rows logs slots [] [] h = refl
same-length institutions rows logs slots [] (c ∷ cs) h = absurd h
same-length institutions rows logs slots (x ∷ es) [] h = absurd h
same-length institutions rows logs slots (x ∷ es) (c ∷ cs) h = omega (arith, same-length institutions rows logs slots es cs h.1)
