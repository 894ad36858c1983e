-- The counts of the associations that are open, through what opens and ends them.
use Rattle.std.proofs.Common.{◌≡◌, ◌≢◌, ℕ, zero, suc, ◌+◌, ◌-◌, ◌<◌, ◌≤◌, min, if◌then◌else◌, Bool, true, false, List, [], ◌∷◌, ◌++◌, length, get_or, set, replicate, Option, Some, None, is_some, refl, sym, ap, ◌∙◌, arith, Contains}
use Rattle.std.specs.List.{position_or_len}
use Rattle.std.specs.Str.{bytes_eq}
use Rattle.std.proofs.lemmas.Bool.{false≢true}
use Rattle.std.proofs.lemmas.Bool.Decides.{nat_tests}
use Rattle.std.proofs.lemmas.List.{get_or-set_same, get_or-set_other, get_or_past}
use Rattle.std.proofs.lemmas.List.Quantifiers.{position-Some}
use Rattle.std.proofs.lemmas.Slice.Eq.{bytes_eq-Decides}
use Rattle.dq_assoc.specs.declared.agreement.Agreement.{Agreement}
use Rattle.dq_config.specs.declared.config.Institution.{Institution}
use Rattle.dq_core.specs.Connections.{Connection, new_connection, connection_in, without, with_connection}
use Rattle.dq_core.specs.Owners.{owner, is_institution, live_of}
use Rattle.dq_core.specs.Slots.{associated_institution, is_of_institution}
use Rattle.dq_core.specs.OpenAssociations.{institution_index, count_in, tally_of_name, one_more, one_less, retallied_by}

abbrev most : ℕ
most = 18446744073709551615

-- what a connection counts
abbrev pub bit : Bool → ℕ
bit b = if b then 1 else 0

-- ---- the definition's counts

module _ (institutions : List Institution) (name : List ℕ) where
  abbrev counts-one : Connection → ℕ
  counts-one c = bit (is_institution name (owner institutions c.stream))

  pub live-left : (number : ℕ) (cs : List Connection) (c : Connection) → connection_in number cs ≡ Some c
      → live_of institutions name (without number cs) + counts-one c ≡ live_of institutions name cs
  live-left number [] c e = cc
  live-left number (d ∷ cs) c e = grind (arith, nat_tests, live-left number cs c)

  pub live-changed : (new : Connection) (cs : List Connection) (c : Connection) → connection_in new.number cs ≡ Some c
      → live_of institutions name (with_connection new cs) + counts-one c ≡ live_of institutions name cs + counts-one new
  live-changed new [] c e = cc
  live-changed new (d ∷ cs) c e = grind (arith, nat_tests, live-changed new cs c)

  pub live-opened : (number : ℕ) (cs : List Connection) → is_institution name (owner institutions []) ≡ false
      → live_of institutions name (cs ++ new_connection number ∷ []) ≡ live_of institutions name cs
  live-opened number [] e = grind (arith, e)
  live-opened number (d ∷ cs) e = grind (arith, live-opened number cs e)

  pub live_within : (cs : List Connection) → live_of institutions name cs ≤ length cs
  live_within [] = omega arith
  live_within (d ∷ cs) = grind (arith, live_within cs)

-- ---- the counts that are held

has-first : {X : Type 0} (p : X → Bool) (xs : List X) (k : ℕ) (d : X) → k < length xs → p (get_or xs k d) ≡ true → position_or_len p xs < length xs
has-first p [] k d h t = absurd (omega (arith, h))
has-first p (x ∷ xs) zero d h t = grind (arith)
has-first p (x ∷ xs) (suc k) d h t = grind (arith, has-first p xs k d)

-- an institution that is listed stands at a place
pub listed-place : (institutions : List Institution) (i : Institution) → Contains institutions i
    → (place : ℕ) × (institution_index institutions i.name ≡ Some place) × (place < length institutions)
listed-place institutions i k =
    let p : Institution → Bool = λ j. bytes_eq j.name i.name in
    let has : p (get_or institutions k.0 i) ≡ true = rw k.2 ((bytes_eq-Decides i.name i.name).1 refl) in
    let within = has-first p institutions k.0 i k.1 has in
    (position_or_len p institutions, grind (arith, nat_tests, within), within)

module _ (institutions : List Institution) (counts : List ℕ) where
  -- a count that is not 0 stands at a place
  pub has-place : (o : Option ℕ) → 0 < count_in counts o → (place : ℕ) × (o ≡ Some place) × (place < length counts)
  has-place None h = absurd (omega (arith, h))
  has-place (Some place) h = (place, refl, grind (arith, get_or_past counts place 0))

  -- a change of the count at the place of a name
  module _ (name : List ℕ) (place value : ℕ) (is : institution_index institutions name ≡ Some place) (within : place < length counts) where
    abbrev new : List ℕ
    new = set counts place value

    same-name : (other : List ℕ) (o : Option ℕ) → institution_index institutions other ≡ o → name ≡ other → count_in new o ≡ value
    same-name other o e f =
        let there : o ≡ Some place = sym e ∙ ap (institution_index institutions) (sym f) ∙ is in
        rw there (get_or-set_same counts place value 0 within)

    -- two names are not at one place
    apart : (other : List ℕ) (at : ℕ) (d : Institution) → institution_index institutions other ≡ Some at → name ≢ other → at ≢ place
    apart other at d e n f =
        let one = (position-Some (λ (i : Institution). bytes_eq i.name name) institutions place d is).1 in
        let two = (position-Some (λ (i : Institution). bytes_eq i.name other) institutions at d e).1 in
        let moved : bytes_eq (get_or institutions place d).name other ≡ true = rw f at two in
        n (sym ((bytes_eq-Decides (get_or institutions place d).name name).0 one) ∙ (bytes_eq-Decides (get_or institutions place d).name other).0 moved)

    other-name : (other : List ℕ) (d : Institution) (o : Option ℕ) → institution_index institutions other ≡ o → name ≢ other → count_in new o ≡ count_in counts o
    other-name other d None e n = refl
    other-name other d (Some at) e n = get_or-set_other counts place at value 0 (apart other at d e n)

    pub after : (other : List ℕ) (d : Institution) (b : Bool) → bytes_eq name other ≡ b
        → tally_of_name institutions new other ≡ (if b then value else tally_of_name institutions counts other)
    after other d true e = same-name other (institution_index institutions other) refl ((bytes_eq-Decides name other).0 e)
    after other d false e = other-name other d (institution_index institutions other) refl (λ f. false≢true (sym e ∙ (bytes_eq-Decides name other).1 f))

  opened-at : (home : List ℕ) (place : ℕ) → institution_index institutions home ≡ Some place → place < length counts → (d : Institution)
      → get_or counts place 0 < most → (name : List ℕ) (b : Bool) → bytes_eq home name ≡ b
      → tally_of_name institutions (set counts place (min (get_or counts place 0 + 1) most)) name ≡ tally_of_name institutions counts name + bit b
  opened-at home place is within d small name true e =
      let there : tally_of_name institutions counts name ≡ get_or counts place 0 =
      ap (λ (n : List ℕ). tally_of_name institutions counts n) (sym ((bytes_eq-Decides home name).0 e)) ∙ ap (count_in counts) is in
      let now = after home place (min (get_or counts place 0 + 1) most) is within name d true e in
      grind (arith, there, now, small)
  opened-at home place is within d small name false e =
      let now = after home place (min (get_or counts place 0 + 1) most) is within name d false e in omega (arith, now)

  ended-at : (home : List ℕ) (place : ℕ) → institution_index institutions home ≡ Some place → place < length counts → (d : Institution)
      → 0 < get_or counts place 0 → (name : List ℕ) (b : Bool) → bytes_eq home name ≡ b
      → tally_of_name institutions (set counts place (get_or counts place 0 - 1)) name + bit b ≡ tally_of_name institutions counts name
  ended-at home place is within d some name true e =
      let there : tally_of_name institutions counts name ≡ get_or counts place 0 =
      ap (λ (n : List ℕ). tally_of_name institutions counts n) (sym ((bytes_eq-Decides home name).0 e)) ∙ ap (count_in counts) is in
      let now = after home place (get_or counts place 0 - 1) is within name d true e in
      omega (arith, there, now, some)
  ended-at home place is within d some name false e =
      let now = after home place (get_or counts place 0 - 1) is within name d false e in omega (arith, now)

  -- one association more at an institution
  opened-tally : (i : Institution) → length counts ≡ length institutions → Contains institutions i → tally_of_name institutions counts i.name < most
      → (name : List ℕ) → tally_of_name institutions (one_more counts (institution_index institutions i.name)) name
      ≡ tally_of_name institutions counts name + bit (bytes_eq i.name name)
  opened-tally i counted listed small name =
      let placed = listed-place institutions i listed in
      let place = placed.0 in
      let count_is : tally_of_name institutions counts i.name ≡ get_or counts place 0 = ap (count_in counts) placed.1 in
      rw placed.1 (opened-at i.name place placed.1 (omega (arith, counted, placed.2)) i (omega (arith, count_is, small)) name (bytes_eq i.name name) refl)

  -- one less, where there is one
  ended-tally : (home : List ℕ) (d : Institution) → 0 < tally_of_name institutions counts home → (name : List ℕ)
      → tally_of_name institutions (one_less counts (institution_index institutions home)) name + bit (bytes_eq home name) ≡ tally_of_name institutions counts name
  ended-tally home d some name =
      let placed = has-place (institution_index institutions home) some in
      let count_is : tally_of_name institutions counts home ≡ get_or counts placed.0 0 = ap (count_in counts) placed.1 in
      rw placed.1 (ended-at home placed.0 placed.1 placed.2 d (omega (arith, count_is, some)) name (bytes_eq home name) refl)

  -- an association opened, or ended, or neither
  pub retally : (q : Option Institution) (home next : Option (List ℕ)) (a b : Option Agreement) → home ≡ associated_institution q a → next ≡ associated_institution q b
      → length counts ≡ length institutions → ((i : Institution) → q ≡ Some i → Contains institutions i)
      → ((name : List ℕ) → tally_of_name institutions counts name < most)
      → ((name : List ℕ) → bit (is_of_institution name home) ≤ tally_of_name institutions counts name) → (name : List ℕ)
      → tally_of_name institutions (retallied_by institutions counts q (is_some home) (is_some next)) name + bit (is_of_institution name home)
      ≡ tally_of_name institutions counts name + bit (is_of_institution name next)
  retally None home next a b e f counted listed small more name = rw (e, f) refl
  retally (Some i) home next None None e f counted listed small more name = rw (e, f) refl
  retally (Some i) home next (Some agreed) (Some later) e f counted listed small more name = rw (e, f) refl
  retally (Some i) home next None (Some later) e f counted listed small more name =
      rw (e, f) (omega (arith, opened-tally i counted (listed i refl) (small i.name) name))
  retally (Some i) home next (Some agreed) None e f counted listed small more name =
      let one : bit (bytes_eq i.name i.name) ≤ tally_of_name institutions counts i.name = rw e at (more i.name) in
      let same : bytes_eq i.name i.name ≡ true = (bytes_eq-Decides i.name i.name).1 refl in
      let some : 0 < tally_of_name institutions counts i.name = let h = rw same at one in omega (arith, h) in
      rw (e, f) (omega (arith, ended-tally i.name i some name))

pub ended-anywhere : (institutions : List Institution) (counts home : List ℕ) → 0 < tally_of_name institutions counts home → (name : List ℕ)
    → tally_of_name institutions (one_less counts (institution_index institutions home)) name + bit (bytes_eq home name) ≡ tally_of_name institutions counts name
ended-anywhere [] counts home some name = absurd (omega (arith, some))
ended-anywhere (i ∷ institutions) counts home some name = ended-tally (i ∷ institutions) counts home i some name
