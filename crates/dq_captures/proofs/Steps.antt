-- Reading one more line.
use Rattle.std.proofs.Common.{◌≡◌, ℕ, ◌+◌, ◌-◌, ◌<◌, Bool, true, false, ◌&&◌, List, [], ◌∷◌, ◌++◌, length, get_or, take, drop, take-append-drop, Result, Ok, Err, IfOk, IsErrOf, MatchResult, Option, Some, None, refl, sym, ap, ◌∙◌, arith, append-nil}
use Rattle.std.proofs.lemmas.List.{take_more}
use Rattle.std.proofs.lemmas.List.Elements.{filter-append}
use Rattle.std.proofs.lemmas.Bool.{false≢true}
use Rattle.dq_core.specs.declared.event.Event.{Event}
use Rattle.dq_core.specs.declared.event.Event.TheVariants.{Open, Piece, End, Pull, Schedule, Withdraw}
use Rattle.dq_core.specs.Histories.{is_above, newest_after, rises_from}
use Rattle.dq_captures.specs.declared.capture.CaptureFault.{CaptureFault}
use Rattle.dq_captures.specs.declared.capture.CaptureFault.TheVariants.{Line, NoMemory}
use Rattle.dq_captures.specs.Captures.{is_skipped, telling_lines, SpellsEvent, SpellEach, AreCapture, IsFirstBadLine}
use Rattle.dq_captures.proofs.OneSpelling.{same_event, same_events}

and_assoc : (a b c : Bool) → (a && (b && c)) ≡ ((a && b) && c)
and_assoc true b c = refl
and_assoc false b c = refl

both_true : (a b : Bool) → a ≡ true → b ≡ true → (a && b) ≡ true
both_true a b first second = rw (first, second) refl

second_true : (a b : Bool) → (a && b) ≡ true → b ≡ true
second_true true b both = both
second_true false b both = absurd (false≢true both)

-- ---- numbers that rise, one event further

pub newest_after-push : (newest : Option ℕ) (es : List Event) (e : Event) → newest_after newest (es ++ e ∷ []) ≡ newest_after (newest_after newest es) (e ∷ [])
newest_after-push newest [] e = refl
newest_after-push newest (Open n ∷ es) e = newest_after-push (Some n) es e
newest_after-push newest (Piece n octets ∷ es) e = newest_after-push newest es e
newest_after-push newest (End n ∷ es) e = newest_after-push newest es e
newest_after-push newest (Pull n ∷ es) e = newest_after-push newest es e
newest_after-push newest (Schedule inst octets ∷ es) e = newest_after-push newest es e
newest_after-push newest (Withdraw inst id ∷ es) e = newest_after-push newest es e

pub rises_from-push : (newest : Option ℕ) (es : List Event) (e : Event) → rises_from newest (es ++ e ∷ [])
    ≡ (rises_from newest es && rises_from (newest_after newest es) (e ∷ []))
rises_from-push newest [] e = refl
rises_from-push newest (Open n ∷ es) e =
    ap (λ b. is_above newest n && b) (rises_from-push (Some n) es e) ∙ and_assoc (is_above newest n) _ _
rises_from-push newest (Piece n octets ∷ es) e = rises_from-push newest es e
rises_from-push newest (End n ∷ es) e = rises_from-push newest es e
rises_from-push newest (Pull n ∷ es) e = rises_from-push newest es e
rises_from-push newest (Schedule inst octets ∷ es) e = rises_from-push newest es e
rises_from-push newest (Withdraw inst id ∷ es) e = rises_from-push newest es e

-- ---- lines that are spelled, one line further

SpellEach-push : (ls : List (List ℕ)) (es : List Event) (line : List ℕ) (e : Event) → SpellEach ls es → SpellsEvent line e
    → SpellEach (ls ++ line ∷ []) (es ++ e ∷ [])
SpellEach-push [] [] line e each spells = (spells, tt)
SpellEach-push [] (f ∷ es) line e each spells = absurd each
SpellEach-push (l ∷ ls) [] line e each spells = absurd each
SpellEach-push (l ∷ ls) (f ∷ es) line e each spells = (each.0, SpellEach-push ls es line e each.1 spells)

-- the last line spells the last event
SpellEach-last : (ls : List (List ℕ)) (line : List ℕ) (fs : List Event) → SpellEach (ls ++ line ∷ []) fs → (es : List Event) × (e : Event) × (fs ≡ es ++ e ∷ [])
    × SpellEach ls es × SpellsEvent line e
SpellEach-last [] line [] each = absurd each
SpellEach-last [] line (f ∷ []) each = ([], f, refl, tt, each.0)
SpellEach-last [] line (f ∷ g ∷ fs) each = absurd each.1
SpellEach-last (l ∷ ls) line [] each = absurd each
SpellEach-last (l ∷ ls) line (f ∷ fs) each =
    let rest = SpellEach-last ls line fs each.1 in
    (f ∷ rest.0, rest.1, ap (λ xs. f ∷ xs) rest.2, (each.0, rest.3), rest.4)

-- ---- captures, one line further

told_one-skipped : (line : List ℕ) → is_skipped line ≡ true → telling_lines (line ∷ []) ≡ []
told_one-skipped line skipped = rw skipped refl

told_one : (line : List ℕ) → is_skipped line ≡ false → telling_lines (line ∷ []) ≡ line ∷ []
told_one line unskipped = rw unskipped refl

module _ (ls : List (List ℕ)) (n : ℕ) (line : List ℕ) (here : (n < length ls) × (line ≡ get_or ls n line)) where
  take_line : take (n + 1) ls ≡ take n ls ++ line ∷ []
  take_line = take_more ls n line here.0 ∙ ap (λ l. take n ls ++ l ∷ []) (sym here.1)

  told-skipped : is_skipped line ≡ true → telling_lines (take (n + 1) ls) ≡ telling_lines (take n ls)
  told-skipped skipped =
      ap telling_lines take_line ∙ filter-append _ (take n ls) (line ∷ []) ∙ ap (λ l. telling_lines (take n ls) ++ l) (told_one-skipped line skipped) ∙ append-nil _

  told-line : is_skipped line ≡ false → telling_lines (take (n + 1) ls) ≡ telling_lines (take n ls) ++ line ∷ []
  told-line unskipped =
      ap telling_lines take_line ∙ filter-append _ (take n ls) (line ∷ []) ∙ ap (λ l. telling_lines (take n ls) ++ l) (told_one line unskipped)

  pub AreCapture-skipped : (es : List Event) → is_skipped line ≡ true → AreCapture (take n ls) es → AreCapture (take (n + 1) ls) es
  AreCapture-skipped es skipped so_far = record { spelled = rw (told-skipped skipped) so_far.spelled; rising = so_far.rising }

  pub AreCapture-event : (es : List Event) (e : Event) → is_skipped line ≡ false → SpellsEvent line e → rises_from (newest_after None es) (e ∷ []) ≡ true
      → AreCapture (take n ls) es → AreCapture (take (n + 1) ls) (es ++ e ∷ [])
  AreCapture-event es e unskipped spells rises so_far = record {
    spelled = rw (told-line unskipped) (SpellEach-push _ es line e so_far.spelled spells);
    rising = rises_from-push None es e ∙ both_true _ _ so_far.rising rises;
  }

  first_bad : (es : List Event) → AreCapture (take n ls) es → ((fs : List Event) → AreCapture (take (n + 1) ls) fs → ⊥) → IsFirstBadLine ls (n + 1)
  first_bad es so_far none = record {
    counted = (omega arith, omega (arith, here.0));
    before = (es, (let less : n + 1 - 1 ≡ n = omega arith in rw less so_far));
    bad = none;
  }

  pub IsFirstBadLine-unspelled : (es : List Event) → is_skipped line ≡ false → ((e : Event) → SpellsEvent line e → ⊥) → AreCapture (take n ls) es
      → IsFirstBadLine ls (n + 1)
  IsFirstBadLine-unspelled es unskipped none so_far = first_bad es so_far (λ fs all.
      let last = SpellEach-last (telling_lines (take n ls)) line fs (rw (told-line unskipped) at all.spelled) in none last.1 last.4)

  pub IsFirstBadLine-sinking : (es : List Event) (e : Event) → is_skipped line ≡ false → SpellsEvent line e → rises_from (newest_after None es) (e ∷ []) ≡ false
      → AreCapture (take n ls) es → IsFirstBadLine ls (n + 1)
  IsFirstBadLine-sinking es e unskipped spells sinks so_far = first_bad es so_far (λ fs all.
      let last = SpellEach-last (telling_lines (take n ls)) line fs (rw (told-line unskipped) at all.spelled) in
      let same_before = same_events _ last.0 es last.3 so_far.spelled in
      let same_last = same_event line last.1 e last.4 spells in
      let rises = second_true (rises_from None last.0) (rises_from (newest_after None last.0) (last.1 ∷ [])) (sym (rises_from-push None last.0 last.1)
      ∙ rw last.2 at all.rising) in
      false≢true (sym sinks ∙ rw (same_before, same_last) at rises))

-- ---- the front of a capture is a capture

SpellEach-front : (xs ys : List (List ℕ)) (es : List Event) → SpellEach (xs ++ ys) es → (fs : List Event) × (gs : List Event) × (es ≡ fs ++ gs)
    × SpellEach xs fs
SpellEach-front [] ys es each = ([], es, refl, tt)
SpellEach-front (x ∷ xs) ys [] each = absurd each
SpellEach-front (x ∷ xs) ys (e ∷ es) each =
    let rest = SpellEach-front xs ys es each.1 in
    (e ∷ rest.0, rest.1, ap (λ l. e ∷ l) rest.2, (each.0, rest.3))

first_true : (a b : Bool) → (a && b) ≡ true → a ≡ true
first_true true b both = refl
first_true false b both = both

rises_from-front : (newest : Option ℕ) (fs gs : List Event) → rises_from newest (fs ++ gs) ≡ true → rises_from newest fs ≡ true
rises_from-front newest [] gs rising = refl
rises_from-front newest (Open n ∷ fs) gs rising =
    both_true _ _ (first_true _ _ rising) (rises_from-front (Some n) fs gs (second_true _ _ rising))
rises_from-front newest (Piece n octets ∷ fs) gs rising = rises_from-front newest fs gs rising
rises_from-front newest (End n ∷ fs) gs rising = rises_from-front newest fs gs rising
rises_from-front newest (Pull n ∷ fs) gs rising = rises_from-front newest fs gs rising
rises_from-front newest (Schedule inst octets ∷ fs) gs rising = rises_from-front newest fs gs rising
rises_from-front newest (Withdraw inst id ∷ fs) gs rising = rises_from-front newest fs gs rising

AreCapture-front : (ls : List (List ℕ)) (n : ℕ) (es : List Event) → AreCapture ls es → (fs : List Event) × AreCapture (take n ls) fs
AreCapture-front ls n es all =
    let parts = ap telling_lines (sym (take-append-drop n ls)) ∙ filter-append _ (take n ls) (drop n ls) in
    let front = SpellEach-front (telling_lines (take n ls)) (telling_lines (drop n ls)) es (rw parts at all.spelled) in
    (front.0, record { spelled = front.3; rising = rises_from-front None front.0 front.1 (rw front.2 at all.rising) })

-- where there is a capture there is no bad line
pub AreCapture-only : {V : Type 0} (ls : List (List ℕ)) (items : V → List Event) (r : Result V CaptureFault) → IfOk r (λ v. AreCapture ls (items v))
    → ((number : ℕ) → IsErrOf r (Line number) → IsFirstBadLine ls number) → (events : List Event) → AreCapture ls events
    → MatchResult r (λ v. items v ≡ events) (λ fault. fault ≡ NoMemory)
AreCapture-only ls items (Ok v) read bad events all = same_events (telling_lines ls) (items v) events read.spelled all.spelled
AreCapture-only ls items (Err NoMemory) read bad events all = refl
AreCapture-only ls items (Err (Line number)) read bad events all =
    let front = AreCapture-front ls number events all in
    absurd ((bad number refl).bad front.0 front.1)
