-- The steps of a walk.
use Rattle.std.proofs.Common.{◌≡◌, ℕ, ◌-◌, ◌≤◌, ◌<◌, true, false, List, [], ◌∷◌, ◌++◌, length, get_or, take, reverse, Option, None, refl, sym, ap, subst, ◌∙◌, append_assoc, arith, inl, inr, ◌⊎◌}
use Rattle.std.proofs.lemmas.Bool.{cases_lt, eqb-true, eqb-false}
use Rattle.std.proofs.lemmas.List.{length-append, length-take}
use Rattle.dq_dataset.proofs.Types.{ReadFault, Truncated, Filled, Delimited, Content}
use Rattle.dq_dataset.specs.declared.sieve.walk.Reach.{Reach}
use Rattle.dq_dataset.specs.declared.sieve.walk.Reach.TheVariants.{Measured, Within, Endless}
use Rattle.dq_dataset.specs.declared.sieve.walk.Cursor.{Cursor}
use Rattle.dq_dataset.specs.declared.sieve.walk.Cursor.TheVariants.{InOctets}
use Rattle.dq_dataset.specs.declared.sieve.walk.Walk.{Walk}
use Rattle.dq_dataset.specs.declared.sieve.walk.WalkStep.{WalkStep}
use Rattle.dq_dataset.specs.declared.sieve.walk.WalkStep.TheVariants.{On, Over, Failed}
use Rattle.dq_dataset.specs.Sifting.{reach_of, bound_by, until_of, Extends, LeadsTo, FaultLeads, places_of, WalkLeads, WalkedLeads, LiesIn, AreNested, IsPart, HasMore, IsWalk, HasCome, HasEnd, LeadsOn, IsSettling, is_reached, opened_reach, opened_left, place_of_value}
use Rattle.dq_dataset.specs.DataSetReader.{length_of}
use Rattle.dq_dataset.proofs.Walks.{Around, finished, part_is_cut_off, closed, popped}
use Rattle.dq_dataset.proofs.Walks.{passed as passed_over}
use Rattle.dq_dataset.proofs.Nesting.{nested_behind, none_is_part, comes_within, endless_is_none}

-- what came is within reach
pub come_within : (walk : Walk) → HasCome walk → Around (reach_of walk.place) walk.left (length walk.front.items)
come_within walk come = grind (arith, comes_within, endless_is_none)

pub come_some : (walk : Walk) → HasCome walk → 0 < length walk.front.items
come_some walk come = omega (arith, ap length come.is, length-append come.before (come.octet ∷ []))

full_by : (reach : Reach) (left : ℕ) → is_reached reach left ≡ true → (reach ≡ Within left) ⊎ (reach ≡ Measured left)
full_by reach left full = grind (arith, eqb-true)

pub full_filled : (reach : Reach) (left : ℕ) → is_reached reach left ≡ true → bound_by reach ≡ Filled → reach ≡ Measured left
full_filled reach left full bound = grind (arith, eqb-true)

pub full_delimited : (reach : Reach) (left : ℕ) → is_reached reach left ≡ true → bound_by reach ≡ Delimited → reach ≡ Within left
full_delimited reach left full bound = grind (arith, eqb-true)

ne_lt : (a b : ℕ) → a ≤ b → (a ≡ b → ⊥) → a < b
ne_lt a b le other = elim (cases_lt a b) [ inl lt ↦ lt | inr ge ↦ absurd (other (omega arith)) ]

has_more_by : (reach : Reach) (left : ℕ) (front : List ℕ) → Around reach left (length front) → is_reached reach (left - length front) ≡ false
    → HasMore reach left front
has_more_by reach left front within other = grind (arith, ne_lt, eqb-false)

-- nothing is left for the rest of a header
pub waits : (walk : Walk) → HasCome walk → IsPart walk.place walk.front.items
    → is_reached (reach_of walk.place) (walk.left - length walk.front.items) ≡ true → LeadsOn walk [] (Failed Truncated 0)
waits walk come part full =
    let within = come_within walk come in
    let some = come_some walk come in
    record {
      sound = tt;
      leads = λ octets end leads. elim (full_by (reach_of walk.place) (walk.left - length walk.front.items) full) [
        | inl is ↦ part_is_cut_off walk.place (reverse walk.around.items) walk.left 0 (walk.left - length walk.front.items) walk.front.items octets end part
            (inl is) (let le = rw is at within in omega arith) leads
        | inr is ↦ part_is_cut_off walk.place (reverse walk.around.items) walk.left 0 (walk.left - length walk.front.items) walk.front.items octets end part
            (inr (is, some)) (let le = rw is at within in omega arith) leads
      ];
    }

pub waits_on : (walk : Walk) → HasCome walk → IsPart walk.place walk.front.items
    → is_reached (reach_of walk.place) (walk.left - length walk.front.items) ≡ false → LeadsOn walk [] (On walk)
waits_on walk come part other = grind (arith, has_more_by, come_within)

-- ---- settling

lies_within : (reach : Reach) (left : ℕ) (around : List Cursor) → LiesIn reach left around → Around reach left 0
lies_within reach left around lies = grind arith

pub settled_on : (walk : Walk) → IsSettling walk → is_reached (reach_of walk.place) walk.left ≡ false → IsWalk walk
settled_on walk s other = grind (arith, none_is_part, has_more_by, lies_within)

pub settled_cut : (walk : Walk) → IsSettling walk → reach_of walk.place ≡ Within walk.left → (octets : List ℕ) (end : Option ReadFault)
    → FaultLeads Truncated 0 octets end → WalkLeads walk octets end
settled_cut walk s is octets end leads =
    part_is_cut_off walk.place (reverse walk.around.items) walk.left 0 walk.left walk.front.items octets end
    (subst (λ (x : List ℕ). IsPart walk.place x) (sym s.empty) (none_is_part walk.place)) (inl is) (omega (arith, ap length s.empty)) leads

pub settled_over : (walk : Walk) → IsSettling walk → reach_of walk.place ≡ Measured walk.left → walk.around.items ≡ []
    → (octets : List ℕ) (end : Option ReadFault) → (octets ≡ []) × (end ≡ None) → WalkLeads walk octets end
settled_over walk s is none octets end h =
    let lies = rw (is, none) at s.nested.1 in
    let all : walk.front.items ++ octets ≡ [] = rw s.empty h.0 in
    rw none (closed walk.place [] walk.left walk.left (walk.front.items ++ octets) end is refl (inr (omega (arith, lies), (all, h.1))))

pub settled_once : (walk : Walk) → IsSettling walk → reach_of walk.place ≡ Measured walk.left → (around : List Cursor) (place : Cursor)
    → walk.around.items ≡ around ++ place ∷ []
    → AreNested walk.left (place ∷ reverse around)
    × ((octets : List ℕ) (end : Option ReadFault) → LeadsTo walk.left (place ∷ reverse around) (walk.front.items ++ octets) end → WalkLeads walk octets end)
settled_once walk s is around place e =
    let outside = popped walk.around.items around place e in (
      rw (is, outside) at s.nested.1,
      λ octets end leads. closed walk.place (reverse walk.around.items) walk.left walk.left (walk.front.items ++ octets) end is refl
          (subst (λ (ps : List Cursor). LeadsTo walk.left ps (walk.front.items ++ octets) end) (sym outside) leads),
    )

-- ---- the next walk

-- with a front, or none, and other octets
pub record Next (walk : Walk) (taken : List ℕ) (next : Walk) : Type 0 where
  pub settling : IsSettling next
  pub on : (walked : WalkStep) → LeadsOn next [] walked → LeadsOn walk taken walked

next_by : (walk : Walk) (taken : List ℕ) (next : Walk) → IsSettling next
    → ((octets : List ℕ) (end : Option ReadFault) → LeadsTo next.left (places_of next) octets end → WalkLeads walk (taken ++ octets) end)
    → Next walk taken next
next_by walk taken next settling leads = record {
  settling = settling;
  on = λ walked l. record {
    sound = l.sound;
    leads = λ octets end m.
        leads octets end (subst (λ (x : List ℕ). LeadsTo next.left (places_of next) (x ++ octets) end) settling.empty (l.leads octets end m));
  };
}

-- where the value of an outer element leads, once it is settled
pub value_leads : (content : Content) (reach : Reach) (walk : Walk) (walked : WalkStep) → reach ≡ opened_reach Endless (length_of content) 0
    → walk.left ≡ opened_left Endless (length_of content) 0 → walk.place ≡ place_of_value content 16 reach → walk.around.items ≡ []
    → walk.front.items ≡ [] → LeadsOn walk [] walked → (octets : List ℕ) (end : Option ReadFault) → WalkedLeads walked octets end
    → LeadsTo (opened_left Endless (length_of content) 0) (place_of_value content 16 (opened_reach Endless (length_of content) 0) ∷ []) octets end
value_leads content reach walk walked reach_is left_is place_is around_is front_is on octets end m = grind arith

-- octets of a value are passed over
pub passes : (walk next : Walk) (until : ℕ) (octets : List ℕ) (count : ℕ) → IsWalk walk → walk.place ≡ InOctets until
    → count ≤ walk.left - until → count ≤ length octets → next.left ≡ walk.left - count → next.place ≡ walk.place
    → next.around.items ≡ walk.around.items → next.front.items ≡ walk.front.items → Next walk (take count octets) next
passes walk next until octets count is place_is le enough left_is same_place around_is front_is =
    let lies = rw place_is at is.nested.0 in
    let none : walk.front.items ≡ [] = rw place_is at is.part in
    let taken : length (take count octets) ≡ count = omega (arith, length-take count octets) in
    next_by walk (take count octets) next (record {
      nested = rw (left_is, same_place, around_is, place_is) (omega arith, rw place_is at is.nested.1);
      empty = front_is ∙ none;
    }) (λ more end leads. rw (none, place_is)
    (passed_over until walk.left (reverse walk.around.items) (take count octets) more end (omega arith)
    (subst (λ (n : ℕ). LeadsTo n (InOctets until ∷ reverse walk.around.items) more end) (left_is ∙ ap (λ (n : ℕ). walk.left - n) (sym taken))
    (subst (λ (ps : List Cursor). LeadsTo next.left ps more end) (λ i. (same_place ∙ place_is) i ∷ reverse (around_is i)) leads))))

end_extends : (reach : Reach) (left : ℕ) (front : List ℕ) → Around reach left (length front) → (reach ≡ Within (until_of reach)) ⊎ (reach ≡ Endless)
    → Extends reach left front × ((length front ≤ left) ⊎ (left ≡ 0))
end_extends reach left front within h = grind arith

module _ (walk : Walk) (come : HasCome walk) (has : HasEnd walk.place walk.front.items) where
  abbrev outside : List Cursor
  outside = reverse walk.around.items

  end_leads : (octets : List ℕ) (end : Option ReadFault) → LeadsTo (walk.left - length walk.front.items) outside octets end → WalkLeads walk octets end
  end_leads octets end leads =
      let e = end_extends (reach_of walk.place) walk.left walk.front.items (come_within walk come) has.reach in
      finished walk.place outside walk.left walk.front.items octets end has.ends e.0 e.1 leads

  end_nested : AreNested (walk.left - length walk.front.items) outside
  end_nested =
      nested_behind (reach_of walk.place) walk.left (length walk.front.items) outside come.nested.0 come.nested.1 (come_within walk come)
      (until_of (reach_of walk.place)) has.reach

  pub ends_over : walk.around.items ≡ [] → LeadsOn walk [] Over
  ends_over none = grind (arith, end_nested, end_leads)

  pub ends_in : (next : Walk) (around : List Cursor) → walk.around.items ≡ around ++ next.place ∷ [] → next.left ≡ walk.left - length walk.front.items
      → next.around.items ≡ around → next.front.items ≡ [] → Next walk [] next
  ends_in next around e left_is around_is front_is =
      let same : outside ≡ places_of next = popped walk.around.items around next.place e ∙ ap (λ (ps : List Cursor). next.place ∷ reverse ps) (sym around_is) in
      next_by walk [] next (record {
        nested = subst (λ (n : ℕ). AreNested n (places_of next)) (sym left_is)
            (subst (λ (ps : List Cursor). AreNested (walk.left - length walk.front.items) ps) same end_nested);
        empty = front_is;
      }) (λ octets end leads. end_leads octets end
      (subst (λ (ps : List Cursor). LeadsTo (walk.left - length walk.front.items) ps octets end) (sym same)
      (subst (λ (n : ℕ). LeadsTo n (places_of next) octets end) left_is leads)))

-- a value is entered
pub enters : (walk next : Walk) (behind : Cursor) → AreNested next.left (next.place ∷ behind ∷ reverse walk.around.items)
    → ((octets : List ℕ) (end : Option ReadFault) → LeadsTo next.left (next.place ∷ behind ∷ reverse walk.around.items) octets end
    → WalkLeads walk octets end)
    → next.around.items ≡ walk.around.items ++ behind ∷ [] → next.front.items ≡ [] → Next walk [] next
enters walk next behind lies leads around_is front_is =
    let same : places_of next ≡ next.place ∷ behind ∷ reverse walk.around.items =
    ap (λ (ps : List Cursor). next.place ∷ ps) (popped next.around.items walk.around.items behind around_is) in
    next_by walk [] next (record { nested = subst (λ (ps : List Cursor). AreNested next.left ps) (sym same) lies; empty = front_is })
    (λ octets end l. leads octets end (subst (λ (ps : List Cursor). LeadsTo next.left ps octets end) same l))

-- an octet of a header comes
pub comes : (walk next : Walk) (octets : List ℕ) (octet : ℕ) → IsWalk walk → 0 < length octets → octet ≡ get_or octets 0 0
    → next.left ≡ walk.left → next.place ≡ walk.place → next.around.items ≡ walk.around.items → next.front.items ≡ walk.front.items ++ octet ∷ []
    → HasCome next × ((walked : WalkStep) → LeadsOn next [] walked → LeadsOn walk (take 1 octets) walked)
comes walk next [] octet is some at left_is place_is around_is front_is = absurd (omega arith)
comes walk next (o ∷ octets) octet is some at left_is place_is around_is front_is = grind (arith, append_assoc)
