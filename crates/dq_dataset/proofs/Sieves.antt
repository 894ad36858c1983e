-- What a sieve keeps, taken backwards.
use Rattle.std.proofs.Common.{◌≡◌, ℕ, ◌<◌, Bool, true, false, not, cond, eqb, ◌||◌, List, [], ◌∷◌, ◌++◌, length, Option, Some, None, refl, sym, ap, subst, ◌∙◌, append_assoc, arith, inl, inr}
use Rattle.std.specs.Prelude.{filter}
use Rattle.std.specs.List.{list_any}
use Rattle.std.proofs.Math.Bool.{or-false}
use Rattle.dq_dataset.specs.declared.sieve.walk.Walk.{Walk}
use Rattle.dq_dataset.specs.declared.sieve.walk.WalkStep.{WalkStep}
use Rattle.std.proofs.lemmas.Bool.{lt-leb}
use Rattle.std.proofs.lemmas.List.{append-nil}
use Rattle.dq_dataset.proofs.Types.{Tag, Vr, ReadFault, Truncated, Syntax, Filled, Content, Element, Value, ElementList, no_elements}
use Rattle.dq_vr.specs.Dictionary.{known_vr}
use Rattle.dq_dataset.specs.declared.sieve.walk.Reach.TheVariants.{Endless}
use Rattle.dq_dataset.specs.declared.sieve.Sifted.{Sifted}
use Rattle.dq_dataset.specs.Rules.{vr_of, fits_enclosing}
use Rattle.dq_dataset.specs.DataSetReader.{may_nest, length_of}
use Rattle.dq_dataset.specs.View.{elements_of}
use Rattle.dq_dataset.specs.Editing.{is_listed}
use Rattle.dq_dataset.specs.Grammar.{IsPlaced, IsHeader, no_more, more, SpellsValue, without_group_length, IsSpelled}
use Rattle.dq_dataset.specs.Faults.{HasFault, after_element}
use Rattle.dq_dataset.specs.Sifting.{HasFirstFault, WalkLeads, WalkedLeads, LeadsOn, LeadsTo, opened_left}
use Rattle.dq_dataset.specs.Sieving.{tag_is_listed, is_header_over_limit, sifted_or_too_long, SiftsFrom, SiftsOn}
use Rattle.dq_dataset.proofs.SpelledIsRead.{kept_elements}
use Rattle.dq_dataset.proofs.Fronts.{unfit}
use Rattle.dq_dataset.proofs.Large.{judged_long}
use Rattle.dq_dataset.proofs.Entering.{value_place, value_reach, value_spelled, value_stops, value_extent, reached, parts_behind}

-- ---- what an element adds

-- what is kept, and whether there is another
abbrev kept_of : List Tag → Bool → List Element → Bool → List Element → Sifted
kept_of tags large kept other es = sifted_or_too_long large (kept ++ filter (is_listed tags) es) (other || list_any (λ (e : Element). not (is_listed tags e)) es)

or_true : (other a : Bool) → (other || true) || a ≡ other || (true || a)
or_true true a = refl
or_true false a = refl

module _ (tags : List Tag) (large : Bool) (kept : List Element) (other : Bool) (e : Element) (es : List Element) where
  past_by : (dropped : Bool) → is_listed tags e ≡ false → kept_of tags large kept (other || not dropped) es ≡ kept_of tags large kept other (cond dropped es (e ∷ es))
  past_by true listed = ap (λ (b : Bool). kept_of tags large kept b es) (or-false other)
  past_by false listed = rw listed (ap (sifted_or_too_long large (kept ++ filter (is_listed tags) es)) (or_true other _))

  into_by : (dropped : Bool) → is_listed tags e ≡ true
      → kept_of tags large (kept ++ cond dropped [] (e ∷ [])) other es ≡ kept_of tags large kept other (cond dropped es (e ∷ es))
  into_by true listed = ap (λ (xs : List Element). kept_of tags large xs other es) (append-nil kept)
  into_by false listed = rw (listed, append_assoc kept (e ∷ []) (filter (is_listed tags) es)) refl

filter_kept : (tags : List Tag) (e : Element) (es : List Element) (dropped : Bool) → is_listed tags e ≡ true
    → cond dropped (filter (is_listed tags) es) (e ∷ filter (is_listed tags) es) ≡ filter (is_listed tags) (cond dropped es (e ∷ es))
filter_kept tags e es true listed = refl
filter_kept tags e es false listed = rw listed refl

-- ---- the value of an outer element

module _ (syntax : Syntax) (last : Option Tag) (tag : Tag) (content : Content) (header : List ℕ)
    (placed : IsPlaced last tag) (is_header : IsHeader syntax tag content header) (nests : may_nest 16 content ≡ true) where
  abbrev extent : Option ℕ
  extent = length_of content

  abbrev left : ℕ
  left = opened_left Endless extent 0

  abbrev vr : Vr
  vr = vr_of (known_vr tag) content

  abbrev pub Inside : List ℕ → Option ReadFault → Type 0
  Inside octets end = LeadsTo left (value_place content 16 Endless 0 ∷ []) octets end

  too_long_by : (e : Option ℕ) (octets : List ℕ) → length octets < opened_left Endless e 0 → fits_enclosing e octets ≡ false
  too_long_by None octets short = absurd (omega arith)
  too_long_by (Some n) octets short = lt-leb n (length octets) short

  -- a fault in the value is one of the data set
  inside_fault : (octets : List ℕ) (f : ReadFault) → Inside octets (Some f) → HasFault Filled syntax 16 last (header ++ octets) f
  inside_fault octets f (inl (short, cut)) =
      let same : Truncated ≡ f = cc in
      subst (λ (x : ReadFault). HasFault Filled syntax 16 last (header ++ octets) x) same
      (unfit Filled syntax 16 last tag content header octets placed is_header nests (too_long_by extent octets short))
  inside_fault octets f (inr (enough, inl s)) =
      let same : s.fault ≡ f = let e = s.is in cc in
      let limit = rw (value_reach content 16 Endless 0) at s.limit in
      let r = reached Endless extent 0 0 header s.near s.beyond (refl, refl) tt limit (rw s.parts at enough) in
      let none = r.limit in
      let all : header ++ octets ≡ header ++ (s.near ++ r.w) = parts_behind header octets s.near s.beyond r.w r.others s.parts r.parts
      ∙ ap (λ (x : List ℕ). (header ++ (s.near ++ r.w)) ++ x) none ∙ append-nil (header ++ (s.near ++ r.w)) in
      subst (λ (o : List ℕ). HasFault Filled syntax 16 last o f) (sym all)
      (value_stops Filled syntax 16 last tag content Endless 0 header s.near r.w f placed is_header nests r.has
      (subst (λ (x : ReadFault). HasFirstFault (value_place content 16 Endless 0) s.near x) same s.stops))
  inside_fault octets f (inr (enough, inr (v, rest, parts, extends, is, (none, ended)))) = absurd cc

  -- the value is spelled where it ends
  inside_value : (v : List ℕ) → Inside v None → (held : Value) × SpellsValue 16 vr content v held
  inside_value v (inl (short, cut)) = absurd cc
  inside_value v (inr (enough, inl s)) = let e = s.is in absurd cc
  inside_value v (inr (enough, inr (w, rest, parts, extends, is, (none, ended)))) =
      let all : v ≡ w = parts ∙ ap (λ (x : List ℕ). w ++ x) none ∙ append-nil w in
      let has = value_extent Endless extent 0 w tt (rw (value_reach content 16 Endless 0) at extends) in
      let value = value_spelled 16 vr content Endless 0 w nests has is in
      (value.0, subst (λ (o : List ℕ). SpellsValue 16 vr content o value.0) (sym all) value.1)

  abbrev held_as : Value → Element
  held_as held = record { tag = tag; vr = vr; value = held }

  abbrev dropped : Bool
  dropped = eqb tag.element 0

  -- a value that is not kept
  pub past_header : (tags : List Tag) (large : Bool) (kept : List Element) (other : Bool) (octets : List ℕ) (answer : Sifted) → tag_is_listed tags tag ≡ false
      → SiftsOn Inside (λ v rest. SiftsFrom syntax tags (Some tag) large kept (other || not dropped) rest answer) octets answer
      → SiftsFrom syntax tags last large kept other (header ++ octets) answer
  past_header tags large kept other octets answer listed (inl (f, leads, is)) = inr (f, inside_fault octets f leads, is)
  past_header tags large kept other octets answer listed (inr (v, rest, parts, leads, inl (d, spells, is))) =
      let value = inside_value v leads in
      let all = without_group_length tag vr value.0 d in
      let es = kept_elements tag vr value.0 d dropped in
      inl (
        all,
        more Filled syntax 16 last (header ++ octets) all tag content header v rest value.0 d placed is_header value.1 spells
            (ap (λ (x : List ℕ). header ++ x) parts) refl,
        is ∙ past_by tags large kept other (held_as value.0) (elements_of d) dropped listed ∙ ap (kept_of tags large kept other) es,
      )
  past_header tags large kept other octets answer listed (inr (v, rest, parts, leads, inr (f, faulty, is))) =
      let value = inside_value v leads in
      inr (
        f,
        after_element Filled syntax 16 last (header ++ octets) f tag content header v rest value.0 placed is_header value.1 faulty
            (ap (λ (x : List ℕ). header ++ x) parts),
        is,
      )

  -- a value that is over the limit, or behind others that are
  pub drop_header : (tags : List Tag) (large : Bool) (kept : List Element) (other : Bool) (octets : List ℕ) (answer : Sifted)
      → tag_is_listed tags tag ≡ true → (large || is_header_over_limit tag content) ≡ true
      → SiftsOn Inside (λ v rest. SiftsFrom syntax tags (Some tag) true [] other rest answer) octets answer
      → SiftsFrom syntax tags last large kept other (header ++ octets) answer
  drop_header tags large kept other octets answer listed long (inl (f, leads, is)) = inr (f, inside_fault octets f leads, is)
  drop_header tags large kept other octets answer listed long (inr (v, rest, parts, leads, inl (d, spells, is))) =
      let value = inside_value v leads in
      let all = without_group_length tag vr value.0 d in
      let es = kept_elements tag vr value.0 d dropped in
      let others = filter (is_listed tags) (elements_of d) in
      let o = other || list_any (λ (e : Element). not (is_listed tags e)) (cond dropped (elements_of d) (held_as value.0 ∷ elements_of d)) in
      inl (
        all,
        more Filled syntax 16 last (header ++ octets) all tag content header v rest value.0 d placed is_header value.1 spells
            (ap (λ (x : List ℕ). header ++ x) parts) refl,
        is ∙ sym (judged_long 16 tag vr content v value.0 value.1 large dropped kept others o long)
            ∙ ap (λ (xs : List Element). sifted_or_too_long large (kept ++ xs) o) (filter_kept tags (held_as value.0) (elements_of d) dropped listed)
            ∙ ap (kept_of tags large kept other) es,
      )
  drop_header tags large kept other octets answer listed long (inr (v, rest, parts, leads, inr (f, faulty, is))) =
      let value = inside_value v leads in
      inr (
        f,
        after_element Filled syntax 16 last (header ++ octets) f tag content header v rest value.0 placed is_header value.1 faulty
            (ap (λ (x : List ℕ). header ++ x) parts),
        is,
      )

  first_placed : IsPlaced None tag
  first_placed = record { rises = refl; no_delimiter = placed.no_delimiter; group = placed.group; number = placed.number }

  -- a value that is kept
  pub into_header : (tags : List Tag) (large : Bool) (kept : List Element) (other : Bool) (octets : List ℕ) (answer : Sifted) → tag_is_listed tags tag ≡ true
      → SiftsOn Inside (λ v rest. (one : ElementList) → IsSpelled syntax (header ++ v) one
      → SiftsFrom syntax tags (Some tag) large (kept ++ elements_of one) other rest answer) octets answer
      → SiftsFrom syntax tags last large kept other (header ++ octets) answer
  into_header tags large kept other octets answer listed (inl (f, leads, is)) = inr (f, inside_fault octets f leads, is)
  into_header tags large kept other octets answer listed (inr (v, rest, parts, leads, follows)) =
      let value = inside_value v leads in
      let one = without_group_length tag vr value.0 no_elements in
      let alone : IsSpelled syntax (header ++ v) one =
      more Filled syntax 16 None (header ++ v) one tag content header v [] value.0 no_elements first_placed is_header value.1
      (no_more Filled syntax 16 (Some tag) [] refl) (ap (λ (x : List ℕ). header ++ x) (sym (append-nil v))) refl in
      elim (follows one alone) [
        | inl s ↦
            let all = without_group_length tag vr value.0 s.0 in
            let es = kept_elements tag vr value.0 s.0 dropped in
            let first = kept_elements tag vr value.0 no_elements dropped in
            inl (
              all,
              more Filled syntax 16 last (header ++ octets) all tag content header v rest value.0 s.0 placed is_header value.1 s.1
                  (ap (λ (x : List ℕ). header ++ x) parts) refl,
              s.2 ∙ ap (λ (xs : List Element). kept_of tags large (kept ++ xs) other (elements_of s.0)) (sym first)
                  ∙ into_by tags large kept other (held_as value.0) (elements_of s.0) dropped listed ∙ ap (kept_of tags large kept other) es,
            )
        | inr s ↦
            inr (
              s.0,
              after_element Filled syntax 16 last (header ++ octets) s.0 tag content header v rest value.0 placed is_header value.1 s.1
                  (ap (λ (x : List ℕ). header ++ x) parts),
              s.2,
            )
      ]

-- ---- steps in a value

pub sifted_step : (walk : Walk) (taken : List ℕ) (walked : WalkStep) → LeadsOn walk taken walked → (follows later : List ℕ → List ℕ → Type 0)
    → ((v rest : List ℕ) → later v rest → follows (taken ++ v) rest) → (octets : List ℕ) (answer : Sifted)
    → SiftsOn (WalkedLeads walked) later octets answer → SiftsOn (WalkLeads walk) follows (taken ++ octets) answer
sifted_step walk taken walked on follows later then octets answer h9 = grind (arith, append_assoc)

pub sifts_more : (walked : WalkStep) (leads : List ℕ → Option ReadFault → Type 0)
    → ((octets : List ℕ) (end : Option ReadFault) → WalkedLeads walked octets end → leads octets end)
    → (follows : List ℕ → List ℕ → Type 0) (octets : List ℕ) (answer : Sifted) → SiftsOn (WalkedLeads walked) follows octets answer
    → SiftsOn leads follows octets answer
sifts_more walked leads on follows octets answer (inl (f, l, is)) = inl (f, on octets (Some f) l, is)
sifts_more walked leads on follows octets answer (inr (v, rest, parts, l, next)) = inr (v, rest, parts, on v None l, next)
