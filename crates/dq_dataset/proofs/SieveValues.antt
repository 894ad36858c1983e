-- What the octets of a header and of a value make of a sieve.
use Rattle.std.proofs.Common.{◌≡◌, ◌≢◌, ℕ, Bool, true, false, not, eqb, ◌||◌, List, [], ◌∷◌, ◌++◌, Option, Some, None, Result, Ok, Err, refl, sym, ap, subst, ◌∙◌, append_assoc, arith, inl, inr}
use Rattle.std.specs.Global.{Vec}
use Rattle.std.specs.Result.{IfOk}
use Rattle.std.proofs.lemmas.List.{append-nil}
use Rattle.dq_dataset.proofs.Types.{Tag, ReadFault, Truncated, Syntax, Filled, Content, Element, ElementList}
use Rattle.dq_dataset.specs.declared.sieve.Sifted.{Sifted}
use Rattle.dq_dataset.specs.declared.sieve.Sifted.TheVariants.{Fault}
use Rattle.dq_dataset.specs.declared.sieve.Outer.{Outer}
use Rattle.dq_dataset.specs.declared.sieve.Stage.{Stage}
use Rattle.dq_dataset.specs.declared.sieve.Stage.TheVariants.{Between, Past, Into, Stopped}
use Rattle.dq_dataset.specs.declared.sieve.SieveState.{SieveState}
use Rattle.dq_dataset.specs.declared.sieve.SieveState.TheVariants.{Sifting}
use Rattle.dq_dataset.specs.declared.sieve.walk.Walk.{Walk}
use Rattle.dq_dataset.specs.declared.sieve.walk.WalkStep.{WalkStep}
use Rattle.dq_dataset.specs.declared.sieve.walk.WalkStep.TheVariants.{Over}
use Rattle.dq_dataset.specs.declared.sieve.walk.Reach.TheVariants.{Endless}
use Rattle.dq_dataset.specs.declared.sieve.walk.Cursor.TheVariants.{InElements}
use Rattle.dq_dataset.specs.Sieve.{is_over_limit}
use Rattle.dq_dataset.specs.View.{as_elements, elements_of}
use Rattle.dq_dataset.specs.DataSetReader.{front_at, end_at, may_nest}
use Rattle.dq_dataset.specs.Grammar.{IsPlaced, IsHeader, IsSpelled}
use Rattle.dq_dataset.specs.Sifting.{WalkedLeads, LeadsOn}
use Rattle.dq_dataset.specs.Sieving.{tag_is_listed, is_header_over_limit, kept_unless_over, KeepsElements, SiftsFrom, FollowsPast, FollowsInto, IsStage, SieveGoesOn, HasFed, SieveAfter, IsSieve, PastBy, IntoBy}
use Rattle.dq_dataset.proofs.Nesting.{none_is_part}
use Rattle.dq_dataset.proofs.Fronts.{open_here, front_fault_stays}
use Rattle.dq_dataset.proofs.Large.{judged_on, within_on, within_by, starts_within}
use Rattle.dq_dataset.proofs.Sieves.{Inside, past_header, drop_header, into_header, sifted_step, sifts_more}
use Rattle.dq_dataset.proofs.SieveSteps.{fed_on}

-- no octets are no header
pub nothing_came : (outer : Outer) (front : List ℕ) → front ≡ [] → front_at outer.syntax 16 outer.last front ≡ Err Truncated
nothing_came outer front none = rw none (none_is_part (InElements outer.syntax 16 outer.last Endless))

-- ---- headers

-- an octet of a header: what all of the header makes of the sieve, with the octet added to it
pub adds_octet : (tags : List Tag) (outer next : Outer) (then : Stage) (before after : Vec ℕ) (octet : ℕ) → after.items ≡ before.items ++ octet ∷ []
    → SieveGoesOn tags outer (Between after) [] next then → SieveGoesOn tags outer (Between before) (octet ∷ []) next then
adds_octet tags outer next then before after octet is g = grind (arith, append_assoc)

pub adds_octet_ok : {E : Type 0} → (tags : List Tag) (outer : Outer) (before after : Vec ℕ) (octet : ℕ) → after.items ≡ before.items ++ octet ∷ []
    → (r : Result (Outer × Stage) E) → IfOk r (λ x. SieveGoesOn tags outer (Between after) [] x.0 x.1)
    → IfOk r (λ x. SieveGoesOn tags outer (Between before) (octet ∷ []) x.0 x.1)
adds_octet_ok tags outer before after octet is (Ok x) g = adds_octet tags outer x.0 x.1 before after octet is g
adds_octet_ok tags outer before after octet is (Err e) g = tt

-- a fault of a header is that of the data set
pub stops_at_header : (tags : List Tag) (outer : Outer) (front : Vec ℕ) (fault : ReadFault)
    → ((rest : List ℕ) → end_at Filled 0xE00D front.items ≡ Ok (Some rest) → ⊥) → front_at outer.syntax 16 outer.last front.items ≡ Err fault
    → fault ≢ Truncated → SieveGoesOn tags outer (Between front) [] outer (Stopped fault 0)
stops_at_header tags outer front fault none is other = record {
  sound = tt;
  within = λ w. w;
  syntax = refl;
  sifts = λ octets answer m.
      let same : fault ≡ m.0 = elim m.1 [ inl x ↦ absurd (omega arith) | inr x ↦ (let e = x.1 in cc) ] in
      let has = front_fault_stays Filled outer.syntax 16 outer.last front.items octets fault (open_here Filled 0xE00D front.items none) is other in
      inr (fault, has, m.2 ∙ ap Fault (sym same));
}

-- ---- values

-- the value of an element, from its header
module _ (tags : List Tag) (outer : Outer) (front : Vec ℕ) (tag : Tag) (content : Content) (placed : IsPlaced outer.last tag)
    (is_header : IsHeader outer.syntax tag content front.items) (nests : may_nest 16 content ≡ true) (walked : WalkStep)
    (leads : (octets : List ℕ) (end : Option ReadFault) → WalkedLeads walked octets end
    → Inside outer.syntax outer.last tag content front.items placed is_header nests octets end) where
  abbrev passed_by : Outer
  passed_by = record { syntax = outer.syntax; last = Some tag; large = outer.large; kept = outer.kept; other = outer.other || not (eqb tag.element 0) }

  pub goes_past : tag_is_listed tags tag ≡ false → (stage : Stage) → IsStage passed_by stage → PastBy walked stage
      → SieveGoesOn tags outer (Between front) [] passed_by stage
  goes_past listed stage sound past = record {
    sound = sound;
    within = λ w. w;
    syntax = refl;
    sifts = λ octets answer m.
        past_header outer.syntax outer.last tag content front.items placed is_header nests tags outer.large outer.kept.items outer.other octets answer listed
        (sifts_more walked (Inside outer.syntax outer.last tag content front.items placed is_header nests) leads (FollowsPast tags passed_by answer) octets
        answer (past passed_by tags octets answer m));
  }

  -- of what is too large nothing is held
  pub goes_over : tag_is_listed tags tag ≡ true → (outer.large || is_header_over_limit tag content) ≡ true → (next : Outer) → next.syntax ≡ outer.syntax
      → next.last ≡ Some tag → next.large ≡ true → next.kept.items ≡ [] → (stage : Stage) → IsStage next stage
      → PastBy walked stage → SieveGoesOn tags outer (Between front) [] next stage
  goes_over listed long next syntax_is last_is large_is none stage sound past = record {
    sound = sound;
    within = λ w. within_by next large_is none;
    syntax = syntax_is;
    sifts = λ octets answer m.
        drop_header outer.syntax outer.last tag content front.items placed is_header nests tags outer.large outer.kept.items outer.other octets answer
        listed long
        (sifts_more walked (Inside outer.syntax outer.last tag content front.items placed is_header nests) leads
        (λ v rest. SiftsFrom outer.syntax tags (Some tag) true [] outer.other rest answer) octets answer
        (let after = past next tags octets answer m in rw (syntax_is, last_is, large_is) at after));
  }

  abbrev begun : Outer
  begun = record { syntax = outer.syntax; last = Some tag; large = outer.large; kept = outer.kept; other = outer.other }

  into_by : tag_is_listed tags tag ≡ true → (next : Outer) (then : Stage) → IntoBy begun walked front.items next then
      → SieveGoesOn tags outer (Between front) [] next then
  into_by listed next then into = record {
    sound = into.sound;
    within = into.within;
    syntax = into.syntax;
    sifts = λ octets answer m.
        into_header outer.syntax outer.last tag content front.items placed is_header nests tags outer.large outer.kept.items outer.other octets answer listed
        (sifts_more walked (Inside outer.syntax outer.last tag content front.items placed is_header nests) leads (FollowsInto tags begun front.items answer)
        octets answer (into.sifts tags octets answer m));
  }

  pub goes_into : {E : Type 0} → tag_is_listed tags tag ≡ true → (r : Result (Outer × Stage) E)
      → IfOk r (λ x. IntoBy begun walked front.items x.0 x.1) → IfOk r (λ x. SieveGoesOn tags outer (Between front) [] x.0 x.1)
  goes_into listed (Ok x) into = into_by listed x.0 x.1 into
  goes_into listed (Err e) into = tt

-- octets of a value that is not kept
pub steps_past : (tags : List Tag) (outer : Outer) (walk : Walk) (taken : List ℕ) (walked : WalkStep) → LeadsOn walk taken walked → (stage : Stage)
    → IsStage outer stage → PastBy walked stage → SieveGoesOn tags outer (Past walk) taken outer stage
steps_past tags outer walk taken walked on stage sound past = record {
  sound = sound;
  within = λ w. w;
  syntax = refl;
  sifts = λ octets answer m. sifted_step walk taken walked on (FollowsPast tags outer answer) (FollowsPast tags outer answer) (λ v rest n. n) octets answer
      (past outer tags octets answer m);
}

-- octets of a value that is kept
pub steps_into : (tags : List Tag) (outer : Outer) (walk : Walk) (taken : List ℕ) (walked : WalkStep) → LeadsOn walk taken walked → (came : Vec ℕ)
    (now : List ℕ) → now ≡ came.items ++ taken → (next : Outer) (then : Stage) → IntoBy outer walked now next then
    → SieveGoesOn tags outer (Into walk came) taken next then
steps_into tags outer walk taken walked on came now is next then into = grind (arith, sifted_step, append_assoc)

-- what is held no more adds as it did
sifts_on : (syntax : Syntax) (tags : List Tag) (last : Option Tag) (large next : Bool) (ks held : List Element) (other : Bool) (octets : List ℕ)
    (answer : Sifted) → next ≡ (large || is_over_limit (as_elements ks)) → held ≡ kept_unless_over next ks
    → SiftsFrom syntax tags last next held other octets answer → SiftsFrom syntax tags last large ks other octets answer
sifts_on syntax tags last large next ks held other octets answer next_is state_is h12 = grind (arith, judged_on)

-- all of a value that is kept: the element is kept
pub keeps_one : (outer next : Outer) (came : List ℕ) (front : Vec ℕ) (one : ElementList)
    → ((d : ElementList) → IsSpelled outer.syntax came d → one ≡ d) → KeepsElements outer (elements_of one) next → front.items ≡ []
    → IntoBy outer Over came next (Between front)
keeps_one outer next came front one only k none = record {
  sound = nothing_came next front.items none;
  within = λ w. within_on outer.large next.large (outer.kept.items ++ elements_of one) next.kept.items k.large k.kept;
  syntax = k.syntax;
  sifts = λ tags octets answer m. inr (
    [],
    octets,
    refl,
    (refl, refl),
    λ d spelled.
        let same : one ≡ d = only d (rw append-nil at spelled) in
        subst (λ (x : ElementList). SiftsFrom outer.syntax tags outer.last outer.large (outer.kept.items ++ elements_of x) outer.other octets answer)
        same
        (sifts_on outer.syntax tags outer.last outer.large next.large (outer.kept.items ++ elements_of one) next.kept.items outer.other octets answer
        k.large k.kept (rw (k.syntax, k.last, k.other, none) at m)),
  );
}

-- ---- the start, and pieces

pub starts : (tags : List Tag) (outer : Outer) (front : Vec ℕ) → outer.last ≡ None → outer.large ≡ false → outer.kept.items ≡ [] → outer.other ≡ false → front.items ≡ []
    → HasFed outer.syntax tags [] outer (Between front)
starts tags outer front last small kept other none = grind (arith, nothing_came, starts_within)

pub is_fed_on : (tags : List Tag) (piece : List ℕ) (a b : Outer) (x y : Stage) → IsSieve tags (Sifting a x) → SieveGoesOn tags a x piece b y
    → IsSieve tags (Sifting b y)
is_fed_on tags piece a b x y (fed, f) g =
    (fed ++ piece, subst (λ (z : Syntax). HasFed z tags (fed ++ piece) b y) (sym g.syntax) (fed_on a.syntax tags fed piece a b x y f g))

pub state_is : (syntax : Syntax) (tags listed : List Tag) (fed : List ℕ) (held : SieveState) (sieve : List Tag × SieveState) (a : Outer) (x : Stage) → (listed, held) ≡ sieve
    → held ≡ Sifting a x → SieveAfter syntax tags fed sieve → HasFed syntax tags fed a x
state_is syntax tags listed fed held sieve a x view is after = grind arith

pub fed_after : (syntax : Syntax) (tags listed : List Tag) (fed piece : List ℕ) (held : SieveState) (sieve : List Tag × SieveState) (a b : Outer) (x y : Stage)
    → (listed, held) ≡ sieve → held ≡ Sifting a x → SieveGoesOn listed a x piece b y → SieveAfter syntax tags fed sieve
    → SieveAfter syntax tags (fed ++ piece) (listed, Sifting b y)
fed_after syntax tags listed fed piece held sieve a b x y view is g after =
    let same : listed ≡ tags = ap (λ (s : List Tag × SieveState). s.0) view ∙ after.tags_are in
    record {
      tags_are = same;
      after = fed_on syntax tags fed piece a b x y (state_is syntax tags listed fed held sieve a x view is after)
          (subst (λ (ts : List Tag). SieveGoesOn ts a x piece b y) same g);
    }
