-- Classes, and what contexts are agreed on.
use Rattle.std.proofs.Common.{◌≡◌, ◌≢◌, ℕ, suc, ◌==◌, ◌⊎◌, Bool, true, false, cond, not, List, [], ◌∷◌, map, Option, Some, None, refl, sym, ap, ◌∙◌, inl, inr, arith}
use Rattle.std.specs.Prelude.{◌||◌, ◌&&◌, filter, find, filter_map, is_some, Contains}
use Rattle.std.specs.List.{cons_option}
use Rattle.std.specs.Result.{result_ok}
use Rattle.std.specs.Str.{bytes_eq}
use Rattle.std.proofs.lemmas.Bool.{and_parts, or_parts}
use Rattle.std.proofs.lemmas.Slice.Eq.{bytes_eq-Decides}
use Rattle.std.proofs.lemmas.List.Folds.{list_any_at}
use Rattle.dq_dataset.specs.declared.header.Syntax.{Syntax}
use Rattle.dq_dataset.specs.declared.header.Syntax.TheVariants.{Implicit, Explicit}
use Rattle.dq_pdu.specs.declared.pdu.ProposedContext.{ProposedContext}
use Rattle.dq_pdu.specs.declared.pdu.AnsweredContext.{AnsweredContext}
use Rattle.dq_pdu.specs.Octets.{is_number_among, are_distinct}
use Rattle.dq_assoc.specs.declared.classes.SopClass.{SopClass}
use Rattle.dq_assoc.specs.declared.agreement.AcceptedContext.{AcceptedContext}
use Rattle.dq_assoc.specs.Classes.{uid_of, served_classes, class_of}
use Rattle.dq_assoc.specs.Negotiation.{syntax_uid, offers, preferred_syntax, accepted_context, context_result_of, agreed_context, is_accepted, acceptance, answer_with, context_answer, answered_context}

-- ---- classes

found-next : (b : Bool) (test : SopClass → Bool) (y x : SopClass) (rest : Option SopClass) → test y ≡ b
    → (rest ≡ Some x → test x ≡ true) → cond b (Some y) rest ≡ Some x → test x ≡ true
found-next true test y x rest t later e = let same : y ≡ x = cc in ap test (sym same) ∙ t
found-next false test y x rest t later e = later e

found-passes : (test : SopClass → Bool) (xs : List SopClass) (x : SopClass) → find test xs ≡ Some x → test x ≡ true
found-passes test [] x e = absurd cc
found-passes test (y ∷ ys) x e = found-next (test y) test y x (find test ys) refl (λ later. found-passes test ys x later) e

pub class-named : (uid : List ℕ) (class : SopClass) → class_of uid ≡ Some class → uid_of class ≡ uid
unfolding class_of
class-named uid class e =
    (bytes_eq-Decides (uid_of class) uid).0 (found-passes (λ (class : SopClass). bytes_eq (uid_of class) uid) served_classes class e)

-- ---- Bools

not-true : (a : Bool) → not a ≡ true → a ≡ false
not-true true e = absurd cc
not-true false e = refl

-- ---- offered syntaxes

either : (a b : Bool) → (a || b) ≡ true → (a ≡ true) ⊎ (b ≡ true)
either true b e = inl refl
either false b e = inr e

contains-offered : (syntaxes : List (List ℕ)) (syntax : List ℕ) → offers syntaxes syntax ≡ true → Contains syntaxes syntax
contains-offered [] syntax e = absurd cc
contains-offered (first ∷ others) syntax e =
    elim (either (bytes_eq first syntax) (offers others syntax) e) [
      | inl same ↦ (0, omega arith, (bytes_eq-Decides first syntax).0 same)
      | inr later ↦ let found = contains-offered others syntax later in (suc found.0, omega (arith, found.1), found.2)
    ]

offers-contained : (syntaxes : List (List ℕ)) (syntax : List ℕ) → Contains syntaxes syntax → offers syntaxes syntax ≡ true
offers-contained syntaxes syntax found = grind (arith, list_any_at, bytes_eq-Decides)

preferred-offered : (syntaxes : List (List ℕ)) (a b : Bool) (syntax : Syntax) → offers syntaxes (syntax_uid Explicit) ≡ a
    → offers syntaxes (syntax_uid Implicit) ≡ b
    → cond a (Some Explicit) (cond b (Some Implicit) None) ≡ Some syntax → offers syntaxes (syntax_uid syntax) ≡ true
preferred-offered syntaxes true b syntax x i e = let same : Explicit ≡ syntax = cc in ap (λ (s : Syntax). offers syntaxes (syntax_uid s)) (sym same) ∙ x
preferred-offered syntaxes false true syntax x i e = let same : Implicit ≡ syntax = cc in ap (λ (s : Syntax). offers syntaxes (syntax_uid s)) (sym same) ∙ i
preferred-offered syntaxes false false syntax x i e = absurd cc

-- ---- agreed contexts

-- what is agreed on comes of a class and a syntax
pub record Comes (id : ℕ) (class : Option SopClass) (syntax : Option Syntax) (a : AcceptedContext) : Type 0 where
  pub id_is : a.id ≡ id
  pub class_is : class ≡ Some a.class
  pub syntax_is : syntax ≡ Some a.syntax

comes : (id : ℕ) (class : Option SopClass) (syntax : Option Syntax) (a : AcceptedContext) → result_ok (context_result_of id class syntax) ≡ Some a
    → Comes id class syntax a
comes id None syntax a e = absurd cc
comes id (Some class) None a e = absurd cc
comes id (Some class) (Some syntax) a e =
    let same : accepted_context id class syntax ≡ a = cc in
    record {
      id_is = ap (λ (x : AcceptedContext). x.id) (sym same);
      class_is = ap (λ (x : AcceptedContext). Some x.class) same;
      syntax_is = ap (λ (x : AcceptedContext). Some x.syntax) same;
    }

pub agreed-comes : (c : ProposedContext) (a : AcceptedContext) → agreed_context c ≡ Some a
    → Comes c.id (class_of c.abstract_syntax) (preferred_syntax c.transfer_syntaxes) a
agreed-comes c a e = comes c.id (class_of c.abstract_syntax) (preferred_syntax c.transfer_syntaxes) a e

pub agreed-id : (c : ProposedContext) (a : AcceptedContext) → agreed_context c ≡ Some a → a.id ≡ c.id
agreed-id c a e = (agreed-comes c a e).id_is

pub agreed-class : (c : ProposedContext) (a : AcceptedContext) → agreed_context c ≡ Some a → uid_of a.class ≡ c.abstract_syntax
agreed-class c a e = class-named c.abstract_syntax a.class (agreed-comes c a e).class_is

pub agreed-offered : (c : ProposedContext) (a : AcceptedContext) → agreed_context c ≡ Some a → Contains c.transfer_syntaxes (syntax_uid a.syntax)
agreed-offered c a e =
    contains-offered c.transfer_syntaxes (syntax_uid a.syntax) (preferred-offered c.transfer_syntaxes _ _ a.syntax refl refl (agreed-comes c a e).syntax_is)

pub agreed-explicit : (c : ProposedContext) (a : AcceptedContext) → agreed_context c ≡ Some a → Contains c.transfer_syntaxes (syntax_uid Explicit)
    → a.syntax ≡ Explicit
agreed-explicit c a e offered = grind (arith, offers-contained, agreed-comes)

-- a context of a class that is served is accepted where it offers a syntax that is taken
either-way : (a b : Bool) → b ≡ true → is_some (cond a (Some Explicit) (cond b (Some Implicit) None)) ≡ true
either-way true b e = refl
either-way false b e = ap (λ (b : Bool). is_some (cond b (Some Implicit) None)) e

preferred-some : (syntaxes : List (List ℕ)) (syntax : Syntax) → offers syntaxes (syntax_uid syntax) ≡ true → is_some (preferred_syntax syntaxes) ≡ true
preferred-some syntaxes Explicit e =
    ap (λ (b : Bool). is_some (cond b (Some Explicit) (cond (offers syntaxes (syntax_uid Implicit)) (Some Implicit) None))) e
preferred-some syntaxes Implicit e = either-way (offers syntaxes (syntax_uid Explicit)) (offers syntaxes (syntax_uid Implicit)) e

some-result : (id : ℕ) (class : SopClass) (o : Option Syntax) → is_some o ≡ true → is_some (result_ok (context_result_of id (Some class) o)) ≡ true
some-result id class None e = absurd cc
some-result id class (Some syntax) e = refl

pub accepted-offered : (c : ProposedContext) (class : SopClass) (syntax : Syntax) → class_of c.abstract_syntax ≡ Some class
    → Contains c.transfer_syntaxes (syntax_uid syntax) → is_accepted c ≡ true
accepted-offered c class syntax e offered = grind (arith, some-result, preferred-some, offers-contained)

answer-ok : (id : ℕ) (class : Option SopClass) (syntax : Option Syntax) (a : AcceptedContext) → result_ok (context_result_of id class syntax) ≡ Some a
    → context_answer id (context_result_of id class syntax) ≡ answer_with a.id acceptance a.syntax
answer-ok id None syntax a e = absurd cc
answer-ok id (Some class) None a e = absurd cc
answer-ok id (Some class) (Some syntax) a e = grind arith

pub agreed-answer : (c : ProposedContext) (a : AcceptedContext) → agreed_context c ≡ Some a → answered_context c ≡ answer_with a.id acceptance a.syntax
agreed-answer c a e = answer-ok c.id (class_of c.abstract_syntax) (preferred_syntax c.transfer_syntaxes) a e

answer-err : (id : ℕ) (class : Option SopClass) (syntax : Option Syntax) → result_ok (context_result_of id class syntax) ≡ None
    → (context_answer id (context_result_of id class syntax)).result ≢ acceptance
answer-err id None syntax e = λ h. absurd cc
answer-err id (Some class) None e = λ h. absurd cc
answer-err id (Some class) (Some syntax) e = absurd cc

pub refused-answer : (c : ProposedContext) → agreed_context c ≡ None → (answered_context c).result ≢ acceptance
refused-answer c e = answer-err c.id (class_of c.abstract_syntax) (preferred_syntax c.transfer_syntaxes) e

id-stays : (id : ℕ) (class : Option SopClass) (syntax : Option Syntax) → (context_answer id (context_result_of id class syntax)).id ≡ id
id-stays id None syntax = refl
id-stays id (Some class) None = refl
id-stays id (Some class) (Some syntax) = refl

pub ids-stay : (cs : List ProposedContext) → map (λ (a : AnsweredContext). a.id) (map answered_context cs) ≡ map (λ (c : ProposedContext). c.id) cs
ids-stay [] = refl
ids-stay (c ∷ cs) = grind (arith, id-stays, ids-stay cs)

-- ---- the contexts of an agreement

-- what one context adds to those that are agreed on
contexts-cons : (o : Option AcceptedContext) (c : ProposedContext) (cs : List ProposedContext) → o ≡ agreed_context c
    → map (λ (a : AcceptedContext). Some a) (filter_map agreed_context cs) ≡ map agreed_context (filter is_accepted cs)
    → map (λ (a : AcceptedContext). Some a) (cons_option o (filter_map agreed_context cs))
    ≡ map agreed_context (cond (is_some o) (c ∷ filter is_accepted cs) (filter is_accepted cs))
contexts-cons None c cs e later = later
contexts-cons (Some a) c cs e later =
    ap (λ (l : List (Option AcceptedContext)). Some a ∷ l) later ∙ ap (λ (o : Option AcceptedContext). o ∷ map agreed_context (filter is_accepted cs)) e

pub contexts-accepted : (cs : List ProposedContext) → map (λ (a : AcceptedContext). Some a) (filter_map agreed_context cs)
    ≡ map agreed_context (filter is_accepted cs)
contexts-accepted [] = refl
contexts-accepted (c ∷ cs) = contexts-cons (agreed_context c) c cs refl (contexts-accepted cs)

abbrev pub agreed-ids : List ProposedContext → List ℕ
agreed-ids cs = map (λ (a : AcceptedContext). a.id) (filter_map agreed_context cs)

ids-cons : (o : Option AcceptedContext) (c : ProposedContext) (cs : List ProposedContext) → ((a : AcceptedContext) → o ≡ Some a → a.id ≡ c.id)
    → agreed-ids cs ≡ map (λ (c : ProposedContext). c.id) (filter is_accepted cs)
    → map (λ (a : AcceptedContext). a.id) (cons_option o (filter_map agreed_context cs))
    ≡ map (λ (c : ProposedContext). c.id) (cond (is_some o) (c ∷ filter is_accepted cs) (filter is_accepted cs))
ids-cons None c cs same later = later
ids-cons (Some a) c cs same later =
    ap (λ (l : List ℕ). a.id ∷ l) later ∙ ap (λ (n : ℕ). n ∷ map (λ (c : ProposedContext). c.id) (filter is_accepted cs)) (same a refl)

pub ids-accepted : (cs : List ProposedContext) → agreed-ids cs ≡ map (λ (c : ProposedContext). c.id) (filter is_accepted cs)
ids-accepted [] = refl
ids-accepted (c ∷ cs) = ids-cons (agreed_context c) c cs (λ a e. agreed-id c a e) (ids-accepted cs)

-- ids that are distinct stay so
among-fewer : (x : ℕ) (o : Option AcceptedContext) (c : ProposedContext) (cs : List ProposedContext) → ((a : AcceptedContext) → o ≡ Some a → a.id ≡ c.id)
    → (is_number_among x (map (λ (c : ProposedContext). c.id) cs) ≡ false → is_number_among x (agreed-ids cs) ≡ false)
    → ((x == c.id) || is_number_among x (map (λ (c : ProposedContext). c.id) cs)) ≡ false
    → is_number_among x (map (λ (a : AcceptedContext). a.id) (cons_option o (filter_map agreed_context cs))) ≡ false
among-fewer x None c cs same later e = later (or_parts (x == c.id) _ e).1
among-fewer x (Some a) c cs same later e =
    ap (λ (n : ℕ). (x == n) || is_number_among x (agreed-ids cs)) (same a refl)
    ∙ ap (λ (b : Bool). b || is_number_among x (agreed-ids cs)) (or_parts (x == c.id) _ e).0
    ∙ later (or_parts (x == c.id) _ e).1

not-among : (x : ℕ) (cs : List ProposedContext) → is_number_among x (map (λ (c : ProposedContext). c.id) cs) ≡ false → is_number_among x (agreed-ids cs) ≡ false
not-among x [] e = refl
not-among x (c ∷ cs) e = among-fewer x (agreed_context c) c cs (λ a h. agreed-id c a h) (not-among x cs) e

distinct-cons : (o : Option AcceptedContext) (c : ProposedContext) (cs : List ProposedContext) → ((a : AcceptedContext) → o ≡ Some a → a.id ≡ c.id)
    → (are_distinct (map (λ (c : ProposedContext). c.id) cs) ≡ true → are_distinct (agreed-ids cs) ≡ true)
    → (not (is_number_among c.id (map (λ (c : ProposedContext). c.id) cs)) && are_distinct (map (λ (c : ProposedContext). c.id) cs)) ≡ true
    → are_distinct (map (λ (a : AcceptedContext). a.id) (cons_option o (filter_map agreed_context cs))) ≡ true
distinct-cons None c cs same later e = later (and_parts (not (is_number_among c.id (map (λ (c : ProposedContext). c.id) cs))) _ e).1
distinct-cons (Some a) c cs same later e =
    let both = and_parts (not (is_number_among c.id (map (λ (c : ProposedContext). c.id) cs))) _ e in
    ap (λ (n : ℕ). not (is_number_among n (agreed-ids cs)) && are_distinct (agreed-ids cs)) (same a refl)
    ∙ ap (λ (b : Bool). not b && are_distinct (agreed-ids cs)) (not-among c.id cs (not-true (is_number_among c.id (map (λ (c : ProposedContext). c.id) cs)) both.0))
    ∙ later both.1

pub ids-distinct : (cs : List ProposedContext) → are_distinct (map (λ (c : ProposedContext). c.id) cs) ≡ true → are_distinct (agreed-ids cs) ≡ true
ids-distinct [] e = refl
ids-distinct (c ∷ cs) e = distinct-cons (agreed_context c) c cs (λ a h. agreed-id c a h) (ids-distinct cs) e
