-- Presentation contexts and user information: what is read is spelled so, and what is spelled so is read.
use Rattle.std.proofs.Common.{◌≡◌, ◌≢◌, ℕ, ◌%◌, true, eqb, leb, List, [], ◌∷◌, ◌++◌, length, map, Option, Some, None, refl, sym, ap, subst, ◌∙◌, arith}
use Rattle.std.specs.Prelude.{◌&&◌, not, option_map}
use Rattle.std.proofs.lemmas.Bool.{le-leb, eqb-true, eq-eqb, and_parts}
use Rattle.dq_pdu.specs.declared.pdu_reader.Item.{Item}
use Rattle.dq_pdu.specs.declared.pdu.ProposedContext.{ProposedContext}
use Rattle.dq_pdu.specs.declared.pdu.AnsweredContext.{AnsweredContext}
use Rattle.dq_list.specs.Lengths.{is_empty}
use Rattle.dq_list.specs.Readers.{◌>>=◌, only_if}
use Rattle.dq_list.proofs.Readers.{bind_some, provided_some}
use Rattle.dq_pdu.specs.Octets.{Pairwise, parts_of, each_given, bodies, at_most_one, exactly_one, without_uid_padding}
use Rattle.dq_pdu.specs.Spelling.{IsProposed, IsAnsweredContext, IsMaximumLength, IsUserInformation}
use Rattle.dq_pdu.specs.PduReader.{item_at, proposed_of, answered_of, maximum_in, user_information_of}
use Rattle.dq_pdu.proofs.PartLaws.{some_is}
use Rattle.dq_pdu.proofs.ItemLaws.{items_fill, items_read}

-- ---- lists

pub not_nil : {A : Type 0} (xs : List A) → not (is_empty xs) ≡ true → xs ≢ []
not_nil [] e = absurd cc
not_nil (x ∷ xs) e = λ f. cc

pub filled : {A : Type 0} (xs : List A) → xs ≢ [] → not (is_empty xs) ≡ true
filled [] n = absurd (n refl)
filled (x ∷ xs) n = refl

map_nil : (xs : List (List ℕ)) → map without_uid_padding xs ≢ [] → xs ≢ []
map_nil [] n = λ e. n refl
map_nil (x ∷ xs) n = λ e. cc

nil_map : (xs : List (List ℕ)) → xs ≢ [] → map without_uid_padding xs ≢ []
nil_map [] n = λ e. n refl
nil_map (x ∷ xs) n = λ e. cc

pub only : (o : Option (List ℕ)) (x : List ℕ) → option_map without_uid_padding o ≡ Some x → (y : List ℕ) × (o ≡ Some y) × (without_uid_padding y ≡ x)
only None x e = absurd cc
only (Some y) x e = (y, refl, cc)

-- ---- proposed contexts

abbrev made : ℕ → List ℕ → List (List ℕ) → ProposedContext
made id abstract names = record { id = id; abstract_syntax = without_uid_padding abstract; transfer_syntaxes = map without_uid_padding names }

pub proposed_spelled : (body : List ℕ) (context : ProposedContext) → proposed_of body ≡ Some context → IsProposed context body
unfolding proposed_of
proposed_spelled [] context e = absurd cc
proposed_spelled (i ∷ []) context e = absurd cc
proposed_spelled (i ∷ a ∷ []) context e = absurd cc
proposed_spelled (i ∷ a ∷ b ∷ []) context e = absurd cc
proposed_spelled (i ∷ a ∷ b ∷ c ∷ rest) context e =
    let test = λ (items : List Item). eqb (i % 2) 1 && not (is_empty (bodies 64 items)) in
    let last = λ (items : List Item) (abstract : List ℕ). only_if (test items) (made i abstract (bodies 64 items)) in
    let s1 = bind_some (only_if (leb 4 (length (i ∷ a ∷ b ∷ c ∷ rest))) rest) (λ r. parts_of item_at r >>= λ items. exactly_one
    (bodies 48 items) >>= λ abstract. last items abstract) context e in
    let p1 = provided_some (leb 4 (length (i ∷ a ∷ b ∷ c ∷ rest))) rest s1.0 s1.1 in
    let s2 = bind_some (parts_of item_at s1.0) (λ items. exactly_one (bodies 48 items) >>= λ abstract. last items abstract) context s1.2 in
    let s3 = bind_some (exactly_one (bodies 48 s2.0)) (last s2.0) context s2.2 in
    let p3 = provided_some (test s2.0) (made i s3.0 (bodies 64 s2.0)) context s3.2 in
    let t = and_parts (eqb (i % 2) 1) (not (is_empty (bodies 64 s2.0))) p3.0 in
    let read : parts_of item_at rest ≡ Some s2.0 = ap (parts_of item_at) p1.1 ∙ s2.1 in
    subst (λ (d : ProposedContext). IsProposed d (i ∷ a ∷ b ∷ c ∷ rest)) p3.1 (record {
      reserved = a ∷ b ∷ c ∷ [];
      rest = rest;
      items = s2.0;
      spelled = refl;
      three = refl;
      odd = eqb-true _ _ t.0;
      fills = items_fill rest s2.0 read;
      abstract = ap (option_map without_uid_padding) s3.1;
      transfer = refl;
      some = nil_map (bodies 64 s2.0) (not_nil (bodies 64 s2.0) t.1);
    })

proposed_at : (i : ℕ) (reserved rest : List ℕ) (items : List Item) (abstract : List ℕ) → length reserved ≡ 3 → i % 2 ≡ 1
    → parts_of item_at rest ≡ Some items → exactly_one (bodies 48 items) ≡ Some abstract → not (is_empty (bodies 64 items)) ≡ true
    → proposed_of (i ∷ reserved ++ rest) ≡ Some (made i abstract (bodies 64 items))
unfolding proposed_of
proposed_at i [] rest items abstract three odd e1 e2 e3 = absurd (omega arith)
proposed_at i (a ∷ []) rest items abstract three odd e1 e2 e3 = absurd (omega arith)
proposed_at i (a ∷ b ∷ []) rest items abstract three odd e1 e2 e3 = absurd (omega arith)
proposed_at i (a ∷ b ∷ c ∷ []) rest items abstract three odd e1 e2 e3 = grind (arith, le-leb, eq-eqb)
proposed_at i (a ∷ b ∷ c ∷ d ∷ ds) rest items abstract three odd e1 e2 e3 = absurd (omega arith)

pub proposed_read : (context : ProposedContext) (body : List ℕ) → IsProposed context body → proposed_of body ≡ Some context
proposed_read context body is = grind (arith, only, map_nil, proposed_at, items_read, filled)

-- ---- answered contexts

abbrev answer : ℕ → ℕ → List ℕ → AnsweredContext
answer id result transfer = record { id = id; result = result; transfer_syntax = without_uid_padding transfer }

pub answered_spelled : (body : List ℕ) (context : AnsweredContext) → answered_of body ≡ Some context → IsAnsweredContext context body
unfolding answered_of
answered_spelled [] context e = absurd cc
answered_spelled (i ∷ []) context e = absurd cc
answered_spelled (i ∷ a ∷ []) context e = absurd cc
answered_spelled (i ∷ a ∷ b ∷ []) context e = absurd cc
answered_spelled (i ∷ a ∷ b ∷ c ∷ rest) context e =
    let body = i ∷ a ∷ b ∷ c ∷ rest in
    let last = λ (transfer : List ℕ). only_if (eqb (i % 2) 1) (answer i b transfer) in
    let s1 = bind_some (only_if (leb 4 (length body)) rest) (λ r. parts_of item_at r >>= λ items. exactly_one
    (bodies 64 items) >>= λ transfer. last transfer) context e in
    let p1 = provided_some (leb 4 (length body)) rest s1.0 s1.1 in
    let s2 = bind_some (parts_of item_at s1.0) (λ items. exactly_one (bodies 64 items) >>= λ transfer. last transfer) context s1.2 in
    let s3 = bind_some (exactly_one (bodies 64 s2.0)) last context s2.2 in
    let p3 = provided_some (eqb (i % 2) 1) (answer i b s3.0) context s3.2 in
    let read : parts_of item_at rest ≡ Some s2.0 = ap (parts_of item_at) p1.1 ∙ s2.1 in
    subst (λ (d : AnsweredContext). IsAnsweredContext d (i ∷ a ∷ b ∷ c ∷ rest)) p3.1 (record {
      before = a;
      behind = c;
      rest = rest;
      items = s2.0;
      spelled = refl;
      odd = eqb-true _ _ p3.0;
      fills = items_fill rest s2.0 read;
      transfer = ap (option_map without_uid_padding) s3.1;
    })

answered_at : (i before result behind : ℕ) (rest : List ℕ) (items : List Item) (name : List ℕ) → i % 2 ≡ 1 → parts_of item_at rest ≡ Some items
    → exactly_one (bodies 64 items) ≡ Some name
    → answered_of (i ∷ before ∷ result ∷ behind ∷ rest) ≡ Some (answer i result name)
unfolding answered_of
answered_at i before result behind rest items name odd e1 e2 = grind (arith, le-leb, eq-eqb)

pub answered_read : (context : AnsweredContext) (body : List ℕ) → IsAnsweredContext context body → answered_of body ≡ Some context
answered_read context body is = grind (arith, only, answered_at, items_read)

-- ---- contexts, one by one

pub each_spelled : {A : Type 0} (f : List ℕ → Option A) (Is : A → List ℕ → Type 0) → ((body : List ℕ) (x : A) → f body ≡ Some x → Is x body)
    → (octets : List (List ℕ)) (xs : List A) → each_given f octets ≡ Some xs → Pairwise Is xs octets
each_spelled f Is sound [] xs e = subst (λ ys. Pairwise Is ys []) (some_is [] xs e) tt
each_spelled {A} f Is sound (body ∷ octets) xs e =
    let a = bind_some (f body) (λ first. each_given f octets >>= λ others. Some (first ∷ others)) xs e in
    let b = bind_some (each_given f octets) (λ others. Some (a.0 ∷ others)) xs a.2 in
    subst (λ (ys : List A). Pairwise Is ys (body ∷ octets)) (some_is (a.0 ∷ b.0) xs b.2) (sound body a.0 a.1, each_spelled f Is sound octets b.0 b.1)

pub each_read : {A : Type 0} (f : List ℕ → Option A) (Is : A → List ℕ → Type 0) → ((x : A) (body : List ℕ) → Is x body → f body ≡ Some x)
    → (xs : List A) (octets : List (List ℕ)) → Pairwise Is xs octets → each_given f octets ≡ Some xs
each_read f Is complete [] [] h = refl
each_read f Is complete [] (body ∷ octets) h = absurd h
each_read f Is complete (x ∷ xs) [] h = absurd h
each_read f Is complete (x ∷ xs) (body ∷ octets) h = grind (arith, each_read f Is complete xs octets h.1)

-- ---- user information

maximum_spelled : (found : List (List ℕ)) (o : Option (List ℕ)) (maximum : Option ℕ) → at_most_one found ≡ Some o → maximum_in o ≡ Some maximum
    → IsMaximumLength maximum found
maximum_spelled [] o maximum e f = sym (some_is None maximum (ap maximum_in (some_is None o e) ∙ f))
maximum_spelled (body ∷ []) o maximum e f = grind (arith, provided_some, some_is, eqb-true)
maximum_spelled (a ∷ b ∷ bs) o maximum e f = absurd cc

maximum_read : (found : List (List ℕ)) (maximum : Option ℕ) → IsMaximumLength maximum found → (at_most_one found >>= λ o. maximum_in o) ≡ Some maximum
maximum_read [] maximum h = ap (λ m. Some m) (sym h)
maximum_read (body ∷ []) maximum h = grind (arith, eq-eqb)
maximum_read (a ∷ b ∷ bs) maximum h = absurd h

pub user_spelled : (found : List (List ℕ)) (o : Option (List ℕ)) (maximum : Option ℕ) → at_most_one found ≡ Some o → user_information_of o ≡ Some maximum
    → IsUserInformation maximum found
unfolding user_information_of
user_spelled [] o maximum e f = sym (some_is None maximum (ap user_information_of (some_is None o e) ∙ f))
user_spelled (body ∷ []) o maximum e f = grind (arith, bind_some, some_is, items_fill, maximum_spelled)
user_spelled (a ∷ b ∷ bs) o maximum e f = absurd cc

pub user_read : (found : List (List ℕ)) (maximum : Option ℕ) → IsUserInformation maximum found
    → (at_most_one found >>= λ o. user_information_of o) ≡ Some maximum
unfolding user_information_of
user_read [] maximum h = ap (λ m. Some m) (sym h)
user_read (body ∷ []) maximum h = grind (arith, items_read, maximum_read)
user_read (a ∷ b ∷ bs) maximum h = absurd h
