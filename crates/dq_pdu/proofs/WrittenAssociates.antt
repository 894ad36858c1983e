-- A request or an acceptance is spelled by what is written for it, exactly where the test says so.
use Rattle.std.proofs.Common.{◌≡◌, ℕ, ◌^◌, ◌<◌, ◌≤◌, Bool, true, false, eqb, List, [], ◌∷◌, ◌++◌, length, map, Option, Some, refl, sym, ap, subst, ◌∙◌, arith, length-append}
use Rattle.std.specs.Prelude.{◌&&◌, IfSome, option_map}
use Rattle.std.specs.List.{flat_map, list_all}
use Rattle.std.proofs.lemmas.Bool.{and_parts, and_from}
use Rattle.std.proofs.lemmas.List.{append-nil}
use Rattle.dq_pdu.specs.declared.pdu_reader.Item.{Item}
use Rattle.dq_pdu.specs.declared.bodies.Associate.{Associate}
use Rattle.dq_pdu.specs.Octets.{Fills, Pairwise, bodies, at_most_one, without_uid_padding, are_distinct}
use Rattle.dq_pdu.specs.Spelling.{IsItem, IsProposed, IsAnsweredContext, IsUserInformation, IsAssociate}
use Rattle.dq_pdu.specs.Writing.{item, proposed_body, answered_body, application_context, request_information, accept_information, fixed_fields, associate_octets, is_uid_name, is_proposable, is_answerable}
use Rattle.dq_pdu.specs.Widths.{AreWide}
use Rattle.dq_pdu.proofs.PartLaws.{some_is}
use Rattle.dq_pdu.proofs.WritingLaws.{of_kind, fills-append, items_written, bodies_same, bodies_other, proposed_written, proposed_tells, answered_written, answered_tells}
use Rattle.dq_pdu.proofs.WrittenItems.{name_items, name_fills, name_only, name_none, name_stays, name_bare, request_user_items, request_user_fills, request_user_is, request_user_none, accept_user_items, accept_user_fills, accept_user_is, accept_user_none, three_runs, associate_written, items_are, Short, short_parts}

-- What is written of contexts, which are items of a type, and of user information.
pub record AreWritten {C : Type 0}
    (Context : C → List ℕ → Type 0) (kind : ℕ) (body_of : C → List ℕ) (fits : C → Bool) (user_items : Option ℕ → List Item) (information : Option ℕ → List ℕ)
    : Type 0 where
  pub no_name : (eqb kind 16 ≡ false) × (eqb 16 kind ≡ false)
  pub no_user : (eqb kind 80 ≡ false) × (eqb 80 kind ≡ false)
  pub written : (c : C) → length (body_of c) ≤ 65536 → fits c ≡ true → Context c (body_of c)
  pub tells : (c : C) → length (body_of c) ≤ 65536 → Context c (body_of c) → fits c ≡ true
  pub user_fills : (maximum : Option ℕ) → Fills IsItem (user_items maximum) (information maximum)
  pub user_is : (maximum : Option ℕ) → IfSome maximum (λ n. n < 2 ^ 32) → IsUserInformation maximum (bodies 80 (user_items maximum))
  pub user_none : (other : ℕ) (maximum : Option ℕ) → eqb 80 other ≡ false → bodies other (user_items maximum) ≡ []

pub of_requests : AreWritten IsProposed 32 proposed_body is_proposable request_user_items request_information
of_requests = record {
  no_name = (refl, refl);
  no_user = (refl, refl);
  written = proposed_written;
  tells = proposed_tells;
  user_fills = request_user_fills;
  user_is = request_user_is;
  user_none = request_user_none;
}

pub of_accepts : AreWritten IsAnsweredContext 33 answered_body is_answerable accept_user_items accept_information
of_accepts = record {
  no_name = (refl, refl);
  no_user = (refl, refl);
  written = answered_written;
  tells = answered_tells;
  user_fills = accept_user_fills;
  user_is = accept_user_is;
  user_none = accept_user_none;
}

module _ {C : Type 0} {Context : C → List ℕ → Type 0} {kind : ℕ} {body_of : C → List ℕ} {fits : C → Bool} {user_items : Option ℕ → List Item}
    {information : Option ℕ → List ℕ} (are : AreWritten Context kind body_of fits user_items information) (id_of : C → ℕ) where
  abbrev context_octets : List C → List ℕ
  context_octets contexts = flat_map (λ c. item kind (body_of c)) contexts

  abbrev context_items : List C → List Item
  context_items contexts = map (λ c. of_kind kind (body_of c)) contexts

  all_written : (contexts : List C) → length (context_octets contexts) ≤ 65536 → list_all fits contexts ≡ true
      → Pairwise Context contexts (map body_of contexts)
  all_written [] h e = tt
  all_written (c ∷ cs) h e =
      let p = and_parts (fits c) (list_all fits cs) e in
      let n = length-append (item kind (body_of c)) (context_octets cs) in
      (are.written c (omega (arith, n, h)) p.0, all_written cs (omega (arith, n, h)) p.1)

  all_fit : (contexts : List C) → length (context_octets contexts) ≤ 65536 → Pairwise Context contexts (map body_of contexts)
      → list_all fits contexts ≡ true
  all_fit [] h p = refl
  all_fit (c ∷ cs) h p =
      let n = length-append (item kind (body_of c)) (context_octets cs) in
      and_from (fits c) (list_all fits cs) (are.tells c (omega (arith, n, h)) p.0) (all_fit cs (omega (arith, n, h)) p.1)

  module _ (f : Associate) (contexts : List C) where
    abbrev items : List Item
    items = name_items f.application_context ++ context_items contexts ++ user_items f.maximum_length

    abbrev octets : List ℕ
    octets = application_context f.application_context ++ context_octets contexts ++ information f.maximum_length

    abbrev written_octets : List ℕ
    written_octets = associate_octets f.version f.called f.calling f.reserved octets

    abbrev fit : Bool
    fit = is_uid_name f.application_context && list_all fits contexts && are_distinct (map id_of contexts)

    short : length written_octets ≤ 65536 → Short (application_context f.application_context) (context_octets contexts) (information f.maximum_length)
    short h = short_parts (fixed_fields f.version f.called f.calling f.reserved) (application_context f.application_context) (context_octets contexts)
        (information f.maximum_length) h

    items_fill : length written_octets ≤ 65536 → Fills IsItem items octets
    items_fill h =
        let s = short h in
        let two = fills-append IsItem (name_items f.application_context) (context_items contexts) (application_context f.application_context)
        (context_octets contexts) (name_fills f.application_context s.name_short) (items_written kind body_of contexts s.contexts_short) in
        fills-append IsItem (name_items f.application_context ++ context_items contexts) (user_items f.maximum_length)
        (application_context f.application_context ++ context_octets contexts) (information f.maximum_length) two (are.user_fills f.maximum_length)

    name_there : at_most_one (bodies 16 items) ≡ Some f.application_context
    name_there =
        let e = three_runs 16 (name_items f.application_context) (context_items contexts) (user_items f.maximum_length) (bodies 16
        (name_items f.application_context)) [] [] refl (bodies_other kind 16 body_of contexts are.no_name.0) (are.user_none 16 f.maximum_length refl) in
        ap at_most_one (e ∙ append-nil (bodies 16 (name_items f.application_context) ++ []) ∙ append-nil (bodies 16 (name_items f.application_context)))
        ∙ name_only f.application_context

    contexts_there : bodies kind items ≡ map body_of contexts
    contexts_there =
        three_runs kind (name_items f.application_context) (context_items contexts) (user_items f.maximum_length) [] (map body_of contexts) []
        (name_none kind f.application_context are.no_name.1) (bodies_same kind body_of contexts) (are.user_none kind f.maximum_length are.no_user.1)
        ∙ append-nil (map body_of contexts)

    users_there : bodies 80 items ≡ bodies 80 (user_items f.maximum_length)
    users_there =
        three_runs 80 (name_items f.application_context) (context_items contexts) (user_items f.maximum_length) [] [] (bodies 80
        (user_items f.maximum_length)) (name_none 80 f.application_context refl) (bodies_other kind 80 body_of contexts are.no_user.0) refl

    pub associate_spelled : AreWide f.version f.called f.calling f.reserved f.maximum_length → length written_octets ≤ 65536 → fit ≡ true
        → IsAssociate Context kind id_of f contexts written_octets
    associate_spelled w h e =
        let p = and_parts (is_uid_name f.application_context && list_all fits contexts) (are_distinct (map id_of contexts)) e in
        let q = and_parts (is_uid_name f.application_context) (list_all fits contexts) p.0 in
        record {
          items = items;
          fixed = associate_written f.version f.called f.calling f.reserved f.maximum_length items octets w (items_fill h);
          application = ap (option_map (option_map without_uid_padding)) name_there ∙ ap (λ n. Some n) (name_stays f.application_context q.0);
          each = subst (Pairwise Context contexts) (sym contexts_there) (all_written contexts (short h).contexts_short q.1);
          distinct = p.1;
          user = subst (IsUserInformation f.maximum_length) (sym users_there) (are.user_is f.maximum_length w.maximum_four);
        }

    pub associate_tells : length written_octets ≤ 65536 → IsAssociate Context kind id_of f contexts written_octets → fit ≡ true
    associate_tells h is =
        let same = items_are f.version f.called f.calling f.reserved is.items items octets is.fixed (items_fill h) in
        let name : Some (option_map without_uid_padding f.application_context) ≡ Some f.application_context = ap (option_map (option_map without_uid_padding)) (sym
        name_there) ∙ ap (λ (is : List Item). option_map (option_map without_uid_padding) (at_most_one (bodies 16 is))) (sym same) ∙ is.application in
        let each : Pairwise Context contexts (map body_of contexts) = subst (Pairwise Context contexts) (ap (bodies kind) same ∙ contexts_there) is.each in
        let one = name_bare f.application_context (some_is (option_map without_uid_padding f.application_context) f.application_context name) in
        let two = and_from (is_uid_name f.application_context) (list_all fits contexts) one (all_fit contexts (short h).contexts_short each) in
        and_from (is_uid_name f.application_context && list_all fits contexts) (are_distinct (map id_of contexts)) two is.distinct
