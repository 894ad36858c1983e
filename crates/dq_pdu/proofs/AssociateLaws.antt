-- Requests and acceptances: what is read is spelled so, and what is spelled so is read.
use Rattle.std.proofs.Common.{◌≡◌, ℕ, ◌≤◌, leb, List, length, map, take, drop, Option, Some, None, refl, ap, subst, ◌∙◌}
use Rattle.std.specs.Prelude.{option_map}
use Rattle.std.specs.Int.{w16, from_be_bytes}
use Rattle.std.proofs.lemmas.Bool.{leb-true, le-leb}
use Rattle.dq_list.specs.Readers.{◌>>=◌, only_if}
use Rattle.dq_list.proofs.Readers.{bind_some, provided_some}
use Rattle.dq_pdu.specs.declared.pdu_reader.Item.{Item}
use Rattle.dq_pdu.specs.declared.bodies.Associate.{Associate}
use Rattle.dq_pdu.specs.declared.pdu.ProposedContext.{ProposedContext}
use Rattle.dq_pdu.specs.declared.pdu.AnsweredContext.{AnsweredContext}
use Rattle.dq_pdu.specs.declared.pdu.Request.{Request}
use Rattle.dq_pdu.specs.declared.pdu.Accept.{Accept}
use Rattle.dq_pdu.specs.Octets.{parts_of, each_given, bodies, at_most_one, without_uid_padding, are_distinct}
use Rattle.dq_pdu.specs.Spelling.{IsProposed, IsAnsweredContext, AreFields, IsUserInformation, IsAssociate, IsRequest, IsAccept, request_fields, accept_fields}
use Rattle.dq_pdu.specs.PduReader.{item_at, proposed_of, answered_of, user_information_of, fields_of, associate_of, request_with, accept_with, request_of, accept_of}
use Rattle.dq_pdu.proofs.PartLaws.{some_is}
use Rattle.dq_pdu.proofs.ItemLaws.{items_fill}
use Rattle.dq_pdu.proofs.ContextLaws.{each_spelled, each_read, proposed_spelled, proposed_read, answered_spelled, answered_read, user_spelled, user_read}
use Rattle.dq_pdu.proofs.FieldLaws.{associate_spelled, fixed_from}

-- the fields at their places in the body
abbrev fields_at : List ℕ → Option (List ℕ) → Option ℕ → Associate
fields_at body application maximum = record {
  version = from_be_bytes w16 (take 2 body);
  called = take 16 (drop 4 body);
  calling = take 16 (drop 20 body);
  reserved = take 32 (drop 36 body);
  application_context = option_map without_uid_padding application;
  maximum_length = maximum;
}

fields_from : (body : List ℕ) (items : List Item) (application user : Option (List ℕ)) (maximum : Option ℕ)
    → at_most_one (bodies 16 items) ≡ Some application → at_most_one (bodies 80 items) ≡ Some user → user_information_of user ≡ Some maximum
    → fields_of body items ≡ Some (fields_at body application maximum)
unfolding fields_of
fields_from body items application user maximum e1 e2 e3 = rw (e1, e2, e3) refl

-- the fixed fields, the application context and the maximum length of a body with the items
pub record HasFields (fields : Associate) (items : List Item) (body : List ℕ) : Type 0 where
  pub fixed : AreFields fields.version fields.called fields.calling fields.reserved items body
  pub application : option_map (option_map without_uid_padding) (at_most_one (bodies 16 items)) ≡ Some fields.application_context
  pub user : IsUserInformation fields.maximum_length (bodies 80 items)

fields_spelled : (body : List ℕ) (items : List Item) (fields : Associate) → 68 ≤ length body → parts_of item_at (drop 68 body) ≡ Some items
    → fields_of body items ≡ Some fields → HasFields fields items body
unfolding fields_of
fields_spelled body items fields long read e =
    let made = λ (application : Option (List ℕ)) (maximum : Option ℕ). Some (fields_at body application maximum) in
    let with_user = λ (application user : Option (List ℕ)). user_information_of user >>= λ maximum. made application maximum in
    let s1 = bind_some (at_most_one (bodies 16 items)) (λ application. at_most_one (bodies 80 items) >>= λ user. with_user application user) fields e in
    let s2 = bind_some (at_most_one (bodies 80 items)) (with_user s1.0) fields s1.2 in
    let s3 = bind_some (user_information_of s2.0) (made s1.0) fields s2.2 in
    subst (λ (f : Associate). HasFields f items body) (some_is (fields_at body s1.0 s3.0) fields s3.2) (record {
      fixed = associate_spelled body items long (items_fill (drop 68 body) items read);
      application = ap (option_map (option_map without_uid_padding)) s1.1;
      user = user_spelled (bodies 80 items) s2.0 s3.0 s2.1 s3.1;
    })

name_found : (o : Option (Option (List ℕ))) (name : Option (List ℕ)) → option_map (option_map without_uid_padding) o ≡ Some name
    → (found : Option (List ℕ)) × (o ≡ Some found) × (option_map without_uid_padding found ≡ name)
name_found None name e = absurd cc
name_found (Some found) name e = (found, refl, cc)

fields_read : (fields : Associate) (items : List Item) (body : List ℕ) → HasFields fields items body → fields_of body items ≡ Some fields
fields_read fields items body has =
    let fixed = fixed_from fields.version fields.called fields.calling fields.reserved items body has.fixed in
    let name = name_found (at_most_one (bodies 16 items)) fields.application_context has.application in
    let user = bind_some (at_most_one (bodies 80 items)) user_information_of fields.maximum_length (user_read
    (bodies 80 items) fields.maximum_length has.user) in
    fields_from body items name.0 user.0 fields.maximum_length name.1 user.1 user.2 ∙ rw
    (fixed.version_is, fixed.called_is, fixed.calling_is, fixed.reserved_is, name.2) refl

-- ---- requests and acceptances by their contexts

module _ {C : Type 0} (Context : C → List ℕ → Type 0) (context_of : List ℕ → Option C) (id_of : C → ℕ) (kind : ℕ) where
  made_spelled : ((body : List ℕ) (context : C) → context_of body ≡ Some context → Context context body)
      → (body : List ℕ) (made : Associate × List C) → associate_of context_of id_of kind body ≡ Some made → IsAssociate Context kind id_of made.0 made.1 body
  unfolding associate_of
  made_spelled sound body made e =
      let last = λ (fields : Associate) (contexts : List C). only_if (are_distinct (map id_of contexts)) (fields, contexts) in
      let after_fields = λ (items : List Item) (fields : Associate). each_given context_of (bodies kind items) >>= λ contexts. last fields contexts in
      let after_items = λ (items : List Item). fields_of body items >>= λ fields. after_fields items fields in
      let s1 = bind_some (only_if (leb 68 (length body)) (drop 68 body)) (λ rest. parts_of item_at rest >>= λ items. after_items items) made e in
      let p1 = provided_some (leb 68 (length body)) (drop 68 body) s1.0 s1.1 in
      let s2 = bind_some (parts_of item_at s1.0) after_items made s1.2 in
      let s3 = bind_some (fields_of body s2.0) (after_fields s2.0) made s2.2 in
      let s4 = bind_some (each_given context_of (bodies kind s2.0)) (last s3.0) made s3.2 in
      let p4 = provided_some (are_distinct (map id_of s4.0)) (s3.0, s4.0) made s4.2 in
      let read : parts_of item_at (drop 68 body) ≡ Some s2.0 = ap (parts_of item_at) p1.1 ∙ s2.1 in
      let has = fields_spelled body s2.0 s3.0 (leb-true _ _ p1.0) read s3.1 in
      subst (λ (m : Associate × List C). IsAssociate Context kind id_of m.0 m.1 body) p4.1 (record {
        items = s2.0;
        fixed = has.fixed;
        application = has.application;
        each = each_spelled context_of Context sound (bodies kind s2.0) s4.0 s4.1;
        distinct = p4.0;
        user = has.user;
      })

  made_again : ((context : C) (body : List ℕ) → Context context body → context_of body ≡ Some context)
      → (fields : Associate) (contexts : List C) (body : List ℕ) → IsAssociate Context kind id_of fields contexts body
      → associate_of context_of id_of kind body ≡ Some (fields, contexts)
  unfolding associate_of
  made_again complete fields contexts body is =
      let fixed = fixed_from fields.version fields.called fields.calling fields.reserved is.items body is.fixed in
      let long = le-leb 68 (length body) fixed.long in
      let has = fields_read fields is.items body (record { fixed = is.fixed; application = is.application; user = is.user }) in
      let read = each_read context_of Context complete contexts (bodies kind is.items) is.each in
      rw (long, fixed.items_are, has, read, is.distinct) refl

abbrev proposed_id : ProposedContext → ℕ
proposed_id c = c.id

pub request_spelled : (body : List ℕ) (request : Request) → request_of body ≡ Some request → IsRequest request body
unfolding request_of
request_spelled body request e =
    let a = bind_some (associate_of proposed_of proposed_id 32 body) (λ read. Some (request_with read.0 read.1)) request e in
    subst (λ (r : Request). IsRequest r body) (some_is (request_with a.0.0 a.0.1) request a.2)
    (made_spelled IsProposed proposed_of proposed_id 32 proposed_spelled body a.0 a.1)

pub request_again : (request : Request) (body : List ℕ) → IsRequest request body → request_of body ≡ Some request
unfolding request_of
request_again request body is =
    ap (λ (o : Option (Associate × List ProposedContext)). o >>= λ read. Some (request_with read.0 read.1))
    (made_again IsProposed proposed_of proposed_id 32 proposed_read (request_fields request) request.contexts body is)

abbrev answered_id : AnsweredContext → ℕ
answered_id c = c.id

pub accept_spelled : (body : List ℕ) (accept : Accept) → accept_of body ≡ Some accept → IsAccept accept body
unfolding accept_of
accept_spelled body accept e =
    let a = bind_some (associate_of answered_of answered_id 33 body) (λ read. Some (accept_with read.0 read.1)) accept e in
    subst (λ (r : Accept). IsAccept r body) (some_is (accept_with a.0.0 a.0.1) accept a.2)
    (made_spelled IsAnsweredContext answered_of answered_id 33 answered_spelled body a.0 a.1)

pub accept_again : (accept : Accept) (body : List ℕ) → IsAccept accept body → accept_of body ≡ Some accept
unfolding accept_of
accept_again accept body is =
    ap (λ (o : Option (Associate × List AnsweredContext)). o >>= λ read. Some (accept_with read.0 read.1))
    (made_again IsAnsweredContext answered_of answered_id 33 answered_read (accept_fields accept) accept.contexts body is)
