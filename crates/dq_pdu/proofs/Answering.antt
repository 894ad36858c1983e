-- An acceptance that answers the contexts of a request is written.
use Rattle.std.proofs.Common.{◌≡◌, ℕ, ◌*◌, ◌≤◌, true, leb, List, [], ◌∷◌, ◌++◌, length, map, Option, Some, None, refl, arith, length-append}
use Rattle.std.specs.List.{flat_map, list_all}
use Rattle.std.proofs.lemmas.Bool.{and_parts, and_from, leb-true, le-leb}
use Rattle.dq_pdu.specs.declared.pdu.Pdu.TheVariants.{Accept as accept_pdu}
use Rattle.dq_pdu.specs.declared.pdu.Accept.{Accept}
use Rattle.dq_pdu.specs.declared.pdu.AnsweredContext.{AnsweredContext}
use Rattle.dq_pdu.specs.PduReader.{is_odd}
use Rattle.dq_pdu.specs.Writing.{answered_context_octets, application_context, accept_information, fixed_fields, accept, is_bare, is_uid_name, is_answerable, IsWritable}
use Rattle.dq_pdu.specs.Acceptances.{is_identifier_or_none, has_identifier, IsAcceptance}
use Rattle.dq_pdu.proofs.ContextIds.{few_ids}
use Rattle.dq_pdu.proofs.WritableLaws.{written}

abbrev ids : List AnsweredContext → List ℕ
ids contexts = map (λ (c : AnsweredContext). c.id) contexts

answerable : (contexts : List AnsweredContext) → list_all is_odd (ids contexts) ≡ true → list_all has_identifier contexts ≡ true
    → list_all is_answerable contexts ≡ true
answerable [] o n = refl
answerable (c ∷ cs) o n =
    let p = and_parts (is_odd c.id) (list_all is_odd (ids cs)) o in
    let q = and_parts (has_identifier c) (list_all has_identifier cs) n in
    let bare = and_parts (is_bare c.transfer_syntax) (leb (length c.transfer_syntax) 64) q.0 in
    and_from (is_answerable c) (list_all is_answerable cs) (and_from (is_odd c.id) (is_bare c.transfer_syntax) p.0 bare.0) (answerable cs p.1 q.1)

contexts_length : (contexts : List AnsweredContext) → list_all has_identifier contexts ≡ true → length (flat_map answered_context_octets contexts) ≤ 76 * length contexts
contexts_length [] n = omega arith
contexts_length (c ∷ cs) n =
    let q = and_parts (has_identifier c) (list_all has_identifier cs) n in
    let bare = and_parts (is_bare c.transfer_syntax) (leb (length c.transfer_syntax) 64) q.0 in
    let short : length c.transfer_syntax ≤ 64 = leb-true _ _ bare.1 in
    let ih = contexts_length cs q.1 in
    omega (arith, short, ih, length-append (answered_context_octets c) (flat_map answered_context_octets cs))

ids_length : (contexts : List AnsweredContext) → length (ids contexts) ≡ length contexts
ids_length [] = refl
ids_length (c ∷ cs) = omega (arith, ids_length cs)

name_length : (name : Option (List ℕ)) → is_identifier_or_none name ≡ true → (length (application_context name) ≤ 68) × (is_uid_name name ≡ true)
name_length None e = (omega arith, refl)
name_length (Some name) e = grind (arith, and_parts, leb-true)

information_length : (maximum : Option ℕ) → length (accept_information maximum) ≤ 45
information_length None = omega arith
information_length (Some n) = omega arith

fields_length : (version : ℕ) (called calling reserved : List ℕ) → length called ≡ 16 → length calling ≡ 16 → length reserved ≡ 32
    → length (fixed_fields version called calling reserved) ≡ 68
fields_length version called calling reserved h i j = grind (arith, length-append)

answer_length : (a : Accept) → IsAcceptance a → length (accept a) ≤ 65536
answer_length a is =
    let few = few_ids (ids a.contexts) is.ids in
    let same = ids_length a.contexts in
    let contexts = contexts_length a.contexts is.syntaxes in
    let name = name_length a.application_context is.application in
    let information = information_length a.maximum_length in
    let fields = fixed_fields a.version a.called a.calling a.reserved in
    let front = application_context a.application_context ++ flat_map answered_context_octets a.contexts in
    let n1 = length-append fields (front ++ accept_information a.maximum_length) in
    let n2 = length-append front (accept_information a.maximum_length) in
    let n3 = length-append (application_context a.application_context) (flat_map answered_context_octets a.contexts) in
    let fixed = fields_length a.version a.called a.calling a.reserved is.wide.called_sixteen is.wide.calling_sixteen is.wide.reserved_thirty_two in
    omega (arith, few, same, contexts, name.0, information, fixed, n1, n2, n3)

pub answer_written : (a : Accept) → IsAcceptance a → IsWritable (accept_pdu a)
answer_written a is = grind (arith, name_length, answerable, and_from, written, le-leb, answer_length)
