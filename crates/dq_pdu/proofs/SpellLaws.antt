-- PDUs: what is read is spelled so, what is spelled so is read, and octets spell at most one PDU.
use Rattle.std.proofs.Common.{◌≡◌, ◌≢◌, ℕ, ◌+◌, ◌≤◌, Bool, true, false, cond, eqb, List, [], ◌∷◌, ◌++◌, length, get_or, take, drop, Option, Some, None, refl, sym, ap, subst, ◌∙◌, append_assoc, arith, length-append, length-drop, inl, inr}
use Rattle.std.specs.Prelude.{option_map, ◌⊎◌}
use Rattle.std.specs.Int.{w32, from_be_bytes}
use Rattle.std.proofs.lemmas.Bool.{eqb-true}
use Rattle.std.proofs.lemmas.List.{take_at, drop_at, length-take-le}
use Rattle.dq_pdu.specs.declared.pdu.Pdu.{Pdu}
use Rattle.dq_pdu.specs.declared.pdu.Pdu.TheVariants.{Request as request_pdu, Accept as accept_pdu, Reject, PData, ReleaseRq, ReleaseRp, Abort}
use Rattle.dq_pdu.specs.declared.pdu.Pdv.{Pdv}
use Rattle.dq_pdu.specs.declared.pdu.Request.{Request}
use Rattle.dq_pdu.specs.declared.pdu_reader.FirstPdu.TheVariants.{Whole}
use Rattle.dq_pdu.specs.declared.pdu.Accept.{Accept}
use Rattle.dq_list.proofs.Readers.{bind_some, provided_some}
use Rattle.dq_pdu.specs.Octets.{parts_of}
use Rattle.dq_pdu.specs.Spelling.{IsBody, SpellsPdu}
use Rattle.dq_pdu.specs.PduReader.{pdv_at, request_of, accept_of, data_pdu_of, if_short, pdu_of, first_pdu, body_length, is_unrecognized}
use Rattle.dq_pdu.proofs.PartLaws.{some_is}
use Rattle.dq_pdu.proofs.ItemLaws.{values_fill, values_read}
use Rattle.dq_pdu.proofs.ContextLaws.{not_nil, filled}
use Rattle.dq_pdu.proofs.AssociateLaws.{request_spelled, request_again, accept_spelled, accept_again}
use Rattle.dq_pdu.proofs.FirstPdus.{IsWhole, whole_is, whole_from}

-- which of two it was
chose : {A : Type 0} (b : Bool) (x y z : A) → cond b x y ≡ z → ((b ≡ true) × (x ≡ z)) ⊎ ((b ≡ false) × (y ≡ z))
chose true x y z e = inl (refl, e)
chose false x y z e = inr (refl, e)

request_made : (o : Option Request) (pdu : Pdu) → option_map request_pdu o ≡ Some pdu → (r : Request) × (o ≡ Some r) × (request_pdu r ≡ pdu)
request_made None pdu e = absurd cc
request_made (Some r) pdu e = (r, refl, cc)

accept_made : (o : Option Accept) (pdu : Pdu) → option_map accept_pdu o ≡ Some pdu → (a : Accept) × (o ≡ Some a) × (accept_pdu a ≡ pdu)
accept_made None pdu e = absurd cc
accept_made (Some a) pdu e = (a, refl, cc)

four_octets : (body : List ℕ) → length body ≡ 4 → (a b c d : ℕ) × (body ≡ a ∷ b ∷ c ∷ d ∷ [])
four_octets [] h = absurd (omega arith)
four_octets (a ∷ []) h = absurd (omega arith)
four_octets (a ∷ b ∷ []) h = absurd (omega arith)
four_octets (a ∷ b ∷ c ∷ []) h = absurd (omega arith)
four_octets (a ∷ b ∷ c ∷ d ∷ []) h = (a, b, c, d, refl)
four_octets (a ∷ b ∷ c ∷ d ∷ f ∷ fs) h = absurd (omega arith)

request_body : (body : List ℕ) (pdu : Pdu) → option_map request_pdu (request_of body) ≡ Some pdu → IsBody pdu 1 body
request_body body pdu e = grind (arith, request_made, request_spelled)

accept_body : (body : List ℕ) (pdu : Pdu) → option_map accept_pdu (accept_of body) ≡ Some pdu → IsBody pdu 2 body
accept_body body pdu e = grind (arith, accept_made, accept_spelled)

values_body : (body : List ℕ) (pdu : Pdu) → data_pdu_of body ≡ Some pdu → IsBody pdu 4 body
unfolding data_pdu_of
values_body body pdu e = grind (arith, bind_some, provided_some, not_nil, values_fill)

reject_body : (body : List ℕ) → length body ≡ 4 → IsBody (Reject (get_or body 1 0) (get_or body 2 0) (get_or body 3 0)) 3 body
reject_body body h = grind (arith, four_octets)

abort_body : (body : List ℕ) → length body ≡ 4 → IsBody (Abort (get_or body 2 0) (get_or body 3 0)) 7 body
abort_body body h = grind (arith, four_octets)

-- a PDU whose body has four octets
four_body : (kind : ℕ) (body : List ℕ) (made pdu : Pdu) → (length body ≡ 4 → IsBody made kind body) → if_short body made ≡ Some pdu → IsBody pdu kind body
four_body kind body made pdu is e = grind (arith, provided_some, eqb-true)

body_of_kind : (kind n : ℕ) (body : List ℕ) (pdu : Pdu) → eqb kind n ≡ true → IsBody pdu n body → IsBody pdu kind body
body_of_kind kind n body pdu e is = subst (λ (k : ℕ). IsBody pdu k body) (sym (eqb-true kind n e)) is

pub pdu_spelled : (kind : ℕ) (body : List ℕ) (pdu : Pdu) → pdu_of kind body ≡ Some pdu → IsBody pdu kind body
unfolding pdu_of
pdu_spelled kind body pdu e =
    let reject = Reject (get_or body 1 0) (get_or body 2 0) (get_or body 3 0) in
    let abort = Abort (get_or body 2 0) (get_or body 3 0) in
    let o7 = cond (eqb kind 7) (if_short body abort) None in
    let o6 = cond (eqb kind 6) (if_short body ReleaseRp) o7 in
    let o5 = cond (eqb kind 5) (if_short body ReleaseRq) o6 in
    let o4 = cond (eqb kind 4) (data_pdu_of body) o5 in
    let o3 = cond (eqb kind 3) (if_short body reject) o4 in
    let o2 = cond (eqb kind 2) (option_map accept_pdu (accept_of body)) o3 in
    elim (chose (eqb kind 1) (option_map request_pdu (request_of body)) o2 (Some pdu) e) [
      | inl h ↦ body_of_kind kind 1 body pdu h.0 (request_body body pdu h.1)
      | inr n1 ↦ elim (chose (eqb kind 2) (option_map accept_pdu (accept_of body)) o3 (Some pdu) n1.1) [
        | inl h ↦ body_of_kind kind 2 body pdu h.0 (accept_body body pdu h.1)
        | inr n2 ↦ elim (chose (eqb kind 3) (if_short body reject) o4 (Some pdu) n2.1) [
          | inl h ↦ body_of_kind kind 3 body pdu h.0 (four_body 3 body reject pdu (reject_body body) h.1)
          | inr n3 ↦ elim (chose (eqb kind 4) (data_pdu_of body) o5 (Some pdu) n3.1) [
            | inl h ↦ body_of_kind kind 4 body pdu h.0 (values_body body pdu h.1)
            | inr n4 ↦ elim (chose (eqb kind 5) (if_short body ReleaseRq) o6 (Some pdu) n4.1) [
              | inl h ↦ body_of_kind kind 5 body pdu h.0 (four_body 5 body ReleaseRq pdu (λ n. (refl, n)) h.1)
              | inr n5 ↦ elim (chose (eqb kind 6) (if_short body ReleaseRp) o7 (Some pdu) n5.1) [
                | inl h ↦ body_of_kind kind 6 body pdu h.0 (four_body 6 body ReleaseRp pdu (λ n. (refl, n)) h.1)
                | inr n6 ↦ elim (chose (eqb kind 7) (if_short body abort) None (Some pdu) n6.1) [
                  | inl h ↦ body_of_kind kind 7 body pdu h.0 (four_body 7 body abort pdu (abort_body body) h.1)
                  | inr n7 ↦ absurd (let z = n7.1 in cc)
                ]
              ]
            ]
          ]
        ]
      ]
    ]

values_again : (values : List Pdv) (body : List ℕ) → (values ≢ []) → parts_of pdv_at body ≡ Some values → data_pdu_of body ≡ Some (PData values)
unfolding data_pdu_of
values_again values body some e = grind (arith, filled)

pub pdu_read : (pdu : Pdu) (kind : ℕ) (body : List ℕ) → IsBody pdu kind body → pdu_of kind body ≡ Some pdu
unfolding pdu_of
pdu_read (request_pdu request) kind body is = rw (is.0, request_again request body is.1) refl
pdu_read (accept_pdu accept) kind body is = rw (is.0, accept_again accept body is.1) refl
pdu_read (Reject result source reason) kind body is = rw (is.0, is.2) refl
pdu_read (PData values) kind body is = ap (λ k. pdu_of k body) is.0 ∙ values_again values body is.1 (values_read values body is.2)
pdu_read ReleaseRq kind body is = rw (is.0, is.1) refl
pdu_read ReleaseRp kind body is = rw (is.0, is.1) refl
pdu_read (Abort source reason) kind body is = rw (is.0, is.3) refl

abbrev head : List ℕ → ℕ
head o = get_or o 0 0

pub spells_once : (octets : List ℕ) (pdu other : Pdu) → SpellsPdu pdu octets → SpellsPdu other octets → pdu ≡ other
spells_once octets pdu other p q =
    let e : p.kind ∷ p.reserved ∷ (p.size ++ p.body) ≡ q.kind ∷ q.reserved ∷ (q.size ++ q.body) = sym p.whole ∙ q.whole in
    let kind : p.kind ≡ q.kind = ap head e in
    let behind : p.size ++ p.body ≡ q.size ++ q.body = ap (λ (o : List ℕ). drop 2 o) e in
    let body : p.body ≡ q.body = sym (drop_at p.size p.body 4 p.sized.wide) ∙ ap (drop 4) behind ∙ drop_at q.size q.body 4 q.sized.wide in
    let read = pdu_read other q.kind q.body q.says in
    some_is pdu other (sym (pdu_read pdu p.kind p.body p.says) ∙ ap (λ k. pdu_of k p.body) kind ∙ ap (pdu_of q.kind) body ∙ read)

-- ---- the front of octets

whole_at : (kind reserved : ℕ) (size body behind : List ℕ) (pdu : Pdu) → is_unrecognized kind ≡ false → length size ≡ 4
    → from_be_bytes w32 size ≡ length body → length body ≤ 65536 → pdu_of kind body ≡ Some pdu
    → IsWhole (kind ∷ reserved ∷ (size ++ body) ++ behind) pdu (length body + 6)
whole_at kind reserved size body behind pdu known four n short e =
    let grouped : (kind ∷ reserved ∷ (size ++ body)) ++ behind ≡ kind ∷ reserved ∷ (size ++ (body ++ behind)) = ap (λ (o : List ℕ). kind ∷ reserved ∷ o)
    (append_assoc size body behind) in
    let s = take_at size (body ++ behind) 4 four in
    let d : drop 6 (kind ∷ reserved ∷ (size ++ (body ++ behind))) ≡ body ++ behind = drop_at size (body ++ behind) 4 four in
    let len : body_length (kind ∷ reserved ∷ (size ++ (body ++ behind))) ≡ length body = ap (from_be_bytes w32) s ∙ n in
    rw grouped (record {
      six = omega (arith, four, length-append size (body ++ behind));
      known = known;
      fits = rw len short;
      enough = rw (len, d) (omega (arith, length-append body behind));
      read = rw (len, d, take_at body behind (length body) refl) e;
      count_is = rw len refl;
    })

known_kind : (pdu : Pdu) (kind : ℕ) (body : List ℕ) → IsBody pdu kind body → is_unrecognized kind ≡ false
known_kind (request_pdu request) kind body is = rw is.0 refl
known_kind (accept_pdu accept) kind body is = rw is.0 refl
known_kind (Reject result source reason) kind body is = rw is.0 refl
known_kind (PData values) kind body is = rw is.0 refl
known_kind ReleaseRq kind body is = rw is.0 refl
known_kind ReleaseRp kind body is = rw is.0 refl
known_kind (Abort source reason) kind body is = rw is.0 refl

pub spelled_read : (pdu : Pdu) (octets behind : List ℕ) → SpellsPdu pdu octets → first_pdu (octets ++ behind) ≡ Whole pdu (length octets)
spelled_read pdu octets behind s =
    let w = whole_at s.kind s.reserved s.size s.body behind pdu (known_kind pdu s.kind s.body s.says) s.sized.wide s.sized.value s.short
    (pdu_read pdu s.kind s.body s.says) in
    let count : length s.body + 6 ≡ length octets = omega (arith, ap length s.whole, length-append s.size s.body, s.sized.wide) in
    ap (λ (o : List ℕ). first_pdu (o ++ behind)) s.whole ∙ whole_from _ pdu (length s.body + 6) w ∙ ap (Whole pdu) count

front_split : (s : List ℕ) (n : ℕ) → 6 ≤ length s → take (n + 6) s ≡ get_or s 0 0 ∷ get_or s 1 0 ∷ (take 4 (drop 2 s) ++ take n (drop 6 s))
front_split [] n h = absurd (omega arith)
front_split (a ∷ []) n h = absurd (omega arith)
front_split (a ∷ b ∷ []) n h = absurd (omega arith)
front_split (a ∷ b ∷ c ∷ []) n h = absurd (omega arith)
front_split (a ∷ b ∷ c ∷ d ∷ []) n h = absurd (omega arith)
front_split (a ∷ b ∷ c ∷ d ∷ f ∷ []) n h = absurd (omega arith)
front_split (a ∷ b ∷ c ∷ d ∷ f ∷ g ∷ s) n h = grind arith

pub front_spelled : (s : List ℕ) (pdu : Pdu) (count : ℕ) → first_pdu s ≡ Whole pdu count → SpellsPdu pdu (take count s)
front_spelled s pdu count e = grind (arith, whole_is, pdu_spelled, length-take-le, front_split, length-drop)
