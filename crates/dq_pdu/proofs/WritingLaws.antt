-- What is written fills its place with items, and is a spelling where identifiers end without padding.
use Rattle.std.proofs.Common.{◌≡◌, ℕ, ◌+◌, ◌/◌, ◌%◌, ◌^◌, ◌<◌, ◌≤◌, Bool, true, false, cond, eqb, List, [], ◌∷◌, ◌++◌, length, map, drop, Some, refl, sym, ap, subst, ◌∙◌, append_assoc, arith, length-append}
use Rattle.std.specs.Prelude.{◌&&◌, not, option_map}
use Rattle.std.specs.List.{flat_map, list_all}
use Rattle.std.specs.Int.{w16, w32, to_be_bytes}
use Rattle.std.proofs.lemmas.Bool.{and_parts, and_from, eqb-true, eq-eqb, not-true, cases_Bool}
use Rattle.std.proofs.lemmas.List.{append-nil, drop_at}
use Rattle.std.proofs.lemmas.Nat.{from_be_bytes-to_be_bytes_2, from_be_bytes-to_be_bytes_4}
use Rattle.dq_pdu.specs.declared.pdu_reader.Item.{Item}
use Rattle.dq_pdu.specs.declared.pdu.ProposedContext.{ProposedContext}
use Rattle.dq_pdu.specs.declared.pdu.AnsweredContext.{AnsweredContext}
use Rattle.dq_pdu.specs.declared.pdu.Pdv.{Pdv}
use Rattle.dq_list.specs.Lengths.{is_empty}
use Rattle.dq_pdu.specs.Octets.{Fills, bodies, exactly_one, is_uid_padding, without_uid_padding}
use Rattle.dq_pdu.specs.Spelling.{IsItem, IsPdv, IsProposed, IsAnsweredContext}
use Rattle.dq_pdu.specs.Writing.{item, control_header, pdv, proposed_body, answered_body, is_bare, is_proposable, is_answerable}
use Rattle.dq_pdu.specs.PduReader.{is_odd}
use Rattle.dq_pdu.proofs.ContextLaws.{not_nil, filled}
use Rattle.dq_pdu.proofs.PartLaws.{some_is}
use Rattle.dq_pdu.proofs.ItemLaws.{items_once}

-- ---- identifiers

tail_stays : (p : Bool) (x : ℕ) (xs : List ℕ) → cond (p && false) [] (x ∷ xs) ≡ x ∷ xs
tail_stays true x xs = refl
tail_stays false x xs = refl

pub bare_stays : (octets : List ℕ) → is_bare octets ≡ true → without_uid_padding octets ≡ octets
bare_stays [] e = refl
bare_stays (x ∷ []) e = rw (not-true (is_uid_padding x) e) refl
bare_stays (x ∷ y ∷ ys) e = rw (bare_stays (y ∷ ys) e) (tail_stays (is_uid_padding x) x (y ∷ ys))

unpadded_once : (b : Bool) (x : ℕ) (xs ys : List ℕ) → cond b [] (x ∷ xs) ≡ x ∷ ys → (b ≡ false) × (xs ≡ ys)
unpadded_once true x xs ys e = absurd cc
unpadded_once false x xs ys e = (refl, cc)

pub stays_bare : (octets : List ℕ) → without_uid_padding octets ≡ octets → is_bare octets ≡ true
stays_bare [] e = refl
stays_bare (x ∷ []) e = grind (arith, unpadded_once, cases_Bool)
stays_bare (x ∷ y ∷ ys) e = stays_bare (y ∷ ys) (unpadded_once (is_uid_padding x && is_empty (without_uid_padding (y ∷ ys))) x (without_uid_padding (y ∷ ys)) (y ∷ ys) e).1

pub all_stay : (names : List (List ℕ)) → list_all is_bare names ≡ true → map without_uid_padding names ≡ names
all_stay [] e = refl
all_stay (name ∷ names) e =
    let p = and_parts (is_bare name) (list_all is_bare names) e in
    rw (bare_stays name p.0, all_stay names p.1) refl

pub all_bare : (names : List (List ℕ)) → map without_uid_padding names ≡ names → list_all is_bare names ≡ true
all_bare [] e = refl
all_bare (name ∷ names) e =
    let one : without_uid_padding name ≡ name = cc in
    let others : map without_uid_padding names ≡ names = cc in
    and_from (is_bare name) (list_all is_bare names) (stays_bare name one) (all_bare names others)

-- ---- items

abbrev pub of_kind : ℕ → List ℕ → Item
of_kind kind body = record { kind = kind; octets = body }

pub item_written : (kind : ℕ) (body : List ℕ) → length body < 65536 → IsItem (of_kind kind body) (item kind body)
item_written kind body h = record {
  reserved = 0;
  size = to_be_bytes w16
      (length body);
  spelled = refl;
  sized = record { wide = refl; value = from_be_bytes-to_be_bytes_2 (length body) h };
}

pub fills-append : {A : Type 0} (Part : A → List ℕ → Type 0) (xs ys : List A) (a b : List ℕ) → Fills Part xs a → Fills Part ys b
    → Fills Part (xs ++ ys) (a ++ b)
fills-append Part [] ys a b f g = rw f g
fills-append Part (x ∷ xs) ys a b f g =
    (f.0, f.1 ++ b, ap (λ (o : List ℕ). o ++ b) f.2 ∙ append_assoc f.0 f.1 b, f.3, fills-append Part xs ys f.1 b f.4 g)

pub fills_one : {A : Type 0} (Part : A → List ℕ → Type 0) (x : A) (octets : List ℕ) → Part x octets → Fills Part (x ∷ []) octets
fills_one Part x octets p = (octets, [], sym (append-nil octets), p, refl)

pub items_written : {X : Type 0} (kind : ℕ) (f : X → List ℕ) (xs : List X) → length (flat_map (λ x. item kind (f x)) xs) ≤ 65536
    → Fills IsItem (map (λ x. of_kind kind (f x)) xs) (flat_map (λ x. item kind (f x)) xs)
items_written kind f [] h = refl
items_written kind f (x ∷ xs) h =
    let n = length-append (item kind (f x)) (flat_map (λ y. item kind (f y)) xs) in
    (item kind (f x), flat_map (λ y. item kind (f y)) xs, refl, item_written kind (f x) (omega (arith, n, h)), items_written kind f xs (omega (arith, n, h)))

bodies_next : (b : Bool) (o : List ℕ) (all xs ys : List (List ℕ)) → all ≡ xs ++ ys → cond b (o ∷ all) all ≡ cond b (o ∷ xs) xs ++ ys
bodies_next true o all xs ys e = ap (λ os. o ∷ os) e
bodies_next false o all xs ys e = e

pub bodies-append : (kind : ℕ) (xs ys : List Item) → bodies kind (xs ++ ys) ≡ bodies kind xs ++ bodies kind ys
bodies-append kind [] ys = refl
bodies-append kind (x ∷ xs) ys = bodies_next (eqb x.kind kind) x.octets (bodies kind (xs ++ ys)) (bodies kind xs) (bodies kind ys) (bodies-append kind xs ys)

pub bodies_same : {X : Type 0} (kind : ℕ) (f : X → List ℕ) (xs : List X) → bodies kind (map (λ x. of_kind kind (f x)) xs) ≡ map f xs
bodies_same kind f [] = refl
bodies_same kind f (x ∷ xs) = rw (eq-eqb kind kind refl, bodies_same kind f xs) refl

pub bodies_other : {X : Type 0} (kind other : ℕ) (f : X → List ℕ) (xs : List X) → eqb kind other ≡ false → bodies other (map (λ x. of_kind kind (f x)) xs) ≡ []
bodies_other kind other f [] e = refl
bodies_other kind other f (x ∷ xs) e = rw e (bodies_other kind other f xs e)

-- ---- presentation data values

control_bits : (command last : Bool) → (command ≡ eqb (control_header command last % 2) 1) × (last ≡ eqb (control_header command last / 2 % 2) 1)
control_bits true true = (refl, refl)
control_bits true false = (refl, refl)
control_bits false true = (refl, refl)
control_bits false false = (refl, refl)

pub pdv_written : (value : Pdv) → length value.octets + 2 < 2 ^ 32 → IsPdv value (pdv value)
pdv_written value h =
    let bits = control_bits value.command value.last in
    record {
      control = control_header value.command value.last;
      size = to_be_bytes w32
          (length value.octets + 2);
      spelled = refl;
      sized = record {
        wide = refl;
        value = from_be_bytes-to_be_bytes_4
            (length value.octets + 2) h;
      };
      command = bits.0;
      last = bits.1;
    }

pub values_written : (values : List Pdv) → length (flat_map pdv values) ≤ 65536 → Fills IsPdv values (flat_map pdv values)
values_written [] h = refl
values_written (value ∷ values) h =
    let n = length-append (pdv value) (flat_map pdv values) in
    (pdv value, flat_map pdv values, refl, pdv_written value (omega (arith, n, h)), values_written values (omega (arith, n, h)))

-- ---- proposed contexts

abbrev same : List ℕ → List ℕ
same name = name

map_same : (names : List (List ℕ)) → map same names ≡ names
map_same [] = refl
map_same (name ∷ names) = ap (λ ns. name ∷ ns) (map_same names)

abbrev names_as : ℕ → List (List ℕ) → List Item
names_as kind names = map (λ name. of_kind kind (same name)) names

abbrev proposed_items : ProposedContext → List Item
proposed_items c = of_kind 48 c.abstract_syntax ∷ names_as 64 c.transfer_syntaxes

proposed_fills : (c : ProposedContext) → length (proposed_body c) ≤ 65536
    → Fills IsItem (proposed_items c) (item 48 c.abstract_syntax ++ flat_map (item 64) c.transfer_syntaxes)
proposed_fills c h =
    let n = length-append (item 48 c.abstract_syntax) (flat_map (item 64) c.transfer_syntaxes) in (
      item 48 c.abstract_syntax,
      flat_map (item 64) c.transfer_syntaxes,
      refl,
      item_written 48 c.abstract_syntax (omega
          (arith, n, h)),
      items_written 64 same c.transfer_syntaxes (omega (arith, n, h)),
    )

abstract_found : (c : ProposedContext) → exactly_one (bodies 48 (proposed_items c)) ≡ Some c.abstract_syntax
abstract_found c = rw (bodies_other 64 48 same c.transfer_syntaxes refl) refl

transfers_found : (c : ProposedContext) → bodies 64 (proposed_items c) ≡ c.transfer_syntaxes
transfers_found c = bodies_same 64 same c.transfer_syntaxes ∙ map_same c.transfer_syntaxes

pub proposed_written : (c : ProposedContext) → length (proposed_body c) ≤ 65536 → is_proposable c ≡ true → IsProposed c (proposed_body c)
proposed_written c h e =
    let p = and_parts (is_odd c.id && is_bare c.abstract_syntax && not (is_empty c.transfer_syntaxes)) (list_all is_bare c.transfer_syntaxes) e in
    let q = and_parts (is_odd c.id && is_bare c.abstract_syntax) (not (is_empty c.transfer_syntaxes)) p.0 in
    let r = and_parts (is_odd c.id) (is_bare c.abstract_syntax) q.0 in
    record {
      reserved = 0 ∷ 0 ∷ 0 ∷ [];
      rest = item 48 c.abstract_syntax ++ flat_map (item 64) c.transfer_syntaxes;
      items = proposed_items c;
      spelled = refl;
      three = refl;
      odd = eqb-true _ _ r.0;
      fills = proposed_fills c h;
      abstract = ap (option_map without_uid_padding) (abstract_found c) ∙ ap (λ n. Some n) (bare_stays c.abstract_syntax r.1);
      transfer = sym (ap (map without_uid_padding) (transfers_found c) ∙ all_stay c.transfer_syntaxes p.1);
      some = not_nil c.transfer_syntaxes q.1;
    }

-- what stands after the three reserved octets
after_three : (id : ℕ) (reserved rest other : List ℕ) (a b c : ℕ) → length reserved ≡ 3 → id ∷ a ∷ b ∷ c ∷ other ≡ id ∷ reserved ++ rest → other ≡ rest
after_three id reserved rest other a b c h e = ap (drop 4) e ∙ drop_at (id ∷ reserved) rest 4 (omega (arith, h))

pub proposed_tells : (c : ProposedContext) → length (proposed_body c) ≤ 65536 → IsProposed c (proposed_body c) → is_proposable c ≡ true
proposed_tells c h is =
    let octets = item 48 c.abstract_syntax ++ flat_map (item 64) c.transfer_syntaxes in
    let rest : octets ≡ is.rest = after_three c.id is.reserved is.rest octets 0 0 0 is.three is.spelled in
    let items : is.items ≡ proposed_items c = items_once is.items (proposed_items c) octets (subst (Fills IsItem is.items) (sym rest) is.fills)
    (proposed_fills c h) in
    let abstract : Some (without_uid_padding c.abstract_syntax) ≡ Some c.abstract_syntax = ap (option_map without_uid_padding) (sym (abstract_found c)) ∙ ap (λ
    (is : List Item). option_map without_uid_padding (exactly_one (bodies 48 is))) (sym items) ∙ is.abstract in
    let transfers : map without_uid_padding c.transfer_syntaxes ≡ c.transfer_syntaxes = ap (map without_uid_padding) (sym (transfers_found c)) ∙ ap (λ
    (is : List Item). map without_uid_padding (bodies 64 is)) (sym items) ∙ sym is.transfer in
    let t1 = and_from (is_odd c.id) (is_bare c.abstract_syntax) (eq-eqb _ _ is.odd) (stays_bare c.abstract_syntax (some_is
    (without_uid_padding c.abstract_syntax) c.abstract_syntax abstract)) in
    let t2 = and_from (is_odd c.id && is_bare c.abstract_syntax) (not (is_empty c.transfer_syntaxes)) t1 (filled c.transfer_syntaxes is.some) in
    and_from (is_odd c.id && is_bare c.abstract_syntax && not (is_empty c.transfer_syntaxes)) (list_all is_bare c.transfer_syntaxes) t2
    (all_bare c.transfer_syntaxes transfers)

-- ---- answered contexts

answered_fills : (c : AnsweredContext) → length (answered_body c) ≤ 65536 → Fills IsItem (of_kind 64 c.transfer_syntax ∷ []) (item 64 c.transfer_syntax)
answered_fills c h = fills_one IsItem (of_kind 64 c.transfer_syntax) (item 64 c.transfer_syntax) (item_written 64 c.transfer_syntax (omega (arith, h)))

pub answered_written : (c : AnsweredContext) → length (answered_body c) ≤ 65536 → is_answerable c ≡ true → IsAnsweredContext c (answered_body c)
answered_written c h e =
    let p = and_parts (is_odd c.id) (is_bare c.transfer_syntax) e in
    record {
      before = 0;
      behind = 0;
      rest = item 64 c.transfer_syntax;
      items = of_kind 64 c.transfer_syntax ∷ [];
      spelled = refl;
      odd = eqb-true _ _ p.0;
      fills = answered_fills c h;
      transfer = ap (λ n. Some n) (bare_stays c.transfer_syntax p.1);
    }

pub answered_tells : (c : AnsweredContext) → length (answered_body c) ≤ 65536 → IsAnsweredContext c (answered_body c) → is_answerable c ≡ true
answered_tells c h is =
    let rest : item 64 c.transfer_syntax ≡ is.rest = ap (drop 4) is.spelled in
    let items : is.items ≡ of_kind 64 c.transfer_syntax ∷ [] = items_once is.items (of_kind 64 c.transfer_syntax ∷ []) (item 64 c.transfer_syntax) (subst
    (Fills IsItem is.items) (sym rest) is.fills) (answered_fills c h) in
    let transfer : Some (without_uid_padding c.transfer_syntax) ≡ Some c.transfer_syntax = ap (λ (is : List Item). option_map without_uid_padding (exactly_one (bodies 64 is)))
    (sym items) ∙ is.transfer in
    and_from (is_odd c.id) (is_bare c.transfer_syntax) (eq-eqb _ _ is.odd) (stays_bare c.transfer_syntax (some_is
    (without_uid_padding c.transfer_syntax) c.transfer_syntax transfer))
