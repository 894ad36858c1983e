-- The ids of the contexts of a request that was read.
use Rattle.std.proofs.Common.{◌≡◌, ℕ, suc, ◌<◌, true, ltb, eqb, List, [], ◌∷◌, ◌++◌, map, refl, subst, inl, inr, arith}
use Rattle.std.specs.List.{list_all}
use Rattle.std.proofs.lemmas.Bool.{and_from, eq-eqb, lt-ltb, cases_Bool}
use Rattle.dq_list.specs.Octets.{AreOctets}
use Rattle.dq_pdu.specs.declared.pdu_reader.Item.{Item}
use Rattle.dq_pdu.specs.declared.pdu.Pdu.TheVariants.{Request as request_pdu}
use Rattle.dq_pdu.specs.declared.pdu.Request.{Request}
use Rattle.dq_pdu.specs.declared.pdu.ProposedContext.{ProposedContext}
use Rattle.dq_pdu.specs.Octets.{Fills, Pairwise, bodies}
use Rattle.dq_pdu.specs.Spelling.{IsItem, IsProposed, SpellsPdu}
use Rattle.dq_pdu.specs.PduReader.{is_odd}
use Rattle.dq_pdu.specs.Acceptances.{IsReceived}

-- the same, one by one
abbrev Small : List ℕ → Type 0
Small [] = Unit {0}
Small (x ∷ xs) = (x < 256) × Small xs

small : (xs : List ℕ) → AreOctets xs → Small xs
small [] h = tt
small (x ∷ xs) h = (h 0, small xs (λ i. h (suc i)))

small_parts : (xs ys : List ℕ) → Small (xs ++ ys) → Small xs × Small ys
small_parts [] ys h = (tt, h)
small_parts (x ∷ xs) ys h = grind (arith, small_parts xs ys h.1)

abbrev EachSmall : List (List ℕ) → Type 0
EachSmall [] = Unit {0}
EachSmall (x ∷ xs) = Small x × EachSmall xs

-- the octets of items are octets of the body that they fill
bodies_small : (kind : ℕ) (items : List Item) (octets : List ℕ) → Fills IsItem items octets → Small octets → EachSmall (bodies kind items)
bodies_small kind [] octets fills h = tt
bodies_small kind (item ∷ items) octets fills h =
    let both = small_parts fills.0 fills.1 (subst Small fills.2 h) in
    let is = fills.3 in
    let front = small_parts (item.kind ∷ is.reserved ∷ is.size) item.octets (subst Small is.spelled both.0) in
    let others = bodies_small kind items fills.1 fills.4 both.1 in
    elim (cases_Bool (eqb item.kind kind)) [
      | inl same ↦ rw same (front.1, others)
      | inr other ↦ rw other others
    ]

abbrev ids : List ProposedContext → List ℕ
ids contexts = map (λ (c : ProposedContext). c.id) contexts

odd_ids : (contexts : List ProposedContext) (octets : List (List ℕ)) → Pairwise IsProposed contexts octets → list_all is_odd (ids contexts) ≡ true
odd_ids [] [] h = refl
odd_ids [] (body ∷ octets) h = absurd h
odd_ids (c ∷ cs) [] h = absurd h
odd_ids (c ∷ cs) (body ∷ octets) h = and_from (is_odd c.id) (list_all is_odd (ids cs)) (eq-eqb _ _ h.0.odd) (odd_ids cs octets h.1)

small_ids : (contexts : List ProposedContext) (octets : List (List ℕ)) → Pairwise IsProposed contexts octets → EachSmall octets
    → list_all (λ id. ltb id 256) (ids contexts) ≡ true
small_ids [] [] h s = refl
small_ids [] (body ∷ octets) h s = absurd h
small_ids (c ∷ cs) [] h s = absurd h
small_ids (c ∷ cs) (body ∷ octets) h s = grind (arith, and_from, lt-ltb, small_ids cs octets h.1 s.1)

pub received : (octets : List ℕ) (request : Request) → AreOctets octets → SpellsPdu (request_pdu request) octets → IsReceived request
received octets request octets_are s =
    let is = s.says.1 in
    let all = subst Small s.whole (small octets octets_are) in
    let body = (small_parts (s.kind ∷ s.reserved ∷ s.size) s.body all).1 in
    let fixed = is.fixed in
    let front = fixed.number ++ fixed.gap ++ request.called ++ request.calling ++ request.reserved in
    let rest = (small_parts front fixed.rest (subst Small fixed.spelled body)).1 in
    let contexts = bodies_small 32 is.items fixed.rest fixed.fills rest in
    record {
      ids = record {
        odd = odd_ids request.contexts (bodies 32 is.items) is.each;
        octets = small_ids request.contexts
            (bodies 32 is.items) is.each contexts;
        distinct = is.distinct;
      };
      called_sixteen = fixed.called_sixteen;
      calling_sixteen = fixed.calling_sixteen;
      reserved_thirty_two = fixed.reserved_thirty_two;
    }
