-- A query that is held, and what of it was sent.
use Rattle.std.proofs.Common.{◌≡◌, ℕ, ◌+◌, ◌<◌, ◌≤◌, nat_le, Bool, if◌then◌else◌, Some, None, ◌⊎◌, inl, inr, true, false, List, [], ◌∷◌, ◌++◌, length, map, take, drop, refl, sym, ap, ◌∙◌, arith, append_assoc, length-append, append-nil}
use Rattle.std.specs.List.{flat_map}
use Rattle.std.proofs.lemmas.List.{flat_map_more, length-map, map-append, take-map, drop-map, take_all, drop_all}
use Rattle.std.proofs.lemmas.Grind.{flat_map-append}
use Rattle.std.proofs.lemmas.Bool.Decides.{nat_tests}
use Rattle.std.proofs.Math.Seq.{take-append_seam, drop-append_seam}
use Rattle.dq_dataset.specs.Tree.{ElementList}
use Rattle.dq_dataset.specs.Canonical.{canonical}
use Rattle.dq_dimse.specs.Sending.{cut_into_pdus}
use Rattle.dq_tables.specs.Rows.{Record}
use Rattle.dq_core.specs.declared.answers.Answers.{Answers}
use Rattle.dq_core.specs.declared.pages.OpenQuery.{OpenQuery as HeldQuery}
use Rattle.dq_core.specs.Services.{Response, pending_status, pending_response}
use Rattle.dq_core.specs.Pages.{OpenQuery, Page, response_octets, responses_octets, rest, without_first, page}
use Rattle.dq_core.specs.Queries.{at_hand, to_be_found, status_of, optional_of, AreAtHand, Gives, open_query_of, command_octets}

-- the pending responses that were left were sent, and the final one
pub rest-sent : (query now : OpenQuery) (count : ℕ) (x0 x1 x2 : List ℕ) → count ≡ length query.left.pending
    → x1 ≡ x0 ++ responses_octets query (take count query.left.pending) → now ≡ without_first count query
    → x2 ≡ x1 ++ responses_octets now (now.left.final ∷ []) → x2 ≡ x0 ++ rest query
rest-sent query now count x0 x1 x2 all sent left last =
    let xs = query.left.pending in
    let final = query.left.final ∷ [] in
    let whole : take count xs ≡ xs = take_all count xs (omega (arith, all)) in
    let f = response_octets query.context query.limit in
    last ∙ ap (λ (q : OpenQuery). x1 ++ responses_octets q (q.left.final ∷ [])) left ∙ ap (λ x. x ++ flat_map f final) (sent ∙ ap (λ rs. x0 ++ flat_map f rs) whole)
    ∙ append_assoc x0 (flat_map f xs) (flat_map f final) ∙ ap (λ x. x0 ++ x) (sym (flat_map-append f xs final))

-- the response with an answer of a query
abbrev pub pending_of : HeldQuery → ElementList → Response
pending_of q answer = pending_response q.context q.command (optional_of q.answers) answer

-- So many of its pending responses were sent, of those at hand.
pub record HasSent (q now : HeldQuery) (count : ℕ) (x0 x1 : List ℕ) : Type 0 where
  pub given : List ElementList
  pub counted : length given ≡ count
  pub hand : at_hand q.answers ≡ given ++ at_hand now.answers
  pub others : (records : List Record) → to_be_found records now.answers ≡ to_be_found records q.answers
  pub status : status_of now.answers ≡ status_of q.answers
  pub optional : optional_of now.answers ≡ optional_of q.answers
  pub context : now.context ≡ q.context
  pub command : now.command ≡ q.command
  pub limit : now.limit ≡ q.limit
  pub since : now.since ≡ q.since
  pub octets : x1 ≡ x0 ++ flat_map (response_octets q.context.id q.limit) (map (pending_of q) given)

pub none-sent : (q : HeldQuery) (x : List ℕ) → HasSent q q 0 x x
none-sent q x = record {
  given = [];
  counted = refl;
  hand = refl;
  others = λ records. refl;
  status = refl;
  optional = refl;
  context = refl;
  command = refl;
  limit = refl;
  since = refl;
  octets = sym (append-nil x);
}

module _ {q now : HeldQuery} {count : ℕ} {x0 x1 : List ℕ} (has : HasSent q now count x0 x1) where
  -- one more was sent: the octets before its data set, and then that
  pub one-sent : (left : Answers) (answer : ElementList) (command x2 x3 : List ℕ) → Gives now.answers answer left
      → command ≡ command_octets q.context q.limit q.command (pending_status (optional_of q.answers)) true
      → x2 ≡ x1 ++ command → x3 ≡ x2 ++ cut_into_pdus now.context.id false now.limit (canonical now.context.syntax answer)
      → HasSent q (record now { answers = left }) (count + 1) x0 x3
  one-sent left answer command x2 x3 next command_is begun added =
      let f = response_octets q.context.id q.limit in
      let octets : List ℕ = cut_into_pdus now.context.id false now.limit (canonical now.context.syntax answer) in
      let both : command ++ octets ≡ f (pending_of q answer) = rw (command_is, has.context, has.limit) refl in
      let sent : x3 ≡ x1 ++ f (pending_of q answer) =
      added ∙ ap (λ (x : List ℕ). x ++ octets) begun ∙ append_assoc x1 command octets ∙ ap (λ (x : List ℕ). x1 ++ x) both in
      record {
        given = has.given ++ answer ∷ [];
        counted = length-append has.given (answer ∷ []) ∙ ap (λ n. n + 1) has.counted;
        hand = has.hand ∙ ap (λ xs. has.given ++ xs) next.hand ∙ sym (append_assoc has.given (answer ∷ []) (at_hand left));
        others = λ records. next.others records ∙ has.others records;
        status = next.status ∙ has.status;
        optional = next.optional ∙ has.optional;
        context = has.context;
        command = has.command;
        limit = has.limit;
        since = has.since;
        octets = sent ∙ ap (λ x. x ++ f (pending_of q answer)) has.octets ∙ flat_map_more f x0 (map (pending_of q) has.given) (pending_of q answer)
            ∙ ap (λ (rs : List Response). x0 ++ flat_map f rs) (sym (map-append (pending_of q) has.given (answer ∷ [])));
      }

  module _ (records : List Record) where
    abbrev all-answers : List ElementList
    all-answers = at_hand q.answers ++ to_be_found records q.answers

    abbrev left-answers : List ElementList
    left-answers = at_hand now.answers ++ to_be_found records now.answers

    in-turn : all-answers ≡ has.given ++ left-answers
    in-turn =
        ap (λ xs. xs ++ to_be_found records q.answers) has.hand ∙ append_assoc has.given (at_hand now.answers) (to_be_found records q.answers)
        ∙ ap (λ xs. has.given ++ (at_hand now.answers ++ xs)) (sym (has.others records))

    -- what is left after the first of them
    left-is : (n : ℕ) → left-answers ≡ drop n all-answers → open_query_of records now ≡ without_first n (open_query_of records q)
    left-is n e =
        let rest : map (pending_of q) left-answers ≡ drop n (map (pending_of q) all-answers) =
        ap (map (pending_of q)) e ∙ sym (drop-map (pending_of q) n all-answers) in
        rw (has.context, has.command, has.limit, has.status, has.optional)
        (ap (λ (rs : List Response). record (open_query_of records q) { left = record (open_query_of records q).left { pending = rs } }) rest)

    abbrev IsSent : ℕ → Type 0
    IsSent n =
        (x1 ≡ x0 ++ responses_octets (open_query_of records q) (take n (open_query_of records q).left.pending))
        × (open_query_of records now ≡ without_first n (open_query_of records q))

    -- as many were sent as were wanted
    pub so-many : (n : ℕ) → count ≡ n → IsSent n
    so-many n e =
        let same : length has.given ≡ n = has.counted ∙ e in
        let first : has.given ≡ take n all-answers =
        sym (ap (take n) in-turn ∙ ap (λ k. take k (has.given ++ left-answers)) (sym same) ∙ take-append_seam has.given left-answers) in (
          has.octets
              ∙ ap (λ (rs : List Response). x0 ++ responses_octets (open_query_of records q) rs) (ap (map (pending_of q)) first ∙ sym (take-map (pending_of q) n all-answers)),
          left-is n (sym (ap (drop n) in-turn ∙ ap (λ k. drop k (has.given ++ left-answers)) (sym same) ∙ drop-append_seam has.given left-answers)),
        )

  -- more are at hand while fewer than these were sent
  pub not-none : (n : ℕ) → count < n → n ≤ length (at_hand q.answers) → at_hand now.answers ≡ [] → ⊥
  not-none n few within none =
      let all : length (at_hand q.answers) ≡ count = ap length (has.hand ∙ ap (λ xs. has.given ++ xs) none ∙ append-nil has.given) ∙ has.counted in
      absurd (omega (arith, few, within, all))

-- ---- which answers are at hand

-- at most a page is at hand, and it is all
pub few-left : (it : Answers) (records : List Record) → AreAtHand (Some 65) it → length (at_hand it) ≤ 64
    → nat_le (length (at_hand it ++ to_be_found records it)) 64 ≡ true
few-left it records (inl many) few = absurd (omega (arith, many, few))
few-left it records (inr all) few =
    let same : at_hand it ++ to_be_found records it ≡ at_hand it = ap (λ xs. at_hand it ++ xs) (all records) ∙ append-nil (at_hand it) in
    rw same (grind (arith, nat_tests))

-- more than a page is
pub many-left : (it : Answers) (records : List Record) → 64 < length (at_hand it)
    → nat_le (length (at_hand it ++ to_be_found records it)) 64 ≡ false
many-left it records many =
    let sum = length-append (at_hand it) (to_be_found records it) in grind (arith, nat_tests, sum)

-- so the final response comes with them, or more are left
page-by : (query : OpenQuery) (b : Bool) → nat_le (length query.left.pending) 64 ≡ b → page query ≡ (if b then record { octets = rest query; query = None } else record {
  octets = responses_octets query (take 64 query.left.pending);
  query = Some (without_first 64 query);
})
page-by query b e = rw e refl

pub page-is : (records : List Record) (q : HeldQuery) (b : Bool) → nat_le (length (at_hand q.answers ++ to_be_found records q.answers)) 64 ≡ b
    → page (open_query_of records q) ≡ (if b then record { octets = rest (open_query_of records q); query = None } else record {
      octets = responses_octets (open_query_of records q) (take 64 (open_query_of records q).left.pending);
      query = Some (without_first 64 (open_query_of records q));
    })
page-is records q b e =
    page-by (open_query_of records q) b
    (ap (λ (n : ℕ). nat_le n 64) (length-map (at_hand q.answers ++ to_be_found records q.answers) (pending_of q)) ∙ e)

-- all are
pub all-at-hand : (it : Answers) (records : List Record) → AreAtHand None it → at_hand it ++ to_be_found records it ≡ at_hand it
all-at-hand it records (inl none) = absurd none
all-at-hand it records (inr all) = ap (λ xs. at_hand it ++ xs) (all records) ∙ append-nil (at_hand it)

-- a response without a data set was sent
pub final-sent : (x0 x1 command : List ℕ) → x1 ≡ x0 ++ command → x1 ≡ x0 ++ ((command ++ []) ++ [])
final-sent x0 x1 command added = rw (append-nil (command ++ []), append-nil command) added
