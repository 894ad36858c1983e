-- A PDU has a spelling exactly where the test says so.
use Rattle.std.proofs.Common.{◌≡◌, ℕ, ◌≤◌, Bool, true, false, leb, List, length, drop, refl, sym, ap, subst, ◌∙◌, arith}
use Rattle.std.specs.Prelude.{◌↔◌, IsTrue}
use Rattle.std.specs.Int.{w32, to_be_bytes}
use Rattle.std.proofs.lemmas.Bool.{and_parts, and_from, leb-true, le-leb, lt-leb, cases_lt}
use Rattle.std.proofs.lemmas.List.{drop_at}
use Rattle.std.proofs.lemmas.Nat.{from_be_bytes-to_be_bytes_4}
use Rattle.dq_pdu.specs.declared.pdu.Pdu.{Pdu}
use Rattle.dq_pdu.specs.declared.pdu.Pdu.TheVariants.{Request as request_pdu, Accept as accept_pdu, Reject, PData, ReleaseRq, ReleaseRp, Abort}
use Rattle.dq_pdu.specs.Spelling.{request_fields, accept_fields, IsBody}
use Rattle.dq_pdu.specs.Writing.{kind, body, IsWritable, has_parts, is_writable}
use Rattle.dq_pdu.specs.Widths.{capped_count, HasWidths}
use Rattle.dq_pdu.proofs.ContextLaws.{not_nil, filled}
use Rattle.dq_pdu.proofs.WritingLaws.{values_written}
use Rattle.dq_pdu.proofs.WrittenAssociates.{of_requests, of_accepts, associate_spelled, associate_tells}
use Rattle.dq_pdu.proofs.Spelled.{short_body}

body_written : (pdu : Pdu) → HasWidths pdu → length (body pdu) ≤ 65536 → has_parts pdu ≡ true → IsBody pdu (kind pdu) (body pdu)
body_written (request_pdu r) w h e = (refl, associate_spelled of_requests (λ c. c.id) (request_fields r) r.contexts w h e)
body_written (accept_pdu a) w h e = (refl, associate_spelled of_accepts (λ c. c.id) (accept_fields a) a.contexts w h e)
body_written (Reject result source reason) w h e = (refl, 0, refl)
body_written (PData values) w h e = (refl, not_nil values e, values_written values h)
body_written ReleaseRq w h e = (refl, refl)
body_written ReleaseRp w h e = (refl, refl)
body_written (Abort source reason) w h e = (refl, 0, 0, refl)

body_tells : (pdu : Pdu) (k : ℕ) → length (body pdu) ≤ 65536 → IsBody pdu k (body pdu) → has_parts pdu ≡ true
body_tells (request_pdu r) k h is = associate_tells of_requests (λ c. c.id) (request_fields r) r.contexts h is.1
body_tells (accept_pdu a) k h is = associate_tells of_accepts (λ c. c.id) (accept_fields a) a.contexts h is.1
body_tells (Reject result source reason) k h is = refl
body_tells (PData values) k h is = filled values is.1
body_tells ReleaseRq k h is = refl
body_tells ReleaseRp k h is = refl
body_tells (Abort source reason) k h is = refl

pub written : (pdu : Pdu) → HasWidths pdu → IsTrue (is_writable pdu) → IsWritable pdu
written pdu w e =
    let p = and_parts (has_parts pdu) _ e in
    let h : length (body pdu) ≤ 65536 = leb-true _ _ p.1 in
    record {
      kind = kind pdu;
      reserved = 0;
      size = to_be_bytes w32 (length (body pdu));
      body = body pdu;
      whole = refl;
      sized = record { wide = refl; value = from_be_bytes-to_be_bytes_4 (length (body pdu)) (omega arith) };
      short = h;
      says = body_written pdu w h p.0;
    }

tells : (pdu : Pdu) → IsWritable pdu → IsTrue (is_writable pdu)
tells pdu s =
    let h = short_body pdu s in
    let behind : s.body ≡ body pdu = sym (drop_at s.size s.body 4 s.sized.wide) ∙ sym (ap (λ (o : List ℕ). drop 6 o) s.whole) in
    and_from (has_parts pdu) _ (body_tells pdu s.kind h (subst (IsBody pdu s.kind) behind s.says)) (le-leb _ _ h)

pub writable_is : (pdu : Pdu) → HasWidths pdu → IsTrue (is_writable pdu) ↔ IsWritable pdu
writable_is pdu w = (written pdu w, tells pdu)

-- ---- as the test is computed

fits_same : (n : ℕ) → leb (capped_count n) 65536 ≡ leb n 65536
fits_same n = grind (arith, cases_lt, lt-leb, le-leb)

pub means_by_size : (pdu : Pdu) (size : ℕ) → HasWidths pdu → has_parts pdu ≡ true → size ≡ capped_count (length (body pdu))
    → IsTrue (leb size 65536) ↔ IsWritable pdu
means_by_size pdu size w e n = grind (arith, fits_same, writable_is)

pub means_by_parts : (pdu : Pdu) (b : Bool) → b ≡ has_parts pdu → b ≡ false → IsTrue b ↔ IsWritable pdu
means_by_parts pdu b e f =
    (λ t. absurd (let z = sym f ∙ t in cc), λ s. e ∙ (and_parts (has_parts pdu) _ (tells pdu s)).0)
