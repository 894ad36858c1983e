-- The PDUs of a stream, one after the other, and of a stream that goes on.
use Rattle.std.proofs.Common.{◌≡◌, ℕ, zero, suc, ◌+◌, ◌-◌, ◌<◌, ◌≤◌, List, [], ◌∷◌, ◌++◌, length, drop, Option, Some, None, refl, sym, ap, ◌∙◌, append_assoc, arith, length-drop}
use Rattle.std.proofs.lemmas.List.{append-nil, drop-append-le, drop-drop}
use Rattle.dq_pdu.specs.declared.pdu_reader.FirstPdu.{FirstPdu}
use Rattle.dq_pdu.specs.declared.pdu_reader.FirstPdu.TheVariants.{Partial, Faulty, Whole}
use Rattle.dq_pdu.specs.declared.fault.PduFault.{PduFault}
use Rattle.dq_pdu.specs.declared.pdu.Pdu.{Pdu}
use Rattle.dq_pdu.specs.PduReader.{first_pdu}
use Rattle.dq_pdu.specs.Stream.{Pdus, with_first, with_list, pdus_from, pdus_within, pdus_in, stream_read_on}
use Rattle.dq_pdu.proofs.FirstPdus.{count_within, front-append}

abbrev nothing_of : List ℕ → Pdus
nothing_of s = record { list = []; rest = s; fault = None }

more_from : (n m : ℕ) (f : FirstPdu) (s : List ℕ) → ((pdu : Pdu) (count : ℕ) → f ≡ Whole pdu count → pdus_within n (drop count s) ≡ pdus_within m (drop count s))
    → pdus_from f s (λ behind. pdus_within n behind) ≡ pdus_from f s (λ behind. pdus_within m behind)
more_from n m Partial s h = refl
more_from n m (Faulty fault) s h = refl
more_from n m (Whole pdu count) s h = ap (with_first pdu) (h pdu count refl)

-- the empty stream has no PDUs
front-nil : first_pdu [] ≡ Partial
unfolding first_pdu
front-nil = refl

within-nil : (n : ℕ) → pdus_within n [] ≡ nothing_of []
unfolding pdus_within
within-nil zero = refl
within-nil (suc n) = rw front-nil refl

-- more fuel than octets changes nothing
pdus_more : (n m : ℕ) (s : List ℕ) → length s ≤ n → length s ≤ m → pdus_within n s ≡ pdus_within m s
unfolding pdus_within
pdus_more n m [] hn hm = within-nil n ∙ sym (within-nil m)
pdus_more zero m (o ∷ s) hn hm = absurd (omega arith)
pdus_more (suc n) zero (o ∷ s) hn hm = absurd (omega arith)
pdus_more (suc n) (suc m) (o ∷ s) hn hm =
    more_from n m (first_pdu (o ∷ s)) (o ∷ s) (λ pdu count e.
    let w = count_within (o ∷ s) pdu count e in
    pdus_more n m (drop count (o ∷ s)) (omega (arith, w.0, w.1, length-drop count (o ∷ s))) (omega (arith, w.0, w.1, length-drop count (o ∷ s))))

pub pdus_partial : (s : List ℕ) → first_pdu s ≡ Partial → pdus_in s ≡ record { list = []; rest = s; fault = None }
unfolding pdus_within
pdus_partial [] e = refl
pdus_partial (o ∷ s) e = rw e refl

pub pdus_faulty : (s : List ℕ) (fault : PduFault) → first_pdu s ≡ Faulty fault → pdus_in s ≡ record { list = []; rest = s; fault = Some fault }
unfolding pdus_within
pdus_faulty [] fault e = absurd (let p = sym front-nil ∙ e in cc)
pdus_faulty (o ∷ s) fault e = rw e refl

pub pdus_whole : (s : List ℕ) (pdu : Pdu) (count : ℕ) → first_pdu s ≡ Whole pdu count → pdus_in s ≡ with_first pdu (pdus_in (drop count s))
unfolding pdus_within
pdus_whole [] pdu count e = absurd (let p = sym front-nil ∙ e in cc)
pdus_whole (o ∷ s) pdu count e = grind (arith, count_within, length-drop, pdus_more)

-- ---- a stream that goes on

continued-first : (pdu : Pdu) (fault : Option PduFault) (list : List Pdu) (rest more : List ℕ)
    → with_first pdu (stream_read_on fault list rest more) ≡ stream_read_on fault (pdu ∷ list) rest more
continued-first pdu None list rest more = refl
continued-first pdu (Some fault) list rest more = refl

abbrev continues : List ℕ → List ℕ → Type 0
continues s t = pdus_in (s ++ t) ≡ stream_read_on (pdus_in s).fault (pdus_in s).list (pdus_in s).rest t

append_by : (s t : List ℕ) (f : FirstPdu) → first_pdu s ≡ f → ((count : ℕ) → 6 ≤ count → count ≤ length s → continues (drop count s) t) → continues s t
append_by s t Partial e next = rw (pdus_partial s e) refl
append_by s t (Faulty fault) e next =
    let whole : Faulty fault ≡ Partial → ⊥ = λ p. cc in
    rw (pdus_faulty s fault e) (pdus_faulty (s ++ t) fault (front-append s t (Faulty fault) whole e))
append_by s t (Whole pdu count) e next =
    let w = count_within s pdu count e in
    let whole : Whole pdu count ≡ Partial → ⊥ = λ p. cc in
    let one = pdus_whole (s ++ t) pdu count (front-append s t (Whole pdu count) whole e) in
    let two = ap (λ r. with_first pdu (pdus_in r)) (drop-append-le count s t w.1) in
    let three = ap (with_first pdu) (next count w.0 w.1) in
    let others = pdus_in (drop count s) in
    rw (pdus_whole s pdu count e) (one ∙ two ∙ three ∙ continued-first pdu others.fault others.list others.rest t)

append_within : (n : ℕ) (s t : List ℕ) → length s < n → continues s t
append_within zero s t h = absurd (omega arith)
append_within (suc n) s t h =
    append_by s t (first_pdu s) refl (λ count six le. append_within n (drop count s) t (omega (arith, length-drop count s)))

pub pdus_in-append : (s t : List ℕ) → pdus_in (s ++ t) ≡ stream_read_on (pdus_in s).fault (pdus_in s).list (pdus_in s).rest t
pdus_in-append s t = append_within (length s + 1) s t (omega arith)

-- ---- a loop over the PDUs

with_list-push : (list : List Pdu) (pdu : Pdu) (others : Pdus) → with_list (list ++ pdu ∷ []) others ≡ with_list list (with_first pdu others)
with_list-push list pdu others = ap (λ ps. record { list = ps; rest = others.rest; fault = others.fault }) (append_assoc list (pdu ∷ []) others.list)

pub loop_goes_on : (list : List Pdu) (pdu : Pdu) (count : ℕ) (s : List ℕ) (total : Pdus) → first_pdu s ≡ Whole pdu count → with_list list (pdus_in s) ≡ total
    → with_list (list ++ pdu ∷ []) (pdus_in (drop count s)) ≡ total
loop_goes_on list pdu count s total e so_far = with_list-push list pdu (pdus_in (drop count s)) ∙ ap (with_list list) (sym (pdus_whole s pdu count e)) ∙ so_far

pub loop_partial : (list : List Pdu) (s : List ℕ) (total : Pdus) → first_pdu s ≡ Partial → with_list list (pdus_in s) ≡ total
    → total ≡ record { list = list; rest = s; fault = None }
loop_partial list s total e so_far = sym so_far ∙ rw (pdus_partial s e, append-nil list) refl

pub loop_faulty : (list : List Pdu) (s : List ℕ) (fault : PduFault) (total : Pdus) → first_pdu s ≡ Faulty fault → with_list list (pdus_in s) ≡ total
    → total ≡ record { list = list; rest = s; fault = Some fault }
loop_faulty list s fault total e so_far = sym so_far ∙ rw (pdus_faulty s fault e, append-nil list) refl

-- what is left is an end of the octets, also once more is read
pub end_again : (octets rest : List ℕ) (count : ℕ) → length rest ≤ length octets → rest ≡ drop (length octets - length rest) octets → count ≤ length rest
    → drop count rest ≡ drop (length octets - length (drop count rest)) octets
end_again octets rest count le e c = grind (arith, length-drop, drop-drop)
