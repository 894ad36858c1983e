-- The PDUs of a stream split it, they are the only ones that do, and a longer stream adds to them.
use Rattle.std.proofs.Common.{◌≡◌, ℕ, zero, suc, ◌+◌, ◌<◌, ◌≤◌, List, [], ◌∷◌, ◌++◌, length, take, drop, Option, Some, None, refl, sym, ap, ◌∙◌, arith, length-drop}
use Rattle.std.proofs.lemmas.List.{append-nil, take-append-drop, drop_at}
use Rattle.dq_pdu.specs.declared.pdu_reader.FirstPdu.{FirstPdu}
use Rattle.dq_pdu.specs.declared.pdu_reader.FirstPdu.TheVariants.{Partial, Faulty, Whole}
use Rattle.dq_pdu.specs.declared.fault.PduFault.{PduFault}
use Rattle.dq_pdu.specs.declared.pdu.Pdu.{Pdu}
use Rattle.dq_pdu.specs.PduReader.{first_pdu}
use Rattle.dq_pdu.specs.Stream.{Pdus, Follow, HasNoPdu, Splits, fault_at_front, pdus_within, pdus_in, stream_read_on}
use Rattle.dq_pdu.proofs.FirstPdus.{count_within, fault_of-faulty, fault_of-partial}
use Rattle.dq_pdu.proofs.PduLaws.{pdus_partial, pdus_faulty, pdus_whole, pdus_in-append}
use Rattle.dq_pdu.proofs.SpellLaws.{spelled_read, front_spelled}

-- no PDU is read at the front
abbrev pub HasNoFirstPdu : List ℕ → Type 0
HasNoFirstPdu rest = (pdu : Pdu) (count : ℕ) → first_pdu rest ≡ Whole pdu count → ⊥

-- what is known of the PDUs of a stream
pub record Known (stream : List ℕ) (found : Pdus) : Type 0 where
  pub follow : Follow found.list stream found.rest
  pub ends : HasNoFirstPdu found.rest
  pub fault : found.fault ≡ fault_at_front found.rest

known_by : (s : List ℕ) (f : FirstPdu) → first_pdu s ≡ f → ((count : ℕ) → 6 ≤ count → count ≤ length s → Known (drop count s) (pdus_in (drop count s)))
    → Known s (pdus_in s)
known_by s Partial e next = rw (pdus_partial s e) (record {
  follow = refl;
  ends = λ pdu count w. absurd (let z = sym e ∙ w in cc);
  fault = sym
      (fault_of-partial s e);
})
known_by s (Faulty fault) e next = rw (pdus_faulty s fault e) (record {
  follow = refl;
  ends = λ pdu count w. absurd (let z = sym e ∙ w in cc);
  fault = sym
      (fault_of-faulty s fault e);
})
known_by s (Whole pdu count) e next =
    let w = count_within s pdu count e in
    let k = next count w.0 w.1 in
    rw (pdus_whole s pdu count e) (record {
      follow = (take count s, drop count s, sym (take-append-drop count s), front_spelled s pdu count e, k.follow);
      ends = k.ends;
      fault = k.fault;
    })

known_within : (n : ℕ) (s : List ℕ) → length s < n → Known s (pdus_in s)
known_within zero s h = absurd (omega arith)
known_within (suc n) s h = known_by s (first_pdu s) refl (λ count six le. known_within n (drop count s) (omega (arith, length-drop count s)))

pub known : (s : List ℕ) → Known s (pdus_in s)
known s = known_within (length s + 1) s (omega arith)

no_pdu : (rest : List ℕ) → HasNoFirstPdu rest → HasNoPdu rest
no_pdu rest ends = λ pdu octets behind e t. ends pdu (length octets) (ap first_pdu e ∙ spelled_read pdu octets behind t)

pub pdus_split : (stream : List ℕ) → Splits stream (pdus_in stream).list (pdus_in stream).rest
pdus_split stream = record { follow = (known stream).follow; ends = no_pdu (pdus_in stream).rest (known stream).ends }

pub pdus_fault : (stream : List ℕ) → (pdus_in stream).fault ≡ fault_at_front (pdus_in stream).rest
pdus_fault stream = (known stream).fault

-- ---- the only ones

abbrev Are : List Pdu → List ℕ → Pdus → Type 0
Are pdus rest found = (pdus ≡ found.list) × (rest ≡ found.rest)

none_by : (s : List ℕ) (f : FirstPdu) → first_pdu s ≡ f → HasNoPdu s → Are [] s (pdus_in s)
none_by s Partial e ends = rw (pdus_partial s e) (refl, refl)
none_by s (Faulty fault) e ends = rw (pdus_faulty s fault e) (refl, refl)
none_by s (Whole pdu count) e ends = absurd (ends pdu (take count s) (drop count s) (sym (take-append-drop count s)) (front_spelled s pdu count e))

follow_only : (pdus : List Pdu) (s rest : List ℕ) → Follow pdus s rest → HasNoPdu rest → Are pdus rest (pdus_in s)
follow_only [] s rest e ends =
    let a = none_by rest (first_pdu rest) refl ends in
    rw e a
follow_only (pdu ∷ pdus) s rest f ends =
    let octets = f.0 in
    let behind = f.1 in
    let ih = follow_only pdus behind rest f.4 ends in
    let e : first_pdu (octets ++ behind) ≡ Whole pdu (length octets) = spelled_read pdu octets behind f.3 in
    let left : drop (length octets) (octets ++ behind) ≡ behind = drop_at octets behind (length octets) refl in
    rw (f.2, pdus_whole (octets ++ behind) pdu (length octets) e, left) (ap (λ ps. pdu ∷ ps) ih.0, ih.1)

pub pdus_only : (stream : List ℕ) (pdus : List Pdu) (rest : List ℕ) → Splits stream pdus rest → (pdus ≡ (pdus_in stream).list) × (rest ≡ (pdus_in stream).rest)
pdus_only stream pdus rest s = follow_only pdus stream rest s.follow s.ends

-- ---- a longer stream

more_from : (fault : Option PduFault) (list : List Pdu) (rest more : List ℕ) → (added : List Pdu) × ((stream_read_on fault list rest more).list ≡ list ++ added)
more_from None list rest more = ((pdus_in (rest ++ more)).list, refl)
more_from (Some fault) list rest more = ([], sym (append-nil list))

pub pdus_more : (stream more : List ℕ) → (added : List Pdu) × ((pdus_in (stream ++ more)).list ≡ (pdus_in stream).list ++ added)
pdus_more stream more =
    let a = more_from (pdus_in stream).fault (pdus_in stream).list (pdus_in stream).rest more in
    (a.0, ap (λ (u : Pdus). u.list) (pdus_in-append stream more) ∙ a.1)

pub fault_stays : (stream more : List ℕ) (fault : PduFault) → (pdus_in stream).fault ≡ Some fault
    → ((pdus_in (stream ++ more)).list ≡ (pdus_in stream).list) × ((pdus_in (stream ++ more)).fault ≡ Some fault)
fault_stays stream more fault e = grind (arith, pdus_in-append)

faultless_if : (fault : Option PduFault) (list : List Pdu) (rest more : List ℕ) → (stream_read_on fault list rest more).fault ≡ None → fault ≡ None
faultless_if None list rest more e = refl
faultless_if (Some fault) list rest more e = absurd cc

pub faultless_before : (stream more : List ℕ) → (pdus_in (stream ++ more)).fault ≡ None → (pdus_in stream).fault ≡ None
faultless_before stream more e =
    faultless_if (pdus_in stream).fault (pdus_in stream).list (pdus_in stream).rest more (sym (ap (λ (u : Pdus). u.fault) (pdus_in-append stream more)) ∙ e)

pub pdus_none : pdus_in [] ≡ record { list = []; rest = []; fault = None }
unfolding pdus_within
pdus_none = refl
