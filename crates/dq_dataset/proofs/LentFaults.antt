-- Where the next element cannot be lent, the first fault is met in it.
use Rattle.std.proofs.Common.{◌≡◌, ℕ, suc, ◌+◌, true, false, eqb, List, ◌++◌, length, Option, Ok, Err, refl, sym, ap, ◌∙◌, arith, inl, inr}
use Rattle.dq_list.specs.Octets.{AreOctets}
use Rattle.dq_dataset.proofs.Types.{Tag, ReadFault, Syntax, Filled, Content, Header, Value}
use Rattle.dq_vr.specs.Dictionary.{known_vr}
use Rattle.dq_dataset.specs.Rules.{vr_of}
use Rattle.dq_dataset.specs.DataSetReader.{length_of, fits_enclosing, header_at, value_by, readers}
use Rattle.dq_dataset.specs.Grammar.{IsPlaced, IsHeader, SpellsValue}
use Rattle.dq_dataset.specs.Faults.{HasFault, at_header}
use Rattle.dq_dataset.specs.Lending.{octets_before_rest, next_at}
use Rattle.dq_dataset.proofs.Headers.{ReadsHeader, header_takes, header_again}
use Rattle.dq_dataset.proofs.HeaderFaults.{fault_of, header_faults_are}
use Rattle.dq_dataset.proofs.SpelledIsRead.{value_nests, value_fits, value_again}
use Rattle.dq_dataset.proofs.SpelledOrFaulty.{in_a_value}
use Rattle.dq_dataset.proofs.LentLemmas.{found_step, header_step}
use Rattle.dq_dataset.proofs.Fields.{bind_err, no_fault}

value_failed : (syntax : Syntax) (last : Option Tag) (octets : List ℕ) (f : ReadFault) (h : Header × List ℕ)
    → ReadsHeader syntax 16 last octets h.0 h.1 × (fits_enclosing (length_of h.0.content) h.1 ≡ true) → header_step h ≡ Err f
    → HasFault Filled syntax 16 last octets f
value_failed syntax last octets f h reads e =
    elim (bind_err (value_by (readers (length h.1 + 1)) 16 h.0.vr h.0.content h.1) (found_step h) f e) [
      | inl failed ↦ in_a_value Filled syntax 16 last octets h.0 h.1 f reads failed
      | inr later ↦ absurd (no_fault _ f later.2)
    ]

pub next_is_faulty : (syntax : Syntax) (last : Option Tag) (octets : List ℕ) (f : ReadFault) → AreOctets octets → eqb (length octets) 0 ≡ false
    → next_at syntax last octets ≡ Err f
    → HasFault Filled syntax 16 last octets f
unfolding next_at
next_is_faulty syntax last octets f ok some e =
    elim (bind_err (header_at syntax 16 last octets) header_step f e) [
      | inl failed ↦ at_header Filled syntax 16 last octets f some (sym (header_faults_are syntax 16 last octets) ∙ ap fault_of failed)
      | inr later ↦ value_failed syntax last octets f later.0 (header_takes syntax 16 last octets later.0.0 later.0.1 ok later.1) later.2
    ]

pub next_is_spelled : (syntax : Syntax) (last : Option Tag) (octets : List ℕ) (f : ReadFault) (tag : Tag) (content : Content) (header value rest : List ℕ)
    (held : Value)
    → IsPlaced last tag → IsHeader syntax tag content header → SpellsValue 16 (vr_of (known_vr tag) content) content value held
    → octets ≡ header ++ (value ++ rest) → next_at syntax last octets ≡ Err f → ⊥
unfolding next_at
next_is_spelled syntax last octets f tag content header value rest held placed is_header spells parts e =
    let vr = vr_of (known_vr tag) content in
    let behind = value ++ rest in
    let one_more : length behind + 1 ≡ suc (length behind) = omega arith in
    let the_header = header_again syntax 16 last tag content header behind placed is_header (value_nests 16 vr content value held spells)
    (value_fits 16 vr content value held rest spells) in
    let the_value = value_again 16 vr content value held spells rest (length behind) (omega arith) in
    let read : next_at syntax last (header ++ (value ++ rest))
    ≡ Ok ((record { tag = tag; vr = vr; content = content }, octets_before_rest (length_of content) behind rest), rest) =
    rw (the_header, one_more, the_value) refl in
    no_fault _ f (sym read ∙ ap (next_at syntax last) (sym parts) ∙ e)
