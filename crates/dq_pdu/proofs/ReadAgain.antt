-- PDUs that are written one after the other are read again.
use Rattle.std.proofs.Common.{◌≡◌, ℕ, ◌+◌, ◌≤◌, Bool, List, [], ◌∷◌, ◌++◌, length, drop, None, refl, sym, ap, ◌∙◌, append_assoc, arith}
use Rattle.std.specs.List.{flat_map}
use Rattle.std.proofs.lemmas.Bool.{and_from, le-leb}
use Rattle.std.proofs.lemmas.List.{append-nil, drop_at}
use Rattle.dq_pdu.specs.declared.pdu.Pdu.{Pdu}
use Rattle.dq_pdu.specs.declared.pdu_reader.FirstPdu.TheVariants.{Whole}
use Rattle.dq_pdu.specs.PduReader.{first_pdu}
use Rattle.dq_pdu.specs.Writing.{pdu_octets, p_data, AreWritable, IsWritable}
use Rattle.dq_pdu.specs.Stream.{pdus_in, with_first, with_list}
use Rattle.dq_pdu.proofs.PduLaws.{pdus_whole}
use Rattle.dq_pdu.proofs.SpellLaws.{spelled_read}
use Rattle.dq_pdu.proofs.StreamLaws.{pdus_none}
use Rattle.dq_pdu.proofs.WritableLaws.{written}

pub read_on : (pdus : List Pdu) (more : List ℕ) → AreWritable pdus → pdus_in (flat_map pdu_octets pdus ++ more) ≡ with_list pdus (pdus_in more)
read_on [] more w = refl
read_on (pdu ∷ pdus) more w =
    let behind = flat_map pdu_octets pdus ++ more in
    let grouped : flat_map pdu_octets (pdu ∷ pdus) ++ more ≡ pdu_octets pdu ++ behind = append_assoc (pdu_octets pdu) (flat_map pdu_octets pdus) more in
    let e : first_pdu (pdu_octets pdu ++ behind) ≡ Whole pdu (length (pdu_octets pdu)) = spelled_read pdu (pdu_octets pdu) behind w.0 in
    let next : drop (length (pdu_octets pdu)) (pdu_octets pdu ++ behind) ≡ behind = drop_at (pdu_octets pdu) behind (length (pdu_octets pdu)) refl in
    ap (λ (s : List ℕ). pdus_in s) grouped ∙ pdus_whole (pdu_octets pdu ++ behind) pdu (length (pdu_octets pdu)) e
    ∙ ap (λ (s : List ℕ). with_first pdu (pdus_in s)) next ∙ ap (with_first pdu) (read_on pdus more w.1)

pub read_again : (pdus : List Pdu) → AreWritable pdus → pdus_in (flat_map pdu_octets pdus) ≡ record { list = pdus; rest = []; fault = None }
read_again pdus w =
    ap (λ (s : List ℕ). pdus_in s) (sym (append-nil (flat_map pdu_octets pdus))) ∙ read_on pdus [] w
    ∙ ap (with_list pdus) pdus_none ∙ ap (λ (list : List Pdu). record { list = list; rest = []; fault = None }) (append-nil pdus)

pub p_data_written : (context : ℕ) (command last : Bool) (octets : List ℕ) → length octets + 6 ≤ 65536 → IsWritable (p_data context command last octets)
p_data_written context command last octets h = grind (arith, append-nil, written, and_from, le-leb)
