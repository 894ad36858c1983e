-- What is sent is read again.
use Rattle.std.proofs.Common.{◌≡◌, ℕ, ◌+◌, ◌<◌, ◌≤◌, Bool, true, false, List, [], ◌∷◌, ◌++◌, length, map, Option, Some, None, inl, refl, sym, ap, subst}
use Rattle.std.proofs.Common.{◌∙◌, arith}
use Rattle.std.specs.Prelude.{IsTrue, All}
use Rattle.std.specs.List.{flat_map}
use Rattle.std.proofs.lemmas.Bool.Decides.{nat_tests}
use Rattle.std.proofs.lemmas.List.{append-nil, map-append}
use Rattle.std.proofs.lemmas.List.Concat.{flat_map-append}
use Rattle.std.proofs.lemmas.List.Elements.{All-append, All-from_recursion}
use Rattle.dq_pdu.specs.declared.pdu.Pdu.{Pdu}
use Rattle.dq_pdu.specs.declared.pdu.Pdv.{Pdv}
use Rattle.dq_pdu.specs.Octets.{is_number_among}
use Rattle.dq_pdu.specs.Numbers.{pdv_header, longest_body}
use Rattle.dq_pdu.specs.Writing.{pdu_octets, p_data, IsWritable, AreWritable}
use Rattle.dq_pdu.specs.Stream.{pdus_in}
use Rattle.dq_dimse.specs.declared.command.Command.{Command}
use Rattle.dq_dimse.specs.Received.{Message}
use Rattle.dq_dimse.specs.Commands.{command_of}
use Rattle.dq_dimse.specs.Messages.{command_limit, fragment_octets, AreFragments, AreAllFragments, IsCommand, HasOctets, IsDataPart, IsMessage}
use Rattle.dq_dimse.specs.Assembling.{messages}
use Rattle.dq_dimse.specs.Sending.{IsPduLimit, fragment_size, fragments, AreSized, pdus_of, command_set, cut_into_pdus, message_pdus}
use Rattle.dq_dimse.specs.Carrying.{CarriesData, Carries, pdu_with, IsDataOf}
use Rattle.dq_dimse.proofs.Runs.{no_fragments}
use Rattle.dq_dimse.proofs.Fragments.{fragments_join, fragments_sized}
use Rattle.dq_dimse.proofs.Cuts.{has_room}
use Rattle.dq_dimse.proofs.Uniqueness.{only_messages}

-- ---- the PDVs of fragments

abbrev pdv_of : ℕ → Bool → Bool → List ℕ → Pdv
pdv_of context command last octets = record { context = context; command = command; last = last; octets = octets }

pdvs_of : ℕ → Bool → List (List ℕ) → List Pdv
pdvs_of context command [] = []
pdvs_of context command (octets ∷ []) = pdv_of context command true octets ∷ []
pdvs_of context command (octets ∷ next ∷ others) = pdv_of context command false octets ∷ pdvs_of context command (next ∷ others)

pdus_of-map : (context : ℕ) (command : Bool) (run : List (List ℕ)) → pdus_of context command run ≡ map pdu_with (pdvs_of context command run)
unfolding pdvs_of
pdus_of-map context command [] = refl
pdus_of-map context command (octets ∷ []) = refl
pdus_of-map context command (octets ∷ next ∷ others) =
    ap (λ (pdus : List Pdu). p_data context command false octets ∷ pdus) (pdus_of-map context command (next ∷ others))

all_cons : (P : Pdv → Type 0) (pdv : Pdv) (run : List Pdv) → P pdv → All P run → All P (pdv ∷ run)
all_cons P pdv run p h = All-append P (pdv ∷ []) run (All-from_recursion P (pdv ∷ []) (p, tt)) h

fragment_before : (context : ℕ) (command : Bool) (octets : List ℕ) (run : List Pdv) → AreFragments context command run
    → AreFragments context command (pdv_of context command false octets ∷ run)
fragment_before context command octets run f = grind (arith, nat_tests, all_cons)

pdvs_of-fragments : (context : ℕ) (command : Bool) (size : ℕ) (run : List (List ℕ)) → AreSized size run
    → AreAllFragments context command (pdvs_of context command run)
unfolding pdvs_of
pdvs_of-fragments context command size [] h = absurd h
pdvs_of-fragments context command size (octets ∷ []) h = record {
  front = [];
  final = pdv_of context command true octets;
  parts = refl;
  fragments = no_fragments context command;
  context_is = refl;
  kind_is = refl;
  finished = refl;
}
pdvs_of-fragments context command size (octets ∷ next ∷ others) h =
    let later = pdvs_of-fragments context command size (next ∷ others) h.2 in
    record {
      front = pdv_of context command false octets ∷ later.front;
      final = later.final;
      parts = ap (λ (pdvs : List Pdv). pdv_of context command false octets ∷ pdvs) later.parts;
      fragments = fragment_before context command octets later.front later.fragments;
      context_is = later.context_is;
      kind_is = later.kind_is;
      finished = later.finished;
    }

pdvs_of-joined : (context : ℕ) (command : Bool) (run : List (List ℕ)) → fragment_octets (pdvs_of context command run) ≡ flat_map (λ (part : List ℕ). part) run
unfolding pdvs_of
pdvs_of-joined context command [] = refl
pdvs_of-joined context command (octets ∷ []) = refl
pdvs_of-joined context command (octets ∷ next ∷ others) = ap (λ (xs : List ℕ). octets ++ xs) (pdvs_of-joined context command (next ∷ others))

-- ---- PDUs that are read again

-- what dq_pdu says of what is written
abbrev pub FragmentsAreWritable : Type 0
FragmentsAreWritable =
    (context : ℕ) (command last : Bool) (octets : List ℕ) → length octets + pdv_header ≤ longest_body → IsWritable (p_data context command last octets)

abbrev pub WrittenIsRead : Type 0
WrittenIsRead = (pdus : List Pdu) → AreWritable pdus → pdus_in (flat_map pdu_octets pdus) ≡ record { list = pdus; rest = []; fault = None }

pdus_writable : FragmentsAreWritable → (context : ℕ) (command : Bool) (size : ℕ) (run : List (List ℕ)) → size ≤ 16378 → AreSized size run
    → AreWritable (pdus_of context command run)
pdus_writable w context command size [] small h = absurd h
pdus_writable w context command size (octets ∷ []) small h = (w context command true octets (omega arith), tt)
pdus_writable w context command size (octets ∷ next ∷ others) small h =
    let n : length octets ≡ size = h.0 in
    (w context command false octets (omega arith), pdus_writable w context command size (next ∷ others) small h.2)

both_writable : (xs ys : List Pdu) → AreWritable xs → AreWritable ys → AreWritable (xs ++ ys)
both_writable [] ys a b = b
both_writable (x ∷ xs) ys a b = (a.0, both_writable xs ys a.1 b)

-- ---- what is sent

some_room : (limit : ℕ) → IsPduLimit limit → 0 < fragment_size limit
some_room limit h = grind (arith, nat_tests)

-- octets cut into PDUs, as the PDVs in them
record IsCut (context : ℕ) (command : Bool) (octets written : List ℕ) : Type 0 where
  pub pdvs : List Pdv
  pub written_is : written ≡ flat_map pdu_octets (map pdu_with pdvs)
  pub writable : AreWritable (map pdu_with pdvs)
  pub fragments : AreAllFragments context command pdvs
  pub octets_are : fragment_octets pdvs ≡ octets

is_cut : FragmentsAreWritable → (context : ℕ) (command : Bool) (limit : ℕ) (octets : List ℕ) → IsPduLimit limit
    → IsCut context command octets (cut_into_pdus context command limit octets)
is_cut w context command limit octets h =
    let size = fragment_size limit in
    let room = has_room limit h in
    let run = fragments size octets in
    let sized : AreSized size run = fragments_sized (length octets) size octets (some_room limit h) (omega arith) in
    let same = pdus_of-map context command run in
    record {
      pdvs = pdvs_of context command run;
      written_is = ap (flat_map pdu_octets) same;
      writable = subst AreWritable same (pdus_writable w context command size run (omega arith) sized);
      fragments = pdvs_of-fragments context command size run sized;
      octets_are = pdvs_of-joined context command run ∙ fragments_join (length octets) size octets;
    }

-- the PDUs of a command set, and after them those of a data set
record IsSent (context : ℕ) (set : List ℕ) (octets : Option (List ℕ)) (written : List ℕ) : Type 0 where
  pub pdvs : List Pdv
  pub written_is : written ≡ flat_map pdu_octets (map pdu_with pdvs)
  pub writable : AreWritable (map pdu_with pdvs)
  pub carries : Carries context set octets pdvs

is_sent : FragmentsAreWritable → (context limit : ℕ) (command : Command) (octets : Option (List ℕ)) → IsPduLimit limit
    → IsSent context (command_set command) octets (message_pdus context command octets limit)
is_sent w context limit command None h =
    let set = is_cut w context true limit (command_set command) h in
    record {
      pdvs = set.pdvs;
      written_is = append-nil (cut_into_pdus context true limit (command_set command)) ∙ set.written_is;
      writable = set.writable;
      carries = record {
        commands = set.pdvs;
        data_part = [];
        parts = sym
            (append-nil set.pdvs);
        fragments = set.fragments;
        set_is = set.octets_are;
        carries_data = refl;
      };
    }
is_sent w context limit command (Some octets) h =
    let set = is_cut w context true limit (command_set command) h in
    let part = is_cut w context false limit octets h in
    record {
      pdvs = set.pdvs ++ part.pdvs;
      written_is =
          ap (λ (xs : List ℕ). xs ++ cut_into_pdus context false limit octets) set.written_is
          ∙ ap (λ (xs : List ℕ). flat_map pdu_octets (map pdu_with set.pdvs) ++ xs) part.written_is
          ∙ sym (flat_map-append pdu_octets (map pdu_with set.pdvs) (map pdu_with part.pdvs))
          ∙ ap (flat_map pdu_octets) (sym (map-append pdu_with set.pdvs part.pdvs));
      writable = subst AreWritable (sym (map-append pdu_with set.pdvs part.pdvs))
          (both_writable (map pdu_with set.pdvs) (map pdu_with part.pdvs) set.writable part.writable);
      carries = record {
        commands = set.pdvs;
        data_part = part.pdvs;
        parts = refl;
        fragments = set.fragments;
        set_is = set.octets_are;
        carries_data = (part.fragments, part.octets_are);
      };
    }

pub sent_read : FragmentsAreWritable → WrittenIsRead → (context limit : ℕ) (command : Command) (octets : Option (List ℕ)) → IsPduLimit limit
    → (pdvs : List Pdv) × (pdus_in (message_pdus context command octets limit) ≡ record { list = map pdu_with pdvs; rest = []; fault = None }) × Carries context
    (command_set command) octets pdvs
sent_read w read context limit command octets h =
    let s = is_sent w context limit command octets h in
    (s.pdvs, ap pdus_in s.written_is ∙ read (map pdu_with s.pdvs) s.writable, s.carries)

-- ---- what is carried

data_carried : (message : Message) (octets : Option (List ℕ)) (pdvs : List Pdv) → IsDataOf message octets → CarriesData message.context octets pdvs
    → IsDataPart message.command.with_data message pdvs
data_carried message None pdvs d k = subst (λ (b : Bool). IsDataPart b message pdvs) (sym d.0) (k, d.1)
data_carried message (Some octets) pdvs d k =
    let part : IsDataPart true message pdvs = record { fragments = k.0; octets_are = subst (HasOctets message) (sym k.1) d.1 } in
    subst (λ (b : Bool). IsDataPart b message pdvs) (sym d.0) part

pub carried_read : (ids : List ℕ) (message : Message) (set : List ℕ) (octets : Option (List ℕ)) (pdvs : List Pdv) → IsTrue (is_number_among message.context ids)
    → length set ≤ command_limit
    → command_of set ≡ Some message.command → IsDataOf message octets → Carries message.context set octets pdvs
    → messages ids pdvs ≡ record { list = message ∷ []; fault = None }
carried_read ids message set octets pdvs a short read d k =
    let command : IsCommand ids message.context k.commands message.command =
    record {
      accepted = a;
      fragments = k.fragments;
      short = subst (λ (o : List ℕ). length o ≤ command_limit)
          (sym k.set_is) short;
      command_is = ap command_of k.set_is ∙ read;
    } in
    let whole : IsMessage ids pdvs message =
    record {
      commands = k.commands;
      data_part = k.data_part;
      parts = k.parts;
      command_is = command;
      data_is = data_carried message octets k.data_part d k.carries_data;
    } in
    only_messages ids pdvs [] (message ∷ []) None (pdvs, [], sym (append-nil pdvs), whole, refl) (true, inl refl)
