-- Values that an assembler takes one after the other.
use Rattle.std.proofs.Common.{◌≡◌, ℕ, suc, ◌+◌, ◌<◌, true, false, List, [], ◌∷◌, ◌++◌, length, get_or, drop, Option, Some, None, refl, sym, ap, subst, ◌∙◌, add-one, append_assoc, drop-cons}
use Rattle.std.specs.Prelude.{is_some}
use Rattle.std.proofs.lemmas.List.{append-nil}
use Rattle.dq_pdu.specs.declared.pdu.Pdv.{Pdv}
use Rattle.dq_dimse.specs.Received.{Message}
use Rattle.dq_dimse.specs.declared.fault.DimseFault.{DimseFault}
use Rattle.dq_dimse.specs.Assembling.{Assembly, Messages, messages_from, assembly_from, followed_by, spent_by}
use Rattle.dq_dimse.proofs.Assemblies.{messages_from-nil, messages_from-append, messages_from-spent, messages_from-fault, assembly_from-nil, assembly_from-append}

-- what was read so far, and what the values that are left add to it
pub record ReadSo (list : List Message) (s : Assembly) (left : List Pdv) (first : Assembly) (all : List Pdv) : Type 0 where
  pub read : followed_by list (messages_from s left) ≡ messages_from first all
  pub next : assembly_from s left ≡ assembly_from first all
  pub sound : spent_by s ≡ None

pub none-read : (list : List Message) (s : Assembly) (all : List Pdv) → list ≡ [] → spent_by s ≡ None → ReadSo list s all s all
none-read list s all e sound = record {
  read = ap (λ (l : List Message). followed_by l (messages_from s all)) e;
  next = refl;
  sound = sound;
}

here : (all : List Pdv) (i : ℕ) (pdv : Pdv) → i < length all → pdv ≡ get_or all i pdv → drop i all ≡ (pdv ∷ []) ++ drop (suc i) all
here all i pdv lt is = drop-cons all i pdv lt ∙ ap (λ (x : Pdv). x ∷ drop (suc i) all) (sym is)

-- what is read is split at a value
split : (list : List Message) (s : Assembly) (all : List Pdv) (i : ℕ) (pdv : Pdv) → i < length all → pdv ≡ get_or all i pdv
    → followed_by (list ++ (messages_from s (pdv ∷ [])).list) (messages_from (assembly_from s (pdv ∷ [])) (drop (suc i) all))
    ≡ followed_by list (messages_from s (drop i all))
split list s all i pdv lt is =
    let rest = drop (suc i) all in
    let read = messages_from s (pdv ∷ []) in
    let later = messages_from (assembly_from s (pdv ∷ [])) rest in
    ap (λ (l : List Message). record { list = l; fault = later.fault }) (append_assoc list read.list later.list)
    ∙ ap (followed_by list) (sym (messages_from-append s (pdv ∷ []) rest))
    ∙ ap (λ (v : List Pdv). followed_by list (messages_from s v)) (sym (here all i pdv lt is))

none-is : (o : Option DimseFault) → false ≡ is_some o → o ≡ None
none-is None e = refl
none-is (Some d) e = absurd cc

-- a value that is taken
pub one-read : (list longer : List Message) (s next first : Assembly) (all others : List Pdv) (i : ℕ) (pdv : Pdv)
    → ReadSo list s (drop i all) first others → i < length all → pdv ≡ get_or all i pdv
    → longer ≡ list ++ (messages_from s (pdv ∷ [])).list → false ≡ is_some (messages_from s (pdv ∷ [])).fault → next ≡ assembly_from s (pdv ∷ [])
    → ReadSo longer next (drop (i + 1) all) first others
one-read list longer s next first all others i pdv so lt is adds unfaulty goes =
    let rest = drop (suc i) all in
    subst (λ (n : ℕ). ReadSo longer next (drop n all) first others) (sym (add-one i)) (record {
      read = ap (λ (l : List Message). followed_by l (messages_from next rest)) adds
          ∙ ap (λ (t : Assembly). followed_by (list ++ (messages_from s (pdv ∷ [])).list) (messages_from t rest)) goes
          ∙ split list s all i pdv lt is ∙ so.read;
      next = ap (λ (t : Assembly). assembly_from t rest) goes ∙ sym (assembly_from-append s (pdv ∷ []) rest)
          ∙ ap (assembly_from s) (sym (here all i pdv lt is)) ∙ so.next;
      sound = ap spent_by goes ∙ sym (messages_from-fault s (pdv ∷ [])) ∙ none-is (messages_from s (pdv ∷ [])).fault unfaulty;
    })

-- a value that is faulty ends what is read
pub record ReadToFault (list : List Message) (total : Messages) : Type 0 where
  pub messages_are : list ≡ total.list
  pub fault_is : true ≡ is_some total.fault

to-fault : (list : List Message) (s : Assembly) (pdvs : List Pdv) (f : Option DimseFault) → spent_by s ≡ f → true ≡ is_some f
    → ReadToFault list (followed_by list (messages_from s pdvs))
to-fault list s pdvs None spent e = absurd cc
to-fault list s pdvs (Some d) spent e =
    let ends = sym (messages_from-spent s pdvs d spent) in
    record {
      messages_are = sym (append-nil list) ∙ ap (λ (m : Messages). list ++ m.list) ends;
      fault_is = ap (λ (m : Messages). is_some m.fault) ends;
    }

pub fault-read : (list longer : List Message) (s first : Assembly) (all others : List Pdv) (i : ℕ) (pdv : Pdv)
    → ReadSo list s (drop i all) first others → i < length all → pdv ≡ get_or all i pdv
    → longer ≡ list ++ (messages_from s (pdv ∷ [])).list → true ≡ is_some (messages_from s (pdv ∷ [])).fault
    → ReadToFault longer (messages_from first others)
fault-read list longer s first all others i pdv so lt is adds faulty =
    let next = assembly_from s (pdv ∷ []) in
    let rest = drop (suc i) all in
    let total : followed_by longer (messages_from next rest) ≡ messages_from first others =
    ap (λ (l : List Message). followed_by l (messages_from next rest)) adds ∙ split list s all i pdv lt is ∙ so.read in
    let ends = to-fault longer next rest (spent_by next) refl (faulty ∙ ap is_some (messages_from-fault s (pdv ∷ []))) in
    record {
      messages_are = ends.messages_are ∙ ap (λ (m : Messages). m.list) total;
      fault_is = ends.fault_is ∙ ap (λ (m : Messages). is_some m.fault) total;
    }

-- all values were read
pub record ReadAll (list : List Message) (s first : Assembly) (all : List Pdv) : Type 0 where
  pub messages_are : list ≡ (messages_from first all).list
  pub fault_is : false ≡ is_some (messages_from first all).fault
  pub next_is : s ≡ assembly_from first all

pub all-read : (list : List Message) (s first : Assembly) (left all : List Pdv) → ReadSo list s left first all → left ≡ [] → ReadAll list s first all
all-read list s first left all so e =
    let whole : record { list = list; fault = spent_by s } ≡ messages_from first all =
    ap (λ (l : List Message). record { list = l; fault = spent_by s }) (sym (append-nil list))
    ∙ ap (followed_by list) (sym (messages_from-nil s)) ∙ ap (λ (v : List Pdv). followed_by list (messages_from s v)) (sym e) ∙ so.read in
    record {
      messages_are = ap (λ (m : Messages). m.list) whole;
      fault_is = ap is_some (sym so.sound) ∙ ap (λ (m : Messages). is_some m.fault) whole;
      next_is = sym (assembly_from-nil s) ∙ ap (assembly_from s) (sym e) ∙ so.next;
    }
