-- Assemblers, and the messages of PDVs that come in parts: what upper layers prove with.
use Rattle.std.proofs.Common.{◌≡◌, ℕ, List, [], ◌++◌, Some, refl, sym, ap, arith}
use Rattle.std.proofs.Common.{◌∙◌}
use Rattle.std.proofs.lemmas.List.{append-nil}
use Rattle.dq_pdu.specs.declared.pdu.Pdv.{Pdv}
use Rattle.dq_dimse.specs.Received.{Message}
use Rattle.dq_dimse.specs.declared.fault.DimseFault.{DimseFault}
use Rattle.dq_dimse.specs.Assembling.{PartialMessage}
use Rattle.dq_dimse.specs.Assembling.{Gathering, gather_all, gathering_fault, Messages, Assembly, messages_from, assembly_from, new_assembly}
use Rattle.dq_dimse.specs.Assembling.{messages, followed_by, spent_by, AssemblerAfter}
use Rattle.dq_dimse.proofs.Gatherings.{gather_all-append, fault_stays, spent_is}

-- how messages are read off what was gathered
abbrev pub read_off : Gathering → Messages
read_off all = record { list = all.list; fault = gathering_fault all.gathered }

-- ---- PDVs after those that an assembler was given

pub messages_from-nil : (a : Assembly) → messages_from a [] ≡ record { list = []; fault = spent_by a }
unfolding messages_from
messages_from-nil a = refl

pub assembly_from-nil : (a : Assembly) → assembly_from a [] ≡ a
unfolding assembly_from
assembly_from-nil a = refl

pub messages_from-append : (a : Assembly) (xs ys : List Pdv)
    → messages_from a (xs ++ ys) ≡ followed_by (messages_from a xs).list (messages_from (assembly_from a xs) ys)
unfolding messages_from assembly_from
messages_from-append a xs ys = ap read_off (gather_all-append a.ids a.gathered xs ys)

pub assembly_from-append : (a : Assembly) (xs ys : List Pdv) → assembly_from a (xs ++ ys) ≡ assembly_from (assembly_from a xs) ys
unfolding assembly_from
assembly_from-append a xs ys = ap (λ (all : Gathering). record { ids = a.ids; gathered = all.gathered }) (gather_all-append a.ids a.gathered xs ys)

-- the fault of PDVs is that which spends the assembler
pub messages_from-fault : (a : Assembly) (pdvs : List Pdv) → (messages_from a pdvs).fault ≡ spent_by (assembly_from a pdvs)
unfolding messages_from assembly_from
messages_from-fault a pdvs = refl

-- after a fault nothing is added
pub messages_from-spent : (a : Assembly) (pdvs : List Pdv) (fault : DimseFault) → spent_by a ≡ Some fault
    → messages_from a pdvs ≡ record { list = []; fault = Some fault }
unfolding messages_from
messages_from-spent a pdvs fault e =
    ap (λ (g : PartialMessage). read_off (gather_all a.ids g pdvs)) (spent_is a.gathered fault e) ∙ ap read_off (fault_stays a.ids fault pdvs)

pub assembly_from-spent : (a : Assembly) (pdvs : List Pdv) (fault : DimseFault) → spent_by a ≡ Some fault → assembly_from a pdvs ≡ a
unfolding assembly_from
assembly_from-spent a pdvs fault e = grind (arith, spent_is, fault_stays)

-- ---- an assembler that was given PDVs

pub assembler_on : (ids : List ℕ) (xs ys : List Pdv) (a : Assembly) → AssemblerAfter ids xs a → AssemblerAfter ids (xs ++ ys) (assembly_from a ys)
assembler_on ids xs ys a h = record { stands = ap (λ (b : Assembly). assembly_from b ys) h.stands ∙ sym (assembly_from-append (new_assembly ids) xs ys) }

pub assembler_only : (ids : List ℕ) (pdvs : List Pdv) (a b : Assembly) → AssemblerAfter ids pdvs a → AssemblerAfter ids pdvs b → a ≡ b
assembler_only ids pdvs a b g h = g.stands ∙ sym h.stands

pub fault_is : (ids : List ℕ) (pdvs : List Pdv) (a : Assembly) → AssemblerAfter ids pdvs a → (messages ids pdvs).fault ≡ spent_by a
fault_is ids pdvs a h = messages_from-fault (new_assembly ids) pdvs ∙ ap spent_by (sym h.stands)

pub messages_on : (ids : List ℕ) (xs ys : List Pdv) (a : Assembly) → AssemblerAfter ids xs a
    → messages ids (xs ++ ys) ≡ followed_by (messages ids xs).list (messages_from a ys)
messages_on ids xs ys a h =
    messages_from-append (new_assembly ids) xs ys ∙ ap (λ (b : Assembly). followed_by (messages ids xs).list (messages_from b ys)) (sym h.stands)

-- ---- the messages of PDVs

pub messages_add : (ids : List ℕ) (xs ys : List Pdv) → (later : List Message) × ((messages ids (xs ++ ys)).list ≡ (messages ids xs).list ++ later)
messages_add ids xs ys =
    let a = new_assembly ids in
    ((messages_from (assembly_from a xs) ys).list, ap (λ (m : Messages). m.list) (messages_from-append a xs ys))

pub messages_stay : (ids : List ℕ) (xs ys : List Pdv) (fault : DimseFault) → (messages ids xs).fault ≡ Some fault → messages ids (xs ++ ys) ≡ messages ids xs
messages_stay ids xs ys fault e = grind (arith, messages_from-fault, messages_from-append, messages_from-spent, append-nil)
