use Rattle.std.proofs.Common.{sym, ◌∙◌}
use Rattle.std.proofs.lemmas.List.{drop_all}
use Rattle.dq_assoc.proofs.HeldAssociations.{none_reads, one_reads, fault_reads, all_reads}
use Rattle.dq_assoc.proofs.association.read_pdvs.Goals as goal

pub loop-pdv-init : goal.loop-pdv-init
loop-pdv-init c = none_reads c.args.assembler.now c.empty-messages.result c.args.pdvs.now c.empty-messages.ensures c.requires

pub loop-pdv-preserved : goal.loop-pdv-preserved
loop-pdv-preserved c =
    let took = c.in_ok-is_faulty.ensures in
    one_reads c.args.assembler.now c.loop-pdv.assembler _ c.loop-pdv.messages _ c.args.pdvs.now c.loop-pdv.pdv-index c.pdv-item.result _
    c.loop-pdv.invariant c.loop-pdv-test.true c.pdv-item.is
    (record { messages = took.messages; fault = took.fault; next = took.next; unspent = took.unspent; keeps = took.keeps }) c.if-is_faulty.false

pub returns-then-is_faulty : goal.returns-then-is_faulty
returns-then-is_faulty c =
    let took = c.in_ok-is_faulty.ensures in
    let ends = fault_reads c.args.assembler.now c.loop-pdv.assembler _ c.loop-pdv.messages _ c.args.pdvs.now c.loop-pdv.pdv-index
    c.pdv-item.result _
    c.loop-pdv.invariant c.loop-pdv-test.true c.pdv-item.is
    (record { messages = took.messages; fault = took.fault; next = took.next; unspent = took.unspent; keeps = took.keeps }) c.if-is_faulty.true in
    record {
      messages = ends.messages;
      fault = λ a h. c.if-is_faulty.true ∙ ends.fault a h;
      next = λ a h e. let no = sym c.if-is_faulty.true ∙ e in absurd cc;
      unspent = λ e. let no = sym c.if-is_faulty.true ∙ e in absurd cc;
      keeps = took.keeps ∙ c.loop-pdv.invariant.keeps;
    }

pub returns : goal.returns
returns c =
    let all = all_reads c.args.assembler.now c.loop-pdv.assembler c.loop-pdv.messages _ c.args.pdvs.now c.loop-pdv.invariant
    (drop_all c.loop-pdv.pdv-index c.args.pdvs.now c.loop-pdv-test.false) in
    record {
      messages = all.messages;
      fault = all.fault;
      next = λ a h e. all.next a h;
      unspent = λ e. c.loop-pdv.invariant.unspent;
      keeps = c.loop-pdv.invariant.keeps;
    }
