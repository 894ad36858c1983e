use Rattle.std.proofs.Common.{◌≡◌, ◌∙◌, ℕ, Bool, true, List, [], sym, ap, subst}
use Rattle.std.specs.Option.{option_map}
use Rattle.dq_config.specs.Limits.{limits_of}
use Rattle.dq_dataset.specs.declared.header.Syntax.TheVariants.{Explicit}
use Rattle.dq_dataset.specs.Canonical.{HasLengths}
use Rattle.dq_dataset.specs.Editing.{cut_out}
use Rattle.dq_dataset.proofs.Large.{small_has_lengths}
use Rattle.dq_vr.specs.StudyRoot.{kept_attributes}
use Rattle.dq_tables.specs.Rows.{Record, Edit, of}
use Rattle.dq_tables.specs.ServiceEffects.{Serves}
use Rattle.dq_tables.proofs.TableCalls.{reads_nothing, serves_read}
use Rattle.dq_archive.proofs.AddedRecords.{told_nothing}
use Rattle.dq_store.specs.CStore.{store_outcome}
use Rattle.dq_store.specs.Views.{instance_of, instance_stored}
use Rattle.dq_store.proofs.Outcomes.{over}
use Rattle.dq_store.proofs.Sifted.{octets_over, kept_of_it, stored_large, stored_unread, stored_unnamed, stored_kept}
use Rattle.dq_store.proofs.c_store.store_telling.Goals as goal

pub returns-in_default-clause-serves : goal.returns-in_default-clause-serves
returns-in_default-clause-serves g c = λ sent h.
    let it = g.T.Tables.state c.args.tables.now in
    let name = c.args.institution.now.name in
    let limits = limits_of c.args.institution.now in
    let does = λ (records : List Record). store_outcome limits records sent c.args.syntax in
    serves_read name does it it 0xA700 (reads_nothing it 0xA700)
    (λ honest. over limits (of name it.rows) sent c.args.syntax
    (octets_over c.args.syntax c.args.message.now sent h c.in_default.field-0 c.requires c.in_default.is))

pub returns-in-Large-clause-serves : goal.returns-in-Large-clause-serves
returns-in-Large-clause-serves g c = λ sent h.
    let it = g.T.Tables.state c.args.tables.now in
    let name = c.args.institution.now.name in
    let limits = limits_of c.args.institution.now in
    let does = λ (records : List Record). store_outcome limits records sent c.args.syntax in
    serves_read name does it it 0xA700 (reads_nothing it 0xA700)
    (λ honest. stored_large limits (of name it.rows) c.args.syntax c.args.message.now sent h c.in-Sifted.sifted c.in-Sifted.is c.in-Large.is
    (c.spelling_law.ensures.read c.args.syntax sent.octets))

pub returns-in-Fault-clause-serves : goal.returns-in-Fault-clause-serves
returns-in-Fault-clause-serves g c = λ sent h.
    let it = g.T.Tables.state c.args.tables.now in
    let name = c.args.institution.now.name in
    let limits = limits_of c.args.institution.now in
    let does = λ (records : List Record). store_outcome limits records sent c.args.syntax in
    serves_read name does it it 0xC000 (reads_nothing it 0xC000)
    (λ honest. stored_unread limits (of name it.rows) c.args.syntax c.args.message.now sent h c.in-Sifted.sifted c.in-Fault.field-0
    c.in-Sifted.is c.in-Fault.is (c.fault_law.ensures.read c.args.syntax sent.octets))

pub returns-in_default-of-clause-serves : goal.returns-in_default-of-clause-serves
returns-in_default-of-clause-serves g c = λ sent h.
    let it = g.T.Tables.state c.args.tables.now in
    let name = c.args.institution.now.name in
    let limits = limits_of c.args.institution.now in
    let does = λ (records : List Record). store_outcome limits records sent c.args.syntax in
    let none = sym (ap (option_map instance_of) c.in_default-of.is) ∙ c.of.ensures.named in
    serves_read name does it it 0xA900 (reads_nothing it 0xA900)
    (λ honest. stored_unnamed limits (of name it.rows) c.args.syntax c.args.message.now sent h c.in-Sifted.sifted c.in-Kept.data_set c.in-Kept.other
    c.in-Sifted.is c.in-Kept.is (c.spelling_law.ensures.read c.args.syntax sent.octets) none)

pub returns-then-not-can_be_written-clause-serves : goal.returns-then-not-can_be_written-clause-serves
returns-then-not-can_be_written-clause-serves g c = λ sent h.
    let w = kept_of_it (limits_of c.args.institution.now) [] c.args.syntax c.args.message.now sent h c.in-Sifted.sifted c.in-Kept.data_set c.in-Kept.other
    c.in-Sifted.is c.in-Kept.is in
    let lengths = subst (HasLengths Explicit) (sym w.kept_is) (small_has_lengths (cut_out kept_attributes w.whole) w.small) in
    let written : c.can_be_written.result ≡ true = c.can_be_written.ensures.1 lengths in
    absurd (let no = c.if-not-can_be_written.true in cc)

pub returns-clause-serves : goal.returns-clause-serves
returns-clause-serves g c = λ sent h.
    let limits = limits_of c.args.institution.now in
    let some = sym (ap (option_map instance_of) c.in-Some.is) ∙ c.of.ensures.named in
    let same = λ (records : List Record).
    ap (λ (b : Bool). instance_stored limits records b (instance_of c.in-Some.sent)) c.in-Some.ensures.other
    ∙ stored_kept limits records c.args.syntax c.args.message.now sent h c.in-Sifted.sifted c.in-Kept.data_set c.in-Kept.other
    c.in-Sifted.is c.in-Kept.is (c.spelling_law.ensures.read c.args.syntax sent.octets) (instance_of c.in-Some.sent) some in
    subst (λ (does : List Record → ℕ × List Edit). Serves (g.T.Tables.state c.args.tables.now)
    (g.T.Tables.state c.store_instance.new.tables) c.args.institution.now.name does
    c.store_instance.result) (λ i. λ records. same records i) c.store_instance.ensures.serves

pub returns-in_default-clause-told : goal.returns-in_default-clause-told
returns-in_default-clause-told g c = λ honest. told_nothing c.args.institution.now.name (g.T.Tables.state c.args.tables.now).rows c.args.added.now

pub returns-in-Large-clause-told : goal.returns-in-Large-clause-told
returns-in-Large-clause-told g c = λ honest. told_nothing c.args.institution.now.name (g.T.Tables.state c.args.tables.now).rows c.args.added.now

pub returns-in-Fault-clause-told : goal.returns-in-Fault-clause-told
returns-in-Fault-clause-told g c = λ honest. told_nothing c.args.institution.now.name (g.T.Tables.state c.args.tables.now).rows c.args.added.now

pub returns-in_default-of-clause-told : goal.returns-in_default-of-clause-told
returns-in_default-of-clause-told g c = λ honest. told_nothing c.args.institution.now.name (g.T.Tables.state c.args.tables.now).rows c.args.added.now

pub returns-then-not-can_be_written-clause-told : goal.returns-then-not-can_be_written-clause-told
returns-then-not-can_be_written-clause-told g c = λ honest. told_nothing c.args.institution.now.name (g.T.Tables.state c.args.tables.now).rows c.args.added.now
