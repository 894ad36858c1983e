use Rattle.std.proofs.Common.{rules, arith, sym, Ok, Err}
use Rattle.std.proofs.lemmas.List.Sorted.{answers_always}
use Rattle.dq_vr.specs.declared.Vr.TheVariants.{AE}
use Rattle.dq_vr.proofs.Entries.{number_of, searched}
use Rattle.dq_vr.proofs.vr_in.Goals as goal

pub returns-in-Ok : goal.returns-in-Ok
returns-in-Ok c =
    let facts = c.in-Ok.ensures in
    let told = searched c.args.entries.now c.requires.rises c.requires.tags c.args.tag (omega arith) c.number_of.result c.number_of.ensures in
    let position = facts.position (λ entry. number_of entry.0) (answers_always _ _ _ (λ f a r g called. search rules)) in
    sym (told (Ok c.in-Ok.at) facts.bound position (record { group = 0; element = 0 }, AE))

pub returns-in-Err : goal.returns-in-Err
returns-in-Err c =
    let facts = c.in-Err.ensures in
    let told = searched c.args.entries.now c.requires.rises c.requires.tags c.args.tag (omega arith) c.number_of.result c.number_of.ensures in
    let position = facts.position (λ entry. number_of entry.0) (answers_always _ _ _ (λ f a r g called. search rules)) in
    sym (told (Err c.in-Err.field-0) facts.bound position)
