use Rattle.std.proofs.Common.{length, refl, sym, subst}
use Rattle.std.proofs.lemmas.Option.{slice_get_read}
use Rattle.dq_tables.specs.declared.row.Kind.TheVariants.{Entry}
use Rattle.dq_tables.specs.Lookups.{IsAtIndex}
use Rattle.dq_tables.specs.Rows.{IsRising, Start, place}
use Rattle.dq_tables.proofs.Lens.{rising_edit}
use Rattle.dq_tables.proofs.StartedEntries.{starts_at, start_of_none}
use Rattle.dq_tables.proofs.put.start.Goals as goal

pub returns-in-Ok-clause-done : goal.returns-in-Ok-clause-done
returns-in-Ok-clause-done c =
    let rows = c.args.rows.now.items in
    let row = c.index_mut.result.now in
    let there : IsAtIndex (place Entry c.args.institution.now c.args.key.now) rows c.in-Ok.at = rw c.deref.ensures.value at (c.in-Ok.ensures {u = tt}) in
    starts_at c.args.institution.now c.args.key.now rows c.in-Ok.at row there
    (slice_get_read rows (length rows) c.in-Ok.at row refl there.within c.index_mut.ensures.value)

pub returns-in-Ok-clause-rising : goal.returns-in-Ok-clause-rising
returns-in-Ok-clause-rising c =
    subst IsRising (sym (returns-in-Ok-clause-done c)) (rising_edit c.args.institution.now (Start c.args.key.now) c.args.rows.now.items c.requires)

pub returns-in_default-clause-done : goal.returns-in_default-clause-done
returns-in_default-clause-done c =
    let free = c.in_default.ensures in
    sym (start_of_none c.args.institution.now c.args.key.now c.args.rows.now.items c.requires (rw c.deref.ensures.value at free).found)
