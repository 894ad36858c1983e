use Rattle.std.proofs.Common.{ℕ, Bool, [], ◌∷◌, Option, Some, None, sym, ◌∙◌}
use Rattle.dq_config.specs.Limits.{limits_of}
use Rattle.dq_dimse.specs.Statuses.{out_of_resources}
use Rattle.dq_tables.specs.declared.row.Kind.TheVariants.{Image}
use Rattle.dq_tables.specs.ServiceEffects.{first_refusal}
use Rattle.dq_archive.specs.Archives.{records_in}
use Rattle.dq_archive.proofs.Lookups.{looks_then, looks_as}
use Rattle.dq_store.specs.CStore.{finds_no_room, count_of}
use Rattle.dq_store.specs.Views.{records_kept}
use Rattle.dq_store.proofs.kept_instance.limit_refusal.Goals as goal

abbrev status_by : Bool → Bool → Option ℕ
status_by studies images = first_refusal ((studies, out_of_resources) ∷ (images, out_of_resources) ∷ [])

pub returns-then-branch : goal.returns-then-branch
returns-then-branch g c =
    let old = c.args.archive.now in
    let first = c.in_ok-finds_no_room.ensures in
    let images = finds_no_room (records_kept c.args.kept.now).image (limits_of old.institution.now).images (count_of Image (records_in g.T.Tables.state old)) in
    looks_as g.T.Tables.state old c.finds_no_room.new.archive _ c.in_ok-finds_no_room.field-0 first _ (Some 0xA700)
    (λ h i. status_by ((sym c.if-branch.true ∙ first.answered h) i) images)

pub returns-then-branch-2 : goal.returns-then-branch-2
returns-then-branch-2 g c =
    let old = c.args.archive.now in
    let next = c.in_ok-finds_no_room-2.ensures in
    let first = c.in_ok-finds_no_room.ensures in
    let second = looks_then g.T.Tables.state old c.finds_no_room.new.archive c.finds_no_room-2.new.archive _ c.in_ok-finds_no_room.field-0 first _ _ next in
    looks_as g.T.Tables.state old c.finds_no_room-2.new.archive _ c.in_ok-finds_no_room-2.field-0 second _ (Some 0xA700)
    (λ h i. status_by ((sym c.if-branch.false ∙ first.answered (next.reads.goes.was_honest h)) i) ((sym c.if-branch-2.true ∙ second.answered h) i))

pub returns : goal.returns
returns g c =
    let old = c.args.archive.now in
    let next = c.in_ok-finds_no_room-2.ensures in
    let first = c.in_ok-finds_no_room.ensures in
    let second = looks_then g.T.Tables.state old c.finds_no_room.new.archive c.finds_no_room-2.new.archive _ c.in_ok-finds_no_room.field-0 first _ _ next in
    looks_as g.T.Tables.state old c.finds_no_room-2.new.archive _ c.in_ok-finds_no_room-2.field-0 second _ None
    (λ h i. status_by ((sym c.if-branch.false ∙ first.answered (next.reads.goes.was_honest h)) i) ((sym c.if-branch-2.false ∙ second.answered h) i))
