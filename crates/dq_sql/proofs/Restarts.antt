-- What a crash leaves of a store of rows is found as one.
use Rattle.std.proofs.Common.{◌≡◌, List, [], refl, sym, ap, subst, ◌∙◌}
use Rattle.sqlite_schema.specs.declared.schema.Schema.{Schema}
use Rattle.sqlite_wal.specs.Recovery.{Image}
use Rattle.sqlite.specs.Effect.{Database}
use Rattle.sqlite.specs.State.{State, IsLive, Opens}
use Rattle.sqlite.specs.Start.{FindsIn}
use Rattle.dq_tables.specs.declared.row.Row.{Row}
use Rattle.dq_tables.specs.Sound.{IsSound}
use Rattle.dq_sql.specs.Schema.{schema_of, kept_schema}
use Rattle.dq_sql.specs.KeptRows.{under_schema}
use Rattle.dq_sql.specs.Tie.{HasRows}
use Rattle.sqlite.specs.Files.{HoldsDatabase}
use Rattle.dq_sql.specs.Restarts.{ImageHoldsRows, HoldsAlone, IsReopened}
use Rattle.dq_sql.proofs.OneSchema.{one_schema}

-- The trees say the schema.
pub found_again : (s : State) (rows : List Row) → IsLive s → IsReopened s rows → HasRows s.now rows
unfolding schema_of
found_again s rows live it =
    let same : kept_schema ≡ s.now.schema = one_schema s.now.trees kept_schema s.now.schema refl it.has.database (live it.opens.is_open).0 in
    subst (λ (x : Schema). let d : Database = record { schema = x; trees = s.now.trees } in HasRows d rows) same it.has

-- An open of files that hold rows finds these.
pub reopened : (image : Image) (s : State) (rows : List Row) → Opens s → FindsIn image s → ImageHoldsRows image rows → IsSound rows → IsReopened s rows
reopened image s rows opens found held sound =
    let same : s.now.trees ≡ held.trees = ap (λ (d : Database). d.trees) opens.clean ∙ found.holds held.trees held.holds in
    record { opens = opens; has = subst (λ t. HasRows (under_schema t) rows) (sym same) held.has; sound = sound }

-- Files whose trees are those of a store of rows hold these.
pub alone_holds : (image : Image) (d : Database) (rows : List Row) → HasRows d rows → HoldsDatabase image d.trees → HoldsDatabase (record image { log = [] }) d.trees
    → HoldsAlone image rows
alone_holds image d rows has both alone =
    let here : HasRows (under_schema d.trees) rows =
    subst (λ (x : Schema). let e : Database = record { schema = x; trees = d.trees } in HasRows e rows) has.version_is.schema has in
    record { both = record { trees = d.trees; holds = both; has = here }; alone = record { trees = d.trees; holds = alone; has = here } }
