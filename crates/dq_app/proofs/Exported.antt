-- Lines of data sets that are printed one after another.
use Rattle.std.proofs.Common.{◌≡◌, ◌≢◌, ◌<◌, ◌+◌, ℕ, suc, min, List, [], ◌∷◌, ◌++◌, length, map, get_or, take, drop, Option, refl, sym, ap, ◌∙◌, arith, take-append-drop, drop-cons}
use Rattle.std.specs.Io.KnownBytes.{Appends}
use Rattle.std.proofs.Math.Seq.{take-append-add}
use Rattle.std.proofs.lemmas.List.{take-append-le, take_min, take-map, get_or-map, length-map}
use Rattle.std.proofs.lemmas.Grind.{flat_map-append}
use Rattle.dq_dataset.specs.Tree.{ElementList}
use Rattle.dq_tables.specs.declared.row.Kind.{Kind}
use Rattle.dq_tables.specs.declared.row.Row.{Row}
use Rattle.dq_tables.specs.Lookups.{rows_of, records_of}
use Rattle.dq_tables.specs.Records.{AreInOrder, data_set_of}
use Rattle.dq_tables.specs.Rows.{Edit, IsRising, Record, after, by, of, row_of}
use Rattle.dq_tables.proofs.Lens.{others}
use Rattle.dq_tables.proofs.RecordLists.{listed_in_order}
use Rattle.dq_tables.proofs.OwnRows.{listed_own}
use Rattle.dq_captures.proofs.WrittenLines.{AppendsPart-after, Appends-kept, Appends-then, BreaksOff-item}
use Rattle.dq_app.specs.Program.{Breaks}
use Rattle.dq_console.specs.ConsoleLines.{json_line, json_lines}
use Rattle.dq_cli.specs.CommandLine.{Exporting}
use Rattle.dq_app.specs.Exports.{data_sets_of, exported_data_sets, kinds_asked, export_text, CutsLines}
use Rattle.dq_app.specs.declared.stop.Stop.{Stop}
use Rattle.dq_app.specs.declared.stop.Stop.TheVariants as stop

-- the data set that a row holds
abbrev pub data_set_in : Row → ElementList
data_set_in row = data_set_of row.octets

held-by : (name : List ℕ) (records : List Record) → map data_set_in (map (row_of name) records) ≡ map (λ (r : Record). data_set_of r.octets) records
held-by name [] = refl
held-by name (r ∷ records) = ap (λ (more : List ElementList). data_set_of r.octets ∷ more) (held-by name records)

-- the rows of a kind hold what the institution's records of the kind do
pub of-records : (kind : Kind) (name : List ℕ) (rows : List Row) → map data_set_in (rows_of kind name rows) ≡ data_sets_of (of name rows) kind
of-records kind name rows = ap (map data_set_in) (listed_own kind name rows) ∙ held-by name (records_of kind (of name rows))

-- rows are cut short at one of them
pub row-cut : (before mid after : Option (List ℕ)) (rows : List Row) (at : ℕ) (row : Row) (cause : Stop) → at < length rows → row ≡ get_or rows at row
    → Appends before mid (json_lines (map data_set_in (take at rows))) → Breaks mid after (json_line (data_set_in row)) cause
    → CutsLines before after (map data_set_in rows) cause
row-cut before mid after rows at row (stop.Fault number) within is done kept =
    (at, rw (take-map data_set_in at rows) (Appends-kept before mid after _ done kept))
row-cut before mid after rows at row stop.Output within is done part =
    let below : at < length (map data_set_in rows) = rw (length-map rows data_set_in) within in
    let here : data_set_in row ≡ get_or (map data_set_in rows) at (data_set_in row) =
    ap data_set_in is ∙ sym (get_or-map data_set_in rows at row (data_set_in row) within) in
    (BreaksOff-item json_line {May = Unit {0}} {Then = Unit {0}} before mid after (map data_set_in rows) at (data_set_in row) below here (λ u. u)
    (rw (take-map data_set_in at rows) done) (tt, part)).1
row-cut before mid after rows at row other within is done cut = cut

module _ (records : List Record) (kinds : List Kind) (at : ℕ) (kind none : Kind) (within : at < length kinds) (is : kind ≡ get_or kinds at none) where
  abbrev later : List ElementList
  later = exported_data_sets records (drop (suc at) kinds)

  -- what is exported before a kind, of it, and behind it
  parts : exported_data_sets records kinds ≡ exported_data_sets records (take at kinds) ++ (data_sets_of records kind ++ later)
  parts =
      let rest : drop at kinds ≡ kind ∷ drop (suc at) kinds = drop-cons kinds at none within ∙ ap (λ (k : Kind). k ∷ drop (suc at) kinds) (sym is) in
      ap (exported_data_sets records) (sym (take-append-drop at kinds)) ∙ flat_map-append (data_sets_of records) (take at kinds) (drop at kinds)
      ∙ ap (λ (ks : List Kind). exported_data_sets records (take at kinds) ++ exported_data_sets records ks) rest

  front : (count : ℕ) (xs ys zs : List ElementList) → take (length xs + min count (length ys)) (xs ++ (ys ++ zs)) ≡ xs ++ take count ys
  front count xs ys zs =
      take-append-add xs (ys ++ zs) (min count (length ys))
      ∙ ap (λ (l : List ElementList). xs ++ l) (take-append-le (min count (length ys)) ys zs (omega arith) ∙ take_min count ys)

  -- kinds are cut short at one of them
  pub kind-cut : (before mid after : Option (List ℕ)) (cause : Stop) → Appends before mid (json_lines (exported_data_sets records (take at kinds)))
      → CutsLines mid after (data_sets_of records kind) cause → CutsLines before after (exported_data_sets records kinds) cause
  kind-cut before mid after (stop.Fault number) done cut =
      let first = exported_data_sets records (take at kinds) in
      let these = data_sets_of records kind in
      let text : json_lines (take (length first + min cut.0 (length these)) (exported_data_sets records kinds)) ≡ json_lines first ++ json_lines (take cut.0 these) =
      ap (λ (all : List ElementList). json_lines (take (length first + min cut.0 (length these)) all)) parts
      ∙ ap json_lines (front cut.0 first these later) ∙ flat_map-append json_line first (take cut.0 these) in
      (length first + min cut.0 (length these), rw text (Appends-then before mid after (json_lines first) (json_lines (take cut.0 these)) done cut.1))
  kind-cut before mid after stop.Output done part =
      let first = exported_data_sets records (take at kinds) in
      let these = data_sets_of records kind in
      let text : json_lines (exported_data_sets records kinds) ≡ json_lines first ++ (json_lines these ++ json_lines later) =
      ap json_lines parts ∙ flat_map-append json_line first (these ++ later) ∙ ap (λ (l : List ℕ). json_lines first ++ l) (flat_map-append json_line these later) in
      rw text (AppendsPart-after before mid after (json_lines first) (json_lines these) (json_lines later) done part)
  kind-cut before mid after other done cut = cut

-- ---- of whose records it is

pub own_alone : (exporting : Exporting) (one other : List Row) → of exporting.only one ≡ of exporting.only other
    → export_text one exporting ≡ export_text other exporting
own_alone exporting one other same = ap (λ (records : List Record). json_lines (exported_data_sets records (kinds_asked exporting.kind))) same

pub others_stay : (exporting : Exporting) (name : List ℕ) → name ≢ exporting.only → (edits : List Edit) (rows : List Row) → IsRising rows
    → export_text (after (by name edits) rows) exporting ≡ export_text rows exporting
others_stay exporting name other edits rows rising = own_alone exporting _ rows (others exporting.only name other edits rows rising)

pub in_order : (exporting : Exporting) (kind : Kind) (rows : List Row) → IsRising rows → AreInOrder (records_of kind (of exporting.only rows))
in_order exporting kind rows rising = listed_in_order kind exporting.only rows rising
