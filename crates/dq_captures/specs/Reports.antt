-- The printed lines of a report.
use Rattle.std.specs.Prelude.{ℕ, List, [], ◌∷◌, ◌++◌, length, map, codes}
use Rattle.std.specs.Fmt.{decimal}
use Rattle.std.specs.List.{flat_map}
use Rattle.dq_config.specs.declared.config.Institution.{Institution}
use Rattle.dq_tables.specs.declared.row.Kind.{Kind}
use Rattle.dq_tables.specs.declared.row.Kind.TheVariants.{Study, Series, Image, Entry, Step}
use Rattle.dq_tables.specs.declared.row.Row.{Row}
use Rattle.dq_tables.specs.Lookups.{rows_of}
use Rattle.dq_captures.specs.Captures.{line_feed}

abbrev pub every_kind : List Kind
every_kind = Study ∷ Series ∷ Image ∷ Entry ∷ Step ∷ []

abbrev pub kind_word : Kind → List ℕ
kind_word Study = codes "studies"
kind_word Series = codes "series"
kind_word Image = codes "images"
kind_word Entry = codes "entries"
kind_word Step = codes "steps"

-- how many rows of a kind an institution has, after the word for them
abbrev pub count_text : List Row → List ℕ → Kind → List ℕ
count_text rows name kind =
    codes " " ++ kind_word kind ++ codes " " ++ decimal (length (rows_of kind name rows))

-- `NAME studies A series B images C entries D steps E`
abbrev pub report_line : List Row → List ℕ → List ℕ
report_line rows name = name ++ flat_map (count_text rows name) every_kind ++ line_feed ∷ []

abbrev pub names_of : List Institution → List (List ℕ)
names_of institutions = map (λ (i : Institution). i.name) institutions

-- a line for each name
abbrev pub report_text : List Row → List (List ℕ) → List ℕ
report_text rows names = flat_map (report_line rows) names
