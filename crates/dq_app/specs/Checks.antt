-- The output of a check of a configuration, and the reasons why a check stops.
use Rattle.std.specs.Prelude.{◌≡◌, ◌⊎◌, ℕ, List, ◌∷◌, [], ◌++◌, codes, Option, Some, None, IsTrue, is_some}
use Rattle.std.specs.Fmt.{decimal}
use Rattle.std.specs.List.{flat_map}
use Rattle.std.specs.Io.KnownBytes.{Keeps, Appends}
use Rattle.dq_config.specs.declared.config.Institution.{Institution}
use Rattle.dq_config.specs.declared.config.Route.{Route}
use Rattle.dq_tables.specs.declared.row.Row.{Row}
use Rattle.dq_tables.specs.TableStates.{State}
use Rattle.dq_captures.specs.Captures.{line_feed}
use Rattle.dq_captures.specs.Surroundings.{AppendsPart}
use Rattle.dq_cli.specs.CommandLine.{Checking, InStore}
use Rattle.dq_app.specs.declared.stop.Stop.{Stop}
use Rattle.dq_app.specs.declared.stop.Stop.TheVariants as stop
use Rattle.dq_app.specs.Program.{IsConfigured, IsOver, IsRunFault, RefusesChecked}
use Rattle.dq_captures.specs.Reports.{report_line}

-- `NAME called TITLE calling TITLE`
abbrev pub route_line : List ℕ → Route → List ℕ
route_line name route =
    name ++ codes " called " ++ route.called ++ codes " calling " ++ route.calling ++ line_feed ∷ []

-- a limit, after the words for what it limits
abbrev pub limit_text : List ℕ → ℕ → List ℕ
limit_text words limit = words ++ decimal limit

-- ` limits studies A images B entries C steps D associations E`
abbrev pub limits_text : Institution → List ℕ
limits_text institution =
    limit_text (codes " limits studies ") institution.studies
    ++ limit_text (codes " images ") institution.images
    ++ limit_text (codes " entries ") institution.entries
    ++ limit_text (codes " steps ") institution.steps
    ++ limit_text (codes " associations ") institution.associations
    ++ line_feed ∷ []

-- an institution: a line for each pair of titles, and one of its limits
abbrev pub institution_lines : Institution → List ℕ
institution_lines institution =
    flat_map (route_line institution.name) institution.routes
    ++ institution.name ++ limits_text institution

abbrev pub check_text : List Institution → List ℕ
check_text institutions = flat_map institution_lines institutions

-- the same, each with the line of its rows behind it
abbrev pub counted_lines : List Row → Institution → List ℕ
counted_lines rows institution = institution_lines institution ++ report_line rows institution.name

abbrev pub counted_check_text : List Row → List Institution → List ℕ
counted_check_text rows institutions = flat_map (counted_lines rows) institutions

-- The list of institutions: with their rows in the store, if one is named.
abbrev pub IsListed : {File : Type 0} → (File → State) → (List ℕ → List Row → Type 0)
    → Option (List ℕ) → List Institution → List ℕ → Type 0
IsListed state stored None institutions text = text ≡ check_text institutions
IsListed state stored (Some path) institutions text =
    IsOver state stored (InStore path) (λ rows. text ≡ counted_check_text rows institutions)

-- why nothing is listed: a refused store, where one is named, or the fault of a run
abbrev pub EndsList : Option (List ℕ) → Stop → Type 0
EndsList store (stop.Store number) = IsTrue (is_some store)
EndsList store (stop.Fault number) = IsRunFault number
EndsList store other = ⊥

module _ {File : Type 0} (state : File → State) (held : List ℕ → Option (List ℕ))
    (stored : List ℕ → List Row → Type 0) (before after : Option (List ℕ)) where
  -- The file spells a configuration, and its institutions were listed.
  abbrev pub IsChecked : Checking → Type 0
  IsChecked checking = (institutions : List Institution) × (text : List ℕ)
      × IsConfigured held (Some checking.config) institutions
      × IsListed state stored checking.store institutions text × Appends before after text

  -- how a list is cut short
  abbrev pub CutsList : Type 0 → Option (List ℕ) → List Institution → Stop → Type 0
  CutsList fails store institutions stop.Output = fails
      × ((text : List ℕ) × IsListed state stored store institutions text
      × AppendsPart before after text)
  CutsList fails store institutions cause = Keeps before after × EndsList store cause

  -- The reasons why a check stops: a refused configuration, when nothing was printed, or a list that is cut short.
  abbrev pub StopsCheck : (List ℕ → Type 0) → Type 0 → Checking → Stop → Type 0
  StopsCheck unread fails checking cause = (Keeps before after
      × RefusesChecked (unread checking.config) (held checking.config) cause)
      ⊎ ((institutions : List Institution)
      × IsConfigured held (Some checking.config) institutions
      × CutsList fails checking.store institutions cause)
