-- The queries show no rows of a write, whatever the schema.
use Rattle.std.proofs.Common.{◌≡◌, ℕ, ◌+◌, List, Bool, true, false, if◌then◌else◌, None, Option, Ok, Err, IfOk, refl}
use Rattle.sqlite_syntax.specs.declared.statement.Parsed.{Parsed}
use Rattle.sqlite_schema.specs.declared.command.Command.{Command}
use Rattle.sqlite_schema.specs.declared.command.Returning.{Returning}
use Rattle.sqlite_schema.specs.declared.schema.Schema.{Schema}
use Rattle.sqlite_resolve.specs.declared.compiled.Compiled.{Compiled}
use Rattle.sqlite_resolve.specs.declared.error.CompileError.TheVariants.{NoSuchTable}
use Rattle.sqlite_resolve.specs.Lowering.{Checked, and_then}
use Rattle.sqlite_resolve.specs.Scope.{Name}
use Rattle.sqlite_resolve.specs.Compile.{compiled, first, planned, meaning, returning, command, timed, small, with_command}
use Rattle.sqlite_tied.specs.Compute.{everything}
use Rattle.sqlite.specs.Listing.{understood, if_select, is_select, reads_listing, listing_schema}
use Rattle.dq_sql.specs.declared.version.Version.TheVariants.{One, Two}
use Rattle.dq_sql.specs.RowReads.{ShowsNoWrite}
use Rattle.dq_sql.proofs.Queries.{row_text, of_text, window_text, after_text, above_text, above_after_text, waiting_text, count_text, told_text, count_above_text, all_text, version_text}

abbrev returning_in : Schema → ℕ → Checked Parsed → Checked (Option Returning)
returning_in schema base (Ok p) = returning schema base p.statement
returning_in schema base (Err e) = Ok None

-- the text has no RETURNING
abbrev pub IsBare : List ℕ → Type 0
IsBare sql = (schema : Schema) (base : ℕ) → returning_in schema base (first sql) ≡ Ok None

abbrev IsSilent : Checked Compiled → Type 0
IsSilent r = IfOk r (λ c. c.returning ≡ None)

bare_command : (p : Parsed) (formats : List Name) (x : Checked Command) → IsSilent (and_then (and_then (and_then x (λ c. Ok (c, None))) (λ found. Ok (formats, found))) (λ plan. Ok (with_command p plan)))
bare_command p formats (Ok c) = refl
bare_command p formats (Err e) = tt

bare_parsed : (schema : Schema) (r : Checked Parsed) → ((base : ℕ) → returning_in schema base r ≡ Ok None)
    → IsSilent (and_then r (λ p. and_then (planned schema p) (λ plan. Ok (with_command p plan))))
unfolding planned meaning
bare_parsed schema (Err e) h = tt
bare_parsed schema (Ok p) h =
    let formats = timed schema p.formats p.statement in
    let base = small p.names + small formats in
    rw (h base) (bare_command p formats (command schema p.formats base p.statement))

bare_compiled : (sql : List ℕ) → IsBare sql → (schema : Schema) → IsSilent (compiled schema sql)
unfolding compiled
bare_compiled sql bare schema = bare_parsed schema (first sql) (bare schema)

selected : (r : Checked Compiled) → IsSilent r → IsSilent (if_select r)
selected (Ok c) h = either (is_select c.command)
  where
    either : (b : Bool) → IsSilent (if b then Ok c else Err NoSuchTable)
    either true = h
    either false = tt
selected (Err e) h = tt

pub bare_shows : (sql : List ℕ) → IsBare sql → ShowsNoWrite sql
unfolding understood
bare_shows sql bare schema = either (reads_listing schema sql)
  where
    either : (b : Bool) → IsSilent (if b then if_select (compiled listing_schema sql) else compiled schema sql)
    either true = selected _ (bare_compiled sql bare listing_schema)
    either false = bare_compiled sql bare schema

row_bare : IsBare row_text
unfolding everything
row_bare schema base = refl

pub row_silent : ShowsNoWrite row_text
row_silent = bare_shows row_text row_bare

of_bare : IsBare of_text
unfolding everything
of_bare schema base = refl

pub of_silent : ShowsNoWrite of_text
of_silent = bare_shows of_text of_bare

window_bare : IsBare window_text
unfolding everything
window_bare schema base = refl

pub window_silent : ShowsNoWrite window_text
window_silent = bare_shows window_text window_bare

after_bare : IsBare after_text
unfolding everything
after_bare schema base = refl

pub after_silent : ShowsNoWrite after_text
after_silent = bare_shows after_text after_bare

above_bare : IsBare above_text
unfolding everything
above_bare schema base = refl

pub above_silent : ShowsNoWrite above_text
above_silent = bare_shows above_text above_bare

above_after_bare : IsBare above_after_text
unfolding everything
above_after_bare schema base = refl

pub above_after_silent : ShowsNoWrite above_after_text
above_after_silent = bare_shows above_after_text above_after_bare

waiting_bare : IsBare waiting_text
unfolding everything
waiting_bare schema base = refl

pub waiting_silent : ShowsNoWrite waiting_text
waiting_silent = bare_shows waiting_text waiting_bare

count_bare : IsBare count_text
unfolding everything
count_bare schema base = refl

pub count_silent : ShowsNoWrite count_text
count_silent = bare_shows count_text count_bare

told_bare : IsBare told_text
unfolding everything
told_bare schema base = refl

pub told_silent : ShowsNoWrite told_text
told_silent = bare_shows told_text told_bare

count_above_bare : IsBare count_above_text
unfolding everything
count_above_bare schema base = refl

pub count_above_silent : ShowsNoWrite count_above_text
count_above_silent = bare_shows count_above_text count_above_bare

all_one_bare : IsBare (all_text One)
unfolding everything
all_one_bare schema base = refl

pub all_one_silent : ShowsNoWrite (all_text One)
all_one_silent = bare_shows (all_text One) all_one_bare

all_two_bare : IsBare (all_text Two)
unfolding everything
all_two_bare schema base = refl

pub all_two_silent : ShowsNoWrite (all_text Two)
all_two_silent = bare_shows (all_text Two) all_two_bare

version_bare : IsBare version_text
unfolding everything
version_bare schema base = refl

pub version_silent : ShowsNoWrite version_text
version_silent = bare_shows version_text version_bare
