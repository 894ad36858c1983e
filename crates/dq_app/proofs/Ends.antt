-- How the program ends early.
use Rattle.std.proofs.Common.{◌≡◌, ◌≢◌, ◌≤◌, ◌⊎◌, ℕ, List, Option, Some, None, Result, Ok, Err, OnOk, inl, inr, refl, arith}
use Rattle.std.specs.Io.KnownBytes.{Keeps, Appends}
use Rattle.clap.specs.declared.error.kind.ErrorKind.{ErrorKind}
use Rattle.clap.specs.declared.error.kind.ErrorKind.TheVariants as kind
use Rattle.dq_tables.specs.declared.row.Row.{Row}
use Rattle.dq_tables.specs.TableStates.{State}
use Rattle.dq_wires.specs.declared.calls.Call.{Call}
use Rattle.dq_wires.specs.Turns.{Cut}
use Rattle.dq_cli.specs.CommandLine.{Command, Plays, Serves, Loops, Migrates, Checks, Copies, Exports}
use Rattle.dq_app.specs.declared.network.ListenError.{ListenError}
use Rattle.dq_app.specs.declared.network.ListenError.TheVariants as listen_error
use Rattle.dq_app.specs.declared.stop.Stop.{Stop}
use Rattle.dq_app.specs.declared.stop.Stop.TheVariants.{Usage, Config, Unfit, Keys, Capture, Store, Fault, Output, Network}
use Rattle.dq_app.specs.Commands.{EndsEarly}
use Rattle.dq_app.specs.Program.{no_memory, unclosed_store, status_of, stop_of_listening, RefusesFile}
use Rattle.dq_app.specs.Serving.{ready_text, IsListenError, HasCause, EndsService}

memory_or_not : (k : ErrorKind) → (k ≡ kind.OutOfMemory) ⊎ (k ≢ kind.OutOfMemory)
memory_or_not kind.OutOfMemory = inl refl
memory_or_not other = inr (λ is. cc)

pub keeps : (o : Option (List ℕ)) → Keeps o o
keeps None = tt
keeps (Some octets) = refl

no_file : (may_fail : List ℕ → Type 0) (held : List ℕ → Option (List ℕ)) (file : Option (List ℕ)) → RefusesFile may_fail held file (Fault no_memory)
no_file may_fail held None = refl
no_file may_fail held (Some path) = refl

no-usage-file : (unread : List ℕ → Type 0) (held : List ℕ → Option (List ℕ)) (file : Option (List ℕ)) → RefusesFile unread held file Usage → ⊥
no-usage-file unread held None is = absurd (cc)
no-usage-file unread held (Some path) is = is

module _ {Wired Console File : Type 0} (log : Wired → Option (List Call)) (console_log : Console → Option (List Call)) (state : File → State)
    (held : List ℕ → Option (List ℕ)) (stored : List ℕ → List Row → Type 0)
    (input before after : Option (List ℕ)) (unread : List ℕ → Type 0) (unfed fails breaks : Type 0) where
  no-usage : (command : Command) → EndsEarly log console_log state held stored input before after unread unfed fails breaks command Usage → ⊥
  no-usage (Plays request) (inl refused) = no-usage-file unread held request.config refused.1
  no-usage (Plays request) (inr (inl refused)) = refused.2
  no-usage (Plays request) (inr (inr (institutions, events, by, tells, inl refused))) = refused.1
  no-usage (Plays request) (inr (inr (institutions, events, by, tells, inr (inl ended)))) = ended.0
  no-usage (Plays request) (inr (inr (institutions, events, by, tells, inr (inr kept)))) = let is : Usage ≡ unclosed_store = kept.1 in absurd (cc)
  no-usage (Serves serving) (inl refused) = no-usage-file unread held serving.config refused.1
  no-usage (Serves serving) (inr (institutions, by, inl refused)) = refused.1
  no-usage (Serves serving) (inr (institutions, by, inr ends)) = ends
  no-usage (Loops file) ends = ends
  no-usage (Migrates files) (inl refused) = refused.1
  no-usage (Migrates files) (inr kept) = let is : Usage ≡ unclosed_store = kept.0 in absurd (cc)
  no-usage (Checks checking) (inl refused) = refused.1
  no-usage (Checks checking) (inr (institutions, by, cut)) = cut.1
  no-usage (Copies copying) (kept, inl refused) = refused
  no-usage (Copies copying) (kept, inr unclosed) = let is : Usage ≡ unclosed_store = unclosed in absurd (cc)
  no-usage (Exports exporting) (inl refused) = refused.1
  no-usage (Exports exporting) (inr (inl cut)) = cut.0
  no-usage (Exports exporting) (inr (inr kept)) = let is : Usage ≡ unclosed_store = kept.0 in absurd (cc)

  -- words that are understood are not told as usage
  pub not_usage : (command : Command) (cause : Stop) → EndsEarly log console_log state held stored input before after unread unfed fails breaks command cause
      → status_of cause ≡ 1 → ⊥
  not_usage command Usage ends one = no-usage command ends
  not_usage command other ends one = absurd (omega (arith, one))

module _ {Wired Console File : Type 0} (log : Wired → Option (List Call)) (console_log : Console → Option (List Call)) (state : File → State)
    (held : List ℕ → Option (List ℕ)) (stored : List ℕ → List Row → Type 0)
    (input written : Option (List ℕ)) (unread : List ℕ → Type 0) (unfed fails breaks : Type 0) where
  -- nothing was done, for want of memory
  pub unbegun : (command : Command) → EndsEarly log console_log state held stored input written written unread unfed fails breaks command (Fault no_memory)
  unbegun (Plays request) = inl (keeps written, no_file unread held request.config)
  unbegun (Serves serving) = inl (keeps written, no_file unread held serving.config)
  unbegun (Loops file) = keeps written
  unbegun (Copies copying) = (keeps written, inl refl)
  unbegun other = inl (keeps written, refl)

  -- Words that ask for something are not read only for want of memory.
  pub unread_words : (found : Option Command) (command : Command) (Told : Stop → Type 0) (k : ErrorKind) (status : ℕ)
      → found ≡ Some command → (k ≢ kind.OutOfMemory → found ≡ None) → (k ≡ kind.OutOfMemory → (status ≡ 4) × Told (Fault no_memory))
      → (cause : Stop) × (status ≡ status_of cause) × Told cause
      × EndsEarly log console_log state held stored input written written unread unfed fails breaks command cause
  unread_words found command Told k status is other memory = elim (memory_or_not k) [
    | inl so ↦ let told = memory so in (Fault no_memory, told.0, told.1, unbegun command)
    | inr not ↦ let none : found ≡ None = other not in absurd (cc)
  ]

pub status_bounds : (cause : Stop) → (1 ≤ status_of cause) × (status_of cause ≤ 5)
status_bounds Usage = (omega arith, omega arith)
status_bounds other = (omega arith, omega arith)

-- what holds of the output's failure holds of a stop that is one
pub stops-at : (P : Stop → Type 0) (cause : Stop) → cause ≡ Output → P Output → P cause
stops-at P cause is holds = rw is holds

-- what each says of a success, all say
pub both-ok : {T E : Type 0} (A B : Type 0) (r : Result T E) → OnOk r A → OnOk r B → OnOk r (A × B)
both-ok A B (Ok x) a b = (a, b)
both-ok A B (Err e) a b = tt

-- ---- services

-- nobody is listened for
pub listen_error-of : (breaks : Type 0) (u : ListenError) → (u ≡ listen_error.Failed → breaks) → IsListenError breaks (stop_of_listening u)
listen_error-of breaks listen_error.Failed broke = broke refl
listen_error-of breaks (listen_error.Keys line) broke = tt
listen_error-of breaks listen_error.NoMemory broke = refl

module _ (breaks fails : Type 0) (before after : Option (List ℕ)) (port : ℕ) where
  pub listen_error-ends : (IsSo : Stop → Type 0) (cause : Stop) → Keeps before after → IsListenError breaks cause → EndsService breaks fails before after port IsSo cause
  listen_error-ends IsSo (Fault number) kept is = inl (kept, is)
  listen_error-ends IsSo Network kept is = inl (kept, is)
  listen_error-ends IsSo (Keys line) kept is = kept
  listen_error-ends IsSo (Store number) kept is = absurd is
  listen_error-ends IsSo Output kept is = absurd is
  listen_error-ends IsSo other kept is = is

  -- it was stopped after it was ready
  pub cut-ends : (IsSo : Stop → Type 0) (cause : Stop) (cut : Cut) → Appends before after (ready_text port) → HasCause breaks cut cause → IsSo cause
      → EndsService breaks fails before after port IsSo cause
  cut-ends IsSo (Fault number) cut ready is so = inr (ready, is, so)
  cut-ends IsSo Network cut ready is so = inr (ready, so)
  cut-ends IsSo (Keys line) cut ready is so = absurd is
  cut-ends IsSo (Store number) cut ready is so = absurd is
  cut-ends IsSo Output cut ready is so = absurd is
  cut-ends IsSo other cut ready is so = is

  -- what went before is told otherwise
  pub ends-so : (IsSo IsAlso : Stop → Type 0) → ((cause : Stop) → IsSo cause → IsAlso cause) → (cause : Stop)
      → EndsService breaks fails before after port IsSo cause → EndsService breaks fails before after port IsAlso cause
  ends-so IsSo IsAlso also (Fault number) (inl none) = inl none
  ends-so IsSo IsAlso also (Fault number) (inr some) = inr (some.0, some.1, also (Fault number) some.2)
  ends-so IsSo IsAlso also Network (inl none) = inl none
  ends-so IsSo IsAlso also Network (inr some) = inr (some.0, also Network some.1)
  ends-so IsSo IsAlso also other ends = ends
