-- Steps of which each may give nothing, and what a reader answers that may also want memory.
use Rattle.std.specs.Prelude.{◌≡◌, Bool, if◌then◌else◌, Option, Some, None, option_and_then, Result, Ok, Err}

-- the next step, if there was a value
infixl 10 ◌>>=◌
abbrev pub ◌>>=◌ : {A B : Type 0} → Option A → (A → Option B) → Option B
o >>= f = option_and_then f o

-- the value, if the test holds
abbrev pub only_if : {A : Type 0} → Bool → A → Option A
only_if b x = if b then Some x else None

-- The value that a reader returned, seen by view, is the one that was to be read. `Tells` says what each of its errors
-- tells of that.
abbrev pub Gives : {X Y E : Type 0} → (E → Option Y → Type 0) → (X → Y) → Result X E → Option Y
    → Type 0
Gives Tells view (Ok x) read = read ≡ Some (view x)
Gives Tells view (Err e) read = Tells e read
