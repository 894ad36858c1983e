-- The connections that are held, each with the whole stream of its octets and the C-FIND that is
-- open on it.
use Rattle.std.specs.Prelude.{ℕ, Bool, false, ◌==◌, if◌then◌else◌, List, [], ◌∷◌, ◌++◌, Option, Some, None, is_some}
use Rattle.dq_core.specs.Pages.{OpenQuery}

-- its number, the octets of its pieces so far, and the C-FIND whose responses were not all sent, if
-- there is one
pub record Connection : Type 0 where
  pub number : ℕ
  pub stream : List ℕ
  pub query : Option OpenQuery

abbrev pub new_connection : ℕ → Connection
new_connection number = record { number = number; stream = []; query = None }

-- the connection with a piece more, and the C-FIND that is then open
abbrev pub with_piece : Connection → List ℕ → Option OpenQuery → Connection
with_piece c piece query = record c { stream = c.stream ++ piece; query = query }

-- the connection with what is left of its C-FIND
abbrev pub with_query : Option OpenQuery → Connection → Connection
with_query query c = record c { query = query }

-- the connection that is held under a number
abbrev pub connection_in : ℕ → List Connection → Option Connection
connection_in number [] = None
connection_in number (c ∷ cs) = if c.number == number then Some c else connection_in number cs

abbrev pub without : ℕ → List Connection → List Connection
without number [] = []
without number (c ∷ cs) = if c.number == number then cs else c ∷ without number cs

-- a connection in place of the one that has its number
abbrev pub with_connection : Connection → List Connection → List Connection
with_connection new [] = []
with_connection new (c ∷ cs) =
    if c.number == new.number then new ∷ cs else c ∷ with_connection new cs

-- whether a C-FIND is open on it
abbrev pub has_open : Option Connection → Bool
has_open None = false
has_open (Some c) = is_some c.query

-- whether a C-FIND is open on the connection that is held under a number
abbrev pub is_pending : ℕ → List Connection → Bool
is_pending number connections = has_open (connection_in number connections)
