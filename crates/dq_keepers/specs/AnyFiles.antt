-- Some path of the machine, and what the two files of a store there hold when they are opened. No code can know
-- what these are, so the definitions are sealed: outside this file nothing follows from what stands in them. What
-- is proved of them is proved of every path and all contents.
use Rattle.std.specs.Prelude.{ℕ, List, []}

pub any_path : List ℕ
any_path = []

pub any_log : List ℕ
any_log = []

pub any_database : List ℕ
any_database = []
