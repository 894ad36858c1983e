-- The additions to each institution while searches were open there, in the order of the configuration. This is for the
-- prover.
use Rattle.std.specs.Prelude.{ℕ, List, [], Option, Some, None, slice_index_or, slice_set}
use Rattle.dq_config.specs.declared.config.Institution.{Institution}
use Rattle.dq_archive.specs.declared.additions.Addition.{Addition}
use Rattle.dq_core.specs.OpenAssociations.{institution_index}

abbrev pub log_at : List (List Addition) → Option ℕ → List Addition
log_at logs None = []
log_at logs (Some place) = slice_index_or logs place []

-- the log of the institution of a name
abbrev pub log_of : List Institution → List (List Addition) → List ℕ → List Addition
log_of institutions logs name = log_at logs (institution_index institutions name)

-- the logs with another one at a place
abbrev pub with_log : List (List Addition) → Option ℕ → List Addition → List (List Addition)
with_log logs None log = logs
with_log logs (Some place) log = slice_set logs place log

-- where the institution that has a connection stands, if one has
abbrev pub owner_place : List Institution → Option Institution → Option ℕ
owner_place institutions None = None
owner_place institutions (Some i) = institution_index institutions i.name
