-- The limits of an institution, which are all that its services see of it.
use Rattle.std.specs.Prelude.{ℕ}
use Rattle.dq_config.specs.declared.config.Institution.{Institution}

pub record Limits : Type 0 where
  pub studies : ℕ
  pub images : ℕ
  pub entries : ℕ
  pub steps : ℕ
  pub associations : ℕ

abbrev pub limits_of : Institution → Limits
limits_of institution = record {
  studies = institution.studies;
  images = institution.images;
  entries = institution.entries;
  steps = institution.steps;
  associations = institution.associations;
}
