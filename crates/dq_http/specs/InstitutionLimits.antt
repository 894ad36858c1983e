-- The names and limits of institutions that requests are answered by.
use Rattle.std.specs.Prelude.{[]}
use Rattle.dq_config.specs.declared.config.Institution.{Institution}

-- what counts of an institution: its name and its limits, without its routes
abbrev pub limits_of : Institution → Institution
limits_of institution = record institution { routes = [] }
