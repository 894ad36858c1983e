-- Spans of time, as far as limits need them.
use Rattle.std.specs.declared.time.Duration.{Duration}

-- none
abbrev pub no_time : Duration
no_time = record { secs = 0; nanos = 0 }
