-- The results, sources and reasons of answers to a request, and of aborts. They stand here once, as
-- numbers, and the constants of the code are proved to be them.
use Rattle.std.specs.Prelude.{ℕ}

-- version 1 of the protocol, in a field of bits (PS3.8 section 9.3.3)
abbrev pub protocol_version : ℕ
protocol_version = 0x0001

-- the result of a presentation context that is accepted (PS3.8 table 9-18)
abbrev pub acceptance : ℕ
acceptance = 0

-- the results of one that is refused: its abstract syntax, or none of its transfer syntaxes, is
-- supported (PS3.8 table 9-18)
abbrev pub abstract_syntax_not_supported : ℕ
abstract_syntax_not_supported = 3

abbrev pub transfer_syntaxes_not_supported : ℕ
transfer_syntaxes_not_supported = 4

-- the results of a rejection: for good, or for now (PS3.8 table 9-21)
abbrev pub permanent : ℕ
permanent = 1

abbrev pub transient : ℕ
transient = 2

-- the sources of a rejection: the service user, and the parts of the provider for associations and
-- for presentation (PS3.8 table 9-21)
abbrev pub service_user : ℕ
service_user = 1

abbrev pub association_provider : ℕ
association_provider = 2

abbrev pub presentation_provider : ℕ
presentation_provider = 3

-- the reasons of a rejection: two of the service user, one of each part of the provider (PS3.8
-- table 9-21)
abbrev pub no_reason : ℕ
no_reason = 1

abbrev pub application_context_not_supported : ℕ
application_context_not_supported = 2

abbrev pub protocol_version_not_supported : ℕ
protocol_version_not_supported = 2

abbrev pub local_limit_exceeded : ℕ
local_limit_exceeded = 2

-- the sources of an abort: the service user, and the provider (PS3.8 table 9-26)
abbrev pub by_user : ℕ
by_user = 0

abbrev pub by_provider : ℕ
by_provider = 2

-- the reasons of an abort, all but the first of the provider (PS3.8 table 9-26)
abbrev pub not_specified : ℕ
not_specified = 0

abbrev pub unrecognized_pdu : ℕ
unrecognized_pdu = 1

abbrev pub unexpected_pdu : ℕ
unexpected_pdu = 2

abbrev pub invalid_parameter : ℕ
invalid_parameter = 6
