-- The limits of what is received and sent. They stand here once, as numbers, and the constants of
-- the code are proved to be them.
use Rattle.std.specs.Prelude.{ℕ}

-- A command set is at most 16 KiB (PS3.7 section 6.3.1 sets no limit).
abbrev pub command_limit : ℕ
command_limit = 16_384

-- The data set of a C-STORE is at most 2^32 - 1 octets, the most that a length of 32 bits tells
-- (PS3.5 section 7.1.1).
abbrev pub store_limit : ℕ
store_limit = 4_294_967_295

-- The data set of any other command, an Identifier among them, is at most 1 MiB (PS3.4 sections
-- C.4.1.1.3 and K.4.1.1.3 set no limit).
abbrev pub other_limit : ℕ
other_limit = 1_048_576

-- The longest body of a PDU that is sent is 16 KiB, or what the peer takes where that is less
-- (PS3.8 annex D.1).
abbrev pub own_limit : ℕ
own_limit = 16_384

-- The shortest PDU that carries data has the header of a value and a fragment of two octets (PS3.8
-- annexes D.1 and E.2).
abbrev pub least_limit : ℕ
least_limit = 8
