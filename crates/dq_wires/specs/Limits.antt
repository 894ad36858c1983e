-- This server's limits of connections. They stand here once, as numbers, and the code is proved to
-- have them; the standard sets none.
use Rattle.std.specs.Prelude.{ℕ}

-- the most connections that are held at once
abbrev pub most_wires : ℕ
most_wires = 64

-- the most octets that come in one read: 16 KiB
abbrev pub most_read : ℕ
most_read = 16_384
