-- Values of Command Field (0000,0100), as numbers (PS3.7 annex E.1).
use Rattle.std.specs.Prelude.{ℕ}

-- C-STORE-RQ (PS3.7 section 9.3.1)
abbrev pub c_store : ℕ
c_store = 0x0001

-- C-FIND-RQ (PS3.7 section 9.3.2)
abbrev pub c_find : ℕ
c_find = 0x0020

-- C-ECHO-RQ (PS3.7 section 9.3.5)
abbrev pub c_echo : ℕ
c_echo = 0x0030

-- N-SET-RQ (PS3.7 section 10.3.3)
abbrev pub n_set : ℕ
n_set = 0x0120

-- N-CREATE-RQ (PS3.7 section 10.3.5)
abbrev pub n_create : ℕ
n_create = 0x0140

-- C-CANCEL-RQ (PS3.7 section 9.3.2.3)
abbrev pub c_cancel : ℕ
c_cancel = 0x0FFF

-- the bit that the Command Field of each response has
abbrev pub response_bit : ℕ
response_bit = 0x8000
