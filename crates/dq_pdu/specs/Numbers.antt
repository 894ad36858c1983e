-- The types of PDUs and of their items, the lengths that are fixed (PS3.8 section 9.3), and the
-- limit. They stand here once, as numbers, and the constants of the code are proved to be them.
use Rattle.std.specs.Prelude.{ℕ}

-- The longest body of a PDU that is received or written, 64 KiB. It is the maximum length that is
-- told to a peer (PS3.8 annex D.1).
abbrev pub longest_body : ℕ
longest_body = 65_536

-- the types of PDUs (PS3.8 sections 9.3.2 to 9.3.8)
abbrev pub a_associate_rq : ℕ
a_associate_rq = 0x01

abbrev pub a_associate_ac : ℕ
a_associate_ac = 0x02

abbrev pub a_associate_rj : ℕ
a_associate_rj = 0x03

abbrev pub p_data_tf : ℕ
p_data_tf = 0x04

abbrev pub a_release_rq : ℕ
a_release_rq = 0x05

abbrev pub a_release_rp : ℕ
a_release_rp = 0x06

abbrev pub a_abort : ℕ
a_abort = 0x07

-- the types of items and sub-items (PS3.8 sections 9.3.2 and 9.3.3, annex D.1; PS3.7 annex D.3.3.2)
abbrev pub application_context_item : ℕ
application_context_item = 0x10

abbrev pub proposed_context_item : ℕ
proposed_context_item = 0x20

abbrev pub answered_context_item : ℕ
answered_context_item = 0x21

abbrev pub abstract_syntax_item : ℕ
abstract_syntax_item = 0x30

abbrev pub transfer_syntax_item : ℕ
transfer_syntax_item = 0x40

abbrev pub user_information_item : ℕ
user_information_item = 0x50

abbrev pub maximum_length_item : ℕ
maximum_length_item = 0x51

abbrev pub implementation_class_uid_item : ℕ
implementation_class_uid_item = 0x52

abbrev pub implementation_version_name_item : ℕ
implementation_version_name_item = 0x55

-- a PDU's type, a reserved octet and the length of its body (PS3.8 section 9.3.1)
abbrev pub pdu_header : ℕ
pdu_header = 6

-- the fixed fields of a request or an acceptance, each of its titles, and the reserved octets after
-- the titles (PS3.8 sections 9.3.2 and 9.3.3)
abbrev pub associate_fields : ℕ
associate_fields = 68

abbrev pub title_length : ℕ
title_length = 16

abbrev pub reserved_length : ℕ
reserved_length = 32

-- the body of a rejection, of a release and its reply, and of an abort (PS3.8 sections 9.3.4 and
-- 9.3.6 to 9.3.8)
abbrev pub short_body : ℕ
short_body = 4

-- an item's type, a reserved octet and the length of its body (PS3.8 section 9.3.2)
abbrev pub item_header : ℕ
item_header = 4

-- a presentation context's octets before its sub-items (PS3.8 sections 9.3.2.2 and 9.3.3.2)
abbrev pub context_fields : ℕ
context_fields = 4

-- a PDV's length, its context's id and its control header; its length counts the last two (PS3.8
-- annex E.2)
abbrev pub pdv_header : ℕ
pdv_header = 6

abbrev pub pdv_fields : ℕ
pdv_fields = 2
