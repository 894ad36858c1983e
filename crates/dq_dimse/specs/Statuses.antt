-- Values of Status (0000,0900) that are answered (PS3.7 annex C). They stand here once, as numbers,
-- and the constants of the code are proved to be them.
use Rattle.std.specs.Prelude.{ℕ}

-- Success (PS3.7 annex C.1.1)
abbrev pub success : ℕ
success = 0x0000

-- Pending: matches go on (PS3.4 sections C.4.1.1.4 and K.4.1.1.4)
abbrev pub pending_with_optional_keys : ℕ
pending_with_optional_keys = 0xFF00

-- Pending: matches go on, and optional keys were not supported (PS3.4 sections C.4.1.1.4 and
-- K.4.1.1.4)
abbrev pub pending_without_optional_keys : ℕ
pending_without_optional_keys = 0xFF01

-- Cancel: matching was ended by a C-CANCEL (PS3.4 sections C.4.1.1.4 and K.4.1.1.4)
abbrev pub cancel : ℕ
cancel = 0xFE00

-- Refused: out of resources (PS3.4 sections B.2.3, C.4.1.1.4 and K.4.1.1.4)
abbrev pub out_of_resources : ℕ
out_of_resources = 0xA700

-- Error: the data set or the identifier does not match the SOP class (PS3.4 sections B.2.3 and
-- C.4.1.1.4)
abbrev pub does_not_match_sop_class : ℕ
does_not_match_sop_class = 0xA900

-- Error: cannot understand, C000 to CFFF (PS3.4 sections B.2.3, C.4.1.1.4 and K.4.1.1.4)
abbrev pub cannot_understand : ℕ
cannot_understand = 0xC000

-- The instance is kept under another series, or its series under another study: one of these
-- (PS3.4 section B.2.3).
abbrev pub instance_kept_elsewhere : ℕ
instance_kept_elsewhere = 0xC001

-- The instance is new, and its series is kept under another study: another of these (PS3.4 section
-- B.2.3).
abbrev pub series_kept_elsewhere : ℕ
series_kept_elsewhere = 0xC002

-- Warning: elements discarded (PS3.4 section B.2.3)
abbrev pub elements_discarded : ℕ
elements_discarded = 0xB006

-- Invalid attribute value (PS3.7 annex C)
abbrev pub invalid_attribute_value : ℕ
invalid_attribute_value = 0x0106

-- Processing failure (PS3.7 annex C); of an N-SET also where the step may no longer be changed
-- (PS3.4 section F.7.2)
abbrev pub processing_failure : ℕ
processing_failure = 0x0110

-- Duplicate SOP instance (PS3.7 annex C)
abbrev pub duplicate_sop_instance : ℕ
duplicate_sop_instance = 0x0111

-- No such SOP instance (PS3.7 annex C)
abbrev pub no_such_sop_instance : ℕ
no_such_sop_instance = 0x0112

-- Invalid SOP instance (PS3.7 annex C)
abbrev pub invalid_sop_instance : ℕ
invalid_sop_instance = 0x0117

-- Missing attribute (PS3.7 annex C)
abbrev pub missing_attribute : ℕ
missing_attribute = 0x0120

-- Missing attribute value (PS3.7 annex C)
abbrev pub missing_attribute_value : ℕ
missing_attribute_value = 0x0121

-- SOP class not supported (PS3.7 annex C)
abbrev pub sop_class_not_supported : ℕ
sop_class_not_supported = 0x0122

-- Unrecognized operation (PS3.7 annex C)
abbrev pub unrecognized_operation : ℕ
unrecognized_operation = 0x0211

-- Resource limitation (PS3.7 annex C)
abbrev pub resource_limitation : ℕ
resource_limitation = 0x0213
