-- The words for why something is not done.
use Rattle.std.specs.Prelude.{ℕ, List, codes}
use Rattle.std.specs.Fmt.{decimal}
use Rattle.std.specs.Int.{w16, to_be_bytes}
use Rattle.hex.specs.Hex.{encode_upper}
use Rattle.dq_request.specs.declared.response.Cause.{Cause}
use Rattle.dq_request.specs.declared.response.Cause.TheVariants.{Order, Search, Institution, Copy}
use Rattle.dq_request.specs.declared.response.BackupError.{BackupError}
use Rattle.dq_request.specs.declared.response.BackupError.TheVariants.{Taken, Full, Failed, NoMemory, NoStore}

abbrev pub backup_error_word : BackupError → List ℕ
backup_error_word Taken = codes "taken"
backup_error_word Full = codes "full"
backup_error_word Failed = codes "failed"
backup_error_word NoMemory = codes "memory"
backup_error_word NoStore = codes "no store"

-- the number of a refusal, four hexadecimal digits of a status (PS3.7 annex C), or a word
abbrev pub cause_text : Cause → List ℕ
cause_text (Order number) = decimal number
cause_text (Search status) = encode_upper (to_be_bytes w16 status)
cause_text Institution = codes "6"
cause_text (Copy refusal) = backup_error_word refusal
