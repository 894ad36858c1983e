-- What a reader passes on where another failed.
use Rattle.std.proofs.Common.{◌≡◌, Option, None}
use Rattle.dq_pdu.specs.declared.pdu_reader.ReadError.{ReadError}
use Rattle.dq_pdu.specs.declared.pdu_reader.ReadError.TheVariants as errors
use Rattle.dq_pdu.specs.PduReader.{Fails}

pub passes_on : {Y W : Type 0} (e : ReadError) (read : Option Y) (total : Option W) → (read ≡ None → total ≡ None) → Fails e read → Fails e total
passes_on errors.Memory read total h given = tt
passes_on errors.Malformed read total h given = h given
