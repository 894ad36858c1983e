-- Rejections, releases and aborts have a spelling.
use Rattle.std.proofs.Common.{ℕ, [], ◌∷◌, refl, lit≤}
use Rattle.std.specs.Int.{w32, to_be_bytes}
use Rattle.dq_pdu.specs.declared.pdu.Pdu.TheVariants.{Reject, ReleaseRp, Abort}
use Rattle.dq_pdu.specs.Writing.{IsWritable}

pub reject_is_writable : (result source reason : ℕ) → IsWritable (Reject result source reason)
reject_is_writable result source reason = record {
  kind = 3;
  reserved = 0;
  size = to_be_bytes w32 4;
  body = 0 ∷ result ∷ source ∷ reason ∷ [];
  whole = refl;
  sized = record { wide = refl; value = refl };
  short = lit≤ tt;
  says = (refl, 0, refl);
}

pub release_is_writable : IsWritable ReleaseRp
release_is_writable = record {
  kind = 6;
  reserved = 0;
  size = to_be_bytes w32 4;
  body = 0 ∷ 0 ∷ 0 ∷ 0 ∷ [];
  whole = refl;
  sized = record { wide = refl; value = refl };
  short = lit≤ tt;
  says = (refl, refl);
}

pub abort_is_writable : (source reason : ℕ) → IsWritable (Abort source reason)
abort_is_writable source reason = record {
  kind = 7;
  reserved = 0;
  size = to_be_bytes w32 4;
  body = 0 ∷ 0 ∷ source ∷ reason ∷ [];
  whole = refl;
  sized = record { wide = refl; value = refl };
  short = lit≤ tt;
  says = (refl, 0, 0, refl);
}

-- all of them
pub ruleset short_pdus = (reject_is_writable, release_is_writable, abort_is_writable)
