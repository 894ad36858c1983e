use Rattle.std.proofs.Common.{◌≡◌, arith}
use Rattle.std.proofs.lemmas.Grind.{common_steps}
use Rattle.hex.specs.Hex.{encode_lower}
use Rattle.dq_captures.specs.Surroundings.{BreaksOff}
use Rattle.dq_captures.proofs.WrittenLines.{OnErr-known}
use Rattle.dq_captures.proofs.Spelling.{spelled-none, spelled-more, spelled-part, of-success}
use Rattle.dq_captures.proofs.reply_lines.put_hex.Goals as goal

pub chunks-init : goal.chunks-init
chunks-init g c = record { so = spelled-none _ _; fails = λ may. may }

pub chunks-preserved : goal.chunks-preserved
chunks-preserved g c =
    let spelled : c.encode_to_slice.new.output ≡ encode_lower c.split_at.result.0.now =
    of-success c.encode_to_slice.result (c.encode_to_slice.ensures.fits.1 (grind (arith, common_steps))) c.encode_to_slice.ensures.written in
    record {
      so = spelled-more _ _ _ _ _ _ _ c.split_at.ensures.by_index.0 c.chunks.invariant.so (rw spelled at c.in_ok-put.ensures.written);
      fails = λ may. c.chunks.invariant.fails (c.in_ok-put.ensures.fails may);
    }

pub returns-in_err-put-clause-part : goal.returns-in_err-put-clause-part
returns-in_err-put-clause-part g c =
    let spelled : c.encode_to_slice.new.output ≡ encode_lower c.split_at.result.0.now =
    of-success c.encode_to_slice.result (c.encode_to_slice.ensures.fits.1 (grind (arith, common_steps))) c.encode_to_slice.ensures.written in
    let off : BreaksOff (g.W.Sink.may_fail c.chunks.output) (g.W.Sink.written c.chunks.output) (g.W.Sink.written c.put.new.self)
    (encode_lower c.split_at.result.0.now) = (c.in_err-put.ensures.failed, rw spelled at c.in_err-put.ensures.part) in
    OnErr-known c.from_residual.result (spelled-part _ _ _ _ _ _ _ c.split_at.ensures.by_index.0 c.chunks.invariant.so c.chunks.invariant.fails off)
