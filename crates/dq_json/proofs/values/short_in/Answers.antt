use Rattle.std.proofs.Common.{Err, arith}
use Rattle.dq_json.proofs.Shorts.{short_read}
use Rattle.dq_json.proofs.values.short_in.Goals as goal

pub returns-in-Err : goal.returns-in-Err
returns-in-Err c = short_read c.args.text.now (Err c.in-Err.field-0) c.in-Err.ensures.value.0 (grind arith)
