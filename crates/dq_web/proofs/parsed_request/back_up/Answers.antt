use Rattle.std.proofs.Common.{◌≡◌, ℕ, List, Bool, true, false, not, length, refl}
use Rattle.std.specs.Prelude.{◌&&◌, ◌==◌}
use Rattle.std.specs.List.{list_all}
use Rattle.std.specs.Str.{IsUtf8, is_utf8}
use Rattle.dq_web.specs.ParsedRequests.{is_printable, is_file_path}
use Rattle.dq_web.proofs.Texts.{no-text}
use Rattle.dq_web.proofs.parsed_request.back_up.Goals as goal

last-false : (a b c : Bool) → c ≡ false → (a && b && c) ≡ false
last-false true true c is = is
last-false true false c is = refl
last-false false b c is = refl

no-file : (path : List ℕ) → ¬ (IsUtf8 path) → is_file_path path ≡ false
no-file path none = last-false (not (length path == 0)) (list_all is_printable path) (is_utf8 path) (no-text path none)

pub returns-in-Err : goal.returns-in-Err
returns-in-Err c = (refl, no-file c.args.path.now c.in-Err.ensures.cases.0)
