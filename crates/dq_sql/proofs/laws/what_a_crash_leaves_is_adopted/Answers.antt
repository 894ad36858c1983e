use Rattle.std.proofs.Math.Logic.{∥∥₁_map}
use Rattle.sqlite.specs.Files.{file_state}
use Rattle.dq_sql.specs.OneContent.{left_sound}
use Rattle.dq_sql.proofs.Restarts.{reopened}
use Rattle.dq_sql.proofs.laws.what_a_crash_leaves_is_adopted.Goals as goal

pub returns-clause-adopted : goal.returns-clause-adopted
returns-clause-adopted g c honest image may opens found =
    ∥∥₁_map (c.into_files-files.ensures.left honest image may) (λ it.
    let sound = left_sound _ _ c.args.tables.keeps (c.into_files-files.ensures.honest honest) it.0 it.1 in
    let again = reopened image (file_state c.args.conn) it.0 opens found it.2 sound in
    (it.0, it.1, c.adopt_lent.ensures.again it.0 again, c.adopt_lent.ensures.welcome it.0 again))
