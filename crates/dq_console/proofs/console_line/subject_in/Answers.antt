use Rattle.std.proofs.Common.{◌≡◌, ◌++◌, ℕ, List}
use Rattle.dq_request.specs.declared.search.Subject.{Subject}
use Rattle.dq_request.specs.declared.search.Subject.TheVariants.{Studies, Series, Images, StudyImages, Worklist, Steps}
use Rattle.dq_console.specs.ConsoleLines.{subject_word}
use Rattle.dq_console.proofs.console_line.subject_in.Goals as goal

-- a line that begins with no word of a search
pub returns : goal.returns
returns c = none where
  none : (subject : Subject) (rest : List ℕ) → c.args.line.now ≡ subject_word subject ++ rest → ⊥
  none Studies rest is = c.in_default.ensures rest is
  none Series rest is = c.in_default-behind.ensures rest is
  none Images rest is = c.in_default-behind-2.ensures rest is
  none StudyImages rest is = c.in_default-behind-3.ensures rest is
  none Worklist rest is = c.in_default-behind-4.ensures rest is
  none Steps rest is = c.in_default-behind-5.ensures rest is
