use Rattle.dq_match.proofs.Scanning.{DecidesFit, length_of}
use Rattle.dq_match.proofs.wildcards.wild_by.Given as goal

abbrev pub invariant-loop-scan : goal.invariant-loop-scan
invariant-loop-scan l = DecidesFit l.casing l.pattern l.text l.scan

abbrev pub decreases-loop-scan : goal.decreases-loop-scan
decreases-loop-scan l = length_of l.scan
