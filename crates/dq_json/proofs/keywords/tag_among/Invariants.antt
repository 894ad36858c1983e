use Rattle.std.proofs.Common.{◌≡◌, drop, map}
use Rattle.dq_json.specs.Keywords.{tag_among}
use Rattle.dq_json.proofs.keywords.tag_among.Given as goal

abbrev pub invariant-loop-keyword : goal.invariant-loop-keyword
invariant-loop-keyword l =
    tag_among (map (λ entry. (entry.0.now, entry.1)) l.entries) l.word
    ≡ tag_among (map (λ entry. (entry.0.now, entry.1)) (drop l.keyword-index l.entries)) l.word
