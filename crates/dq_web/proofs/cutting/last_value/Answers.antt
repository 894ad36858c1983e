use Rattle.std.proofs.Common.{◌≡◌, ◌<◌, ◌+◌, ◌∙◌, ℕ, true, false, List, Option, Some, length, get_or, map, take, sym, rules}
use Rattle.std.proofs.lemmas.List.{map_more}
use Rattle.httparse.specs.Spans.{header_bytes}
use Rattle.httparse.specs.declared.spans.HeaderSpan.{HeaderSpan}
use Rattle.dq_web.specs.Requests.{is_named, IsLast}
use Rattle.dq_web.proofs.Named.{taken, passed}
use Rattle.dq_web.proofs.cutting.last_value.Goals.{then-is_named, else-is_named}
use Rattle.dq_web.proofs.cutting.last_value.Goals as goal

taken_at : (name octets : List ℕ) (headers : List HeaderSpan) (at : ℕ) (none : HeaderSpan) → at < length headers
    → is_named name (header_bytes octets (get_or headers at none)).0 ≡ true
    → IsLast name (map (header_bytes octets) (take (at + 1) headers)) (Some (header_bytes octets (get_or headers at none)).1)
taken_at name octets headers at none within is =
    rw (map_more (header_bytes octets) headers at none within)
    (taken name (map (header_bytes octets) (take at headers)) (header_bytes octets (get_or headers at none)) is)

passed_at : (name octets : List ℕ) (headers : List HeaderSpan) (at : ℕ) (none : HeaderSpan) (found : Option (List ℕ)) → at < length headers
    → is_named name (header_bytes octets (get_or headers at none)).0 ≡ false
    → IsLast name (map (header_bytes octets) (take at headers)) found
    → IsLast name (map (header_bytes octets) (take (at + 1) headers)) found
passed_at name octets headers at none found within is last =
    rw (map_more (header_bytes octets) headers at none within)
    (passed name (map (header_bytes octets) (take at headers)) (header_bytes octets (get_or headers at none)) found is last)

pub loop-header-preserved : goal.loop-header-preserved
loop-header-preserved c = elim c.if-is_named.branch [
  | then-is_named w ↦ rw (w.found-is, w.of-then-is_named.ensures)
      (taken_at c.args.name.now c.args.octets.now c.args.headers.now c.loop-header.header-index _ (search rules)
      (rw c.of.ensures at (sym c.is_named.ensures ∙ w.if-is_named.true)))
  | else-is_named w ↦ rw w.found-is
      (passed_at c.args.name.now c.args.octets.now c.args.headers.now c.loop-header.header-index _ _ (search rules)
      (rw c.of.ensures at (sym c.is_named.ensures ∙ w.if-is_named.false)) c.loop-header.invariant)
]
