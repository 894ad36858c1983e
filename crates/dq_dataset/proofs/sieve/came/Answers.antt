use Rattle.std.proofs.Common.{◌≡◌, ◌<◌, [], ◌∷◌, length, Err, ap, arith, inl, inr}
use Rattle.std.proofs.lemmas.List.{length-append}
use Rattle.dq_dataset.proofs.Types.{Truncated}
use Rattle.dq_dataset.specs.DataSetReader.{front_at}
use Rattle.dq_dataset.specs.declared.sieve.Stage.TheVariants.{Between}
use Rattle.dq_dataset.proofs.WalkHeaders.{whole_header, filled_has_no_end}
use Rattle.dq_dataset.proofs.SieveSteps.{goes_nowhere}
use Rattle.dq_dataset.proofs.SieveValues.{adds_octet, adds_octet_ok, stops_at_header}
use Rattle.dq_dataset.proofs.sieve.came.Goals as goal

pub begun-requires-clause-placed : goal.begun-requires-clause-placed
begun-requires-clause-placed c =
    let outer = c.args.outer in
    let met = rw c.deref.ensures.value at c.in-Whole.ensures.met in
    let ok = rw c.deref.ensures.value at c.in-Whole.ensures.octets in
    (whole_header outer.syntax 16 outer.last c.args.front.items c.args.octet c.push.new.self.items c.in-Whole.header met.0 c.in_ok-push.ensures.items
    c.requires ok met.1).placed

pub begun-requires-clause-header : goal.begun-requires-clause-header
begun-requires-clause-header c =
    let outer = c.args.outer in
    let met = rw c.deref.ensures.value at c.in-Whole.ensures.met in
    let ok = rw c.deref.ensures.value at c.in-Whole.ensures.octets in
    (whole_header outer.syntax 16 outer.last c.args.front.items c.args.octet c.push.new.self.items c.in-Whole.header met.0 c.in_ok-push.ensures.items
    c.requires ok met.1).is_header

pub begun-requires-clause-nests : goal.begun-requires-clause-nests
begun-requires-clause-nests c =
    let outer = c.args.outer in
    let met = rw c.deref.ensures.value at c.in-Whole.ensures.met in
    let ok = rw c.deref.ensures.value at c.in-Whole.ensures.octets in
    (whole_header outer.syntax 16 outer.last c.args.front.items c.args.octet c.push.new.self.items c.in-Whole.header met.0 c.in_ok-push.ensures.items
    c.requires ok met.1).nests

pub returns-in-Part : goal.returns-in-Part
returns-in-Part c =
    let outer = c.args.outer in
    let then = Between c.push.new.self in
    let met = rw c.deref.ensures.value at c.element_met.ensures.met in
    let some : 0 < length c.push.new.self.items =
    omega (arith, ap length c.in_ok-push.ensures.items, length-append c.args.front.items (c.args.octet ∷ [])) in
    let part : front_at outer.syntax 16 outer.last c.push.new.self.items ≡ Err Truncated = elim c.in-Part.is [
      | inl is ↦ rw is at met
      | inr is ↦ (let end = rw is at met in absurd (filled_has_no_end 0xE00D c.push.new.self.items end.0 some end.1))
    ] in
    adds_octet c.args.tags.now outer outer then c.args.front c.push.new.self c.args.octet c.in_ok-push.ensures.items
    (goes_nowhere c.args.tags.now outer then part)

pub returns-in-Bad : goal.returns-in-Bad
returns-in-Bad c =
    let outer = c.args.outer in
    let met = rw c.deref.ensures.value at c.in-Bad.ensures.met in
    adds_octet c.args.tags.now outer outer _ c.args.front c.push.new.self c.args.octet c.in_ok-push.ensures.items
    (stops_at_header c.args.tags.now outer c.push.new.self c.in-Bad.fault met.0 met.1 met.2)

pub returns-in-Whole : goal.returns-in-Whole
returns-in-Whole c =
    adds_octet_ok c.args.tags.now c.args.outer c.args.front c.push.new.self c.args.octet c.in_ok-push.ensures.items c.begun.result c.begun.ensures
