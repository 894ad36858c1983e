use Rattle.std.proofs.Common.{sym, arith}
use Rattle.std.proofs.lemmas.List.{nil_from_length}
use Rattle.dq_dataset.specs.Sifting.{reach_of}
use Rattle.dq_dataset.proofs.WalkSteps.{full_filled, full_delimited, settled_on, settled_cut, settled_over, settled_once}
use Rattle.dq_dataset.proofs.sieve.walk.Walk.settled.Goals as goal

pub returns-then-not-is_full : goal.returns-then-not-is_full
returns-then-not-is_full c =
    let w = c.loop-reach.self in
    let not_full = rw (c.is_full.ensures, c.reach-reach.ensures) at c.if-not-is_full.true in
    record { sound = settled_on w c.loop-reach.invariant.0 not_full; leads = c.loop-reach.invariant.1 }

pub returns-in-Delimited : goal.returns-in-Delimited
returns-in-Delimited c =
    let w = c.loop-reach.self in
    let full = rw (c.is_full.ensures, c.reach-reach.ensures) at c.if-not-is_full.false in
    let bound = rw c.reach-reach.ensures at c.in-Delimited.ensures in
    let is = full_delimited (reach_of w.place) w.left full (sym bound) in
    record { sound = tt; leads = λ octets end l. c.loop-reach.invariant.1 octets end (settled_cut w c.loop-reach.invariant.0 is octets end l) }

pub loop-reach-preserved : goal.loop-reach-preserved
loop-reach-preserved c =
    let w = c.loop-reach.self in
    let full = rw (c.is_full.ensures, c.reach-reach.ensures) at c.if-not-is_full.false in
    let bound = rw c.reach-reach.ensures at c.in-Filled.ensures in
    let is = full_filled (reach_of w.place) w.left full (sym bound) in
    let once = settled_once w c.loop-reach.invariant.0 is c.pop.new.self.items c.in-Some.place c.in-Some.ensures.items in
    (record { nested = once.0; empty = c.loop-reach.invariant.0.empty }, λ octets end l. c.loop-reach.invariant.1 octets end (once.1 octets end l))

pub returns-in-None : goal.returns-in-None
returns-in-None c =
    let w = c.loop-reach.self in
    let full = rw (c.is_full.ensures, c.reach-reach.ensures) at c.if-not-is_full.false in
    let bound = rw c.reach-reach.ensures at c.in-Filled.ensures in
    let is = full_filled (reach_of w.place) w.left full (sym bound) in
    let none = nil_from_length w.around.items (omega (arith, c.in-None.ensures.cases, w.around.ok.0)) in
    record { sound = tt; leads = λ octets end h. c.loop-reach.invariant.1 octets end (settled_over w c.loop-reach.invariant.0 is none octets end h) }
