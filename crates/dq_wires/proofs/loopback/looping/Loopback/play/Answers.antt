use Rattle.std.proofs.lemmas.Result.{on_ok_weaker}
use Rattle.dq_wires.proofs.Playing.{acts-none, numbers-kept, piece-played, piece-unopened, end-played, end-unopened}
use Rattle.dq_wires.proofs.loopback.looping.Loopback.play.Goals as goal

pub returns-in-Some-clause-played : goal.returns-in-Some-clause-played
returns-in-Some-clause-played g c = rw c.in-Piece.is (on_ok_weaker c.send.result
    (piece-played c.in-Piece.number c.args.lines.now.items c.index_with.result (rw c.as_slice.ensures.value at c.index_with.ensures.at) c.in-Piece.octets
    c.args.self.now.turner.hold c.send.new.self.turner.hold c.in-Some.at c.in_ok-given-in-Some.given c.in-Some.is c.in_ok-given-in-Some.ensures)
    (rw c.as_slice-in-Some.ensures at c.send.ensures.heard))

pub returns-in-Some-clause-numbers : goal.returns-in-Some-clause-numbers
returns-in-Some-clause-numbers g c = rw c.in-Piece.is
    (numbers-kept c.send.result c.args.lines.now.items c.in-Some.at c.send.new.line c.index_mut.result.now c.index_mut.ensures.value c.send.ensures.number)

pub returns-in-Piece-clause-acts : goal.returns-in-Piece-clause-acts
returns-in-Piece-clause-acts g c = rw c.in-Piece.is (acts-none _ _ c.requires)

pub returns-in-Piece-clause-played : goal.returns-in-Piece-clause-played
returns-in-Piece-clause-played g c = rw c.in-Piece.is
    (piece-unopened c.in-Piece.number c.args.lines.now.items c.index_with.result (rw c.as_slice.ensures.value at c.index_with.ensures.at) c.in-Piece.octets
    c.args.self.now.turner.hold c.args.self.now.turner.hold c.in-None.is)

pub returns-in-Some-index_with-clause-played : goal.returns-in-Some-index_with-clause-played
returns-in-Some-index_with-clause-played g c = rw c.in-End.is (on_ok_weaker c.end.result
    (end-played c.in-End.number c.args.lines.now.items c.index_with-in-End.result (rw c.as_slice-in-End.ensures.value at c.index_with-in-End.ensures.at)
    c.args.self.now.turner.hold c.end.new.self.turner.hold c.in-Some-index_with.at c.in_ok-given-in-Some-index_with.given c.in-Some-index_with.is c.in_ok-given-in-Some-index_with.ensures)
    c.end.ensures.gone)

pub returns-in-Some-index_with-clause-numbers : goal.returns-in-Some-index_with-clause-numbers
returns-in-Some-index_with-clause-numbers g c = rw c.in-End.is
    (numbers-kept c.end.result c.args.lines.now.items c.in-Some-index_with.at c.end.new.line c.index_mut-in-Some-index_with.result.now
    c.index_mut-in-Some-index_with.ensures.value c.end.ensures.number)

pub returns-in-End-clause-played : goal.returns-in-End-clause-played
returns-in-End-clause-played g c = rw c.in-End.is
    (end-unopened c.in-End.number c.args.lines.now.items c.index_with-in-End.result (rw c.as_slice-in-End.ensures.value at c.index_with-in-End.ensures.at)
    c.args.self.now.turner.hold c.args.self.now.turner.hold c.in-None-index_with.is)
