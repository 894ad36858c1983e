use Rattle.std.proofs.Common.{sym, refl}
use Rattle.std.proofs.lemmas.List.{take-append-drop}
use Rattle.dq_web.proofs.cutting.request_at.Goals as goal

pub returns-in-Some : goal.returns-in-Some
returns-in-Some c =
    let some = c.in-Some.ensures.cases in
    record {
      head = c.in_ok-head.ensures.head;
      rest = c.in-Some.field-0-1.now;
      body = rw (c.in_ok-head.ensures.extent, some.1, some.2, take-append-drop) (sym c.split_at.ensures.back);
      whole = some.3;
      extent = refl;
    }
