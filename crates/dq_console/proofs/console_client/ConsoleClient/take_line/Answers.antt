use Rattle.std.proofs.Common.{◌≡◌, ◌<◌, ◌+◌, ℕ, List, length, take, drop, Vec, Global, inl, inr, sym, ap, subst, ◌∙◌, arith}
use Rattle.dq_console.specs.Console.{HeldClient, is_line_end, line_most, line_to, first_line, other_lines, HasNone, HasLine, without_line}
use Rattle.dq_console.proofs.LineEnds.{searched-none, searched-some, cut-line, long-line, long-others}
use Rattle.dq_console.proofs.console_client.ConsoleClient.take_line.Goals as goal

pub invariant_of-self : goal.invariant_of-self
invariant_of-self c =
    let none = searched-none is_line_end c.self.inside.came.items c.deref.result.now c.self.inside.searched c.deref.ensures.value
    c.self.invariant.1 c.self.invariant.2 (sym c.end_in.ensures ∙ c.in_default.is) in
    (c.self.invariant.0, omega (arith, c.len-self-inside.ensures), omega (arith, c.len-self-inside.ensures, none))

pub returns-then-len-le-LINE_MOST : goal.returns-then-len-le-LINE_MOST
returns-then-len-le-LINE_MOST c =
    let none = searched-none is_line_end c.self.inside.came.items c.deref.result.now c.self.inside.searched c.deref.ensures.value
    c.self.invariant.1 c.self.invariant.2 (sym c.end_in.ensures ∙ c.in_default.is) in
    let P : HeldClient → Type 0 = λ v. HasNone v.came in
    (subst P c.self.view_is (none, omega (arith, c.len.ensures, c.if-len-le-LINE_MOST.true)), c.self.view_is)

pub returns-in_default : goal.returns-in_default
returns-in_default c =
    let it = c.self.inside in
    let came = it.came.items in
    let none = searched-none is_line_end came c.deref.result.now it.searched c.deref.ensures.value
    c.self.invariant.1 c.self.invariant.2 (sym c.end_in.ensures ∙ c.in_default.is) in
    let long : line_most < length came = omega (arith, c.len.ensures, c.if-len-le-LINE_MOST.false) in
    let client : HeldClient = record { place = it.place; came = came; unsent = drop it.written it.answer.items; is_over = it.is_over } in
    let P : HeldClient → Type 0 = λ v. HasLine v.came × (c.new.result.items ≡ first_line v.came) × (record client { came = c.clear.new.self.items } ≡ without_line v) in
    subst P c.self.view_is (
      inr long,
      c.new.ensures.items ∙ sym (long-line came none long),
      ap (λ (o : List ℕ). record client { came = o }) (c.clear.ensures.items ∙ sym (long-others came none long)),
    )

pub returns : goal.returns
returns c =
    let it = c.self.inside in
    let came = it.came.items in
    let found = searched-some is_line_end came c.deref.result.now it.searched c.deref.ensures.value
    c.self.invariant.1 c.self.invariant.2 c.in-Some.at (sym c.end_in.ensures ∙ c.in-Some.is) in
    let at = it.searched + c.in-Some.at in
    let left : c.replace-line.new.dest.items ≡ other_lines came =
    ap (λ (v : Vec ℕ Global). v.items) c.replace-line.ensures.after ∙ c.in_ok-rest.ensures.tail ∙ ap (λ (n : ℕ). drop (n + 1) came) (sym found.0) in
    let cut : c.replace-line.result.items ≡ take (at + 1) came =
    ap (λ (v : Vec ℕ Global). v.items) c.replace-line.ensures.value ∙ c.in_ok-rest.ensures.items in
    let line : c.line_to.result.items ≡ first_line came =
    c.line_to.ensures ∙ ap (λ (o : List ℕ). line_to at o) cut ∙ cut-line at came ∙ ap (λ (n : ℕ). line_to n came) (sym found.0) in
    let client : HeldClient = record { place = it.place; came = came; unsent = drop it.written it.answer.items; is_over = it.is_over } in
    let P : HeldClient → Type 0 = λ v. HasLine v.came × (c.line_to.result.items ≡ first_line v.came)
    × (record client { came = c.replace-line.new.dest.items } ≡ without_line v) in
    subst P c.self.view_is (inl (omega (arith, found.0, found.1)), line, ap (λ (o : List ℕ). record client { came = o }) left)
