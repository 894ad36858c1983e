use Rattle.std.proofs.Common.{◌≡◌, ◌+◌, ◌<◌, ◌≤◌, ◌∷◌, ℕ, List, length, drop, sym, ◌∙◌, ap, arith}
use Rattle.std.proofs.lemmas.List.{drop_all, drop_more}
use Rattle.std.specs.List.{list_any}
use Rattle.std.specs.Str.{bytes_eq}
use Rattle.dq_mpps.proofs.NamedEntries.{one_more, all_in}
use Rattle.dq_mpps.proofs.named_entries.ids_in_order.Goals as goal

pub loop-id-preserved : goal.loop-id-preserved
loop-id-preserved c =
    let ids = c.as_slice-id-items.result.now in
    let i = c.loop-id.id-index in
    let within : i < length ids = omega arith in
    let next : drop i ids ≡ c.as_slice.result.now ∷ drop (i + 1) ids =
    drop_more ids i c.id-item.result within ∙ ap (λ (id : List ℕ). id ∷ drop (i + 1) ids) (sym c.id-item.is ∙ sym c.as_slice.ensures) in
    one_more c.loop-id.ids.keys c.insert.new.self.keys c.in_ok-from_slice.field-0 c.as_slice.result.now (drop i ids) (drop (i + 1) ids) ids
    c.in_ok-insert.ensures.keys c.insert.ensures.ordered c.in_ok-from_slice.ensures.items next c.loop-id.invariant

pub returns : goal.returns
returns c =
    let ids = c.as_slice-id-items.result.now in
    let past : length ids ≤ c.loop-id.id-index = omega arith in
    all_in c.args.step.now c.loop-id.ids.keys (drop c.loop-id.id-index ids) ids (drop_all c.loop-id.id-index ids past)
    (λ id. ap (list_any (bytes_eq id)) (c.as_slice-id-items.ensures ∙ c.in_ok-named.ensures)) c.loop-id.invariant
