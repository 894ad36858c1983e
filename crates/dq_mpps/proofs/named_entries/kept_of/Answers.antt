use Rattle.std.proofs.Common.{◌++◌, ◌∷◌, [], Bool, if◌then◌else◌, sym, ◌∙◌, ap, append-nil}
use Rattle.dq_list.specs.Octets.{octets_of_vectors}
use Rattle.dq_archive.proofs.Lookups.{looks_on}
use Rattle.dq_mpps.proofs.NamedEntries.{looked_up}
use Rattle.dq_mpps.proofs.named_entries.kept_of.Goals as goal

pub loop-id-preserved : goal.loop-id-preserved
loop-id-preserved g c =
    let keys = c.loop-id.keys in
    looks_on g.T.Tables.state c.args.archive.now c.loop-id.archive c.has.new.self keys _ c.loop-id.invariant c.in_ok-is_kept.is_kept keys _ _ c.in_ok-is_kept.ensures
    (looked_up keys keys c.loop-id.ids.keys c.pop_first.new.self.keys c.in-Some.id c.as_slice.result.now (octets_of_vectors c.args.ids.keys) c.in_ok-is_kept.is_kept
    c.in-Some.ensures.removal c.as_slice.ensures.value
    (sym (append-nil keys) ∙ ap (λ (b : Bool). keys ++ (if b then c.in-Some.id.items ∷ [] else [])) (sym c.if-is_kept.false)))
