use Rattle.std.proofs.Common.{sym, subst}
use Rattle.sqlite.specs.Held.{state}
use Rattle.dq_sql.specs.RowReads.{Shows, numbers_shown}
use Rattle.dq_sql.specs.FoundStores.{SaysNumber}
use Rattle.dq_sql.proofs.SoundStores.{version_told, untold}
use Rattle.dq_sql.proofs.found_store.is_of_version.Goals as goal

pub returns-clause-told : goal.returns-clause-told
returns-clause-told g c clean ours =
    let old = state g.S.Store c.args.conn.now in
    let version = c.args.version in
    version_told version old c.as_slice.result.now ours
    (subst (Shows version old numbers_shown) (sym c.as_slice.ensures.value) (c.in_ok-found.ensures.found clean version)) c.says_number.result c.says_number.ensures

pub returns-clause-another : goal.returns-clause-another
returns-clause-another g c clean not_so = record {
  numbers = c.in_ok-found.found.items;
  shown = c.in_ok-found.ensures.shown clean;
  other = subst (λ l. ¬ SaysNumber c.args.version l) c.as_slice.ensures.value (untold _ c.says_number.result not_so c.says_number.ensures);
}
