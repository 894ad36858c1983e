-- A schema is known by its parts.
use Rattle.std.proofs.Common.{◌≡◌, ℕ, ◌≤◌, ◌<◌, Bool, List, [], ◌∷◌, length, IsTrue, true, false, slice_index_or, ◌∙◌, codes, pos, refl, sym, subst, arith}
use Rattle.std.proofs.lemmas.List.{get_or_default}
use Rattle.sqlite_sql.specs.declared.ops.BinaryOp.TheVariants.{And}
use Rattle.sqlite_sql.specs.declared.ops.CompareOp.TheVariants.{Ge, Le}
use Rattle.sqlite_schema.specs.declared.code.Op.{Op}
use Rattle.sqlite_schema.specs.declared.code.Op.TheVariants.{Binary}
use Rattle.sqlite_schema.specs.Code.{terms_in}
use Rattle.sqlite_schema.specs.declared.schema.Table.{Table}
use Rattle.sqlite_schema.specs.declared.schema.Index.{Index}
use Rattle.dq_sql.specs.declared.version.Version.{Version}
use Rattle.dq_sql.specs.Schema.{kept_columns, version_columns, kind_checks, kept_table, version_table, kept_index}
use Rattle.dq_sql.specs.FoundStores.{HasVersion}
use Rattle.dq_sql.specs.SchemaTest.{HasNoMore, HasNoRules, IsKeptTable, BoundsKind}
use Rattle.sqlite_schema.specs.declared.schema.Schema.{Schema}

pub kind_range : (a b c d e f g : Op) → BoundsKind a b c Ge (pos 1) 0 → BoundsKind d e f Le (pos 5) 3 → g ≡ Binary And 2 5
    → terms_in (a ∷ b ∷ c ∷ d ∷ e ∷ f ∷ g ∷ []) (6 ∷ []) ≡ kind_checks
kind_range a b c d e f g least most both = rw (least.kind_is, least.limit_is, least.test_is, most.kind_is, most.limit_is, most.test_is, both) refl

pub index_from : (i : Index) (name : List ℕ) (tree : ℕ) (columns : List ℕ) (is_unique : Bool) → i.name ≡ name → i.tree ≡ tree → i.table ≡ 0
    → i.columns ≡ columns → i.order.digits ≡ 0 → i.is_unique ≡ is_unique → i ≡ kept_index name tree columns is_unique
index_from i name tree columns is_unique p q r s t u = rw (p, q, r, s, t, u) refl

pub kept_from : (t : Table) (version : Version) → IsKeptTable t → t.columns ≡ kept_columns version → t ≡ kept_table version
kept_from t version it columns =
    let key = it.key in
    let more = it.more in
    rw (it.name, it.tree, columns, key.primary, key.uniques, key.orders, it.checks, more.key, more.references, more.computed, more.stamps, more.uncounted) refl

pub version_from : (t : Table) → t.name ≡ codes "version" → t.tree ≡ 2 → t.columns ≡ version_columns → HasNoRules t → HasNoMore t → t ≡ version_table
version_from t name tree columns rules more =
    rw (name, tree, columns, rules.primary, rules.uniques, rules.orders, rules.checks, more.key, more.references, more.computed, more.stamps, more.uncounted) refl

pub version_at : (t : Table) → t.name ≡ codes "version" → t.columns ≡ version_columns → HasNoRules t → HasNoMore t → t ≡ record version_table { tree = t.tree }
version_at t name columns rules more =
    rw (name, columns, rules.primary, rules.uniques, rules.orders, rules.checks, more.key, more.references, more.computed, more.stamps, more.uncounted) refl

-- the table at a place, whatever stands for one that is not there, is not `version`
abbrev pub IsNoVersionAt : List Table → ℕ → Type 0
IsNoVersionAt tables k = (d : Table) → let t = slice_index_or tables k d in t ≡ record version_table { tree = t.tree } → ⊥

pub no_version : (schema : Schema) (i : ℕ) → length schema.tables ≤ i → ((k : ℕ) → k < i → IsNoVersionAt schema.tables k) → ¬ HasVersion schema
no_version schema i all none has =
    none has.0 (omega (arith, has.2)) has.1 (subst (λ (t : Table). t ≡ record version_table { tree = t.tree }) (sym has.3) has.4)

pub no_version_here : (tables : List Table) (i : ℕ) (t : Table) (is_so : Bool) → i < length tables → t ≡ slice_index_or tables i t → is_so ≡ false
    → (t ≡ record version_table { tree = t.tree } → IsTrue is_so) → IsNoVersionAt tables i
no_version_here tables i t is_so within is not_so told d same =
    let here : slice_index_or tables i d ≡ t = get_or_default tables i d t within ∙ sym is in
    let yes : IsTrue is_so = told (subst (λ (x : Table). x ≡ record version_table { tree = x.tree }) here same) in
    let e : false ≡ true = sym not_so ∙ yes in cc
