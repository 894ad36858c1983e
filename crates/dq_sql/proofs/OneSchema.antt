-- The trees of a database say which schema it has.
use Rattle.std.proofs.Common.{◌≡◌, ℕ, ◌+◌, ◌<◌, true, false, List, [], ◌∷◌, ◌++◌, codes, pos, Ok, Result, Option, Some, slice_get, decimal, refl, sym, ap, ap₂, subst, ◌∙◌, arith, filter}
use Rattle.std.specs.List.{AllZip}
use Rattle.std.proofs.lemmas.Fmt.{decimal_injective}
use Rattle.std.proofs.lemmas.List.{append_cancel_left}
use Rattle.sqlite_value.specs.declared.value.Value.{Value}
use Rattle.sqlite_value.specs.declared.value.Value.TheVariants.{Null, Int, Real, Text, Blob}
use Rattle.sqlite_value.specs.Order.{Row as Values, column}
use Rattle.sqlite_trees.specs.Tree.{Trees, IsAscending}
use Rattle.sqlite_trees.specs.Objects.{catalog_tree}
use Rattle.sqlite_schema.specs.declared.schema.Table.{Table}
use Rattle.sqlite_schema.specs.declared.schema.Index.{Index}
use Rattle.sqlite_schema.specs.declared.schema.Schema.{Schema}
use Rattle.sqlite_schema.specs.Names.{same_name}
use Rattle.sqlite_resolve.specs.Compile.{table_defined_by}
use Rattle.sqlite_catalog.specs.Listing.{IsSound, IsTableRow, IsIndexRow, IsViewRow, IsDefined, automatic, is_table_row, is_index_row, is_view_row}
use Rattle.sqlite_catalog.proofs.StepLemmas.{named_once, same_itself}

-- what goes with each of a list is one list
zip_same : {A B : Type 0} (R : A → B → Type 0) → ((a : A) (b c : B) → R a b → R a c → b ≡ c) → (xs : List A) (ys zs : List B) → AllZip R xs ys → AllZip R xs zs → ys ≡ zs
zip_same R one [] [] [] p q = refl
zip_same R one [] [] (z ∷ zs) p q = absurd q
zip_same R one [] (y ∷ ys) zs p q = absurd p
zip_same R one (x ∷ xs) [] zs p q = absurd p
zip_same R one (x ∷ xs) (y ∷ ys) [] p q = absurd q
zip_same R one (x ∷ xs) (y ∷ ys) (z ∷ zs) p q = ap₂ ◌∷◌ (one x y z p.0 q.0) (zip_same R one xs ys zs p.1 q.1)

-- where nothing goes with a list, it is empty
zip_none : {A B : Type 0} (R : A → B → Type 0) (xs : List A) (ys : List B) → AllZip R xs [] → AllZip R xs ys → ys ≡ []
zip_none R [] [] p q = refl
zip_none R [] (y ∷ ys) p q = absurd q
zip_none R (x ∷ xs) ys p q = absurd p

same_text : {a b : List ℕ} → ◌≡◌ {A = Value} (Text a) (Text b) → a ≡ b
same_text e = cc

same_number : {m n : ℕ} → ◌≡◌ {A = Value} (Int (pos (m + 1))) (Int (pos (n + 1))) → m ≡ n
same_number {m} {n} e = let f : m + 1 ≡ n + 1 = cc in omega (arith, f)

same_made : {X E : Type 0} {a b : X} → ◌≡◌ {A = Result X E} (Ok a) (Ok b) → a ≡ b
same_made e = cc

same_some : {X : Type 0} {a b : X} → ◌≡◌ {A = Option X} (Some a) (Some b) → a ≡ b
same_some e = cc

one_table : (row : Values) (s t : Table) → IsTableRow row s → IsTableRow row t → s ≡ t
one_table row s t p q =
    let tree : s.tree ≡ t.tree = same_number (sym p.described.id ∙ q.described.id) in
    let sql : p.sql ≡ q.sql = same_text (sym p.sql_is ∙ q.sql_is) in
    let made : p.defined.0 ≡ q.defined.0 = same_made (sym p.defined.1 ∙ ap table_defined_by sql ∙ q.defined.1) in
    p.defined.2 ∙ ap₂ (λ (m : Table) (n : ℕ). record m { tree = n }) made tree ∙ sym q.defined.2

-- the number in the name that SQLite gives an index
same_place : (name : List ℕ) (a b : ℕ) → a < 65536 → b < 65536
    → codes "sqlite_autoindex_" ++ (name ++ (codes "_" ++ decimal (a + 1))) ≡ codes "sqlite_autoindex_" ++ (name ++ (codes "_" ++ decimal (b + 1))) → a ≡ b
same_place name a b low less e =
    let first = append_cancel_left (codes "sqlite_autoindex_") _ _ e in
    let second = append_cancel_left name _ _ first in
    let third = append_cancel_left (codes "_") _ _ second in
    let same : a + 1 ≡ b + 1 = decimal_injective (a + 1) (b + 1) (omega arith) (omega arith) third in
    omega (arith, same)

-- what defines an index of a table, which has a name and a tree, is one index
one_defined : (table : Table) (i j : Index) (sql : Value) → i.name ≡ j.name → i.tree ≡ j.tree → IsDefined table i sql → IsDefined table j sql → i ≡ j
one_defined table i j Null name tree p q =
    let names : (automatic table p.0 p.1 i.tree).name ≡ (automatic table q.0 q.1 j.tree).name = sym (ap (λ (x : Index). x.name) p.3) ∙ name ∙ ap (λ (x : Index). x.name) q.3 in
    let place : p.0 ≡ q.0 = same_place table.name p.0 q.0 p.4 q.4 names in
    let key : p.1 ≡ q.1 = same_some (sym p.2 ∙ ap (slice_get table.uniques) place ∙ q.2) in
    p.3 ∙ (λ k. automatic table (place k) (key k) (tree k)) ∙ sym q.3
one_defined table i j (Int n) name tree p q = absurd p
one_defined table i j (Real x) name tree p q = absurd p
one_defined table i j (Text sql) name tree p q =
    let made : p.0 ≡ q.0 = same_made (sym p.1 ∙ q.1) in
    p.2 ∙ ap₂ (λ (m : Index) (n : ℕ). record m { tree = n; table = table.tree }) made tree ∙ sym q.2
one_defined table i j (Blob b) name tree p q = absurd p

one_index : (tables : List Table) → IsAscending (λ (s t : Table). same_name s.name t.name ≡ false) tables → (cells : Values) (i j : Index)
    → IsIndexRow tables cells i → IsIndexRow tables cells j → i ≡ j
one_index tables named cells i j p q =
    let owner : p.table.name ≡ q.table.name = same_text (sym p.described.owner_is ∙ q.described.owner_is) in
    let same : same_name p.table.name q.table.name ≡ true = subst (λ n. same_name p.table.name n ≡ true) owner (same_itself p.table.name) in
    let table : p.table ≡ q.table = named_once tables p.table q.table named p.listed q.listed same in
    one_defined p.table i j (column cells 4) (same_text (sym p.described.name_is ∙ q.described.name_is)) (same_number (sym p.described.id ∙ q.described.id)) p.defined
    (subst (λ t. IsDefined t j (column cells 4)) (sym table) q.defined)

-- Trees that obey a schema without views, which they list, obey no other.
pub one_schema : (trees : Trees) (a b : Schema) → a.views ≡ [] → IsSound a trees → IsSound b trees → a ≡ b
one_schema trees a b none p q =
    let objects = trees catalog_tree in
    let l = p.lists.listed in
    let m = q.lists.listed in
    let tables : a.tables ≡ b.tables = zip_same IsTableRow one_table (filter is_table_row objects) a.tables b.tables l.tables m.tables in
    let indexes : a.indexes ≡ b.indexes = zip_same (IsIndexRow a.tables) (one_index a.tables l.named) (filter is_index_row objects) a.indexes b.indexes l.indexes
    (subst (λ t. AllZip (IsIndexRow t) (filter is_index_row objects) b.indexes) (sym tables) m.indexes) in
    let views : b.views ≡ [] = zip_none IsViewRow (filter is_view_row objects) b.views (subst (AllZip IsViewRow (filter is_view_row objects)) none l.views) m.views in
    λ k. record { tables = tables k; indexes = indexes k; views = (none ∙ sym views) k }
