-- The items that are written after the fixed fields of a request or an acceptance.
use Rattle.std.proofs.Common.{◌≡◌, ℕ, ◌^◌, ◌<◌, ◌≤◌, true, false, eqb, List, [], ◌∷◌, ◌++◌, length, drop, Option, Some, None, refl, sym, ap, ◌∙◌, arith, length-append}
use Rattle.std.specs.Prelude.{IfSome, option_map, codes}
use Rattle.std.specs.Int.{w16, w32, to_be_bytes}
use Rattle.std.proofs.lemmas.List.{drop_at}
use Rattle.std.proofs.lemmas.Nat.{from_be_bytes-to_be_bytes_2, from_be_bytes-to_be_bytes_4}
use Rattle.dq_pdu.specs.declared.pdu_reader.Item.{Item}
use Rattle.dq_pdu.specs.Octets.{Fills, parts_of, bodies, at_most_one, without_uid_padding}
use Rattle.dq_pdu.specs.Spelling.{IsItem, AreFields, IsMaximumLength, IsUserInformation}
use Rattle.dq_pdu.specs.PduReader.{item_at}
use Rattle.dq_pdu.specs.Writing.{item, application_context, maximum_length, request_information, implementation, accept_information, fixed_fields, associate_octets, kind, is_uid_name}
use Rattle.dq_pdu.specs.Widths.{AreWide}
use Rattle.dq_pdu.proofs.PartLaws.{some_is}
use Rattle.dq_pdu.proofs.ItemLaws.{items_read}
use Rattle.dq_pdu.proofs.FieldLaws.{fixed_from}
use Rattle.dq_pdu.proofs.WritingLaws.{of_kind, bare_stays, stays_bare, item_written, fills-append, fills_one, bodies-append}

-- ---- the items of a request or an acceptance

abbrev pub name_items : Option (List ℕ) → List Item
name_items None = []
name_items (Some name) = of_kind 16 name ∷ []

pub name_fills : (name : Option (List ℕ)) → length (application_context name) ≤ 65536 → Fills IsItem (name_items name) (application_context name)
name_fills None h = refl
name_fills (Some name) h = fills_one IsItem (of_kind 16 name) (item 16 name) (item_written 16 name (omega arith))

pub name_only : (name : Option (List ℕ)) → at_most_one (bodies 16 (name_items name)) ≡ Some name
name_only None = refl
name_only (Some name) = refl

pub name_none : (kind : ℕ) (name : Option (List ℕ)) → eqb 16 kind ≡ false → bodies kind (name_items name) ≡ []
name_none kind None e = refl
name_none kind (Some name) e = rw e refl

pub name_stays : (name : Option (List ℕ)) → is_uid_name name ≡ true → option_map without_uid_padding name ≡ name
name_stays None e = refl
name_stays (Some name) e = ap (λ n. Some n) (bare_stays name e)

pub name_bare : (name : Option (List ℕ)) → option_map without_uid_padding name ≡ name → is_uid_name name ≡ true
name_bare None e = refl
name_bare (Some name) e = stays_bare name (some_is (without_uid_padding name) name e)

abbrev pub maximum_items : Option ℕ → List Item
maximum_items None = []
maximum_items (Some n) = of_kind 81 (to_be_bytes w32 n) ∷ []

pub maximum_fills : (maximum : Option ℕ) → Fills IsItem (maximum_items maximum) (maximum_length maximum)
maximum_fills None = refl
maximum_fills (Some n) = fills_one IsItem (of_kind 81 (to_be_bytes w32 n)) (item 81 (to_be_bytes w32 n)) (item_written 81 (to_be_bytes w32 n) (omega arith))

pub maximum_is : (maximum : Option ℕ) → IfSome maximum (λ n. n < 2 ^ 32) → IsMaximumLength maximum (bodies 81 (maximum_items maximum))
maximum_is None h = refl
maximum_is (Some n) h = (n, refl, record { wide = refl; value = from_be_bytes-to_be_bytes_4 n h })

abbrev pub request_user_items : Option ℕ → List Item
request_user_items None = []
request_user_items (Some n) = of_kind 80 (maximum_length (Some n)) ∷ []

pub request_user_fills : (maximum : Option ℕ) → Fills IsItem (request_user_items maximum) (request_information maximum)
request_user_fills None = refl
request_user_fills (Some n) = fills_one IsItem (of_kind 80 (maximum_length (Some n))) (item 80 (maximum_length (Some n))) (item_written 80 (maximum_length
    (Some n)) (omega arith))

pub request_user_is : (maximum : Option ℕ) → IfSome maximum (λ n. n < 2 ^ 32) → IsUserInformation maximum (bodies 80 (request_user_items maximum))
request_user_is None h = refl
request_user_is (Some n) h = (maximum_items (Some n), maximum_fills (Some n), maximum_is (Some n) h)

pub request_user_none : (kind : ℕ) (maximum : Option ℕ) → eqb 80 kind ≡ false → bodies kind (request_user_items maximum) ≡ []
request_user_none kind None e = refl
request_user_none kind (Some n) e = rw e refl

abbrev pub class_item : List ℕ
class_item = codes "2.25.2718281828"

abbrev pub version_item : List ℕ
version_item = codes "DQARCHIVE1"

abbrev pub accept_user : Option ℕ → List ℕ
accept_user maximum = maximum_length maximum ++ implementation

pub short_user : (maximum : Option ℕ) → length (accept_user maximum) < 65536
short_user None = omega arith
short_user (Some n) = omega arith

abbrev implementation_items : List Item
implementation_items = of_kind 82 class_item ∷ of_kind 85 version_item ∷ []

implementation_fills : Fills IsItem implementation_items implementation
implementation_fills =
    let class = fills_one IsItem (of_kind 82 class_item) (item 82 class_item) (item_written 82 class_item (omega arith)) in
    let version = fills_one IsItem (of_kind 85 version_item) (item 85 version_item) (item_written 85 version_item (omega arith)) in
    fills-append IsItem (of_kind 82 class_item ∷ []) (of_kind 85 version_item ∷ []) (item 82 class_item) (item 85 version_item) class version

pub user_fills : (maximum : Option ℕ) → Fills IsItem (maximum_items maximum ++ implementation_items) (accept_user maximum)
user_fills maximum =
    fills-append IsItem (maximum_items maximum) implementation_items (maximum_length maximum) implementation (maximum_fills maximum) implementation_fills

user_maximum : (maximum : Option ℕ) → IfSome maximum (λ n. n < 2 ^ 32) → IsMaximumLength maximum (bodies 81 (maximum_items maximum ++ implementation_items))
user_maximum None h = refl
user_maximum (Some n) h = maximum_is (Some n) h

abbrev pub accept_user_items : Option ℕ → List Item
accept_user_items maximum = of_kind 80 (accept_user maximum) ∷ []

pub accept_user_fills : (maximum : Option ℕ) → Fills IsItem (accept_user_items maximum) (accept_information maximum)
accept_user_fills maximum = fills_one IsItem (of_kind 80 (accept_user maximum)) (item 80 (accept_user maximum)) (item_written 80 (accept_user maximum)
    (short_user maximum))

pub accept_user_is : (maximum : Option ℕ) → IfSome maximum (λ n. n < 2 ^ 32) → IsUserInformation maximum (bodies 80 (accept_user_items maximum))
accept_user_is maximum h = (maximum_items maximum ++ implementation_items, user_fills maximum, user_maximum maximum h)

pub accept_user_none : (kind : ℕ) (maximum : Option ℕ) → eqb 80 kind ≡ false → bodies kind (accept_user_items maximum) ≡ []
accept_user_none kind maximum e = rw e refl

-- the bodies of a type among three runs of items
pub three_runs : (kind : ℕ) (a b c : List Item) (x y z : List (List ℕ)) → bodies kind a ≡ x → bodies kind b ≡ y → bodies kind c ≡ z
    → bodies kind (a ++ b ++ c) ≡ x ++ y ++ z
three_runs kind a b c x y z e1 e2 e3 = bodies-append kind (a ++ b) c ∙ ap (λ bs. bs ++ bodies kind c) (bodies-append kind a b) ∙ rw (e1, e2, e3) refl

-- ---- the fixed fields

pub associate_written : (version : ℕ) (called calling reserved : List ℕ) (maximum : Option ℕ) (items : List Item) (octets : List ℕ)
    → AreWide version called calling reserved maximum → Fills IsItem items octets
    → AreFields version called calling reserved items (associate_octets version called calling reserved octets)
associate_written version called calling reserved maximum items octets w fills = record {
  number = to_be_bytes w16 version;
  gap = 0 ∷ 0 ∷ [];
  rest = octets;
  spelled = refl;
  version_is = record { wide = refl; value = from_be_bytes-to_be_bytes_2 version w.version_two };
  gap_two = refl;
  called_sixteen = w.called_sixteen;
  calling_sixteen = w.calling_sixteen;
  reserved_thirty_two = w.reserved_thirty_two;
  fills = fills;
}

-- the items after the fixed fields are those that were written
pub items_are : (version : ℕ) (called calling reserved : List ℕ) (items written : List Item) (octets : List ℕ)
    → AreFields version called calling reserved items (associate_octets version called calling reserved octets) → Fills IsItem written octets → items ≡ written
items_are version called calling reserved items written octets is fills =
    let fixed = fixed_from version called calling reserved items (associate_octets version called calling reserved octets) is in
    let n1 = length-append ((to_be_bytes w16 version ++ (0 ∷ 0 ∷ called)) ++ calling) reserved in
    let n2 = length-append (to_be_bytes w16 version ++ (0 ∷ 0 ∷ called)) calling in
    let n3 = length-append (to_be_bytes w16 version) (0 ∷ 0 ∷ called) in
    let size : length (fixed_fields version called calling reserved) ≡ 68 = omega
    (arith, n1, n2, n3, is.called_sixteen, is.calling_sixteen, is.reserved_thirty_two) in
    let behind : drop 68 (associate_octets version called calling reserved octets) ≡ octets = drop_at (fixed_fields version called calling reserved) octets 68 size in
    some_is items written (sym fixed.items_are ∙ ap (parts_of item_at) behind ∙ items_read written octets fills)

-- how long the parts of a request are at most
pub record Short (name contexts user : List ℕ) : Type 0 where
  pub name_short : length name ≤ 65536
  pub contexts_short : length contexts ≤ 65536

pub short_parts : (fixed name contexts user : List ℕ) → length (fixed ++ (name ++ contexts ++ user)) ≤ 65536 → Short name contexts user
short_parts fixed name contexts user h =
    let n1 = length-append fixed (name ++ contexts ++ user) in
    let n2 = length-append (name ++ contexts) user in
    let n3 = length-append name contexts in
    record { name_short = omega (arith, n1, n2, n3, h); contexts_short = omega (arith, n1, n2, n3, h) }
