-- The institutions that a TOML document writes: a table of seven keys for each, in an array at the
-- key 'institution'.
use Rattle.std.specs.Prelude.{ℕ, suc, ℤ, pos, negsuc, ◌==◌, nat_lt, if◌then◌else◌, List, [], ◌∷◌, codes, Option, Some, None, option_map}
use Rattle.toml.specs.Data.{Data, Items, no_items, item, Members, no_members, member, get_member, as_str, as_integer, as_array, as_table}
use Rattle.dq_list.specs.Readers.{◌>>=◌, only_if}
use Rattle.dq_value.specs.Title.{without_spaces}
use Rattle.dq_config.specs.declared.config.Institution.{Institution}
use Rattle.dq_config.specs.declared.config.Route.{Route}

-- how many keys a table has
abbrev pub size : Members → ℕ
size no_members = 0
size (member key value others) = suc (size others)

-- the value at a key, where it is of the wanted type
unfoldable pub string_at : List ℕ → Members → Option (List ℕ)
string_at key keys = get_member key keys >>= as_str

unfoldable pub integer_at : List ℕ → Members → Option ℤ
integer_at key keys = get_member key keys >>= as_integer

unfoldable pub array_at : List ℕ → Members → Option Items
array_at key keys = get_member key keys >>= as_array

-- a limit as it is kept: a number that is none of 32 bits is kept as 0, which is no limit either
abbrev pub limit_as_kept : ℤ → ℕ
limit_as_kept (pos number) = if nat_lt number 0x100000000 then number else 0
limit_as_kept (negsuc number) = 0

unfoldable pub limit_at : List ℕ → Members → Option ℕ
limit_at key keys = option_map limit_as_kept (integer_at key keys)

-- a table of so many keys
unfoldable pub table_of : ℕ → Data → Option Members
table_of keys value = do
  members ← as_table value
  only_if (size members == keys) members

-- what each item is read as, where each is read
abbrev pub each_item : {X : Type 0} → (Data → Option X) → Items → Option (List X)
each_item reads no_items = Some []
each_item reads (item value others) = do
  first ← reads value
  behind ← each_item reads others
  Some (first ∷ behind)

-- a route: a table of two titles, each meant without the spaces at its ends
abbrev pub route_in : Data → Option Route
route_in value = do
  keys ← table_of 2 value
  called ← string_at (codes "called") keys
  calling ← string_at (codes "calling") keys
  Some (record { called = without_spaces called; calling = without_spaces calling })

-- an institution: a table of its name, its routes and its five limits
abbrev pub institution_in : Data → Option Institution
institution_in value = do
  keys ← table_of 7 value
  name ← string_at (codes "name") keys
  values ← array_at (codes "routes") keys
  routes ← each_item route_in values
  studies ← limit_at (codes "studies") keys
  images ← limit_at (codes "images") keys
  entries ← limit_at (codes "entries") keys
  steps ← limit_at (codes "steps") keys
  associations ← limit_at (codes "associations") keys
  Some (record {
    name = name;
    routes = routes;
    studies = studies;
    images = images;
    entries = entries;
    steps = steps;
    associations = associations;
  })

-- a document: no key, or 'institution' alone
abbrev pub institutions_in : Members → Option (List Institution)
institutions_in keys =
    if size keys == 0 then Some []
    else if size keys == 1 then (array_at (codes "institution") keys >>= each_item institution_in)
    else None

-- the institutions of the configuration that is built in
unfoldable pub built_in : List Institution
built_in = record {
  name = codes "DEMO";
  routes = record { called = codes "ARCHIVE"; calling = codes "MODALITY" } ∷ [];
  studies = 100;
  images = 1000;
  entries = 100;
  steps = 100;
  associations = 4;
} ∷ []
