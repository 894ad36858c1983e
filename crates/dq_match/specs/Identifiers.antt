-- Which identifiers are queries (PS3.4 sections C.2.2.2.5, C.2.2.2.6).
use Rattle.std.specs.Prelude.{◌≡◌, Bool, true, false, is_some, ◌&&◌}
use Rattle.dq_vr.specs.Dictionary.{known_vr}
use Rattle.dq_dataset.specs.Tree.{ElementList, no_elements, element, sequence, ItemList, no_items, item}
use Rattle.dq_match.specs.Values.{are_well_formed}

abbrev pub has_at_most_one_item : ItemList → Bool
has_at_most_one_item no_items = true
has_at_most_one_item (item d no_items) = true
has_at_most_one_item (item d (item next rest)) = false

-- each value of a date or time key is well formed, and each sequence key has at most one item
abbrev mutual
  pub is_query : ElementList → Bool
  is_query no_elements = true
  is_query (element tag vr octets rest) = are_well_formed vr octets && is_query rest
  is_query (sequence tag vr items rest) = (has_at_most_one_item items && are_queries items) && is_query rest

  pub are_queries : ItemList → Bool
  are_queries no_items = true
  are_queries (item d rest) = is_query d && are_queries rest

-- the data dictionary has every tag, inside items too
abbrev mutual
  pub HasKnownTags : ElementList → Type 0
  HasKnownTags no_elements = Unit {0}
  HasKnownTags (element tag vr octets rest) = (is_some (known_vr tag) ≡ true) × HasKnownTags rest
  HasKnownTags (sequence tag vr items rest) =
      (is_some (known_vr tag) ≡ true) × HaveKnownTags items × HasKnownTags rest

  pub HaveKnownTags : ItemList → Type 0
  HaveKnownTags no_items = Unit {0}
  HaveKnownTags (item d rest) = HasKnownTags d × HaveKnownTags rest
