-- What stands in an object of an object has no key of the outermost one.
use Rattle.std.proofs.Common.{◌≡◌, ◌∙◌, ℕ, suc, Bool, true, false, List, [], ◌∷◌, ◌++◌, flat_map, map, codes, refl, ap, append_assoc, append-nil, if◌then◌else◌}
use Rattle.json.specs.Token.{Token, begin_object, end_object, begin_array, end_array, key, string}
use Rattle.dq_vr.specs.declared.Tag.{Tag}
use Rattle.dq_vr.specs.declared.Vr.{Vr}
use Rattle.dq_vr.specs.Vr.{letters_of}
use Rattle.dq_value.specs.Parts.{element_values}
use Rattle.dq_dataset.specs.Tree.{ElementList, no_elements, element, sequence, ItemList, no_items, item}
use Rattle.dq_dataset.specs.View.{elements_of}
use Rattle.dq_json.specs.declared.text.Repertoire.{Repertoire}
use Rattle.dq_json.specs.declared.text.Repertoire.TheVariants.{Utf8}
use Rattle.dq_json.specs.Text.{octets_told, tag_digits, text_in, repertoire_of}
use Rattle.dq_json.specs.Attributes.{halves, group_member, name_groups, is_name, value_tokens, numbers, number_tokens, value_member, binary_member, is_number, is_spelled_as_text, octets_member, attribute}
use Rattle.dq_json.specs.Json.{array_member, members, objects, json_tokens}
use Rattle.dq_json.specs.OutermostKeys.{keys_at, outermost_keys}

abbrev Deep : List Token → Type 0
Deep ts = (n : ℕ) (rest : List Token) → keys_at (suc (suc n)) (ts ++ rest) ≡ keys_at (suc (suc n)) rest

deep_none : Deep []
deep_none n rest = refl

deep_append : (xs ys : List Token) → Deep xs → Deep ys → Deep (xs ++ ys)
deep_append xs ys dx dy n rest = ap (λ (ts : List Token). keys_at (suc (suc n)) ts) (append_assoc xs ys rest) ∙ (dx n (ys ++ rest) ∙ dy n rest)

-- (keys, strings, numbers and null leave all as it is)
deep_object : (ts : List Token) → Deep ts → Deep (begin_object ∷ (ts ++ end_object ∷ []))
deep_object ts d n rest = ap (λ (x : List Token). keys_at (suc (suc (suc n))) x) (append_assoc ts (end_object ∷ []) rest) ∙ d (suc n) (end_object ∷ rest)

deep_array : (ts : List Token) → Deep ts → Deep (begin_array ∷ (ts ++ end_array ∷ []))
deep_array ts d n rest = ap (λ (x : List Token). keys_at (suc (suc (suc n))) x) (append_assoc ts (end_array ∷ []) rest) ∙ d (suc n) (end_array ∷ rest)

deep_if : (b : Bool) (xs ys : List Token) → Deep xs → Deep ys → Deep (if b then xs else ys)
deep_if true xs ys dx dy = dx
deep_if false xs ys dx dy = dy

deep_each : {X : Type 0} (f : X → List Token) (xs : List X) → ((x : X) → Deep (f x)) → Deep (flat_map f xs)
deep_each f [] d = deep_none
deep_each f (x ∷ xs) d = deep_append (f x) (flat_map f xs) (d x) (deep_each f xs d)

deep_values : {X : Type 0} (f : X → List Token) (xs : List X) → ((x : X) → Deep (f x)) → Deep (value_member f xs)
unfolding value_member
deep_values f [] d = deep_none
deep_values f (x ∷ xs) d = deep_array (flat_map f (x ∷ xs)) (deep_each f (x ∷ xs) d)

deep_group : (r : Repertoire) (name octets : List ℕ) → Deep (group_member r name octets)
unfolding group_member
deep_group r name [] = deep_none
deep_group r name (octet ∷ others) = deep_none

deep_groups : (r : Repertoire) (value : List ℕ) → Deep (name_groups r value)
deep_groups r value =
    let others = (halves value).1 in
    let last : List Token = group_member r (codes "Phonetic") (halves others).1 in
    let ideographic : List Token = group_member r (codes "Ideographic") (halves others).0 in
    deep_append (group_member r (codes "Alphabetic") (halves value).0) (ideographic ++ last) (deep_group r (codes "Alphabetic") (halves value).0)
    (deep_append ideographic last (deep_group r (codes "Ideographic") (halves others).0) (deep_group r (codes "Phonetic") (halves others).1))

deep_value : (r : Repertoire) (vr : Vr) (value : List ℕ) → Deep (value_tokens r vr value)
unfolding value_tokens
deep_value r vr [] = λ n rest. refl
deep_value r vr (octet ∷ others) =
    deep_if (is_name vr) (begin_object ∷ (name_groups r (octet ∷ others) ++ end_object ∷ [])) (string (text_in r (octet ∷ others)) ∷ [])
    (deep_object (name_groups r (octet ∷ others)) (deep_groups r (octet ∷ others))) deep_none

deep_binary : (octets : List ℕ) → Deep (binary_member octets)
unfolding binary_member
deep_binary [] = deep_none
deep_binary (octet ∷ others) = λ n rest. refl

deep_octets : (r : Repertoire) (vr : Vr) (octets : List ℕ) → Deep (octets_member r vr octets)
deep_octets r vr octets =
    deep_if (is_number vr) (value_member number_tokens (numbers octets))
    (if is_spelled_as_text vr then value_member (value_tokens r vr) (element_values vr octets) else binary_member octets)
    (deep_values number_tokens (numbers octets) (λ x n rest. refl))
    (deep_if (is_spelled_as_text vr) (value_member (value_tokens r vr) (element_values vr octets)) (binary_member octets)
    (deep_values (value_tokens r vr) (element_values vr octets) (deep_value r vr)) (deep_binary octets))

deep_array_member : (ts : List Token) → Deep ts → Deep (array_member ts)
deep_array_member [] d = deep_none
deep_array_member (t ∷ ts) d = deep_array (t ∷ ts) d

deep_attribute : (tag : Tag) (vr : Vr) (ts : List Token) → Deep ts → Deep (attribute tag vr ts)
deep_attribute tag vr ts d =
    deep_object (key (codes "vr") ∷ string (letters_of vr) ∷ ts) d

mutual
  deep_members : (r : Repertoire) (d : ElementList) → Deep (members r d)
  deep_members r no_elements = deep_none
  deep_members r (element tag vr octets rest) =
      deep_append (attribute tag vr (octets_member r vr (octets_told tag octets))) (members r rest)
      (deep_attribute tag vr (octets_member r vr (octets_told tag octets)) (deep_octets r vr (octets_told tag octets))) (deep_members r rest)
  deep_members r (sequence tag vr items rest) =
      deep_append (attribute tag vr (array_member (objects r items))) (members r rest)
      (deep_attribute tag vr (array_member (objects r items)) (deep_array_member (objects r items) (deep_objects r items))) (deep_members r rest)

  deep_objects : (r : Repertoire) (items : ItemList) → Deep (objects r items)
  deep_objects r no_items = deep_none
  deep_objects r (item d rest) =
      deep_append (begin_object ∷ (members (repertoire_of r d) d ++ end_object ∷ [])) (objects r rest)
      (deep_object (members (repertoire_of r d) d) (deep_members (repertoire_of r d) d)) (deep_objects r rest)

one_attribute : (tag : Tag) (vr : Vr) (ts : List Token) → Deep ts → (rest : List Token)
    → keys_at 1 (attribute tag vr ts ++ rest) ≡ tag_digits tag ∷ keys_at 1 rest
one_attribute tag vr ts d rest =
    ap (λ (x : List Token). tag_digits tag ∷ keys_at 2 x) (append_assoc ts (end_object ∷ []) rest)
    ∙ ap (λ (x : List (List ℕ)). tag_digits tag ∷ x) (d 0 (end_object ∷ rest))

each_attribute : (r : Repertoire) (d : ElementList) (rest : List Token)
    → keys_at 1 (members r d ++ rest) ≡ map (λ e. tag_digits e.tag) (elements_of d) ++ keys_at 1 rest
each_attribute r no_elements rest = refl
each_attribute r (element tag vr octets others) rest =
    ap (λ (x : List Token). keys_at 1 x) (append_assoc (attribute tag vr (octets_member r vr (octets_told tag octets))) (members r others) rest)
    ∙ (one_attribute tag vr (octets_member r vr (octets_told tag octets)) (deep_octets r vr (octets_told tag octets)) (members r others ++ rest)
    ∙ ap (λ (x : List (List ℕ)). tag_digits tag ∷ x) (each_attribute r others rest))
each_attribute r (sequence tag vr items others) rest =
    ap (λ (x : List Token). keys_at 1 x) (append_assoc (attribute tag vr (array_member (objects r items))) (members r others) rest)
    ∙ (one_attribute tag vr (array_member (objects r items)) (deep_array_member (objects r items) (deep_objects r items)) (members r others ++ rest)
    ∙ ap (λ (x : List (List ℕ)). tag_digits tag ∷ x) (each_attribute r others rest))

pub each_member : (d : ElementList) → outermost_keys (json_tokens d) ≡ map (λ e. tag_digits e.tag) (elements_of d)
each_member d = each_attribute (repertoire_of Utf8 d) d (end_object ∷ []) ∙ append-nil (map (λ e. tag_digits e.tag) (elements_of d))
