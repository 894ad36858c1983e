-- The command set of a response spells its elements.
use Rattle.std.proofs.Common.{◌≡◌, ℕ, ◌-◌, ◌%◌, ◌^◌, ◌<◌, Bool, true, false, cond, eqb, List, [], ◌∷◌, ◌++◌, length, Option, Some, None, Ok, refl, sym, ap}
use Rattle.std.proofs.Common.{subst, append_assoc, arith, lit<, eq-eqb, length-append}
use Rattle.std.specs.List.{list_all}
use Rattle.std.specs.Int.{w16, w32, from_le_bytes, to_le_bytes}
use Rattle.std.proofs.lemmas.Bool.{eqb-true, eqb-false}
use Rattle.std.proofs.lemmas.List.{append-nil}
use Rattle.std.proofs.lemmas.Nat.{from_le_bytes-to_le_bytes_2}
use Rattle.dq_vr.specs.declared.Tag.{Tag}
use Rattle.dq_vr.specs.declared.Vr.{Vr}
use Rattle.dq_vr.specs.declared.Vr.TheVariants.{UI, UN}
use Rattle.dq_vr.specs.Tag.{is_below}
use Rattle.dq_vr.specs.Dictionary.{known_vr, vr_in, dictionary}
use Rattle.dq_value.specs.Trimming.{is_padded, ignores_leading_spaces, is_pad, kept_before, without_trailing, without_padding, trimmed_value}
use Rattle.dq_dataset.specs.declared.header.Syntax.TheVariants.{Implicit}
use Rattle.dq_dataset.specs.declared.header.Bound.TheVariants.{Filled}
use Rattle.dq_dataset.specs.declared.header.Content.TheVariants.{Plain}
use Rattle.dq_dataset.specs.declared.data_set.Value.TheVariants.{Octets}
use Rattle.dq_dataset.specs.Tree.{ElementList, no_elements}
use Rattle.dq_dataset.specs.Tree as tree
use Rattle.dq_dataset.specs.View.{elements_of}
use Rattle.dq_dataset.specs.Rules.{content_of, vr_of}
use Rattle.dq_dataset.specs.Rules as rules_of
use Rattle.dq_dataset.specs.DataSetReader.{follows}
use Rattle.dq_dataset.specs.Grammar.{IsHeader, Spells, no_more, more, SpellsValue, plain, without_group_length}
use Rattle.dq_dimse.specs.declared.command.Command.{Command}
use Rattle.dq_dimse.specs.Commands.{belongs, command_tag, identifier_of}
use Rattle.dq_dimse.specs.CommandSets.{HasFields, SaysResponse}
use Rattle.dq_dimse.specs.Sending.{zero_padded, command_element, instance_element, command_elements, command_set}

-- ---- padding

trailing-push : (xs : List ℕ) (x : ℕ) → is_pad x ≡ true → without_trailing is_pad (xs ++ x ∷ []) ≡ without_trailing is_pad xs
unfolding without_trailing kept_before
trailing-push [] x h = rw h refl
trailing-push (y ∷ xs) x h = ap (kept_before is_pad y) (trailing-push xs x h)

trimmed-push : (xs : List ℕ) → trimmed_value UI (xs ++ 0 ∷ []) ≡ trimmed_value UI xs
unfolding trimmed_value without_padding is_padded ignores_leading_spaces
trimmed-push xs = trailing-push xs 0 refl

trimmed_cases : (b : Bool) (xs : List ℕ) → trimmed_value UI (cond b (xs ++ 0 ∷ []) xs) ≡ trimmed_value UI xs
trimmed_cases true xs = trimmed-push xs
trimmed_cases false xs = refl

-- the pad of an odd value is padding
trimmed_padded : (xs : List ℕ) → trimmed_value UI (zero_padded xs) ≡ trimmed_value UI xs
trimmed_padded xs = trimmed_cases (eqb (length xs % 2) 1) xs

even_cases : (b : Bool) (xs : List ℕ) → eqb (length xs % 2) 1 ≡ b → length (cond b (xs ++ 0 ∷ []) xs) % 2 ≡ 0
even_cases true xs e = let odd = eqb-true (length xs % 2) 1 e in omega (arith, length-append xs (0 ∷ []))
even_cases false xs e = let even = eqb-false (length xs % 2) 1 e in omega arith

padded_even : (xs : List ℕ) → length (zero_padded xs) % 2 ≡ 0
padded_even xs = even_cases (eqb (length xs % 2) 1) xs refl

-- ---- one element

even_stays : (value : List ℕ) → length value % 2 ≡ 0 → rules_of.padded_value UN value ≡ value
even_stays value e = rw (eq-eqb (length value % 2) 0 e) refl

plain_content : (known : Option Vr) (n : ℕ) → known ≡ None → content_of known None (Some n) ≡ Ok (Plain n)
unfolding content_of
plain_content known n e = rw e refl

is_header : (number : ℕ) (value : List ℕ) → known_vr (command_tag number) ≡ None → length value < 0xffff_ffff
    → IsHeader Implicit (command_tag number) (Plain (length value)) (0 ∷ 0 ∷ (to_le_bytes w16 number ++ to_le_bytes w32 (length value)))
is_header number value unknown short = record {
  spelled = None;
  extent = Some (length value);
  allowed = plain_content (known_vr (command_tag number)) (length value) unknown;
  behind = to_le_bytes w32 (length value);
  spelling = (short, refl);
  whole = refl;
}

spells_value : (known : Option Vr) (value : List ℕ) → known ≡ None → length value % 2 ≡ 0
    → SpellsValue 16 (vr_of known (Plain (length value))) (Plain (length value)) value (Octets value)
spells_value known value e even =
    rw e (subst (λ (x : List ℕ). SpellsValue 16 UN (Plain (length value)) value (Octets x)) (even_stays value even) (plain 16 UN (length value) value refl))

-- the elements after a tag, which one more stands before
one_more : (last : Option Tag) (number : ℕ) (value rest : List ℕ) (others : ElementList) → follows last (command_tag number) ≡ true → number < 2 ^ 16
    → known_vr (command_tag number) ≡ None
    → length value < 0xffff_ffff → length value % 2 ≡ 0 → Spells Filled Implicit 16 (Some (command_tag number)) rest others
    → Spells Filled Implicit 16 last (command_element number value ++ rest) (without_group_length (command_tag number) UN (Octets value) others)
one_more last number value rest others rises small unknown short even spells =
    more Filled Implicit 16 last (command_element number value ++ rest) (without_group_length (command_tag number) UN (Octets value) others) (command_tag number)
    (Plain (length value))
    (0 ∷ 0 ∷ (to_le_bytes w16 number ++ to_le_bytes w32 (length value))) value rest (Octets value) others
    (record { rises = rises; no_delimiter = λ h. omega arith; group = lit< tt; number = small })
    (is_header number value unknown short) (spells_value (known_vr (command_tag number)) value unknown even) spells
    (append_assoc (0 ∷ 0 ∷ (to_le_bytes w16 number ++ to_le_bytes w32 (length value))) value rest)
    (ap (λ (known : Option Vr). without_group_length (command_tag number) (vr_of known (Plain (length value))) (Octets value) others) (sym unknown))

-- ---- all of them

abbrev own_element : ℕ → List ℕ → ElementList → ElementList
own_element number value others = tree.element (command_tag number) UN value others

abbrev instance_set : List ℕ → ElementList
instance_set [] = no_elements
instance_set (o ∷ os) = own_element 0x1000 (zero_padded (o ∷ os)) no_elements

abbrev data_set_type : Bool → ℕ
data_set_type with_data = cond with_data 0x0001 0x0101

abbrev set_before : Command → ElementList → ElementList
set_before command others =
    own_element 0x0002 (zero_padded command.sop_class) (own_element 0x0100 (to_le_bytes w16 command.code) (own_element 0x0120 (to_le_bytes w16 command.id)
    (own_element 0x0800 (to_le_bytes w16 (data_set_type command.with_data)) (own_element 0x0900 (to_le_bytes w16 command.status) others))))

abbrev response_set : Command → ElementList
response_set command = set_before command (instance_set command.sop_instance)

unknown_0000 : known_vr (command_tag 0x0000) ≡ None
unfolding known_vr vr_in dictionary
unknown_0000 = refl

unknown_0002 : known_vr (command_tag 0x0002) ≡ None
unfolding known_vr vr_in dictionary
unknown_0002 = refl

unknown_0100 : known_vr (command_tag 0x0100) ≡ None
unfolding known_vr vr_in dictionary
unknown_0100 = refl

unknown_0120 : known_vr (command_tag 0x0120) ≡ None
unfolding known_vr vr_in dictionary
unknown_0120 = refl

unknown_0800 : known_vr (command_tag 0x0800) ≡ None
unfolding known_vr vr_in dictionary
unknown_0800 = refl

unknown_0900 : known_vr (command_tag 0x0900) ≡ None
unfolding known_vr vr_in dictionary
unknown_0900 = refl

unknown_1000 : known_vr (command_tag 0x1000) ≡ None
unfolding known_vr vr_in dictionary
unknown_1000 = refl

spells_instance : (instance : List ℕ) → length (zero_padded instance) < 0xffff_ffff
    → Spells Filled Implicit 16 (Some (command_tag 0x0900)) (instance_element instance) (instance_set instance)
unfolding is_below
spells_instance [] short = no_more Filled Implicit 16 (Some (command_tag 0x0900)) [] refl
spells_instance (o ∷ os) short =
    let value = zero_padded (o ∷ os) in
    subst (λ (octets : List ℕ). Spells Filled Implicit 16 (Some (command_tag 0x0900)) octets (instance_set (o ∷ os))) (append-nil (command_element 0x1000 value))
    (one_more (Some (command_tag 0x0900)) 0x1000 value [] no_elements refl (lit< tt) unknown_1000 short (padded_even (o ∷ os))
    (no_more Filled Implicit 16 (Some (command_tag 0x1000)) [] refl))

regroup : (g a b c d e f : List ℕ) → g ++ (a ++ (b ++ (c ++ (d ++ (e ++ f))))) ≡ g ++ (a ++ b ++ c ++ d ++ e ++ f)
regroup g a b c d e f = simp append_assoc

short_element_before : (last : Option Tag) (number value : ℕ) (rest : List ℕ) (others : ElementList) → follows last (command_tag number) ≡ true
    → number < 2 ^ 16 → known_vr (command_tag number) ≡ None
    → Spells Filled Implicit 16 (Some (command_tag number)) rest others
    → Spells Filled Implicit 16 last (command_element number (to_le_bytes w16 value) ++ rest)
    (without_group_length (command_tag number) UN (Octets (to_le_bytes w16 value)) others)
short_element_before last number value rest others rises small unknown spells =
    one_more last number (to_le_bytes w16 value) rest others rises small unknown (lit< tt) refl spells

spells_response : (command : Command) → HasFields command → Spells Filled Implicit 16 None (command_set command) (response_set command)
unfolding is_below
spells_response command h =
    let group_length = to_le_bytes w32 (length (command_elements command)) in
    let f = instance_element command.sop_instance in
    let e = command_element 0x0900 (to_le_bytes w16 command.status) in
    let d = command_element 0x0800 (to_le_bytes w16 (data_set_type command.with_data)) in
    let c = command_element 0x0120 (to_le_bytes w16 command.id) in
    let b = command_element 0x0100 (to_le_bytes w16 command.code) in
    let a = command_element 0x0002 (zero_padded command.sop_class) in
    let at_f = spells_instance command.sop_instance h.sop_instance in
    let at_e = short_element_before (Some (command_tag 0x0800)) 0x0900 command.status f (instance_set command.sop_instance) refl (lit< tt) unknown_0900 at_f in
    let at_d = short_element_before (Some (command_tag 0x0120)) 0x0800 (data_set_type command.with_data) (e ++ f) _ refl (lit< tt) unknown_0800 at_e in
    let at_c = short_element_before (Some (command_tag 0x0100)) 0x0120 command.id (d ++ (e ++ f)) _ refl (lit< tt) unknown_0120 at_d in
    let at_b = short_element_before (Some (command_tag 0x0002)) 0x0100 command.code (c ++ (d ++ (e ++ f))) _ refl (lit< tt) unknown_0100 at_c in
    let at_a = one_more (Some (command_tag 0x0000)) 0x0002 (zero_padded command.sop_class) (b ++ (c ++ (d ++ (e ++ f)))) _ refl
    (lit< tt) unknown_0002 h.sop_class (padded_even command.sop_class) at_b in
    let whole = one_more None 0x0000 group_length (a ++ (b ++ (c ++ (d ++ (e ++ f))))) _ refl (lit< tt) unknown_0000 (lit< tt) refl at_a in
    subst (λ (octets : List ℕ). Spells Filled Implicit 16 None octets (response_set command)) (regroup (command_element 0x0000 group_length) a b c d e f) whole

own_with : (command : Command) (instance : List ℕ) → list_all belongs (elements_of (set_before command (instance_set instance))) ≡ true
own_with command [] = refl
own_with command (o ∷ os) = refl

instance_read : (command : Command) (instance : List ℕ) → identifier_of 0x1000 (set_before command (instance_set instance)) ≡ trimmed_value UI instance
instance_read command [] = refl
instance_read command (o ∷ os) = trimmed_padded (o ∷ os)

type_read : (with_data : Bool) → from_le_bytes w16 (to_le_bytes w16 (data_set_type with_data)) ≡ data_set_type with_data
type_read true = refl
type_read false = refl

pub says_response : (command : Command) → HasFields command → SaysResponse command (command_set command)
says_response command h = record {
  group_length = ap (λ (n : ℕ). command_element 0x0000 (to_le_bytes w32 n)) (let n : length (command_elements command) ≡ length
      (command_set command) - 12 = omega arith in n);
  set = response_set command;
  spells = record { spelled = spells_response command h; own = own_with command command.sop_instance };
  sop_class = trimmed_padded command.sop_class;
  code = ap (λ (n : ℕ). Some n) (from_le_bytes-to_le_bytes_2 command.code h.code);
  id = ap (λ (n : ℕ). Some n) (from_le_bytes-to_le_bytes_2 command.id h.id);
  data_set_type = ap (λ (n : ℕ). Some n) (type_read command.with_data);
  status = ap (λ (n : ℕ). Some n) (from_le_bytes-to_le_bytes_2 command.status h.status);
  sop_instance = instance_read command command.sop_instance;
}
