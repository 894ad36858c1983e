-- Headers before it is known whether their values fit.
use Rattle.std.proofs.Common.{◌≡◌, ◌≢◌, ℕ, ◌<◌, ◌^◌, Bool, true, false, not, cond, ltb, eqb, ◌&&◌, List, [], ◌∷◌, ◌++◌, length, Option, Some, None, Result, Ok, Err, refl, sym, ap, ◌∙◌, arith, inl, inr, ◌⊎◌}
use Rattle.std.proofs.lemmas.Bool.{eqb-true, ne_eqb}
use Rattle.std.proofs.lemmas.List.{length-append}
use Rattle.dq_dataset.proofs.Types.{Tag, ReadFault, Truncated, BadItem, Syntax, Bound, Filled, Delimited, Content, Header}
use Rattle.dq_dataset.specs.DataSetReader.{◌>>=◌, check, header_at, item_header_at, may_nest, length_of, fits_enclosing, front_at, item_front_at, end_at}
use Rattle.dq_dataset.specs.Grammar.{IsHeader, IsPlaced, IsItemHeader}
use Rattle.dq_dataset.specs.Faults.{tag_in, first_of, header_faults, item_faults, ends_here, HasFault, at_header, ItemsHaveFault, at_item}
use Rattle.dq_dataset.proofs.Fields.{IsBytes, no_fault}
use Rattle.dq_dataset.proofs.Headers.{header_of, fits_step, front_takes, front_again, item_length_step, item_front_takes, item_front_again, no_end_before, no_end_before_item, end_takes, end_again}
use Rattle.dq_dataset.proofs.HeaderFaults.{fault_of, header_faults_are, item_faults_are, an_end_here, no_end_here}
use Rattle.dq_dataset.proofs.FaultStays.{elements_stay, items_stay}

-- ---- a header takes all that came

-- what stands in front of more than the last octet stands in front of all others
front_of_others : (before : List ℕ) (b x : ℕ) (octets xs : List ℕ) → before ++ b ∷ [] ≡ octets ++ x ∷ xs
    → (ys : List ℕ) × (before ≡ octets ++ ys)
front_of_others before b x [] xs e = (before, refl)
front_of_others [] b x (o ∷ octets) xs e = let long = ap length e in absurd (omega (arith, long, length-append octets (x ∷ xs)))
front_of_others (a ∷ before) b x (o ∷ octets) xs e =
    let same : a ≡ o = cc in
    let others : before ++ b ∷ [] ≡ octets ++ x ∷ xs = cc in
    let rest = front_of_others before b x octets xs others in
    (rest.0, λ i. same i ∷ rest.1 i)

err_of : {A : Type 0} (x : A) (r : Result A ReadFault) → r ≡ Ok x → r ≡ Err Truncated → ⊥
err_of x r e f = no_fault x Truncated (sym e ∙ f)

pub front_is_all : (syntax : Syntax) (levels : ℕ) (last : Option Tag) (before : List ℕ) (b : ℕ) (header : Header) (rest : List ℕ)
    → IsBytes (before ++ b ∷ []) → front_at syntax levels last before ≡ Err Truncated
    → front_at syntax levels last (before ++ b ∷ []) ≡ Ok (header, rest) → rest ≡ []
front_is_all syntax levels last before b header [] ok open_before e = refl
front_is_all syntax levels last before b header (x ∷ xs) ok open_before e =
    let t = front_takes syntax levels last (before ++ b ∷ []) header (x ∷ xs) ok e in
    let others = front_of_others before b x t.octets xs t.takes.parts in
    let again = front_again syntax levels last header.tag header.content t.octets others.0 t.placed t.header t.nests in
    absurd (err_of _ (front_at syntax levels last before) (ap (front_at syntax levels last) others.1 ∙ again) open_before)

pub item_front_is_all : (before : List ℕ) (b : ℕ) (extent : Option ℕ) (rest : List ℕ) → IsBytes (before ++ b ∷ [])
    → item_front_at before ≡ Err Truncated → item_front_at (before ++ b ∷ []) ≡ Ok (extent, rest) → rest ≡ []
item_front_is_all before b extent [] ok open_before e = refl
item_front_is_all before b extent (x ∷ xs) ok open_before e =
    let t = item_front_takes (before ++ b ∷ []) extent (x ∷ xs) ok e in
    let others = front_of_others before b x t.octets xs t.takes.parts in
    absurd (err_of _ (item_front_at before) (ap item_front_at others.1 ∙ item_front_again extent t.octets others.0 t.header) open_before)

-- ---- the faults at a header

open_by : (bound : Bound) (element : ℕ) (octets : List ℕ) (ended : Bool) → ends_here bound element octets ≡ ended
    → ((rest : List ℕ) → end_at bound element octets ≡ Ok (Some rest) → ⊥) → ended ≡ false
open_by bound element octets true e none = let end = an_end_here bound element octets e in absurd (none end.0 end.1)
open_by bound element octets false e none = refl

-- where no end is read, none is here
pub open_here : (bound : Bound) (element : ℕ) (octets : List ℕ) → ((rest : List ℕ) → end_at bound element octets ≡ Ok (Some rest) → ⊥)
    → ends_here bound element octets ≡ false
open_here bound element octets none = open_by bound element octets (ends_here bound element octets) refl none

abbrev ok_none : Result (Option (List ℕ)) ReadFault
ok_none = Ok None

abbrev ok_some : List ℕ → Result (Option (List ℕ)) ReadFault
ok_some rest = Ok (Some rest)

no_rest : (octets rest : List ℕ) (bound : Bound) (element : ℕ) → end_at bound element octets ≡ Ok None → end_at bound element octets ≡ Ok (Some rest) → ⊥
no_rest octets rest bound element none some =
    let e : ok_none ≡ Ok (Some rest) = sym none ∙ some in absurd cc

pub front_fault : (syntax : Syntax) (levels : ℕ) (last : Option Tag) (octets : List ℕ) (f : ReadFault) → front_at syntax levels last octets ≡ Err f
    → first_of (header_faults syntax levels last octets) ≡ Some f
unfolding header_at
front_fault syntax levels last octets f e =
    sym (header_faults_are syntax levels last octets) ∙ ap (λ r. fault_of (r >>= fits_step)) e

pub item_front_fault : (octets : List ℕ) (f : ReadFault) → item_front_at octets ≡ Err f → first_of (item_faults octets) ≡ Some f
unfolding item_header_at
item_front_fault octets f e = sym (item_faults_are octets) ∙ ap (λ r. fault_of (r >>= item_length_step)) e

-- a fault of the front stays
pub front_fault_stays : (bound : Bound) (syntax : Syntax) (levels : ℕ) (last : Option Tag) (front t : List ℕ) (f : ReadFault)
    → ends_here bound 0xE00D front ≡ false → front_at syntax levels last front ≡ Err f → f ≢ Truncated → HasFault bound syntax levels last (front ++ t) f
front_fault_stays bound syntax levels last front t f none e other =
    elim (elements_stay t bound syntax levels last front f
    (at_header bound syntax levels last front f none (front_fault syntax levels last front f e))) [
      | inl missing ↦ absurd (other missing)
      | inr stays ↦ stays
    ]

pub item_fault_stays : (bound : Bound) (syntax : Syntax) (levels : ℕ) (front t : List ℕ) (f : ReadFault)
    → ends_here bound 0xE0DD front ≡ false → item_front_at front ≡ Err f → f ≢ Truncated → ItemsHaveFault bound syntax levels (front ++ t) f
item_fault_stays bound syntax levels front t f none e other =
    elim (items_stay t bound syntax levels front f (at_item bound syntax levels front f none (item_front_fault front f e))) [
      | inl missing ↦ absurd (other missing)
      | inr stays ↦ stays
    ]

-- a front that is not whole is no end
no_end_by : (short group number zero : Bool) (others : Option ReadFault)
    → cond short (Some Truncated) (cond group (Some BadItem) others) ≡ Some Truncated → (not short && ((group && number) && zero)) ≡ false
no_end_by short group number zero others e = grind arith

no_item_end_by : (short group number zero item : Bool) (others : Option ReadFault) → (number ≡ true → item ≡ false)
    → cond short (Some Truncated) (cond (not (group && item)) (Some BadItem) others) ≡ Some Truncated → (not short && ((group && number) && zero)) ≡ false
no_item_end_by short group number zero item others other e = grind arith

-- what is not whole is no end
pub part_is_open : (bound : Bound) (syntax : Syntax) (levels : ℕ) (last : Option Tag) (front : List ℕ) → (bound ≡ Delimited) ⊎ (0 < length front)
    → front_at syntax levels last front ≡ Err Truncated → ends_here bound 0xE00D front ≡ false
part_is_open Filled syntax levels last front (inl same) e = absurd cc
part_is_open Filled syntax levels last front (inr some) e = ne_eqb (length front) 0 (λ none. omega arith)
part_is_open Delimited syntax levels last front h e =
    no_end_by (ltb (length front) 8) (eqb (tag_in front).group 0xFFFE) _ _ _ (front_fault syntax levels last front Truncated e)

pub item_part_is_open : (bound : Bound) (front : List ℕ) → (bound ≡ Delimited) ⊎ (0 < length front)
    → item_front_at front ≡ Err Truncated → ends_here bound 0xE0DD front ≡ false
item_part_is_open bound front h e = grind (arith, ne_eqb, no_item_end_by, eqb-true, item_front_fault)

-- what is not whole is Truncated
pub truncated : (bound : Bound) (syntax : Syntax) (levels : ℕ) (last : Option Tag) (front : List ℕ) → (bound ≡ Delimited) ⊎ (0 < length front)
    → front_at syntax levels last front ≡ Err Truncated → HasFault bound syntax levels last front Truncated
truncated bound syntax levels last front h e =
    at_header bound syntax levels last front Truncated (part_is_open bound syntax levels last front h e) (front_fault syntax levels last front Truncated e)

pub item_truncated : (bound : Bound) (syntax : Syntax) (levels : ℕ) (front : List ℕ) → (bound ≡ Delimited) ⊎ (0 < length front)
    → item_front_at front ≡ Err Truncated → ItemsHaveFault bound syntax levels front Truncated
item_truncated bound syntax levels front h e =
    at_item bound syntax levels front Truncated (item_part_is_open bound front h e) (item_front_fault front Truncated e)

over_is : {X : Type 0} (x : X) (whole : Bool) → whole ≡ false → fault_of (check whole Truncated >>= λ ok. Ok x) ≡ Some Truncated
over_is x true e = absurd cc
over_is x false e = refl

-- a value that does not fit is Truncated
pub unfit : (bound : Bound) (syntax : Syntax) (levels : ℕ) (last : Option Tag) (tag : Tag) (content : Content) (header t : List ℕ)
    → IsPlaced last tag → IsHeader syntax tag content header → may_nest levels content ≡ true → fits_enclosing (length_of content) t ≡ false
    → HasFault bound syntax levels last (header ++ t) Truncated
unfolding header_at
unfit bound syntax levels last tag content header t placed is_header nests over =
    at_header bound syntax levels last (header ++ t) Truncated
    (open_here bound 0xE00D (header ++ t)
    (λ rest. no_rest (header ++ t) rest bound 0xE00D (no_end_before bound last syntax tag content header t placed is_header)))
    (sym (header_faults_are syntax levels last (header ++ t)) ∙ ap (λ r. fault_of (r >>= fits_step))
    (front_again syntax levels last tag content header t placed is_header nests)
    ∙ over_is (header_of tag content, t) (fits_enclosing (length_of content) t) over)

pub item_unfit : (bound : Bound) (syntax : Syntax) (levels : ℕ) (extent : Option ℕ) (header t : List ℕ) → IsItemHeader extent header
    → fits_enclosing extent t ≡ false → ItemsHaveFault bound syntax levels (header ++ t) Truncated
unfolding item_header_at
item_unfit bound syntax levels extent header t is_header over =
    at_item bound syntax levels (header ++ t) Truncated
    (open_here bound 0xE0DD (header ++ t) (λ rest. no_rest (header ++ t) rest bound 0xE0DD (no_end_before_item bound extent header t is_header)))
    (sym (item_faults_are (header ++ t)) ∙ ap (λ r. fault_of (r >>= item_length_step)) (item_front_again extent header t is_header)
    ∙ over_is (extent, t) (fits_enclosing extent t) over)

-- ---- an end takes all that came

pub not_some : (bound : Bound) (element : ℕ) (octets rest : List ℕ) → ends_here bound element octets ≡ false → end_at bound element octets ≡ Ok (Some rest) → ⊥
not_some bound element octets rest none some = grind (arith, no_end_here)

pub end_is_all : (element : ℕ) (before : List ℕ) (b : ℕ) (rest : List ℕ) → element < 2 ^ 16 → IsBytes (before ++ b ∷ [])
    → ends_here Delimited element before ≡ false → end_at Delimited element (before ++ b ∷ []) ≡ Ok (Some rest) → rest ≡ []
end_is_all element before b [] lt ok none e = refl
end_is_all element before b (x ∷ xs) lt ok none e =
    let t = end_takes Delimited element (before ++ b ∷ []) (x ∷ xs) ok e in
    let others = front_of_others before b x t.octets xs t.takes.parts in
    absurd (not_some Delimited element before others.0 none (ap (end_at Delimited element) others.1
    ∙ end_again Delimited element t.octets others.0 lt t.is_end tt))
