-- The values of the fields with a name, one field on.
use Rattle.std.proofs.Common.{◌≡◌, ◌++◌, ◌∷◌, [], ◌∙◌, ◌<◌, ◌+◌, ℕ, true, false, List, Option, Some, None, length, get_or, take, drop, map, is_some, option_to_list, ap, sym, append-nil, arith}
use Rattle.std.specs.Prelude.{filter}
use Rattle.std.proofs.lemmas.Bool.{false≢true}
use Rattle.std.proofs.lemmas.List.{map-append, map_more, take-append-drop}
use Rattle.std.proofs.lemmas.List.Elements.{filter-append}
use Rattle.httparse.specs.Spans.{header_bytes}
use Rattle.httparse.specs.declared.spans.HeaderSpan.{HeaderSpan}
use Rattle.dq_web.specs.Requests.{is_named, values_named, IsLast}

both : (name : List ℕ) (fields more : List (List ℕ × List ℕ))
    → values_named name (fields ++ more) ≡ values_named name fields ++ values_named name more
both name fields more =
    ap (map (λ (field : List ℕ × List ℕ). field.1)) (filter-append (λ (field : List ℕ × List ℕ). is_named name field.0) fields more)
    ∙ map-append (λ (field : List ℕ × List ℕ). field.1)
    (filter (λ (field : List ℕ × List ℕ). is_named name field.0) fields)
    (filter (λ (field : List ℕ × List ℕ). is_named name field.0) more)

one-more : (name : List ℕ) (fields : List (List ℕ × List ℕ)) (field : List ℕ × List ℕ)
    → is_named name field.0 ≡ true → values_named name (fields ++ field ∷ []) ≡ values_named name fields ++ field.1 ∷ []
one-more name fields field is = rw is at (both name fields (field ∷ []))

pub taken : (name : List ℕ) (fields : List (List ℕ × List ℕ)) (field : List ℕ × List ℕ)
    → is_named name field.0 ≡ true → IsLast name (fields ++ field ∷ []) (Some field.1)
taken name fields field is = (values_named name fields, one-more name fields field is)

pub passed : (name : List ℕ) (fields : List (List ℕ × List ℕ)) (field : List ℕ × List ℕ) (found : Option (List ℕ))
    → is_named name field.0 ≡ false → IsLast name fields found → IsLast name (fields ++ field ∷ []) found
passed name fields field None is last = rw is at (both name fields (field ∷ [])) ∙ append-nil _ ∙ last
passed name fields field (Some value) is last =
    (last.0, rw is at (both name fields (field ∷ [])) ∙ append-nil _ ∙ last.1)

values-of-parts : (name octets : List ℕ) (headers : List HeaderSpan) (at : ℕ)
    → values_named name (map (header_bytes octets) headers)
    ≡ values_named name (map (header_bytes octets) (take at headers)) ++ values_named name (map (header_bytes octets) (drop at headers))
values-of-parts name octets headers at =
    ap (λ (them : List HeaderSpan). values_named name (map (header_bytes octets) them)) (sym (take-append-drop at headers))
    ∙ ap (values_named name) (map-append (header_bytes octets) (take at headers) (drop at headers))
    ∙ both name (map (header_bytes octets) (take at headers)) (map (header_bytes octets) (drop at headers))

two-of : (one other : List ℕ) (more : List (List ℕ)) → 1 < length (one ∷ other ∷ more)
two-of one other more = omega arith

-- a field with the name of an earlier one is the second
pub repeated : (name octets : List ℕ) (headers : List HeaderSpan) (at : ℕ) (none : HeaderSpan) (found : Option (List ℕ)) → at < length headers
    → is_named name (header_bytes octets (get_or headers at none)).0 ≡ true
    → values_named name (map (header_bytes octets) (take at headers)) ≡ option_to_list found → is_some found ≡ true
    → 1 < length (values_named name (map (header_bytes octets) headers))
repeated name octets headers at none None within is earlier some = absurd (false≢true some)
repeated name octets headers at none (Some value) within is earlier some =
    let field = header_bytes octets (get_or headers at none) in
    let front : values_named name (map (header_bytes octets) (take (at + 1) headers)) ≡ value ∷ field.1 ∷ [] =
    ap (values_named name) (map_more (header_bytes octets) headers at none within)
    ∙ one-more name (map (header_bytes octets) (take at headers)) field is
    ∙ ap (λ (them : List (List ℕ)). them ++ field.1 ∷ []) earlier in
    rw (values-of-parts name octets headers (at + 1), front)
    (two-of value field.1 (values_named name (map (header_bytes octets) (drop (at + 1) headers))))
