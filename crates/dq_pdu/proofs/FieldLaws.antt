-- The fixed fields of a request or an acceptance: what is read is spelled so, and what is spelled so is read.
use Rattle.std.proofs.Common.{◌≡◌, ℕ, ◌+◌, ◌≤◌, List, ◌++◌, length, take, drop, Some, refl, sym, ap, ◌∙◌, append_assoc, arith, length-append}
use Rattle.std.specs.Int.{w16, from_be_bytes}
use Rattle.std.proofs.lemmas.List.{take-append-drop, length-take-le, length-drop, drop-drop, take_at, drop_at}
use Rattle.dq_pdu.specs.declared.pdu_reader.Item.{Item}
use Rattle.dq_pdu.specs.Octets.{Fills, parts_of}
use Rattle.dq_pdu.specs.Spelling.{IsItem, AreFields}
use Rattle.dq_pdu.specs.PduReader.{item_at}
use Rattle.dq_pdu.proofs.ItemLaws.{items_read}

-- one more field at a place
longer : (front body : List ℕ) (m n : ℕ) → body ≡ front ++ drop m body → body ≡ (front ++ take n (drop m body)) ++ drop (m + n) body
longer front body m n e =
    e ∙ ap (λ (b : List ℕ). front ++ b) (sym (take-append-drop n (drop m body)) ∙ ap (λ (b : List ℕ). take n (drop m body) ++ b) (drop-drop n m body)) ∙ sym
    (append_assoc front (take n (drop m body)) (drop (m + n) body))

field_length : (body : List ℕ) (m n : ℕ) → m + n ≤ length body → length (take n (drop m body)) ≡ n
field_length body m n h = length-take-le n (drop m body) (omega (arith, length-drop m body))

pub associate_spelled : (body : List ℕ) (items : List Item) → 68 ≤ length body → Fills IsItem items (drop 68 body)
    → AreFields (from_be_bytes w16 (take 2 body)) (take 16 (drop 4 body)) (take 16 (drop 20 body)) (take 32 (drop 36 body)) items body
associate_spelled body items h fills =
    let s2 = longer (take 2 body) body 2 2 (sym (take-append-drop 2 body)) in
    let s3 = longer (take 2 body ++ take 2 (drop 2 body)) body 4 16 s2 in
    let s4 = longer (take 2 body ++ take 2 (drop 2 body) ++ take 16 (drop 4 body)) body 20 16 s3 in
    let s5 = longer (take 2 body ++ take 2 (drop 2 body) ++ take 16 (drop 4 body) ++ take 16 (drop 20 body)) body 36 32 s4 in
    record {
      number = take 2 body;
      gap = take 2 (drop 2 body);
      rest = drop 68 body;
      spelled = s5;
      version_is = record { wide = length-take-le 2 body (omega arith); value = refl };
      gap_two = field_length body 2 2 (omega arith);
      called_sixteen = field_length body 4 16 (omega arith);
      calling_sixteen = field_length body 20 16 (omega arith);
      reserved_thirty_two = field_length body 36 32 (omega arith);
      fills = fills;
    }

field_at : (front field behind : List ℕ) (m n : ℕ) → length front ≡ m → length field ≡ n → take n (drop m (front ++ (field ++ behind))) ≡ field
field_at front field behind m n h k = ap (take n) (drop_at front (field ++ behind) m h) ∙ take_at field behind n k

-- what stands at the places of the fixed fields
pub record Fixed (version : ℕ) (called calling reserved : List ℕ) (items : List Item) (body : List ℕ) : Type 0 where
  pub long : 68 ≤ length body
  pub version_is : from_be_bytes w16 (take 2 body) ≡ version
  pub called_is : take 16 (drop 4 body) ≡ called
  pub calling_is : take 16 (drop 20 body) ≡ calling
  pub reserved_is : take 32 (drop 36 body) ≡ reserved
  pub items_are : parts_of item_at (drop 68 body) ≡ Some items

pub fixed_from : (version : ℕ) (called calling reserved : List ℕ) (items : List Item) (body : List ℕ)
    → AreFields version called calling reserved items body → Fixed version called calling reserved items body
fixed_from version called calling reserved items body is =
    let n = is.number in
    let g = is.gap in
    let r = is.rest in
    let e = is.spelled in
    let e5 = e in
    let e4 : body ≡ (n ++ g ++ called ++ calling) ++ (reserved ++ r) = e5 ∙ append_assoc (n ++ g ++ called ++ calling) reserved r in
    let e3 : body ≡ (n ++ g ++ called) ++ (calling ++ (reserved ++ r)) = e4 ∙ append_assoc (n ++ g ++ called) calling (reserved ++ r) in
    let e2 : body ≡ (n ++ g) ++ (called ++ (calling ++ (reserved ++ r))) = e3 ∙ append_assoc (n ++ g) called (calling ++ (reserved ++ r)) in
    let e1 : body ≡ n ++ (g ++ (called ++ (calling ++ (reserved ++ r)))) = e2 ∙ append_assoc n g (called ++ (calling ++ (reserved ++ r))) in
    let w = is.version_is.wide in
    let h4 : length (n ++ g) ≡ 4 = omega (arith, w, is.gap_two, length-append n g) in
    let h20 : length (n ++ g ++ called) ≡ 20 = omega (arith, h4, is.called_sixteen, length-append (n ++ g) called) in
    let h36 : length (n ++ g ++ called ++ calling) ≡ 36 = omega (arith, h20, is.calling_sixteen, length-append (n ++ g ++ called) calling) in
    let h68 : length (n ++ g ++ called ++ calling ++ reserved) ≡ 68 = omega (
      arith,
      h36,
      is.reserved_thirty_two,
      length-append
          (n ++ g ++ called ++ calling) reserved,
    ) in
    record {
      long = omega (arith, ap length e, h68, length-append (n ++ g ++ called ++ calling ++ reserved) r);
      version_is = ap (λ (b : List ℕ). from_be_bytes w16 (take 2 b)) e1 ∙ ap (from_be_bytes w16) (take_at n (g ++ (called ++ (calling ++
          (reserved ++ r)))) 2 w) ∙ is.version_is.value;
      called_is = ap (λ (b : List ℕ). take 16 (drop 4 b)) e2 ∙ field_at (n ++ g) called (calling ++ (reserved ++ r)) 4 16 h4 is.called_sixteen;
      calling_is = ap (λ (b : List ℕ). take 16 (drop 20 b)) e3 ∙ field_at (n ++ g ++ called) calling (reserved ++ r) 20 16 h20 is.calling_sixteen;
      reserved_is = ap (λ (b : List ℕ). take 32 (drop 36 b)) e4 ∙ field_at (n ++ g ++ called ++ calling) reserved r 36 32 h36 is.reserved_thirty_two;
      items_are = ap (λ (b : List ℕ). parts_of item_at (drop 68 b)) e ∙ ap (parts_of item_at) (drop_at (n ++ g ++ called ++ calling ++ reserved) r 68 h68)
          ∙ items_read items r is.fills;
    }
