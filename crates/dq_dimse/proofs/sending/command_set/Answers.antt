use Rattle.std.proofs.Common.{◌≡◌, ℕ, ◌-◌, List, [], ◌∷◌, ◌++◌, length, take, drop, arith, ap, ◌∙◌}
use Rattle.std.specs.Int.{w32, to_le_bytes}
use Rattle.dq_dimse.specs.CommandElements.{command_group_length}
use Rattle.dq_dimse.specs.CommandRefs.{command_of_ref}
use Rattle.dq_dimse.specs.Sending.{command_element, command_elements}
use Rattle.dq_dimse.proofs.sending.command_set.Goals as goal

-- zeros, the elements, and then how many octets these have in the zeros' place
counted : (x0 x1 x2 x3 elements : List ℕ) (count : ℕ) → x0 ≡ [] → x1 ≡ x0 ++ command_element command_group_length (0 ∷ 0 ∷ 0 ∷ 0 ∷ [])
    → x2 ≡ x1 ++ elements → count ≡ length x2 → x3 ≡ take 8 x2 ++ (to_le_bytes w32 (count - 12) ++ drop 12 x2)
    → x3 ≡ command_element command_group_length (to_le_bytes w32 (length elements)) ++ elements
counted x0 x1 x2 x3 elements count none begun added all put =
    let zeros : List ℕ = command_element command_group_length (0 ∷ 0 ∷ 0 ∷ 0 ∷ []) in
    let whole : x2 ≡ zeros ++ elements = added ∙ ap (λ (x : List ℕ). x ++ elements) (begun ∙ ap (λ (x : List ℕ). x ++ zeros) none) in
    let behind : count - 12 ≡ length elements = omega (arith, all, ap length whole) in
    put
    ∙ ap (λ (n : ℕ). take 8 x2 ++ (to_le_bytes w32 n ++ drop 12 x2)) behind
    ∙ ap (λ (x : List ℕ). take 8 x ++ (to_le_bytes w32 (length elements) ++ drop 12 x)) whole

pub returns : goal.returns
returns c = counted c.in_ok-out.out.items c.put_element.new.out.items c.put_command_elements.new.out.items c.put_group_length.new.set.items
    (command_elements (command_of_ref c.args.command)) c.put_command_elements.new.out.len c.in_ok-out.ensures.items c.in_ok-put_element.ensures
    c.in_ok-put_command_elements.ensures (omega (arith, c.put_command_elements.new.out.ok.0)) c.put_group_length.ensures
