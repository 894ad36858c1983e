-- A line spells at most one event, and lines at most one list of events.
use Rattle.std.proofs.Common.{◌≡◌, ◌≢◌, ℕ, suc, ◌<◌, List, [], ◌∷◌, ◌++◌, length, get_or, drop, codes, Ok, inl, inr, append_assoc, refl, sym, ap, ap₂, ◌∙◌, arith}
use Rattle.std.proofs.lemmas.Fmt.{decimal_injective}
use Rattle.hex.proofs.HexLemmas.{decode_of-odd, decode_of-same}
use Rattle.hex.specs.Hex.{decode_of}
use Rattle.dq_core.specs.declared.event.Event.{Event}
use Rattle.dq_core.specs.declared.event.Event.TheVariants.{Open, Piece, End, Pull, Schedule, Withdraw}
use Rattle.dq_captures.specs.Captures.{IsNumber, SpellOctets, SpellsPiece, SpellsOrder, SpellsEvent, SpellEach}
use Rattle.dq_captures.proofs.Numbers.{IsNumber-spaceless}
use Rattle.dq_captures.proofs.Lines.{other_word, other_letter, is_name-spaceless}

same_number : (text : List ℕ) (m n : ℕ) → IsNumber text m → IsNumber text n → m ≡ n
same_number text m n first second = decimal_injective m n first.0 second.0 (sym first.1 ∙ second.1)

no_octets : (text octets : List ℕ) → text ≡ codes "-" → decode_of text ≡ Ok octets → ⊥
no_octets text octets hyphen read =
    let odd = decode_of-odd (codes "-") refl in
    let other = rw hyphen at read in cc

same_octets : (text xs ys : List ℕ) → SpellOctets text xs → SpellOctets text ys → xs ≡ ys
same_octets text xs ys (inl first) (inl second) = first.1 ∙ sym second.1
same_octets text xs ys (inl first) (inr second) = absurd (no_octets text ys first.0 second.1)
same_octets text xs ys (inr first) (inl second) = absurd (no_octets text xs second.0 first.1)
same_octets text xs ys (inr first) (inr second) = decode_of-same text xs ys first.1 second.1

-- texts without spaces, each before a space, are one
same_cut : (xs ys vs ws : List ℕ) → xs ++ 32 ∷ vs ≡ ys ++ 32 ∷ ws → ((i : ℕ) → i < length xs → get_or xs i 0 ≢ 32)
    → ((i : ℕ) → i < length ys → get_or ys i 0 ≢ 32) → (xs ≡ ys) × (vs ≡ ws)
same_cut [] [] vs ws same first second = (refl, ap (drop 1) same)
same_cut [] (y ∷ ys) vs ws same first second = absurd (second 0 (omega arith) (sym (ap (λ l. get_or l 0 0) same)))
same_cut (x ∷ xs) [] vs ws same first second = absurd (first 0 (omega arith) (ap (λ l. get_or l 0 0) same))
same_cut (x ∷ xs) (y ∷ ys) vs ws same first second =
    let head : x ≡ y = ap (λ l. get_or l 0 0) same in
    let tail = same_cut xs ys vs ws (ap (drop 1) same) (λ i below. first (suc i) (omega arith)) (λ i below. second (suc i) (omega arith)) in
    let rest = tail.0 in
    (cc, tail.1)

same_piece : (text : List ℕ) (m n : ℕ) (xs ys : List ℕ) → SpellsPiece text (Piece m xs) → SpellsPiece text (Piece n ys) → Piece m xs ≡ Piece n ys
same_piece text m n xs ys first second =
    let cut = same_cut first.0 second.0 first.1 second.1
    (sym (append_assoc first.0 (codes " ") first.1) ∙ sym first.2 ∙ second.2 ∙ append_assoc second.0 (codes " ") second.1)
    (IsNumber-spaceless first.0 m first.3) (IsNumber-spaceless second.0 n second.3) in
    let number = same_number first.0 m n first.3 (rw cut.0 second.3) in
    let octets = same_octets first.1 xs ys first.4 (rw cut.1 second.4) in cc

same_order : (text g h xs ys : List ℕ) → SpellsOrder text g xs → SpellsOrder text h ys → (g ≡ h) × (xs ≡ ys)
same_order text g h xs ys first second =
    let cut = same_cut g h first.0 second.0
    (sym (append_assoc g (codes " ") first.0) ∙ sym first.1 ∙ second.1 ∙ append_assoc h (codes " ") second.0)
    (is_name-spaceless g first.2) (is_name-spaceless h second.2) in
    (cut.0, same_octets first.0 xs ys first.3 (rw cut.1 second.3))

pub same_event : (line : List ℕ) (e f : Event) → SpellsEvent line e → SpellsEvent line f → e ≡ f
same_event line (Open m) (Open n) first second =
    ap Open (same_number first.0 m n first.2 (rw (ap (drop 5) (sym first.1 ∙ second.1)) second.2))
same_event line (Open m) (Piece n ys) first second = absurd (other_word 111 112 _ _ (omega arith) (sym first.1 ∙ second.1))
same_event line (Open m) (End n) first second = absurd (other_word 111 101 _ _ (omega arith) (sym first.1 ∙ second.1))
same_event line (Piece m xs) (Open n) first second = absurd (other_word 112 111 _ _ (omega arith) (sym first.1 ∙ second.1))
same_event line (Piece m xs) (Piece n ys) first second =
    same_piece first.0 m n xs ys first.2 (rw (ap (drop 6) (sym first.1 ∙ second.1)) second.2)
same_event line (Piece m xs) (End n) first second = absurd (other_word 112 101 _ _ (omega arith) (sym first.1 ∙ second.1))
same_event line (End m) (Open n) first second = absurd (other_word 101 111 _ _ (omega arith) (sym first.1 ∙ second.1))
same_event line (End m) (Piece n ys) first second = absurd (other_word 101 112 _ _ (omega arith) (sym first.1 ∙ second.1))
same_event line (End m) (End n) first second =
    ap End (same_number first.0 m n first.2 (rw (ap (drop 4) (sym first.1 ∙ second.1)) second.2))
same_event line (Open m) (Schedule h ys) first second = absurd (other_word 111 115 _ _ (omega arith) (sym first.1 ∙ second.1))
same_event line (Open m) (Withdraw h ys) first second = absurd (other_word 111 119 _ _ (omega arith) (sym first.1 ∙ second.1))
same_event line (Piece m xs) (Schedule h ys) first second = absurd (other_word 112 115 _ _ (omega arith) (sym first.1 ∙ second.1))
same_event line (Piece m xs) (Withdraw h ys) first second = absurd (other_word 112 119 _ _ (omega arith) (sym first.1 ∙ second.1))
same_event line (End m) (Schedule h ys) first second = absurd (other_word 101 115 _ _ (omega arith) (sym first.1 ∙ second.1))
same_event line (End m) (Withdraw h ys) first second = absurd (other_word 101 119 _ _ (omega arith) (sym first.1 ∙ second.1))
same_event line (Schedule g xs) (Withdraw h ys) first second = absurd (other_word 115 119 _ _ (omega arith) (sym first.1 ∙ second.1))
same_event line (Withdraw g xs) (Schedule h ys) first second = absurd (other_word 119 115 _ _ (omega arith) (sym first.1 ∙ second.1))
same_event line (Schedule g xs) (Open n) first second = absurd (other_word 115 111 _ _ (omega arith) (sym first.1 ∙ second.1))
same_event line (Schedule g xs) (Piece n ys) first second = absurd (other_word 115 112 _ _ (omega arith) (sym first.1 ∙ second.1))
same_event line (Schedule g xs) (End n) first second = absurd (other_word 115 101 _ _ (omega arith) (sym first.1 ∙ second.1))
same_event line (Schedule g xs) (Schedule h ys) first second =
    let same = same_order first.0 g h xs ys first.2 (rw (ap (drop 9) (sym first.1 ∙ second.1)) second.2) in
    ap₂ Schedule same.0 same.1
same_event line (Withdraw g xs) (Open n) first second = absurd (other_word 119 111 _ _ (omega arith) (sym first.1 ∙ second.1))
same_event line (Withdraw g xs) (Piece n ys) first second = absurd (other_word 119 112 _ _ (omega arith) (sym first.1 ∙ second.1))
same_event line (Withdraw g xs) (End n) first second = absurd (other_word 119 101 _ _ (omega arith) (sym first.1 ∙ second.1))
same_event line (Withdraw g xs) (Withdraw h ys) first second =
    let same = same_order first.0 g h xs ys first.2 (rw (ap (drop 9) (sym first.1 ∙ second.1)) second.2) in
    ap₂ Withdraw same.0 same.1
same_event line (Pull m) (Pull n) first second =
    ap Pull (same_number first.0 m n first.2 (rw (ap (drop 5) (sym first.1 ∙ second.1)) second.2))
same_event line (Open m) (Pull n) first second = absurd (other_word 111 112 _ _ (omega arith) (sym first.1 ∙ second.1))
same_event line (Pull m) (Open n) first second = absurd (other_word 112 111 _ _ (omega arith) (sym first.1 ∙ second.1))
same_event line (End m) (Pull n) first second = absurd (other_word 101 112 _ _ (omega arith) (sym first.1 ∙ second.1))
same_event line (Pull m) (End n) first second = absurd (other_word 112 101 _ _ (omega arith) (sym first.1 ∙ second.1))
same_event line (Schedule g xs) (Pull n) first second = absurd (other_word 115 112 _ _ (omega arith) (sym first.1 ∙ second.1))
same_event line (Pull m) (Schedule h ys) first second = absurd (other_word 112 115 _ _ (omega arith) (sym first.1 ∙ second.1))
same_event line (Withdraw g xs) (Pull n) first second = absurd (other_word 119 112 _ _ (omega arith) (sym first.1 ∙ second.1))
same_event line (Pull m) (Withdraw h ys) first second = absurd (other_word 112 119 _ _ (omega arith) (sym first.1 ∙ second.1))
same_event line (Piece m xs) (Pull n) first second = absurd (other_letter 112 112 105 117 _ _ (omega arith) (sym first.1 ∙ second.1))
same_event line (Pull m) (Piece n ys) first second = absurd (other_letter 112 112 117 105 _ _ (omega arith) (sym first.1 ∙ second.1))

pub same_events : (lines : List (List ℕ)) (es fs : List Event) → SpellEach lines es → SpellEach lines fs → es ≡ fs
same_events [] [] [] first second = refl
same_events [] [] (f ∷ fs) first second = absurd second
same_events [] (e ∷ es) fs first second = absurd first
same_events (line ∷ lines) [] fs first second = absurd first
same_events (line ∷ lines) (e ∷ es) [] first second = absurd second
same_events (line ∷ lines) (e ∷ es) (f ∷ fs) first second =
    let head = same_event line e f first.0 second.0 in
    let tail = same_events lines es fs first.1 second.1 in cc
