-- What the parts of a line spell.
use Rattle.std.proofs.Common.{◌≡◌, ◌≢◌, ℕ, ◌<◌, Bool, true, false, ◌&&◌, List, ◌∷◌, ◌++◌, length, get_or, codes, drop, Option, Some, None, MatchOption, Result, Ok, Err, IfOk, Bor, append_assoc, sym, ap, ◌∙◌, arith, lit<}
use Rattle.std.specs.Prelude.{IsTrue}
use Rattle.std.specs.List.{list_all}
use Rattle.std.proofs.lemmas.Bool.{false≢true}
use Rattle.std.proofs.lemmas.List.Folds.{list_all_at}
use Rattle.std.proofs.lemmas.Str.Pattern.{IsSplitOnceResult, split_after}
use Rattle.dq_core.specs.declared.event.Event.{Event}
use Rattle.dq_core.specs.declared.event.Event.TheVariants.{Open, Piece, End, Pull, Schedule, Withdraw}
use Rattle.dq_config.specs.Conditions.{is_between, is_institution_name, is_name_octet}
use Rattle.dq_captures.specs.Captures.{IsNumber, SpellOctets, SpellsPiece, SpellsOrder, SpellsEvent}
use Rattle.dq_captures.proofs.Numbers.{IsNumber-spaceless}

-- the split at the first space parts the number from the octets
pub SpellsPiece-split : (text : List ℕ) (r : Option (Bor (List ℕ) × Bor (List ℕ))) → IsSplitOnceResult 32 text r → (event : Event) → SpellsPiece text event
    → MatchOption r ⊥ (λ x. (number : ℕ) × (octets : List ℕ) × IsNumber x.0.now number × SpellOctets x.1.now octets)
SpellsPiece-split text r split (Open number) spells = absurd spells
SpellsPiece-split text r split (End number) spells = absurd spells
SpellsPiece-split text r split (Pull number) spells = absurd spells
SpellsPiece-split text r split (Schedule inst octets) spells = absurd spells
SpellsPiece-split text r split (Withdraw inst id) spells = absurd spells
SpellsPiece-split text None split (Piece number octets) spells =
    split_after 32 text spells.0 spells.1 None split (lit< tt) (spells.2 ∙ append_assoc spells.0 (codes " ") spells.1)
    (IsNumber-spaceless spells.0 number spells.3)
SpellsPiece-split text (Some x) split (Piece number octets) spells =
    let parts = split_after 32 text spells.0 spells.1 (Some x) split (lit< tt) (spells.2 ∙ append_assoc spells.0 (codes " ") spells.1)
    (IsNumber-spaceless spells.0 number spells.3) in
    (number, octets, rw parts.0 spells.3, rw parts.1 spells.4)

pub SpellsPiece-unsplit : (text : List ℕ) (r : Option (Bor (List ℕ) × Bor (List ℕ))) → IsSplitOnceResult 32 text r → r ≡ None
    → (event : Event) → SpellsPiece text event → ⊥
SpellsPiece-unsplit text r split none event spells = rw none at (SpellsPiece-split text r split event spells)

pub other_word : (m n : ℕ) (xs ys : List ℕ) → m ≢ n → m ∷ xs ≡ n ∷ ys → ⊥
other_word m n xs ys apart same = apart (ap (λ l. get_or l 0 0) same)

pub other_letter : (a b m n : ℕ) (xs ys : List ℕ) → m ≢ n → a ∷ m ∷ xs ≡ b ∷ n ∷ ys → ⊥
other_letter a b m n xs ys apart same = apart (ap (λ l. get_or l 1 0) same)

-- a line that begins with the word of a piece spells what stands after the word
piece_line : (line rest : List ℕ) → line ≡ codes "piece " ++ rest → (event : Event) → SpellsEvent line event → SpellsPiece rest event
piece_line line rest begins (Open number) spells = absurd (other_word 112 111 _ _ (omega arith) (sym begins ∙ spells.1))
piece_line line rest begins (Piece number octets) spells = rw (ap (drop 6) (sym begins ∙ spells.1)) spells.2
piece_line line rest begins (End number) spells = absurd (other_word 112 101 _ _ (omega arith) (sym begins ∙ spells.1))
piece_line line rest begins (Pull number) spells = absurd (other_letter 112 112 105 117 _ _ (omega arith) (sym begins ∙ spells.1))
piece_line line rest begins (Schedule inst octets) spells = absurd (other_word 112 115 _ _ (omega arith) (sym begins ∙ spells.1))
piece_line line rest begins (Withdraw inst id) spells = absurd (other_word 112 119 _ _ (omega arith) (sym begins ∙ spells.1))

spelled_piece : (line rest : List ℕ) → line ≡ codes "piece " ++ rest → (event : Event) → SpellsPiece rest event → SpellsEvent line event
spelled_piece line rest begins (Open number) spells = absurd spells
spelled_piece line rest begins (Piece number octets) spells = (rest, begins, spells)
spelled_piece line rest begins (End number) spells = absurd spells
spelled_piece line rest begins (Pull number) spells = absurd spells
spelled_piece line rest begins (Schedule inst octets) spells = absurd spells
spelled_piece line rest begins (Withdraw inst id) spells = absurd spells

pub Spells-piece : {E : Type 0} (line rest : List ℕ) (r : Result (Option Event) E) → line ≡ codes "piece " ++ rest
    → IfOk r (λ found. MatchOption found ((event : Event) → SpellsPiece rest event → ⊥) (SpellsPiece rest))
    → IfOk r (λ found. MatchOption found ((event : Event) → SpellsEvent line event → ⊥) (SpellsEvent line))
Spells-piece line rest (Err e) begins read = tt
Spells-piece line rest (Ok None) begins read = λ event spells. read event (piece_line line rest begins event spells)
Spells-piece line rest (Ok (Some event)) begins read = spelled_piece line rest begins event read

-- ---- orders of the console

second_true : (a b : Bool) → (a && b) ≡ true → b ≡ true
second_true true b both = both
second_true false b both = absurd (false≢true both)

-- no space is in a name
pub is_name-spaceless : (name : List ℕ) → IsTrue (is_institution_name name) → (i : ℕ) → i < length name → get_or name i 0 ≢ 32
unfolding is_institution_name is_name_octet
is_name-spaceless name is i below = λ space.
    let out : is_name_octet (get_or name i 0) ≡ false = ap is_name_octet space in
    let none = list_all_at is_name_octet name i 0 below out in
    false≢true (sym none ∙ second_true (is_between 1 16 (length name)) (list_all is_name_octet name) is)

-- the split at the first space parts the name from the octets
pub SpellsOrder-split : (text : List ℕ) (r : Option (Bor (List ℕ) × Bor (List ℕ))) → IsSplitOnceResult 32 text r
    → (name octets : List ℕ) → SpellsOrder text name octets
    → MatchOption r ⊥ (λ x. (x.0.now ≡ name) × IsTrue (is_institution_name name) × SpellOctets x.1.now octets)
SpellsOrder-split text None split name octets spells =
    split_after 32 text name spells.0 None split (lit< tt) (spells.1 ∙ append_assoc name (codes " ") spells.0) (is_name-spaceless name spells.2)
SpellsOrder-split text (Some x) split name octets spells =
    let parts = split_after 32 text name spells.0 (Some x) split (lit< tt) (spells.1 ∙ append_assoc name (codes " ") spells.0) (is_name-spaceless name spells.2)
    in
    (parts.0, spells.2, rw parts.1 spells.3)

pub SpellsOrder-unsplit : (text : List ℕ) (r : Option (Bor (List ℕ) × Bor (List ℕ))) → IsSplitOnceResult 32 text r → r ≡ None
    → (name octets : List ℕ) → SpellsOrder text name octets → ⊥
SpellsOrder-unsplit text r split none name octets spells = rw none at (SpellsOrder-split text r split name octets spells)

-- a line that begins with the word of an order spells what stands after the word
pub no_schedule : (line rest : List ℕ) → ((name octets : List ℕ) → SpellsOrder rest name octets → ⊥) → line ≡ codes "schedule " ++ rest
    → (event : Event) → SpellsEvent line event → ⊥
no_schedule line rest none begins (Open number) spells = other_word 115 111 _ _ (omega arith) (sym begins ∙ spells.1)
no_schedule line rest none begins (Piece number octets) spells = other_word 115 112 _ _ (omega arith) (sym begins ∙ spells.1)
no_schedule line rest none begins (End number) spells = other_word 115 101 _ _ (omega arith) (sym begins ∙ spells.1)
no_schedule line rest none begins (Pull number) spells = other_word 115 112 _ _ (omega arith) (sym begins ∙ spells.1)
no_schedule line rest none begins (Schedule inst octets) spells = none inst octets (rw (ap (drop 9) (sym begins ∙ spells.1)) spells.2)
no_schedule line rest none begins (Withdraw inst id) spells = other_word 115 119 _ _ (omega arith) (sym begins ∙ spells.1)

pub no_withdrawal : (line rest : List ℕ) → ((name octets : List ℕ) → SpellsOrder rest name octets → ⊥) → line ≡ codes "withdraw " ++ rest
    → (event : Event) → SpellsEvent line event → ⊥
no_withdrawal line rest none begins (Open number) spells = other_word 119 111 _ _ (omega arith) (sym begins ∙ spells.1)
no_withdrawal line rest none begins (Piece number octets) spells = other_word 119 112 _ _ (omega arith) (sym begins ∙ spells.1)
no_withdrawal line rest none begins (End number) spells = other_word 119 101 _ _ (omega arith) (sym begins ∙ spells.1)
no_withdrawal line rest none begins (Pull number) spells = other_word 119 112 _ _ (omega arith) (sym begins ∙ spells.1)
no_withdrawal line rest none begins (Schedule inst octets) spells = other_word 119 115 _ _ (omega arith) (sym begins ∙ spells.1)
no_withdrawal line rest none begins (Withdraw inst id) spells = none inst id (rw (ap (drop 9) (sym begins ∙ spells.1)) spells.2)
