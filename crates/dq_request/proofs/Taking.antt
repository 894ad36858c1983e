-- What a search takes of parts of a text, of which some are words.
use Rattle.std.proofs.Common.{◌≡◌, ℕ, zero, suc, ◌<◌, List, [], ◌∷◌, ◌++◌, length, take, drop, filter, get_or, Bool, sym, ap, subst, inl, inr, arith}
use Rattle.std.proofs.lemmas.List.Elements.{filter-append}
use Rattle.dq_request.specs.declared.search.Search.{Search}
use Rattle.dq_request.specs.Searches.{TakesWords, StopsAt}

-- a list, parted at an item
parted_at : (all : List (List ℕ)) (n : ℕ) (x : List ℕ) → n < length all → x ≡ get_or all n x
    → all ≡ take n all ++ x ∷ drop (suc n) all
parted_at [] n x within is = absurd (omega arith)
parted_at (y ∷ all) zero x within is = ap (λ (z : List ℕ). z ∷ all) (sym is)
parted_at (y ∷ all) (suc n) x within is = ap (λ (rest : List (List ℕ)). y ∷ rest) (parted_at all n x (omega arith) is)

-- words, and others after them
pub TakesWords-join : (words others : List (List ℕ)) (old mid new : Search) → TakesWords words old mid
    → TakesWords others mid new → TakesWords (words ++ others) old new
TakesWords-join [] others old mid new all rest = subst (λ (it : Search). TakesWords others it new) all rest
TakesWords-join (word ∷ words) others old mid new all rest =
    (all.0, all.1, TakesWords-join words others all.0 mid new all.2 rest)

-- words, and after them those of which one is not taken
StopsAt-join : (words others : List (List ℕ)) (word : List ℕ) (old mid : Search) → TakesWords words old mid
    → StopsAt word others mid → StopsAt word (words ++ others) old
StopsAt-join [] others word old mid all stops = subst (StopsAt word others) all stops
StopsAt-join (first ∷ words) others word old mid all stops =
    inr (all.0, all.1, StopsAt-join words others word all.0 mid all.2 stops)

-- what comes behind a word that is not taken counts for nothing
StopsAt-front : (words others : List (List ℕ)) (word : List ℕ) (old : Search) → StopsAt word words old
    → StopsAt word (words ++ others) old
StopsAt-front [] others word old stops = absurd stops
StopsAt-front (first ∷ words) others word old (inl here) = inl here
StopsAt-front (first ∷ words) others word old (inr later) =
    inr (later.0, later.1, StopsAt-front words others word later.0 later.2)

-- of parts of which these are words
module _ (is_word : List ℕ → Bool) where
  -- parts, and one more
  pub TakesWords-push : (parts : List (List ℕ)) (part : List ℕ) (old mid new : Search)
      → TakesWords (filter is_word parts) old mid → TakesWords (filter is_word (part ∷ [])) mid new
      → TakesWords (filter is_word (parts ++ part ∷ [])) old new
  TakesWords-push parts part old mid new all one =
      rw (filter-append is_word parts (part ∷ [])) (TakesWords-join (filter is_word parts) (filter is_word (part ∷ [])) old mid new all one)

  -- parts, and one that is not taken
  pub StopsAt-part : (all : List (List ℕ)) (n : ℕ) (part : List ℕ) (old mid : Search) → n < length all
      → part ≡ get_or all n part → TakesWords (filter is_word (take n all)) old mid
      → StopsAt part (filter is_word (part ∷ [])) mid → StopsAt part (filter is_word all) old
  StopsAt-part all n part old mid within is taken stops =
      let behind : StopsAt part (filter is_word (part ∷ drop (suc n) all)) mid =
      rw (filter-append is_word (part ∷ []) (drop (suc n) all)) (StopsAt-front (filter is_word (part ∷ [])) (filter is_word (drop (suc n) all)) part mid stops) in
      let parted : StopsAt part (filter is_word (take n all ++ part ∷ drop (suc n) all)) old =
      rw (filter-append is_word (take n all) (part ∷ drop (suc n) all)) (StopsAt-join (filter is_word (take n all)) _ part old mid taken behind) in
      subst (λ (parts : List (List ℕ)). StopsAt part (filter is_word parts) old) (sym (parted_at all n part within is)) parted
