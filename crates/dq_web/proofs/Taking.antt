-- What a search keeps of itself while it takes words.
use Rattle.std.proofs.Common.{◌≡◌, ℕ, List, [], ◌∷◌, ap, ◌∙◌, inl, inr}
use Rattle.dq_request.specs.declared.search.Search.{Search}
use Rattle.dq_request.specs.Searches.{TakesWord, TakesWords}

-- a word leaves the institution
TakesWord-institution : (word : List ℕ) (old new : Search) → TakesWord word old new
    → new.institution ≡ old.institution
TakesWord-institution word old new takes = elim takes.1 [
  | inl limit ↦ ap (λ (it : Search). it.institution) limit.1.2
  | inr (inl offset) ↦ ap (λ (it : Search). it.institution) offset.1.2
  | inr (inr (inl after)) ↦ ap (λ (it : Search). it.institution) after.1.2
  | inr (inr (inr key)) ↦ ap (λ (it : Search). it.institution) key.3.1.2
]

-- so do words
pub TakesWords-institution : (words : List (List ℕ)) (old new : Search) → TakesWords words old new
    → new.institution ≡ old.institution
TakesWords-institution [] old new takes = ap (λ (it : Search). it.institution) takes
TakesWords-institution (word ∷ words) old new takes =
    TakesWords-institution words takes.0 new takes.2 ∙ TakesWord-institution word old takes.0 takes.1
