-- What gives no value, no key and no word of a search.
use Rattle.std.proofs.Common.{◌≡◌, ◌≢◌, ℕ, inl, inr, List, [], Option, Some, None, Result, Ok, Err, IfOk, MatchOption, Bool, MatchBool, codes, get_or, ap, true, false, subst, sym, ◌∙◌, arith}
use Rattle.dq_vr.specs.declared.Tag.{Tag}
use Rattle.dq_vr.specs.declared.Vr.{Vr}
use Rattle.dq_vr.specs.declared.Vr.TheVariants.{UI, US}
use Rattle.dq_vr.specs.Vr.{is_text}
use Rattle.dq_vr.specs.Dictionary.{known_vr}
use Rattle.dq_json.specs.Keywords.{tag_named}
use Rattle.dq_request.specs.declared.search.Key.{Key}
use Rattle.dq_request.specs.declared.search.Search.{Search}
use Rattle.dq_request.specs.Searches.{has_spellings, SpellsShort, GivesValue, GivesKey, HasEquals, name_in, text_in, TakesLimit, TakesOffset, TakesAfter, TakesKey, TakesNamed, TakesWord, RefusesWord}

no_text : (vr : Vr) → vr ≡ US → is_text vr ≡ true → ⊥
unfolding is_text
no_text vr is text = cc

no_uid : (vr : Vr) → vr ≡ US → vr ≡ UI → ⊥
no_uid vr is uid = cc

no_spellings : (vr : Vr) → vr ≡ US → has_spellings vr ≡ true → ⊥
no_spellings vr is several = let none : has_spellings vr ≡ false = ap has_spellings is in cc

short_by : (vr : Vr) (text octets : List ℕ) → vr ≡ US → text ≢ [] → GivesValue vr text octets → SpellsShort text octets
short_by vr text octets is some (inl gives) = gives.2
short_by vr text octets is some (inr (inl (uid, gives))) = absurd (no_uid vr is uid)
short_by vr text octets is some (inr (inr (inl (several, gives)))) = absurd (no_spellings vr is several)
short_by vr text octets is some (inr (inr (inr (other, one, inl is_one, gives)))) = absurd (no_text vr is is_one)
short_by vr text octets is some (inr (inr (inr (other, one, inr is_none, gives)))) = absurd (some is_none)

-- to an unsigned short a text that is not empty gives its number
pub short_given : {E : Type 0} (vr : Vr) (text : List ℕ) (r : Result (Option (List ℕ)) E) → vr ≡ US → text ≢ []
    → IfOk r (λ value. MatchOption value ((octets : List ℕ) → SpellsShort text octets → ⊥) (SpellsShort text))
    → IfOk r (λ value. MatchOption value ((octets : List ℕ) → GivesValue vr text octets → ⊥) (GivesValue vr text))
short_given vr text (Err e) is some short = tt
short_given vr text (Ok None) is some short = λ octets gives. short octets (short_by vr text octets is some gives)
short_given vr text (Ok (Some octets)) is some short = inl (is, some, short)

-- a text that is no value of an attribute gives no key
pub no_key : (name text : List ℕ) (tag : Tag) (vr : Vr) → tag_named name ≡ Some tag → known_vr tag ≡ Some vr
    → ((octets : List ℕ) → GivesValue vr text octets → ⊥) → (it : Key) → GivesKey name text it → ⊥
no_key name text tag vr named known none it gives =
    let same : it.tag ≡ tag = cc in
    let same_vr : gives.0 ≡ vr = cc in
    none it.value (subst (λ (v : Vr). GivesValue v text it.value) same_vr gives.3)

-- ---- the name tells what a word is

apart : codes "limit" ≡ codes "offset" → ⊥
apart same = let first : ◌≡◌ {A = ℕ} 108 111 = ap (λ (letters : List ℕ). get_or letters 0 0) same in omega arith

limit_not_after : codes "limit" ≡ codes "after" → ⊥
limit_not_after same = let first : ◌≡◌ {A = ℕ} 108 97 = ap (λ (letters : List ℕ). get_or letters 0 0) same in omega arith

offset_not_after : codes "offset" ≡ codes "after" → ⊥
offset_not_after same = let first : ◌≡◌ {A = ℕ} 111 97 = ap (λ (letters : List ℕ). get_or letters 0 0) same in omega arith

limit_only : (name text : List ℕ) (old new : Search) → name ≡ codes "limit" → TakesNamed name text old new → TakesLimit text old new
limit_only name text old new is (inl (named, takes)) = takes
limit_only name text old new is (inr (inl (named, takes))) = absurd (apart (sym is ∙ named))
limit_only name text old new is (inr (inr (inl (named, takes)))) = absurd (limit_not_after (sym is ∙ named))
limit_only name text old new is (inr (inr (inr (no_limit, no_offset, no_after, takes)))) = absurd (no_limit is)

offset_only : (name text : List ℕ) (old new : Search) → name ≡ codes "offset" → TakesNamed name text old new → TakesOffset text old new
offset_only name text old new is (inl (named, takes)) = absurd (apart (sym named ∙ is))
offset_only name text old new is (inr (inl (named, takes))) = takes
offset_only name text old new is (inr (inr (inl (named, takes)))) = absurd (offset_not_after (sym is ∙ named))
offset_only name text old new is (inr (inr (inr (no_limit, no_offset, no_after, takes)))) = absurd (no_offset is)

after_only : (name text : List ℕ) (old new : Search) → name ≡ codes "after" → TakesNamed name text old new → TakesAfter text old new
after_only name text old new is (inl (named, takes)) = absurd (limit_not_after (sym named ∙ is))
after_only name text old new is (inr (inl (named, takes))) = absurd (offset_not_after (sym named ∙ is))
after_only name text old new is (inr (inr (inl (named, takes)))) = takes
after_only name text old new is (inr (inr (inr (no_limit, no_offset, no_after, takes)))) = absurd (no_after is)

key_only : (name text : List ℕ) (old new : Search) → name ≢ codes "limit" → name ≢ codes "offset" → name ≢ codes "after"
    → TakesNamed name text old new → TakesKey name text old new
key_only name text old new no_limit no_offset no_after (inl (named, takes)) = absurd (no_limit named)
key_only name text old new no_limit no_offset no_after (inr (inl (named, takes))) = absurd (no_offset named)
key_only name text old new no_limit no_offset no_after (inr (inr (inl (named, takes)))) = absurd (no_after named)
key_only name text old new no_limit no_offset no_after (inr (inr (inr (other, another, third, takes)))) = takes

pub limit_taken : (b : Bool) (name text : List ℕ) (old new : Search) → name ≡ codes "limit"
    → MatchBool b (TakesLimit text old new) (((next : Search) → TakesLimit text old next → ⊥) × (new ≡ old))
    → MatchBool b (TakesNamed name text old new) (((next : Search) → TakesNamed name text old next → ⊥) × (new ≡ old))
limit_taken true name text old new is takes = inl (is, takes)
limit_taken false name text old new is refuses = (λ next takes. refuses.0 next (limit_only name text old next is takes), refuses.1)

pub offset_taken : (b : Bool) (name text : List ℕ) (old new : Search) → name ≡ codes "offset"
    → MatchBool b (TakesOffset text old new) (((next : Search) → TakesOffset text old next → ⊥) × (new ≡ old))
    → MatchBool b (TakesNamed name text old new) (((next : Search) → TakesNamed name text old next → ⊥) × (new ≡ old))
offset_taken true name text old new is takes = inr (inl (is, takes))
offset_taken false name text old new is refuses = (λ next takes. refuses.0 next (offset_only name text old next is takes), refuses.1)

pub after_taken : {E : Type 0} (r : Result Bool E) (name text : List ℕ) (old new : Search) → name ≡ codes "after"
    → IfOk r (λ b. MatchBool b (TakesAfter text old new) (((next : Search) → TakesAfter text old next → ⊥) × (new ≡ old)))
    → IfOk r (λ b. MatchBool b (TakesNamed name text old new) (((next : Search) → TakesNamed name text old next → ⊥) × (new ≡ old)))
after_taken (Err e) name text old new is taken = tt
after_taken (Ok true) name text old new is takes = inr (inr (inl (is, takes)))
after_taken (Ok false) name text old new is refuses = (λ next takes. refuses.0 next (after_only name text old next is takes), refuses.1)

pub key_taken : {E : Type 0} (r : Result Bool E) (name text : List ℕ) (old new : Search) → name ≢ codes "limit" → name ≢ codes "offset" → name ≢ codes "after"
    → IfOk r (λ b. MatchBool b (TakesKey name text old new) (((next : Search) → TakesKey name text old next → ⊥) × (new ≡ old)))
    → IfOk r (λ b. MatchBool b (TakesNamed name text old new) (((next : Search) → TakesNamed name text old next → ⊥) × (new ≡ old)))
key_taken (Err e) name text old new no_limit no_offset no_after is = tt
key_taken (Ok true) name text old new no_limit no_offset no_after takes = inr (inr (inr (no_limit, no_offset, no_after, takes)))
key_taken (Ok false) name text old new no_limit no_offset no_after refuses = (λ next takes. refuses.0 next (key_only name text old next no_limit no_offset no_after takes), refuses.1)

pub word_taken : {E : Type 0} (r : Result Bool E) (word name text : List ℕ) (old new : Search) → HasEquals word → name ≡ name_in word → text ≡ text_in word
    → IfOk r (λ b. MatchBool b (TakesNamed name text old new) (((next : Search) → TakesNamed name text old next → ⊥) × (new ≡ old)))
    → IfOk r (λ b. MatchBool b (TakesWord word old new) (RefusesWord word old × (new ≡ old)))
word_taken (Err e) word name text old new has first behind is = tt
word_taken (Ok true) word name text old new has first behind takes =
    (has, subst (λ (n : List ℕ). TakesNamed n (text_in word) old new) first (subst (λ (t : List ℕ). TakesNamed name t old new) behind takes))
word_taken (Ok false) word name text old new has first behind refuses = (
  λ next takes.
      refuses.0 next (subst (λ (n : List ℕ). TakesNamed n text old next) (sym first) (subst (λ (t : List ℕ). TakesNamed (name_in word) t old next) (sym behind) takes.1)),
  refuses.1,
)
