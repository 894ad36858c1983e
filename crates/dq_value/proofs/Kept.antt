-- What trimming takes, and what it keeps.
use Rattle.std.proofs.Common.{◌≡◌, ℕ, Bool, true, false, cond, List, [], ◌∷◌, ◌++◌, ◌&&◌, append_assoc, append-nil, refl, sym, ap, ◌∙◌}
use Rattle.std.specs.List.{list_all}
use Rattle.dq_vr.specs.declared.Vr.{Vr}
use Rattle.dq_value.specs.Trimming.{is_padded, ignores_leading_spaces, is_space, is_pad, without_leading, kept_before, without_trailing, without_padding, trimmed_value, first_is, last_is, IsTrimming}

-- some octets before and behind are taken, which pass their tests
pub record Leads (test : ℕ → Bool) (octets kept : List ℕ) : Type 0 where
  pub before : List ℕ
  pub whole : octets ≡ before ++ kept
  pub all : list_all test before ≡ true

pub record Trails (test : ℕ → Bool) (octets kept : List ℕ) : Type 0 where
  pub after : List ℕ
  pub whole : octets ≡ kept ++ after
  pub all : list_all test after ≡ true

leads-case : (b : Bool) (test : ℕ → Bool) (x : ℕ) (xs rest : List ℕ) → test x ≡ b → Leads test xs rest → Leads test (x ∷ xs) (cond b rest (x ∷ xs))
leads-case true test x xs rest passes inner = record { before = x ∷ inner.before; whole = ap (λ ys. x ∷ ys) inner.whole; all = rw passes inner.all }
leads-case false test x xs rest fails inner = record { before = []; whole = refl; all = refl }

pub leads : (test : ℕ → Bool) (xs : List ℕ) → Leads test xs (without_leading test xs)
unfolding without_leading
leads test [] = record { before = []; whole = refl; all = refl }
leads test (x ∷ xs) = leads-case (test x) test x xs (without_leading test xs) refl (leads test xs)

first-case : (b : Bool) (test : ℕ → Bool) (x : ℕ) (xs rest : List ℕ) → test x ≡ b → first_is test rest ≡ false → first_is test (cond b rest (x ∷ xs)) ≡ false
first-case true test x xs rest passes inner = inner
first-case false test x xs rest fails inner = fails

pub first_kept : (test : ℕ → Bool) (xs : List ℕ) → first_is test (without_leading test xs) ≡ false
unfolding without_leading
first_kept test [] = refl
first_kept test (x ∷ xs) = first-case (test x) test x xs (without_leading test xs) refl (first_kept test xs)

last_later : (other : ℕ → Bool) (x : ℕ) (xs : List ℕ) → last_is other (x ∷ xs) ≡ false → last_is other xs ≡ false
last_later other x [] h = refl
last_later other x (y ∷ ys) h = h

stays-case : (b : Bool) (other : ℕ → Bool) (x : ℕ) (xs rest : List ℕ) → last_is other (x ∷ xs) ≡ false → last_is other rest ≡ false
    → last_is other (cond b rest (x ∷ xs)) ≡ false
stays-case true other x xs rest whole inner = inner
stays-case false other x xs rest whole inner = whole

pub last_stays : (test other : ℕ → Bool) (xs : List ℕ) → last_is other xs ≡ false → last_is other (without_leading test xs) ≡ false
unfolding without_leading
last_stays test other [] h = refl
last_stays test other (x ∷ xs) h = stays-case (test x) other x xs (without_leading test xs) h (last_stays test other xs (last_later other x xs h))

trails-case : (b : Bool) (test : ℕ → Bool) (x : ℕ) (xs : List ℕ) → test x ≡ b → Trails test xs [] → Trails test (x ∷ xs) (cond b [] (x ∷ []))
trails-case true test x xs passes inner = record { after = x ∷ inner.after; whole = ap (λ ys. x ∷ ys) inner.whole; all = rw passes inner.all }
trails-case false test x xs fails inner = record { after = inner.after; whole = ap (λ ys. x ∷ ys) inner.whole; all = inner.all }

trails-next : (test : ℕ → Bool) (x : ℕ) (xs rest : List ℕ) → Trails test xs rest → Trails test (x ∷ xs) (kept_before test x rest)
unfolding kept_before
trails-next test x xs [] inner = trails-case (test x) test x xs refl inner
trails-next test x xs (y ∷ ys) inner = record { after = inner.after; whole = ap (λ zs. x ∷ zs) inner.whole; all = inner.all }

pub trails : (test : ℕ → Bool) (xs : List ℕ) → Trails test xs (without_trailing test xs)
unfolding without_trailing
trails test [] = record { after = []; whole = refl; all = refl }
trails test (x ∷ xs) = trails-next test x xs (without_trailing test xs) (trails test xs)

last-case : (b : Bool) (test : ℕ → Bool) (x : ℕ) → test x ≡ b → last_is test (cond b [] (x ∷ [])) ≡ false
last-case true test x passes = refl
last-case false test x fails = fails

last-next : (test : ℕ → Bool) (x : ℕ) (rest : List ℕ) → last_is test rest ≡ false → last_is test (kept_before test x rest) ≡ false
unfolding kept_before
last-next test x [] inner = last-case (test x) test x refl
last-next test x (y ∷ ys) inner = inner

pub last_kept : (test : ℕ → Bool) (xs : List ℕ) → last_is test (without_trailing test xs) ≡ false
unfolding without_trailing
last_kept test [] = refl
last_kept test (x ∷ xs) = last-next test x (without_trailing test xs) (last_kept test xs)

pub leading_same : (test : ℕ → Bool) (xs : List ℕ) → first_is test xs ≡ false → without_leading test xs ≡ xs
unfolding without_leading
leading_same test [] h = refl
leading_same test (x ∷ xs) h = rw h refl

pub trailing_same : (test : ℕ → Bool) (xs : List ℕ) → last_is test xs ≡ false → without_trailing test xs ≡ xs
unfolding without_trailing kept_before
trailing_same test [] h = refl
trailing_same test (x ∷ []) h = rw h refl
trailing_same test (x ∷ (y ∷ ys)) h = ap (kept_before test x) (trailing_same test (y ∷ ys) h)

-- trimming by what the VR says
abbrev trim : Bool → Bool → List ℕ → List ℕ
trim leading padded octets =
    cond leading (without_leading is_space (cond padded (without_trailing is_pad octets) octets)) (cond padded (without_trailing is_pad octets) octets)

trims : (leading padded : Bool) (octets : List ℕ) → IsTrimming leading padded octets (trim leading padded octets)
trims false false octets = record { before = []; after = []; whole = sym (append-nil octets); spaces = refl; pads = refl; no_space = refl; no_pad = refl }
trims false true octets =
    let behind = trails is_pad octets in
    record { before = []; after = behind.after; whole = behind.whole; spaces = refl; pads = behind.all; no_space = refl; no_pad = last_kept is_pad octets }
trims true false octets =
    let front = leads is_space octets in
    record {
      before = front.before;
      after = [];
      whole = front.whole ∙ ap (λ ys. front.before ++ ys) (sym (append-nil _));
      spaces = front.all;
      pads = refl;
      no_space = first_kept is_space octets;
      no_pad = refl;
    }
trims true true octets =
    let behind = trails is_pad octets in
    let front = leads is_space (without_trailing is_pad octets) in
    record {
      before = front.before;
      after = behind.after;
      whole = behind.whole ∙ ap (λ ys. ys ++ behind.after) front.whole
          ∙ append_assoc front.before (without_leading is_space (without_trailing is_pad octets)) behind.after;
      spaces = front.all;
      pads = behind.all;
      no_space = first_kept is_space (without_trailing is_pad octets);
      no_pad = last_stays is_space is_pad (without_trailing is_pad octets) (last_kept is_pad octets);
    }

-- nothing is trimmed where nothing is to be
clean : (leading padded : Bool) (kept : List ℕ) → (leading && first_is is_space kept) ≡ false → (padded && last_is is_pad kept) ≡ false
    → trim leading padded kept ≡ kept
clean false false kept first last = refl
clean false true kept first last = trailing_same is_pad kept last
clean true false kept first last = leading_same is_space kept first
clean true true kept first last = ap (without_leading is_space) (trailing_same is_pad kept last) ∙ leading_same is_space kept first

pub trimmed_is : (vr : Vr) (octets : List ℕ) → IsTrimming (ignores_leading_spaces vr) (is_padded vr) octets (trimmed_value vr octets)
unfolding trimmed_value without_padding
trimmed_is vr octets = trims (ignores_leading_spaces vr) (is_padded vr) octets

pub trimmed_again : (vr : Vr) (octets : List ℕ) → trimmed_value vr (trimmed_value vr octets) ≡ trimmed_value vr octets
unfolding trimmed_value without_padding
trimmed_again vr octets =
    let once = trims (ignores_leading_spaces vr) (is_padded vr) octets in
    clean (ignores_leading_spaces vr) (is_padded vr) (trim (ignores_leading_spaces vr) (is_padded vr) octets) once.no_space once.no_pad
