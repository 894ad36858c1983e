-- The resource at a path is the only one, or there is none.
use Rattle.std.proofs.Common.{◌≡◌, ◌≢◌, ◌++◌, ◌∙◌, ℕ, true, false, List, [], ◌∷◌, codes, get_or, ap, refl, sym, subst, inl, inr}
use Rattle.std.specs.Prelude.{◌==◌, IsTrue}
use Rattle.std.proofs.lemmas.Bool.{and_parts, true≢false}
use Rattle.dq_web.specs.declared.resource.Resource.{Resource}
use Rattle.dq_web.specs.declared.resource.Resource.TheVariants.{Page, Style, Script, Health, Metrics, Backup, Counts, Studies, Series, Images, StudyImages, Unsearched, Worklist, Entry, Steps, Nowhere}
use Rattle.dq_web.specs.Resources.{beneath, has_no_slash, is_segment, IsPathOfStudies, IsPathBelow, IsOwnPath, HasPath, IsFound, IsPath}

-- what follows a text is one
pub same-rest : (front one other : List ℕ) → front ++ one ≡ front ++ other → one ≡ other
same-rest [] one other is = is
same-rest (octet ∷ front) one other is = let tails : front ++ one ≡ front ++ other = cc in same-rest front one other tails

-- what is beneath a name is no segment
pub beneath-slash : (name rest : List ℕ) → IsTrue (is_segment (beneath name rest)) → ⊥
beneath-slash [] rest is = cc
beneath-slash (octet ∷ name) rest is =
    beneath-slash name rest (and_parts (has_no_slash octet) (is_segment (beneath name rest)) is).1

slashed : (octet : ℕ) → octet ≡ 47 → IsTrue (has_no_slash octet) → ⊥
slashed octet is none = let at : IsTrue (has_no_slash 47) = subst (λ (it : ℕ). IsTrue (has_no_slash it)) is none in cc

cons-same : (octet other : ℕ) (octets others : List ℕ) → octet ≡ other → octets ≡ others → octet ∷ octets ≡ other ∷ others
cons-same octet other octets others same rest = cc

tail-same : (octets others : List ℕ) → codes "/" ++ octets ≡ codes "/" ++ others → octets ≡ others
tail-same octets others is = cc

-- a text has one first segment
pub same-segment : (one other x y : List ℕ) → IsTrue (is_segment one) → IsTrue (is_segment other)
    → beneath one x ≡ beneath other y → (one ≡ other) × (x ≡ y)
same-segment [] [] x y first second is = let same : x ≡ y = cc in (refl, same)
same-segment [] (octet ∷ other) x y first second is =
    let slash : octet ≡ 47 = cc in
    let none = (and_parts (has_no_slash octet) (is_segment other) second).0 in
    absurd (slashed octet slash none)
same-segment (octet ∷ one) [] x y first second is =
    let slash : octet ≡ 47 = cc in
    let none = (and_parts (has_no_slash octet) (is_segment one) first).0 in
    absurd (slashed octet slash none)
same-segment (octet ∷ one) (head ∷ other) x y first second is =
    let same : octet ≡ head = cc in
    let tails : beneath one x ≡ beneath other y = cc in
    let rest = same-segment one other x y (and_parts (has_no_slash octet) (is_segment one) first).1
    (and_parts (has_no_slash head) (is_segment other) second).1 tails in
    (cons-same octet head one other same rest.0, rest.1)

-- nothing is behind a study but its series, the images of each, and all its images
pub no-study : (institution whole study rest : List ℕ) → whole ≡ beneath study rest → IsTrue (is_segment study)
    → rest ≢ codes "series" → rest ≢ codes "instances"
    → ((series : List ℕ) → IsTrue (is_segment series) → rest ≢ codes "series/" ++ beneath series (codes "instances"))
    → (resource : Resource) → IsPathOfStudies institution whole resource → ⊥
no-study institution whole study rest is segment not_series not_all not_images (Series name other) has =
    not_series (same-segment study other.now rest (codes "series") segment has.2 (sym is ∙ has.1)).1
no-study institution whole study rest is segment not_series not_all not_images (Images name other series) has =
    not_images series.now has.3 (same-segment study other.now rest _ segment has.2 (sym is ∙ has.1)).1
no-study institution whole study rest is segment not_series not_all not_images (StudyImages name other) has =
    not_all (same-segment study other.now rest (codes "instances") segment has.2 (sym is ∙ has.1)).1
no-study institution whole study rest is segment not_series not_all not_images resource has = absurd has

-- texts with another octet at one place are two
differ : (one other : List ℕ) (at octet : ℕ) → (get_or one at 0 == octet) ≡ true → (get_or other at 0 == octet) ≡ false
    → one ≢ other
differ one other at octet has lacks is =
    true≢false (sym has ∙ ap (λ (text : List ℕ). get_or text at 0 == octet) is ∙ lacks)

no-below : (institution rest below : List ℕ) → rest ≡ codes "rs/studies/" ++ below
    → ((resource : Resource) → IsPathOfStudies institution below resource → ⊥)
    → (resource : Resource) → IsPathBelow institution rest resource → ⊥
no-below institution rest below is none (Counts name) has = differ _ _ 0 114 refl refl (sym is ∙ has.1)
no-below institution rest below is none (Studies name) has = differ _ _ 10 47 refl refl (sym is ∙ has.1)
no-below institution rest below is none (Unsearched name) has = elim has.1 [
  | inl series ↦ differ _ _ 4 116 refl refl (sym is ∙ series)
  | inr instances ↦ differ _ _ 3 115 refl refl (sym is ∙ instances)
]
no-below institution rest below is none (Worklist name) has = differ _ _ 0 114 refl refl (sym is ∙ has.1)
no-below institution rest below is none (Entry name id) has = differ _ _ 0 114 refl refl (sym is ∙ has.1)
no-below institution rest below is none (Steps name) has = differ _ _ 0 114 refl refl (sym is ∙ has.1)
no-below institution rest below is none Nowhere has = absurd has
no-below institution rest below is none resource has =
    none resource (subst (λ (text : List ℕ). IsPathOfStudies institution text resource)
    (same-rest (codes "rs/studies/") has.0 below (sym has.1 ∙ is)) has.2)

-- what is found below studies is found below the institution
pub below-studies : (institution rest below : List ℕ) → rest ≡ codes "rs/studies/" ++ below → (resource : Resource)
    → IsFound (IsPathOfStudies institution below) resource → IsFound (IsPathBelow institution rest) resource
below-studies institution rest below is Nowhere none = λ other has. no-below institution rest below is none other has
below-studies institution rest below is (Series name study) found = (below, is, found)
below-studies institution rest below is (Images name study series) found = (below, is, found)
below-studies institution rest below is (StudyImages name study) found = (below, is, found)
below-studies institution rest below is resource found = absurd found

-- a path of an institution names one institution
pub own-found : (path institution rest : List ℕ) → path ≡ codes "/" ++ beneath institution rest
    → IsTrue (is_segment institution) → institution ≢ codes "*" → (resource : Resource)
    → IsFound (IsPathBelow institution rest) resource → IsFound (IsOwnPath path) resource
own-found path institution rest is segment owner Nowhere none = λ other has.
    let slashed : beneath institution rest ≡ beneath has.0 has.1 = tail-same _ _ (sym is ∙ has.2) in
    let same = same-segment institution has.0 rest has.1 segment has.4 slashed in
    none other (subst (λ (name : List ℕ). IsPathBelow name rest other) (sym same.0)
    (subst (λ (text : List ℕ). IsPathBelow has.0 text other) (sym same.1) has.3))
own-found path institution rest is segment owner resource found = (institution, rest, is, found, segment, owner)

-- the operator's name is not an institution's
pub no-operator : (path institution rest : List ℕ) → path ≡ codes "/" ++ beneath institution rest
    → IsTrue (is_segment institution) → institution ≡ codes "*" → (resource : Resource) → IsOwnPath path resource → ⊥
no-operator path institution rest is segment owner resource has =
    let slashed : beneath institution rest ≡ beneath has.0 has.1 = tail-same _ _ (sym is ∙ has.2) in
    has.5 (sym (same-segment institution has.0 rest has.1 segment has.4 slashed).0 ∙ owner)

no-path : (path : List ℕ) → path ≢ codes "/" → path ≢ codes "/page.css" → path ≢ codes "/page.js"
    → path ≢ codes "/health" → path ≢ codes "/metrics" → path ≢ codes "/backup"
    → ((resource : Resource) → IsOwnPath path resource → ⊥) → (resource : Resource) → HasPath path resource → ⊥
no-path path page style script health metrics backup none Page has = page has
no-path path page style script health metrics backup none Style has = style has
no-path path page style script health metrics backup none Script has = script has
no-path path page style script health metrics backup none Health has = health has
no-path path page style script health metrics backup none Metrics has = metrics has
no-path path page style script health metrics backup none Backup has = backup has
no-path path page style script health metrics backup none Nowhere has = absurd has
no-path path page style script health metrics backup none resource has = none resource has

-- a path that is none of the front's own is an institution's, or nothing is there
pub path-found : (path : List ℕ) → path ≢ codes "/" → path ≢ codes "/page.css" → path ≢ codes "/page.js"
    → path ≢ codes "/health" → path ≢ codes "/metrics" → path ≢ codes "/backup" → (resource : Resource)
    → IsFound (IsOwnPath path) resource → IsPath path resource
path-found path page style script health metrics backup Nowhere none = λ other has.
    no-path path page style script health metrics backup none other has
path-found path page style script health metrics backup Page found = absurd found.3.2
path-found path page style script health metrics backup Style found = absurd found.3.2
path-found path page style script health metrics backup Script found = absurd found.3.2
path-found path page style script health metrics backup Health found = absurd found.3.2
path-found path page style script health metrics backup Metrics found = absurd found.3.2
path-found path page style script health metrics backup Backup found = absurd found.3.2
path-found path page style script health metrics backup resource found = found
