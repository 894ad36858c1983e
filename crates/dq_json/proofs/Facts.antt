-- What is read has the facts of every data set.
use Rattle.std.proofs.Common.{arith, ◌≡◌, ℕ, ◌+◌, ◌-◌, ◌<◌, ◌≤◌, ◌%◌, List, [], ◌∷◌, ◌++◌, length, true, false, ◌||◌, if◌then◌else◌, Option, Some, None, is_none, unwrap_or, refl, sym, ap, ◌∙◌, subst}
use Rattle.dq_vr.specs.declared.Tag.{Tag}
use Rattle.dq_vr.specs.declared.Vr.{Vr}
use Rattle.dq_vr.specs.declared.Vr.TheVariants.{CS, SQ, UN}
use Rattle.dq_vr.specs.Dictionary.{dictionary, vr_in, known_vr}
use Rattle.dq_vr.specs.Tags.{specific_character_set}
use Rattle.dq_dataset.specs.declared.data_set.Element.{Element}
use Rattle.dq_dataset.specs.declared.data_set.Value.{Value}
use Rattle.dq_dataset.specs.declared.data_set.Value.TheVariants.{Octets, Items}
use Rattle.dq_dataset.specs.Tree.{ElementList}
use Rattle.dq_dataset.specs.Rules.{is_sequence}
use Rattle.dq_dataset.specs.View.{as_elements, items_of}
use Rattle.dq_dataset.specs.Facts.{IsElementTag, IsPlain, IsSequence, AreElements, AreItems, IsDataSet}
use Rattle.dq_dataset.proofs.SpelledIsSound.{IsValue, with_value_is}
use Rattle.dq_dataset.proofs.Edits.{facts-parts}
use Rattle.dq_json.specs.Contents.{IsVrFor, IsContent, IsNext, last_tag}
use Rattle.dq_json.specs.JsonReader.{kept_vr, utf8_mark}

-- ---- one element

plain : (tag : Tag) (known : Option Vr) (vr : Vr) (octets : List ℕ) → known ≡ known_vr tag → IsVrFor known vr → is_sequence (Some vr) ≡ false
    → length octets % 2 ≡ 0 → IsPlain tag (kept_vr known vr) octets
plain tag None vr octets is fits plainly even = record {
  by_dictionary = ap (λ b. if b then SQ else UN) plainly ∙ ap (λ k. unwrap_or k UN) is;
  no_sequence = ap is_sequence (sym is);
  even = even;
}
plain tag (Some known) vr octets is fits plainly even = record {
  by_dictionary = ap (λ k. unwrap_or k UN) is;
  no_sequence = ap is_sequence (sym is) ∙ (ap (λ v. is_sequence (Some v)) fits ∙ plainly);
  even = even;
}

is_sq : (vr : Vr) → is_sequence (Some vr) ≡ true → vr ≡ SQ
is_sq SQ nests = refl
is_sq vr nests = cc

nested : (tag : Tag) (known : Option Vr) (vr : Vr) → known ≡ known_vr tag → IsVrFor known vr → is_sequence (Some vr) ≡ true → IsSequence tag (kept_vr known vr)
nested tag None vr is fits nests = record {
  is_sq = ap (λ b. if b then SQ else UN) nests;
  allowed = ap (λ k. is_none k || is_sequence k) (sym is);
}
nested tag (Some known) vr is fits nests = record {
  is_sq = fits ∙ is_sq vr nests;
  allowed = ap (λ k. is_none k || is_sequence k) (sym is) ∙ (ap (λ v. is_sequence (Some v)) fits ∙ nests);
}

value_is : (levels : ℕ) (tag : Tag) (known : Option Vr) (vr : Vr) (held : Value) → known ≡ known_vr tag → IsVrFor known vr → IsContent levels vr held
    → IsValue levels tag (kept_vr known vr) held
value_is levels tag known vr (Octets octets) is fits content = plain tag known vr octets is fits content.0 content.1
value_is levels tag known vr (Items items) is fits content = (nested tag known vr is fits content.0, content.1, content.2)

pub element_is : (levels : ℕ) (last : Option Tag) (tag : Tag) (known : Option Vr) (vr : Vr) (held : Value) → IsElementTag last tag
    → known ≡ known_vr tag → IsVrFor known vr → IsContent levels vr held
    → IsNext levels last (record { tag = tag; vr = kept_vr known vr; value = held })
element_is levels last tag known vr held at is fits content =
    with_value_is levels last tag (kept_vr known vr) held (as_elements []) at (value_is levels tag known vr held is fits content) tt

-- ---- one more

pub last_pushed : (last : Option Tag) (es : List Element) (e : Element) → last_tag last (es ++ e ∷ []) ≡ Some e.tag
last_pushed last [] e = refl
last_pushed last (x ∷ es) e = last_pushed (Some x.tag) es e

pub elements_pushed : (levels : ℕ) (last : Option Tag) (es : List Element) (e : Element) → AreElements levels last (as_elements es)
    → IsNext levels (last_tag last es) e → AreElements levels last (as_elements (es ++ e ∷ []))
elements_pushed levels last [] e are next = next
elements_pushed levels last (x ∷ es) e are next =
    let parts = facts-parts levels last x es are in
    with_value_is levels last x.tag x.vr x.value (as_elements (es ++ e ∷ [])) parts.0 parts.1 (elements_pushed levels (Some x.tag) es e parts.2 next)

pub items_pushed : (levels : ℕ) (ds : List ElementList) (d : ElementList) → AreItems levels (items_of ds) → AreElements levels None d
    → AreItems levels (items_of (ds ++ d ∷ []))
items_pushed levels [] d are more = (more, tt)
items_pushed levels (x ∷ ds) d are more = (are.0, items_pushed levels ds d are.1 more)

-- ---- the mark of UTF-8

known_set : known_vr specific_character_set ≡ Some CS
unfolding known_vr vr_in dictionary
known_set = refl

pub mark_is : IsDataSet utf8_mark
mark_is = (
  record { rises = refl; no_delimiter = omega arith; no_length = omega arith; group = omega arith; number = omega arith },
  record { by_dictionary = ap (λ k. unwrap_or k UN) (sym known_set); no_sequence = ap is_sequence known_set; even = refl },
  tt,
)
