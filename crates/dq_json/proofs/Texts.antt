-- Text that is UTF-8 stays.
use Rattle.std.proofs.Common.{◌≡◌, ℕ, List, ap, ◌∙◌}
use Rattle.std.specs.Str.{IsUtf8}
use Rattle.std.proofs.lemmas.Str.{utf8_lossy-IsUtf8}
use Rattle.dq_json.specs.declared.text.Repertoire.{Repertoire}
use Rattle.dq_json.specs.declared.text.Repertoire.TheVariants.{Utf8}
use Rattle.dq_json.specs.Text.{text_in}

pub text_kept : (r : Repertoire) (octets : List ℕ) → r ≡ Utf8 → IsUtf8 octets → text_in r octets ≡ octets
unfolding text_in
text_kept r octets is utf8 = ap (λ (x : Repertoire). text_in x octets) is ∙ utf8_lossy-IsUtf8 octets utf8
