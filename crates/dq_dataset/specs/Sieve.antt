-- The elements that a list of tags leaves of a data set (PS3.5 section 7.1), defined on all its octets, however they
-- come.
use Rattle.std.specs.Prelude.{◌≡◌, ℕ, Bool, not, List, length, nat_lt, if◌then◌else◌, ◌⊎◌}
use Rattle.std.specs.List.{list_any}
use Rattle.dq_vr.specs.declared.Tag.{Tag}
use Rattle.dq_dataset.specs.declared.fault.ReadFault.{ReadFault}
use Rattle.dq_dataset.specs.declared.header.Syntax.{Syntax}
use Rattle.dq_dataset.specs.declared.header.Syntax.TheVariants.{Explicit}
use Rattle.dq_dataset.specs.declared.data_set.Element.{Element}
use Rattle.dq_dataset.specs.declared.sieve.Sifted.{Sifted}
use Rattle.dq_dataset.specs.declared.sieve.Sifted.TheVariants.{Kept, Large, Fault}
use Rattle.dq_dataset.specs.Tree.{ElementList}
use Rattle.dq_dataset.specs.View.{elements_of}
use Rattle.dq_dataset.specs.Canonical.{canonical}
use Rattle.dq_dataset.specs.Grammar.{IsSpelled}
use Rattle.dq_dataset.specs.Faults.{IsFaulty}
use Rattle.dq_dataset.specs.Editing.{is_listed, cut_out}

-- Whether the data set has an element whose tag is not listed, be it octets or a sequence.
abbrev pub has_other : List Tag → ElementList → Bool
has_other tags d = list_any (λ (e : Element). not (is_listed tags e)) (elements_of d)

-- The most octets that the kept elements may have in the canonical Explicit spelling.
abbrev pub kept_limit : ℕ
kept_limit = 67108864

unfoldable pub is_over_limit : ElementList → Bool
is_over_limit kept = nat_lt kept_limit (length (canonical Explicit kept))

-- what is answered of the listed elements, where there is another or not
abbrev pub sifted_of : ElementList → Bool → Sifted
sifted_of kept other = if is_over_limit kept then Large else Kept kept other

-- Of the data set that the octets spell: its listed elements, and whether it has another, unless
-- the listed ones are too large. Where they spell none: the first fault of the octets.
abbrev pub IsSifted : Syntax → List Tag → List ℕ → Sifted → Type 0
IsSifted syntax tags octets answer =
    ((d : ElementList) × IsSpelled syntax octets d
    × (answer ≡ sifted_of (cut_out tags d) (has_other tags d)))
    ⊎ ((fault : ReadFault) × IsFaulty syntax octets fault × (answer ≡ Fault fault))
