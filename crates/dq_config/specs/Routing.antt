-- Which institution a pair of titles belongs to (PS3.8 section 9.3.2).
use Rattle.std.specs.Prelude.{◌≡◌, ℕ, Bool, ◌&&◌, List, Option, find, Contains, IsTrue}
use Rattle.std.specs.List.{list_any}
use Rattle.std.specs.Str.{bytes_eq}
use Rattle.dq_value.specs.Title.{without_spaces}
use Rattle.dq_config.specs.declared.config.Institution.{Institution}
use Rattle.dq_config.specs.declared.config.Route.{Route}

abbrev pub same_octets : List ℕ → List ℕ → Bool
same_octets octets others = bytes_eq octets others

-- a route is exactly the pair of titles
unfoldable pub joins : List ℕ → List ℕ → Route → Bool
joins called calling route = same_octets route.called called && same_octets route.calling calling

unfoldable pub has_route : List ℕ → List ℕ → Institution → Bool
has_route called calling institution = list_any (joins called calling) institution.routes

-- the institution is the one that has the pair, which is compared without the spaces at the ends of
-- its titles
pub record IsRouted (institutions : List Institution) (called calling : List ℕ)
    (institution : Institution) : Type 0 where
  pub listed : Contains institutions institution
  pub has : IsTrue (has_route (without_spaces called) (without_spaces calling) institution)
  pub alone : (other : Institution) → Contains institutions other
      → IsTrue (has_route (without_spaces called) (without_spaces calling) other) → other ≡ institution

-- the institution, found from the first on
unfoldable pub institution_routed : List Institution → List ℕ → List ℕ → Option Institution
institution_routed institutions called calling =
    find (has_route (without_spaces called) (without_spaces calling)) institutions

-- the institution of a name
unfoldable pub institution_named : List Institution → List ℕ → Option Institution
institution_named institutions name =
    find (λ (institution : Institution). same_octets institution.name name) institutions
