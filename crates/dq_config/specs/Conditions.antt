-- The configuration that a text spells, and the fault of a text that spells none.
use Rattle.std.specs.Prelude.{ℕ, Bool, ◌&&◌, ◌||◌, not, nat_le, ◌==◌, if◌then◌else◌, List, [], ◌∷◌, ◌++◌, length, Option, Some, None, option_and_then, Result, Ok, Err, IsTrue, is_none}
use Rattle.std.specs.List.{list_any, list_all}
use Rattle.toml.specs.Parse.{parse_document}
use Rattle.dq_config.specs.declared.config.Institution.{Institution}
use Rattle.dq_config.specs.declared.config.Route.{Route}
use Rattle.dq_config.specs.declared.fault.ConfigFault.{ConfigFault}
use Rattle.dq_config.specs.declared.fault.ConfigFault.TheVariants.{Syntax, BadName, BadTitle, NameTaken, RouteTaken, BadLimit}
use Rattle.dq_config.specs.Document.{institutions_in}
use Rattle.dq_config.specs.Routing.{same_octets, joins, has_route}

abbrev pub is_between : ℕ → ℕ → ℕ → Bool
is_between least most number = nat_le least number && nat_le number most

-- 1 to 16 octets of a kind
abbrev pub is_text_of : (ℕ → Bool) → List ℕ → Bool
is_text_of kind text = is_between 1 16 (length text) && list_all kind text

-- a name: A to Z, 0 to 9 and the underscore
unfoldable pub is_name_octet : ℕ → Bool
is_name_octet octet = (is_between 0x41 0x5A octet || is_between 0x30 0x39 octet) || octet == 0x5F

unfoldable pub is_institution_name : List ℕ → Bool
is_institution_name name = is_text_of is_name_octet name

-- a title: 20H to 7EH but the backslash (PS3.5 section 6.2, AE)
unfoldable pub is_title_octet : ℕ → Bool
is_title_octet octet = is_between 0x20 0x7E octet && not (octet == 0x5C)

unfoldable pub is_title : List ℕ → Bool
is_title title = is_text_of is_title_octet title

-- a limit of rows, and of associations at a time
unfoldable pub is_limit : ℕ → Bool
is_limit limit = is_between 1 1_000_000 limit

unfoldable pub is_association_limit : ℕ → Bool
is_association_limit limit = is_between 1 64 limit

-- an institution before has the name
unfoldable pub is_name_taken : List Institution → List ℕ → Bool
is_name_taken before name = list_any (λ (other : Institution). same_octets other.name name) before

-- an institution before has the pair, or a route of the same institution before
unfoldable pub is_route_taken : List Institution → List Route → Route → Bool
is_route_taken before routes route =
    list_any (has_route route.called route.calling) before
    || list_any (joins route.called route.calling) routes

-- a condition, and the fault where it is not met
abbrev pub Condition : Type 0
Condition = Bool × ConfigFault

abbrev pub route_conditions : List Institution → List Route → Route → List Condition
route_conditions before done route =
    (is_title route.called, BadTitle)
    ∷ (is_title route.calling, BadTitle)
    ∷ (not (is_route_taken before done route), RouteTaken)
    ∷ []

-- the conditions on routes, from the first to the last, after others of the same institution
abbrev pub routes_conditions : List Institution → List Route → List Route → List Condition
routes_conditions before done [] = []
routes_conditions before done (route ∷ routes) =
    route_conditions before done route ++ routes_conditions before (done ++ route ∷ []) routes

abbrev pub limit_conditions : Institution → List Condition
limit_conditions institution =
    (is_limit institution.studies, BadLimit)
    ∷ (is_limit institution.images, BadLimit)
    ∷ (is_limit institution.entries, BadLimit)
    ∷ (is_limit institution.steps, BadLimit)
    ∷ (is_association_limit institution.associations, BadLimit)
    ∷ []

abbrev pub institution_conditions : List Institution → Institution → List Condition
institution_conditions before institution =
    (is_institution_name institution.name, BadName)
    ∷ (not (is_name_taken before institution.name), NameTaken)
    ∷ (routes_conditions before [] institution.routes ++ limit_conditions institution)

-- the conditions on institutions, from the first to the last, after others
abbrev pub conditions : List Institution → List Institution → List Condition
conditions before [] = []
conditions before (institution ∷ institutions) =
    institution_conditions before institution
    ++ conditions (before ++ institution ∷ []) institutions

-- the fault of the first condition that is not met
abbrev pub first_unmet_fault : List Condition → Option ConfigFault
first_unmet_fault [] = None
first_unmet_fault (condition ∷ others) = if condition.0 then first_unmet_fault others else Some condition.1

-- institutions that meet all conditions
abbrev pub faultless : Option ConfigFault → List Institution → Result (List Institution) ConfigFault
faultless None institutions = Ok institutions
faultless (Some fault) institutions = Err fault

abbrev pub configuration_or_fault : Option (List Institution) → Result (List Institution) ConfigFault
configuration_or_fault None = Err Syntax
configuration_or_fault (Some institutions) = faultless (first_unmet_fault (conditions [] institutions)) institutions

-- Syntax is decided over the whole text first.
unfoldable pub configuration : List ℕ → Result (List Institution) ConfigFault
configuration text = configuration_or_fault (option_and_then institutions_in (parse_document text))

-- what holds of each configuration
unfoldable pub is_sound_configuration : List Institution → Bool
is_sound_configuration institutions = is_none (first_unmet_fault (conditions [] institutions))

-- the limits of an institution are in range
pub record AreLimits (institution : Institution) : Type 0 where
  pub studies : IsTrue (is_limit institution.studies)
  pub images : IsTrue (is_limit institution.images)
  pub entries : IsTrue (is_limit institution.entries)
  pub steps : IsTrue (is_limit institution.steps)
  pub associations : IsTrue (is_association_limit institution.associations)
