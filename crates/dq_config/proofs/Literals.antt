-- The text of the configuration that is built in, read.
use Rattle.std.proofs.Common.{◌≡◌, Ok, refl}
use Rattle.toml.proofs.OnLiterals.{toml_on_literals}
use Rattle.dq_value.specs.Trimming.{without_leading, without_trailing, kept_before}
use Rattle.dq_value.specs.Title.{without_spaces}
use Rattle.dq_config.specs.declared.config.TheConstants.{BUILT_IN}
use Rattle.dq_config.specs.Document.{string_at, integer_at, array_at, limit_at, table_of, built_in}
use Rattle.dq_config.specs.Conditions.{configuration, is_institution_name, is_name_octet, is_title, is_title_octet, is_limit, is_association_limit, is_name_taken, is_route_taken}
use Rattle.dq_config.specs.Routing.{joins, has_route}

pub built_in_spelled : configuration BUILT_IN.now ≡ Ok built_in
unfolding configuration toml_on_literals without_leading without_trailing kept_before without_spaces string_at integer_at array_at limit_at table_of built_in is_institution_name
    is_name_octet is_title is_title_octet is_limit is_association_limit is_name_taken is_route_taken joins has_route
built_in_spelled = refl
