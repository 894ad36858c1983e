-- The order of tags in a data set (PS3.5 section 7.1).
use Rattle.std.specs.Prelude.{Bool, nat_lt, nat_eq, ◌||◌, ◌&&◌}
use Rattle.dq_vr.specs.declared.Tag.{Tag}

-- a tag is below another: its group is, or the groups are the same and its element is
unfoldable pub is_below : Tag → Tag → Bool
is_below a b = nat_lt a.group b.group || (nat_eq a.group b.group && nat_lt a.element b.element)
