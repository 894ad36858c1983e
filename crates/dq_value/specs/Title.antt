-- An application entity title without the spaces at its ends, which have no meaning (PS3.5 table
-- 6.2-1, AE).
use Rattle.std.specs.Prelude.{◌≡◌, ℕ, true, false, List, ◌++◌}
use Rattle.std.specs.List.{list_all}
use Rattle.dq_value.specs.Trimming.{is_space, without_leading, without_trailing, first_is, last_is}

-- what is kept of a title: all but spaces at its ends, and none of those is left
pub record IsStripped (title kept : List ℕ) : Type 0 where
  pub before : List ℕ
  pub after : List ℕ
  pub whole : title ≡ before ++ (kept ++ after)
  pub spaces_before : list_all is_space before ≡ true
  pub spaces_after : list_all is_space after ≡ true
  pub no_space_first : first_is is_space kept ≡ false
  pub no_space_last : last_is is_space kept ≡ false

unfoldable pub without_spaces : List ℕ → List ℕ
without_spaces title = without_leading is_space (without_trailing is_space title)
