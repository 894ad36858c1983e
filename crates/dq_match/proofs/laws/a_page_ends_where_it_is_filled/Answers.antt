use Rattle.std.proofs.Common.{◌++◌, List, length, drop, min, sym, ap, ◌∙◌, arith}
use Rattle.std.proofs.lemmas.Bool.Decides.{nat_tests}
use Rattle.std.proofs.lemmas.List.{drop-drop, length-drop}
use Rattle.dq_dataset.specs.Tree.{ElementList}
use Rattle.dq_match.specs.ShownPages.{page_most, page_octets, shown_page}
use Rattle.dq_match.proofs.Pages.{within_front, within_most, within_octets, within_all, within_one}
use Rattle.dq_match.proofs.laws.a_page_ends_where_it_is_filled.Goals as goal

pub returns : goal.returns
returns c = record {
  goes_on = λ page all.
      ap (λ (rest : List ElementList). shown_page page all ++ rest) (sym (drop-drop (length (shown_page page all)) page.offset all))
      ∙ within_front (min page.limit page_most) page_octets (drop page.offset all);
  few = λ page all. within_most (min page.limit page_most) page_octets (drop page.offset all);
  short = λ page all before last. within_octets (min page.limit page_most) page_octets (drop page.offset all) before last;
  one = λ page all limit behind.
      within_one (min page.limit page_most) page_octets (drop page.offset all)
      (omega arith) (omega arith) (omega (arith, length-drop page.offset all));
  all = λ page all room.
      within_all (min page.limit page_most) page_octets (drop page.offset all)
      (grind (arith, nat_tests)) (grind (arith, nat_tests));
}
