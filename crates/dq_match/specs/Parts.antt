-- A part of the answers to a query, as they come one after the other.
use Rattle.std.specs.Prelude.{Bool, nat_lt, ◌&&◌, List, ◌++◌, drop, Option, Some, None}
use Rattle.dq_dataset.specs.Tree.{ElementList}
use Rattle.dq_match.specs.declared.page_collector.PageCollector.{PageCollector}
use Rattle.dq_match.specs.declared.page_collector.PageRoom.{PageRoom}
use Rattle.dq_match.specs.declared.responses.Found.{Found}
use Rattle.dq_match.specs.declared.shown_page.ShownPage.{ShownPage}
use Rattle.dq_match.specs.ShownPages.{first_within, found_page}

-- a page has room for an answer
abbrev pub has_room : PageRoom → Bool
has_room room = nat_lt 0 room.answers && nat_lt 0 room.octets

-- those that there is room for; all where there is no bound
abbrev pub with_room : Option PageRoom → List ElementList → List ElementList
with_room None answers = answers
with_room (Some room) answers = first_within room.answers room.octets answers

-- what a part has once some others have come
abbrev pub with_others : PageCollector → List ElementList → List ElementList
with_others part others = part.answers ++ with_room part.left (drop part.before others)

-- what was found, or a page of it
abbrev pub found_of : Option ShownPage → Found → Found
found_of None found = found
found_of (Some page) found = found_page page found
