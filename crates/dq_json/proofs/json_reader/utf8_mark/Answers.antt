use Rattle.dq_json.proofs.Facts.{mark_is}
use Rattle.dq_json.proofs.json_reader.utf8_mark.Goals as goal

pub from_elements-requires : goal.from_elements-requires
from_elements-requires c = rw (c.in_ok-push.ensures.items, c.new-elements.ensures.items, c.in_ok-copy_of.ensures) mark_is
