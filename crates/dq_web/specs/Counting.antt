-- The server's counts of itself.
use Rattle.std.specs.Prelude.{◌≡◌, ℕ, ◌+◌, ◌-◌, ◌*◌, ◌/◌, ◌==◌, ◌||◌, min, nat_le, if◌then◌else◌, slice_index, slice_set}
use Rattle.dq_web.specs.declared.counters.Class.{Class}
use Rattle.dq_web.specs.declared.counters.Class.TheVariants.{Success, Warning, Refused, Pending}
use Rattle.dq_web.specs.declared.counters.Counters.{Counters}
use Rattle.dq_web.specs.declared.counters.Operations.{Operations}
use Rattle.dq_web.specs.declared.counters.RequestCounts.{RequestCounts}
use Rattle.dq_web.specs.declared.counters.Service.{Service}
use Rattle.dq_web.specs.declared.counters.Service.TheVariants.{Echo, Store, Find, Worklist, Step}
use Rattle.dq_web.specs.declared.counters.Turns.{Turns}
use Rattle.dq_web.specs.declared.resource.ResourceKind.{ResourceKind}
use Rattle.dq_web.specs.declared.resource.ResourceKind.TheVariants as kind
use Rattle.dq_web.specs.declared.status.Status.{Status}
use Rattle.dq_web.specs.declared.status.Status.TheVariants as status

-- a sum that stops at the most of 64 bits
abbrev pub saturated_count : ℕ → ℕ
saturated_count number = min number 0xFFFF_FFFF_FFFF_FFFF

abbrev pub one_more : ℕ → ℕ
one_more count = saturated_count (count + 1)

abbrev pub one_less : ℕ → ℕ
one_less count = count - 1

-- the class of a status (PS3.7 annex C)
abbrev pub class_of : ℕ → Class
class_of status =
    if status == 0 then Success
    else if status == 0xFF00 || status == 0xFF01 then Pending
    else if (status == 1 || status == 0x107 || status == 0x116) || status / 0x1000 == 0xB then Warning
    else Refused

-- one more operation of a class
abbrev pub after : Class → Operations → Operations
after Success operations = record operations { success = one_more operations.success }
after Warning operations = record operations { warning = one_more operations.warning }
after Refused operations = record operations { refused = one_more operations.refused }
after Pending operations = operations

-- one more operation of a service
abbrev pub Served : Service → Class → Counters → Counters → Type 0
Served Echo class old new = new ≡ record old { echo = after class old.echo }
Served Store class old new = new ≡ record old { store = after class old.store }
Served Find class old new = new ≡ record old { find = after class old.find }
Served Worklist class old new = new ≡ record old { worklist = after class old.worklist }
Served Step class old new = new ≡ record old { step = after class old.step }

-- one more, where a turn took at most so long
abbrev pub within : ℕ → ℕ → ℕ → ℕ
within count micros most = if nat_le micros most then one_more count else count

-- one more turn, of so many microseconds
abbrev pub turns_after : ℕ → Turns → Turns
turns_after micros turns = record {
  within_1_ms = within turns.within_1_ms micros 1000;
  within_5_ms = within turns.within_5_ms micros 5000;
  within_10_ms = within turns.within_10_ms micros 10000;
  within_50_ms = within turns.within_50_ms micros 50000;
  within_100_ms = within turns.within_100_ms micros 100000;
  within_500_ms = within turns.within_500_ms micros 500000;
  within_1_s = within turns.within_1_s micros 1000000;
  all = one_more turns.all;
  micros = saturated_count (turns.micros + micros);
}

-- ---- requests of the web front

-- the row of a kind in the table of counts
abbrev pub row_of : ResourceKind → ℕ
row_of kind.Studies = 0
row_of kind.Series = 1
row_of kind.Instances = 2
row_of kind.Worklist = 3
row_of kind.Steps = 4
row_of kind.Counts = 5
row_of kind.Page = 6
row_of kind.Health = 7
row_of kind.Metrics = 8
row_of kind.Backup = 9
row_of kind.Nowhere = 10

-- the column of a status code
abbrev pub column_of : Status → ℕ
column_of status.Done = 0
column_of status.Created = 1
column_of status.NoContent = 2
column_of status.Preflight = 2
column_of status.BadRequest = 3
column_of status.Unauthorized = 4
column_of status.Forbidden = 5
column_of status.NotFound = 6
column_of (status.MethodNotAllowed methods) = 7
column_of status.NotAcceptable = 8
column_of status.RequestTimeout = 9
column_of status.Conflict = 10
column_of status.TooLarge = 11
column_of status.UnsupportedMediaType = 12
column_of status.Misdirected = 13
column_of status.HeadTooLarge = 14
column_of status.ServerError = 15
column_of status.NotImplemented = 16
column_of status.Unavailable = 17
column_of status.Full = 18

abbrev pub place_of : ResourceKind → Status → ℕ
place_of what status = row_of what * 19 + column_of status

-- how many requests of a kind were answered with a status
abbrev pub count_of : ResourceKind → Status → RequestCounts → ℕ
count_of what status requests = slice_index requests.counts (place_of what status)

-- one more is, and no other count changes
abbrev pub with_request : ResourceKind → Status → RequestCounts → RequestCounts
with_request what status requests = record requests {
  counts = slice_set requests.counts (place_of what status) (one_more (count_of what status requests));
}
