-- The state that the code holds, and what it keeps.
use Rattle.std.specs.Prelude.{◌≡◌, ℕ, ◌+◌, ◌-◌, min, if◌then◌else◌, ◌<◌, ◌≤◌, ◌^◌, true, false}
use Rattle.std.specs.Prelude.{Option, Some, None, List, [], ◌∷◌, length, vec_len, vec_capacity}
use Rattle.std.specs.Arc.{arc_value}
use Rattle.lq_events.specs.declared.log_entry.LogEntry.{LogEntry}
use Rattle.lq_events.specs.declared.status.Downtime.{Downtime}
use Rattle.lq_records.specs.Sound.{IsSound}
use Rattle.lq_log.specs.Book.{last_time, time_limit}
use Rattle.lq_log.specs.Entries.{IsOfLine}
use Rattle.lq_live.specs.State.{State}
use Rattle.lq_live.specs.Edits.{line_of_edit, downtimes_at}
use Rattle.lq_live.specs.Ids.{HasRisingIds}
use Rattle.lq_live.specs.LastTold.{AreTold}
use Rattle.lq_live.specs.declared.live_state.LiveState.{LiveState}
use Rattle.lq_live.specs.declared.edit.Edit.{Edit}

abbrev pub state_of : LiveState → State
state_of live = record {
  base = arc_value live.base;
  host_status = live.host_status.items;
  service_status = live.service_status.items;
  downtimes = live.downtimes.items;
  comments = live.comments.items;
  log = live.log.entries;
  now = live.present;
  next_downtime = live.next_downtime;
  next_comment = live.next_comment;
  notifications = live.notifications;
}

-- a state whose second has moved, and in which all that is due then has happened
abbrev pub at_second : ℕ → State → State
at_second second s = record s { now = second; downtimes = downtimes_at second s.downtimes }

abbrev pub state_at : ℕ → LiveState → State
state_at second live = at_second second (state_of live)

-- ---- what every state keeps

-- what is still to come of a downtime isn't before a second
pub record IsFrom (second : ℕ) (downtime : Downtime) : Type 0 where
  pub end : second ≤ downtime.end
  pub start : downtime.active ≡ false → second ≤ downtime.start

abbrev pub AllFrom : ℕ → List Downtime → Type 0
AllFrom second [] = Unit {0}
AllFrom second (downtime ∷ downtimes) = IsFrom second downtime × AllFrom second downtimes

-- the first second at which a downtime begins or ends, as far as that is still to come
abbrev pub next_of : Downtime → ℕ
next_of downtime = if downtime.active then downtime.end else min downtime.start downtime.end

-- the first of several downtimes
abbrev pub earliest_second : List Downtime → ℕ
earliest_second [] = 2 ^ 64 - 1
earliest_second (downtime ∷ downtimes) = min (earliest_second downtimes) (next_of downtime)

-- each downtime begins before it ends
abbrev pub AllOrdered : List Downtime → Type 0
AllOrdered [] = Unit {0}
AllOrdered (downtime ∷ downtimes) = (downtime.start < downtime.end) × AllOrdered downtimes

-- each downtime that is active has begun
abbrev pub AllBegun : ℕ → List Downtime → Type 0
AllBegun second [] = Unit {0}
AllBegun second (downtime ∷ downtimes) =
    (downtime.active ≡ true → downtime.start ≤ second) × AllBegun second downtimes

-- Each object has a status. The last line isn't past the present second, all that is to come of the
-- downtimes is, the second can be written, no id passes the number of lines by more than one, and
-- none is given twice.
pub record IsKept (s : State) : Type 0 where
  pub hosts : length s.host_status ≡ length s.base.hosts
  pub services : length s.service_status ≡ length s.base.services
  pub lines : last_time s.log ≤ s.now
  pub ahead : AllFrom (s.now + 1) s.downtimes
  pub order : AllOrdered s.downtimes
  pub begun : AllBegun s.now s.downtimes
  pub second : s.now < time_limit
  pub downtime_ids : s.next_downtime ≤ length s.log + 1
  pub comment_ids : s.next_comment ≤ length s.log + 1
  pub ids : HasRisingIds s

-- ---- what the code keeps beside the state

-- what is found sooner for it: a second before which no downtime begins or ends, and what the log
-- last told
pub record IsIndexed (live : LiveState) : Type 0 where
  pub moment : AllFrom live.next_moment live.downtimes.items
  pub told : AreTold live.told (arc_value live.base) live.log.entries

-- what holds after so many updates: the base is sound, and no update is without its line
pub record KeepsAll (live : LiveState) (updates : ℕ) : Type 0 where
  pub sound : IsSound (arc_value live.base)
  pub state : IsKept (state_of live)
  pub count : updates ≤ length live.log.entries
  pub index : IsIndexed live

-- ---- edits

-- an entry may follow a last one: it is no earlier, its second can be written, and a line gives it
abbrev pub MayFollow : ℕ → Option LogEntry → Type 0
MayFollow last None = Unit {0}
MayFollow last (Some entry) = (last ≤ entry.time) × (entry.time < time_limit) × IsOfLine entry

abbrev pub last_time_after : ℕ → Option LogEntry → ℕ
last_time_after last None = last
last_time_after last (Some entry) = entry.time

-- the lines that edits write are in order of time after a last one
abbrev pub Timely : ℕ → List Edit → Type 0
Timely last [] = Unit {0}
Timely last (edit ∷ edits) =
    MayFollow last (line_of_edit edit) × Timely (last_time_after last (line_of_edit edit)) edits

-- so many edits find their room
pub record HasRoom (live : LiveState) (n : ℕ) : Type 0 where
  pub lines : n ≤ live.log.room
  pub comments : vec_len live.comments + n ≤ vec_capacity live.comments
  pub downtimes : vec_len live.downtimes + n ≤ vec_capacity live.downtimes
  pub downtime_ids : live.next_downtime + n < 2 ^ 64
  pub comment_ids : live.next_comment + n < 2 ^ 64

-- no id passes the number of lines by more than one
pub record HasIds (live : LiveState) : Type 0 where
  pub downtime_ids : live.next_downtime ≤ length live.log.entries + 1
  pub comment_ids : live.next_comment ≤ length live.log.entries + 1
