-- The moments at which downtimes begin and end, and the lines that are written then.
use Rattle.std.specs.Prelude.{ℕ, ◌≡◌, ◌≤◌, ◌==◌, ◌&&◌, ◌||◌, not, nat_le, nat_lt, Bool, true, false}
use Rattle.std.specs.Prelude.{Option, Some, None, List, [], ◌∷◌, ◌++◌, length, map, filter}
use Rattle.std.specs.Prelude.{flat_map, if◌then◌else◌}
use Rattle.std.specs.List.{AllAdjacentBelow}
use Rattle.std.specs.List.Sorted.{IsPermutation}
use Rattle.std.specs.declared.cmp.Ordering.{Ordering}
use Rattle.std.specs.Ordering.{bool_cmp, is_gt, nat_cmp, ordering_then}
use Rattle.lq_events.specs.declared.log_entry.LogEntry.{LogEntry}
use Rattle.lq_events.specs.declared.status.Downtime.{Downtime}
use Rattle.lq_log.specs.Written.{entry_of_form}
use Rattle.lq_log.specs.declared.written.DowntimeChange.{DowntimeChange}
use Rattle.lq_log.specs.declared.written.DowntimeChange.TheVariants as downtime_change
use Rattle.lq_log.specs.declared.written.Form.TheVariants as form
use Rattle.lq_records.specs.declared.object.Object.{Object}
use Rattle.lq_records.specs.Object.{is_same_object}
use Rattle.lq_live.specs.State.{LineNames, State, names_of}

abbrev pub only_if : {X : Type 0} → Bool → X → List X
only_if test item = if test then item ∷ [] else []

-- ---- what is due

-- a moment at which a downtime begins or ends: which one it is, and what it is about
pub record Event : Type 0 where
  pub moment : ℕ
  pub starts : Bool
  pub id : ℕ
  pub object : Object

abbrev pub start_of : Downtime → Event
start_of downtime = record {
  moment = downtime.start;
  starts = true;
  id = downtime.id;
  object = downtime.object;
}

abbrev pub end_of : Downtime → Event
end_of downtime = record {
  moment = downtime.end;
  starts = false;
  id = downtime.id;
  object = downtime.object;
}

-- the start of a downtime that isn't active, and its end, as far as they have come at a second
abbrev pub moments : ℕ → Downtime → List Event
moments second downtime =
    only_if (not downtime.active && nat_le downtime.start second) (start_of downtime)
    ++ only_if (nat_le downtime.end second) (end_of downtime)

-- An event may stand before another: its moment is no later, at one moment ends come before starts,
-- and then the lesser id comes first.
pub record MayPrecede (first next : Event) : Type 0 where
  pub moment : first.moment ≤ next.moment
  pub ends_first : first.moment ≡ next.moment → first.starts ≡ true → next.starts ≡ true
  pub ids : first.moment ≡ next.moment → first.starts ≡ next.starts → first.id ≤ next.id

-- events are what is due at a second: each start and end that has come stands once, in order
pub record IsDue (second : ℕ) (downtimes : List Downtime) (events : List Event) : Type 0 where
  pub each : IsPermutation (flat_map (moments second) downtimes) events
  pub order : AllAdjacentBelow MayPrecede events (length events)

-- ---- what is due, as a function

-- an item among others, after all that it is greater than
abbrev pub put_in : {X : Type 0} → (X → X → Ordering) → X → List X → List X
put_in order item [] = item ∷ []
put_in order item (first ∷ items) =
    if is_gt (order item first) then first ∷ put_in order item items else item ∷ first ∷ items

-- any items in any order
abbrev pub sort_by : {X : Type 0} → (X → X → Ordering) → List X → List X
sort_by order [] = []
sort_by order (item ∷ items) = put_in order item (sort_by order items)

-- by moment, ends before starts, then by id
abbrev pub event_order : Event → Event → Ordering
event_order a b =
    ordering_then (nat_cmp a.moment b.moment)
    (ordering_then (bool_cmp a.starts b.starts) (nat_cmp a.id b.id))

unfoldable pub due : ℕ → List Downtime → List Event
due second downtimes = sort_by event_order (flat_map (moments second) downtimes)

-- ---- what an event leaves

abbrev pub begin : ℕ → Downtime → Downtime
begin id downtime = if downtime.id == id then record downtime { active = true } else downtime

-- a start makes its downtime active, an end removes it
abbrev pub downtimes_after : Event → List Downtime → List Downtime
downtimes_after event downtimes =
    if event.starts then map (begin event.id) downtimes
    else filter (λ downtime. not (downtime.id == event.id)) downtimes

-- ---- how many are active

abbrev pub is_active_of : Object → Downtime → Bool
is_active_of object downtime = downtime.active && is_same_object downtime.object object

-- the number of an object's active downtimes
abbrev pub depth : Object → List Downtime → ℕ
depth object downtimes = length (filter (is_active_of object) downtimes)

-- whether a number of active downtimes leaves 0, or comes to it
abbrev pub crosses : ℕ → ℕ → Bool
crosses before later = (before == 0 && nat_lt 0 later) || (nat_lt 0 before && later == 0)

-- a line says that an object's downtime has `STARTED`, `STOPPED` or been `CANCELLED`
unfoldable pub downtime_line : ℕ → DowntimeChange → LineNames → LogEntry
downtime_line moment change names =
    entry_of_form moment (form.Downtime names.host names.service change)

abbrev pub line_if : Bool → ℕ → DowntimeChange → Option LineNames → List LogEntry
line_if test moment change None = []
line_if test moment change (Some names) = only_if test (downtime_line moment change names)

-- The downtimes become others at a moment, at which those of one object change. A line is written
-- where the number of its active ones leaves 0, or comes to it.
abbrev pub change_downtimes : ℕ → DowntimeChange → Object → List Downtime → State → State
change_downtimes moment change object changed s = record s {
  downtimes = changed;
  log =
      s.log
      ++ line_if (crosses (depth object s.downtimes) (depth object changed)) moment change
      (names_of s.base object);
}

-- ---- the events happen

abbrev pub change_of : Event → DowntimeChange
change_of event = if event.starts then downtime_change.Started else downtime_change.Stopped

-- the line of an event carries its moment
abbrev pub happen : Event → State → State
happen event s =
    change_downtimes event.moment (change_of event) event.object
    (downtimes_after event s.downtimes) s

abbrev pub happen_all : List Event → State → State
happen_all [] s = s
happen_all (event ∷ events) s = happen_all events (happen event s)
