-- How the code works: in what order the events and the lines of a step stand.
use Rattle.std.specs.Prelude.{◌≡◌, ℕ, ◌+◌, ◌<◌, ◌≤◌, true, Option, Some, None, List, [], ◌∷◌, ◌++◌}
use Rattle.lq_records.specs.declared.base.Base.{Base}
use Rattle.lq_events.specs.declared.log_entry.LogEntry.{LogEntry}
use Rattle.lq_events.specs.declared.status.Downtime.{Downtime}
use Rattle.lq_log.specs.Book.{time_limit}
use Rattle.lq_log.specs.Entries.{IsOfLine}
use Rattle.lq_live.specs.State.{names_of}
use Rattle.lq_live.specs.Downtimes.{Event, downtimes_after, crosses, depth, line_if, change_of}
use Rattle.lq_live.specs.Edits.{line_of_edit}
use Rattle.lq_live.specs.Kept.{IsFrom}
use Rattle.lq_live.specs.declared.edit.Edit.{Edit}
use Rattle.lq_live.specs.declared.edit.Edit.TheVariants as edit

-- ---- what events leave and write

abbrev pub after_all : List Event → List Downtime → List Downtime
after_all [] downtimes = downtimes
after_all (event ∷ events) downtimes = after_all events (downtimes_after event downtimes)

abbrev pub event_lines : Base → Event → List Downtime → List LogEntry
event_lines base event downtimes =
    line_if (crosses (depth event.object downtimes)
    (depth event.object (downtimes_after event downtimes)))
    event.moment (change_of event) (names_of base event.object)

abbrev pub due_lines : Base → List Event → List Downtime → List LogEntry
due_lines base [] downtimes = []
due_lines base (event ∷ events) downtimes =
    event_lines base event downtimes ++ due_lines base events (downtimes_after event downtimes)

-- ---- in what order

-- the moments of events lie between two seconds
abbrev pub Within : ℕ → ℕ → List Event → Type 0
Within low high [] = Unit {0}
Within low high (event ∷ events) =
    (low ≤ event.moment) × (event.moment ≤ high) × Within low high events

-- and they rise
abbrev pub Rising : ℕ → ℕ → List Event → Type 0
Rising low high [] = Unit {0}
Rising low high (event ∷ events) =
    (low ≤ event.moment) × (event.moment ≤ high) × Rising event.moment high events

-- no line is past a second
abbrev pub LinesUpTo : ℕ → List LogEntry → Type 0
LinesUpTo second [] = Unit {0}
LinesUpTo second (entry ∷ entries) = (entry.time ≤ second) × LinesUpTo second entries

-- What is still to come of a new downtime lies past a second, it begins before it ends, and it is
-- active only where it has begun.
pub record IsNew (second : ℕ) (downtime : Downtime) : Type 0 where
  pub order : downtime.start < downtime.end
  pub ahead : IsFrom (second + 1) downtime
  pub begun : downtime.active ≡ true → downtime.start ≤ second

-- an entry of a second, which a line gives where that second can be written
abbrev pub LineAt : ℕ → Option LogEntry → Type 0
LineAt second None = Unit {0}
LineAt second (Some entry) =
    (entry.time ≡ second) × (entry.time < time_limit → IsOfLine entry)

-- what an edit of a command's effect does besides its line: its downtime is new, and it moves no
-- time
abbrev pub ChangeAt : ℕ → Edit → Type 0
ChangeAt second (edit.AddDowntime downtime) = IsNew second downtime
ChangeAt second (edit.Now later) = ⊥
ChangeAt second _ = Unit {0}

-- an edit of a command's effect: its line is of that second
abbrev pub EditAt : ℕ → Edit → Type 0
EditAt second edit = LineAt second (line_of_edit edit) × ChangeAt second edit

abbrev pub EditsAt : ℕ → List Edit → Type 0
EditsAt second [] = Unit {0}
EditsAt second (edit ∷ edits) = EditAt second edit × EditsAt second edits

-- how many comments and downtimes edits add
abbrev pub additions : Edit → ℕ
additions (edit.AddComment comment) = 1
additions (edit.AddDowntime downtime) = 1
additions _ = 0

abbrev pub all_additions : List Edit → ℕ
all_additions [] = 0
all_additions (edit ∷ edits) = additions edit + all_additions edits
