-- What the lines of a log tell of the history of objects, each with its second and its place.
use Rattle.std.specs.Prelude.{ℕ, ℤ, nat_lt, Bool, Option, Some, List, length, filter}
use Rattle.std.specs.List.{enumerate_from, filter_map}
use Rattle.std.specs.Option.{option_and_then, option_map}
use Rattle.lq_records.specs.declared.base.Base.{Base}
use Rattle.lq_records.specs.declared.object.Object.{Object}
use Rattle.lq_events.specs.declared.log_entry.LogEntry.{LogEntry}
use Rattle.lq_log.specs.LastTold.{period_of_kind}
use Rattle.lq_log.specs.Told.{object_of, told_by}
use Rattle.lq_log.specs.declared.telling.Told.{Told}
use Rattle.lq_log.specs.declared.telling.Told.TheVariants as told

-- What a line says of history: the state of an object and the output of the check; whether a
-- downtime of an object goes on, or its flapping; whether the time period with a name is on.
pub data Said : Type 0 where
  State : Object → ℤ → List ℕ → Said
  Downtime : Object → Bool → Said
  Flapping : Object → Bool → Said
  Period : List ℕ → Bool → Said

-- what a line says, its second, and its place in the log
pub record Note : Type 0 where
  pub time : ℕ
  pub place : ℕ
  pub said : Said

-- A line of an object that the base doesn't have says nothing of history.
abbrev pub said_as : LogEntry → Option Object → Told → Option Said
said_as entry about (told.State hard) =
    option_map (λ object. State object entry.state entry.output) about
said_as entry about (told.Downtime on) = option_map (λ object. Downtime object on) about
said_as entry about (told.Flapping on) = option_map (λ object. Flapping object on) about
said_as entry about (told.Period on) = Some (Period (period_of_kind entry.kind) on)

abbrev pub said_by : Base → LogEntry → Option Said
said_by base entry = option_and_then (said_as entry (object_of base entry)) (told_by entry)

abbrev pub note_at : Base → ℕ × LogEntry → Option Note
note_at base (place, entry) =
    option_map (λ said. record { time = entry.time; place = place; said = said })
    (said_by base entry)

-- what a log says of history, in order
abbrev pub notes_of : Base → List LogEntry → List Note
notes_of base log = filter_map (note_at base) (enumerate_from 0 log)

-- how many lines of a log are before a second
abbrev pub lines_below : ℕ → List LogEntry → ℕ
lines_below until log = length (filter (λ entry. nat_lt entry.time until) log)
