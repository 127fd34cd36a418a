-- What the lines of a log last told of an object's flapping, and of a time period.
use Rattle.std.specs.Prelude.{ℕ, ◌==◌, ◌&&◌, not, Bool, true, false, Option, Some, None, List, []}
use Rattle.std.specs.Prelude.{length, fold, bytes_eq, unwrap_or, if◌then◌else◌}
use Rattle.std.specs.Option.{option_map_or}
use Rattle.lq_records.specs.Object.{is_same_object}
use Rattle.lq_records.specs.declared.base.Base.{Base}
use Rattle.lq_records.specs.declared.object.Object.{Object}
use Rattle.lq_events.specs.declared.log_entry.Kind.{Kind}
use Rattle.lq_events.specs.declared.log_entry.Kind.TheVariants as kind
use Rattle.lq_events.specs.declared.log_entry.LogEntry.{LogEntry}
use Rattle.lq_log.specs.Told.{object_of, told_by}
use Rattle.lq_log.specs.declared.telling.Told.{Told}
use Rattle.lq_log.specs.declared.telling.Told.TheVariants as told

-- what the last line says that tells of something; without one, what was known before
abbrev pub last_told : (LogEntry → Option Bool) → Bool → List LogEntry → Bool
last_told tells before log = fold (λ known entry. unwrap_or (tells entry) known) before log

-- ---- flapping

abbrev pub flapping_in : Option Told → Option Bool
flapping_in (Some (told.Flapping on)) = Some on
flapping_in _ = None

-- what a line tells of an object's flapping
abbrev pub flapping_told : Base → Object → LogEntry → Option Bool
flapping_told base about entry =
    if option_map_or (is_same_object about) (object_of base entry) false
    then flapping_in (told_by entry)
    else None

-- an object is flapping where the last line that tells of it says so
abbrev pub is_flapping : Base → List LogEntry → Object → Bool
is_flapping base log about = last_told (flapping_told base about) false log

-- ---- time periods

abbrev pub period_in : Option Told → Option Bool
period_in (Some (told.Period on)) = Some on
period_in _ = None

-- the name of the period that goes over
abbrev pub period_of_kind : Kind → List ℕ
period_of_kind (kind.TimeperiodTransition name from to) = name
period_of_kind _ = []

-- what a line tells of the period with a name; nothing of one without a name
abbrev pub period_told : List ℕ → LogEntry → Option Bool
period_told name entry =
    if not (length name == 0) && bytes_eq name (period_of_kind entry.kind)
    then period_in (told_by entry)
    else None

-- a period is on where the last line that tells of it says so, and before the first one
abbrev pub is_period_on : List LogEntry → List ℕ → Bool
is_period_on log name = last_told (period_told name) true log
