-- One step of a state for each update.
use Rattle.std.specs.Prelude.{ℕ, min, max}
use Rattle.lq_events.specs.declared.update.Update.{Update}
use Rattle.lq_log.specs.Written.{entry_of_form}
use Rattle.lq_log.specs.declared.written.Form.TheVariants as form
use Rattle.lq_live.specs.State.{State}
use Rattle.lq_live.specs.Downtimes.{due, happen_all}
use Rattle.lq_live.specs.Effects.{add_line, effect}

-- a second past the last one that can be written counts as the last one
abbrev pub second_written : Update → ℕ
second_written update = min update.time 999_999_999_999

-- the present second never goes back
abbrev pub second_after : State → Update → ℕ
second_after s update = max s.now (second_written update)

-- the present second becomes another, and the downtimes that are due then begin and end
abbrev pub advance_to : ℕ → State → State
advance_to second s = happen_all (due second s.downtimes) (record s { now = second })

-- the second moves on, and the line of the external command is written
abbrev pub ready : State → Update → State
ready s update =
    add_line (entry_of_form (second_after s update) (form.External update.text))
    (advance_to (second_after s update) s)

-- then the command takes effect
abbrev pub step : State → Update → State
step s update = effect update.act (ready s update)
