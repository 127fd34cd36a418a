-- What the text of a form says, where it says the form's own fields.
use Rattle.std.specs.Prelude.{ℕ, ℤ, Bool, List, length, codes, not, true, nat_lt, ◌==◌, ◌&&◌}
use Rattle.std.specs.Prelude.{if◌then◌else◌}
use Rattle.lq_events.specs.declared.log_entry.Kind.{Kind}
use Rattle.lq_events.specs.declared.log_entry.Kind.TheVariants as kind
use Rattle.lq_log.specs.Fields.{has_semicolon}
use Rattle.lq_log.specs.Written.{has_no_service, state_word}
use Rattle.lq_log.specs.declared.written.DowntimeChange.{DowntimeChange}
use Rattle.lq_log.specs.declared.written.DowntimeChange.TheVariants as change
use Rattle.lq_log.specs.declared.written.Form.{Form}
use Rattle.lq_log.specs.declared.written.Form.TheVariants as form

-- ---- whether it does

-- a name with a `;` would read as two fields
abbrev pub is_plain_object : List ℕ → List ℕ → Bool
is_plain_object host service = not (has_semicolon host) && not (has_semicolon service)

-- the state has a name, and the attempt 9 digits at most
abbrev pub is_plain_result : List ℕ → ℤ → ℕ → Bool
is_plain_result service state attempt =
    not (length (state_word service state) == 0) && nat_lt attempt 1000000000

-- a command's text is no field, and may have any characters
abbrev pub says_own_fields : Form → Bool
says_own_fields (form.External text) = true
says_own_fields (form.Alert host service state hard attempt output) =
    is_plain_object host service && is_plain_result service state attempt
says_own_fields (form.Downtime host service change) = is_plain_object host service

-- ---- what it says

abbrev pub kind_of_alert : List ℕ → Kind
kind_of_alert service = if has_no_service service then kind.HostAlert else kind.ServiceAlert

abbrev pub kind_of_downtime : List ℕ → Kind
kind_of_downtime service =
    if has_no_service service then kind.HostDowntimeAlert else kind.ServiceDowntimeAlert

abbrev pub downtime_word : DowntimeChange → List ℕ
downtime_word change.Started = codes "STARTED"
downtime_word change.Stopped = codes "STOPPED"
downtime_word change.Cancelled = codes "CANCELLED"

-- the comment that follows what happens to a downtime
abbrev pub host_comment : DowntimeChange → List ℕ
host_comment change.Started = codes " Host has entered a period of scheduled downtime"
host_comment change.Stopped = codes " Host has exited from a period of scheduled downtime"
host_comment change.Cancelled = codes " Scheduled downtime for host has been cancelled."

abbrev pub service_comment : DowntimeChange → List ℕ
service_comment change.Started = codes " Service has entered a period of scheduled downtime"
service_comment change.Stopped = codes " Service has exited from a period of scheduled downtime"
service_comment change.Cancelled = codes " Scheduled downtime for service has been cancelled."

abbrev pub downtime_comment : List ℕ → DowntimeChange → List ℕ
downtime_comment service change =
    if has_no_service service then host_comment change else service_comment change
