-- The lines that the program writes.
use Rattle.std.specs.Prelude.{ℕ, Bool, List, ◌++◌, length, unwrap_or, codes, ◌==◌, if◌then◌else◌, ℤ}
use Rattle.std.specs.Prelude.{[]}
use Rattle.std.specs.Fmt.{decimal}
use Rattle.lq_events.specs.declared.log_entry.LogEntry.{LogEntry}
use Rattle.lq_log.specs.Entries.{entry_of_text}
use Rattle.lq_log.specs.Fields.{host_states, name_of_state, service_states}
use Rattle.lq_log.specs.declared.written.DowntimeChange.{DowntimeChange}
use Rattle.lq_log.specs.declared.written.DowntimeChange.TheVariants as change
use Rattle.lq_log.specs.declared.written.Form.{Form}
use Rattle.lq_log.specs.declared.written.Form.TheVariants as form

-- ---- the text of a form

-- a host's form stands where the service is empty
abbrev pub has_no_service : List ℕ → Bool
has_no_service service = length service == 0

-- the host, and a service's description after it
unfoldable pub object_text : List ℕ → List ℕ → List ℕ
object_text host service = if has_no_service service then host else host ++ codes ";" ++ service

-- a field that follows another one
abbrev pub next_field : List ℕ → List ℕ
next_field text = codes ";" ++ text

abbrev pub alert_name : List ℕ → List ℕ
alert_name service =
    if has_no_service service then codes "HOST ALERT: " else codes "SERVICE ALERT: "

abbrev pub states_of : List ℕ → List (List ℕ × ℤ)
states_of service = if has_no_service service then host_states else service_states

abbrev pub state_word : List ℕ → ℤ → List ℕ
state_word service state = unwrap_or (name_of_state (states_of service) state) []

abbrev pub type_word : Bool → List ℕ
type_word hard = if hard then codes "HARD" else codes "SOFT"

abbrev pub downtime_name : List ℕ → List ℕ
downtime_name service =
    if has_no_service service then codes "HOST DOWNTIME ALERT: "
    else codes "SERVICE DOWNTIME ALERT: "

-- what happens to a downtime, and the comment that follows it
abbrev pub host_downtime : DowntimeChange → List ℕ
host_downtime change.Started = codes "STARTED; Host has entered a period of scheduled downtime"
host_downtime change.Stopped = codes "STOPPED; Host has exited from a period of scheduled downtime"
host_downtime change.Cancelled = codes "CANCELLED; Scheduled downtime for host has been cancelled."

abbrev pub service_downtime : DowntimeChange → List ℕ
service_downtime change.Started =
    codes "STARTED; Service has entered a period of scheduled downtime"
service_downtime change.Stopped =
    codes "STOPPED; Service has exited from a period of scheduled downtime"
service_downtime change.Cancelled =
    codes "CANCELLED; Scheduled downtime for service has been cancelled."

abbrev pub downtime_fields : List ℕ → DowntimeChange → List ℕ
downtime_fields service change =
    if has_no_service service then host_downtime change else service_downtime change

unfoldable pub form_text : Form → List ℕ
form_text (form.External text) = codes "EXTERNAL COMMAND: " ++ text
form_text (form.Alert host service state hard attempt output) =
    alert_name service ++ object_text host service ++ next_field (state_word service state)
    ++ next_field (type_word hard) ++ next_field (decimal attempt) ++ next_field output
form_text (form.Downtime host service change) =
    downtime_name service ++ object_text host service
    ++ next_field (downtime_fields service change)

-- ---- the entry

-- the line of a text, with its second
unfoldable pub line_at_second : ℕ → List ℕ → List ℕ
line_at_second time text = codes "[" ++ decimal time ++ codes "] " ++ text

-- the entry of a form at a second: what its text says, and the whole line
abbrev pub entry_of_form : ℕ → Form → LogEntry
entry_of_form time form =
    record (entry_of_text (form_text form))
    { time = time; message = line_at_second time (form_text form) }
