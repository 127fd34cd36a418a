-- The state of the monitored objects, and the one in which each object is pending.
use Rattle.std.specs.Prelude.{ℕ, pos, Bool, true, Option, List, [], map}
use Rattle.std.specs.List.{slice_get, slice_set}
use Rattle.std.specs.Option.{option_map, option_map_or, option_and_then}
use Rattle.lq_records.specs.declared.base.Base.{Base}
use Rattle.lq_events.specs.declared.log_entry.LogEntry.{LogEntry}
use Rattle.lq_events.specs.declared.status.Status.{Status}
use Rattle.lq_events.specs.declared.status.Downtime.{Downtime}
use Rattle.lq_events.specs.declared.status.Comment.{Comment}
use Rattle.lq_records.specs.declared.object.Object.{Object}
use Rattle.lq_records.specs.declared.object.Object.TheVariants as object

-- What is known at one moment: the objects, the status of each host and of each service by its
-- place, the downtimes, comments and log entries, the present second, the ids that the next
-- downtime and the next comment get, and whether people are notified at all.
pub record State : Type 0 where
  pub base : Base
  pub host_status : List Status
  pub service_status : List Status
  pub downtimes : List Downtime
  pub comments : List Comment
  pub log : List LogEntry
  pub now : ℕ
  pub next_downtime : ℕ
  pub next_comment : ℕ
  pub notifications : Bool

-- a state, and how many updates led to it
pub record Counted : Type 0 where
  pub state : State
  pub count : ℕ

-- ---- before anything is known

-- the status of an object that was never checked
abbrev pub pending : ℕ → Status
pending notifications = record {
  state = pos 0;
  state_type = 1;
  has_been_checked = 0;
  current_attempt = 1;
  last_check = 0;
  last_state_change = 0;
  last_hard_state_change = 0;
  last_hard_state = pos 0;
  plugin_output = [];
  perf_data = [];
  acknowledged = 0;
  acknowledgement_type = 0;
  notifications_enabled = notifications;
}

-- each object pending, without a log
abbrev pub all_pending : Base → State
all_pending base = record {
  base = base;
  host_status = map (λ host. pending host.fields.notifications_enabled) base.hosts;
  service_status = map (λ service. pending service.fields.notifications_enabled) base.services;
  downtimes = [];
  comments = [];
  log = [];
  now = 0;
  next_downtime = 1;
  next_comment = 1;
  notifications = true;
}

-- ---- one object

-- the status of an object
abbrev pub object_status : State → Object → Option Status
object_status s (object.Host id) = slice_get s.host_status id.0
object_status s (object.Service id) = slice_get s.service_status id.0

-- the item at a place changed
abbrev pub changed_at : {X : Type 0} → (X → X) → ℕ → List X → List X
changed_at change place items =
    option_map_or (λ item. slice_set items place (change item)) (slice_get items place) items

-- the status of an object changed
abbrev pub with_status : (Status → Status) → Object → State → State
with_status change (object.Host id) s =
    record s { host_status = changed_at change id.0 s.host_status }
with_status change (object.Service id) s =
    record s { service_status = changed_at change id.0 s.service_status }

-- how a line names an object: its host, and its description where it is a service
pub record LineNames : Type 0 where
  pub host : List ℕ
  pub service : List ℕ

abbrev pub line_names : List ℕ → List ℕ → LineNames
line_names host service = record { host = host; service = service }

abbrev pub host_in_line : Base → ℕ → Option (List ℕ)
host_in_line base place = option_map (λ host. host.host_name) (slice_get base.hosts place)

-- None where the base doesn't hold the object
abbrev pub names_of : Base → Object → Option LineNames
names_of base (object.Host id) = option_map (λ name. line_names name []) (host_in_line base id.0)
names_of base (object.Service id) = option_and_then
    (λ service. option_map (λ name. line_names name service.service_description)
    (host_in_line base service.host.0))
    (slice_get base.services id.0)
