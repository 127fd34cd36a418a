-- When two states are the same to a contact, and that it then gets the same replies.
use Rattle.std.specs.Prelude.{◌≡◌, ℕ, ◌&&◌, ◌||◌, Bool, true, Some, List, filter}
use Rattle.std.specs.List.{list_any, slice_get}
use Rattle.std.specs.Option.{option_map_or}
use Rattle.lq_records.specs.declared.base.Base.{Base}
use Rattle.lq_records.specs.declared.ids.HostId.{HostId}
use Rattle.lq_records.specs.declared.ids.ServiceId.{ServiceId}
use Rattle.lq_records.specs.declared.object.Object.{Object}
use Rattle.lq_records.specs.declared.object.Object.TheVariants as object
use Rattle.lq_events.specs.declared.log_entry.LogEntry.{LogEntry}
use Rattle.lq_log.specs.Told.{object_of}
use Rattle.lq_live.specs.Ids.{HasRisingIds}
use Rattle.lq_live.specs.State.{State}
use Rattle.lq_auth.specs.Rights.{sees_host, sees_service, sees_service_at, view_of}
use Rattle.lq_auth.specs.Lines.{is_open}
use Rattle.lq_auth.specs.declared.view.View.{View}
use Rattle.lq_auth.specs.declared.view.View.TheVariants as view
use Rattle.lq_columns.specs.Counts.{service_places}
use Rattle.lq_columns.specs.Names.{is_service_of}
use Rattle.lq_request.specs.declared.request.Request.{Request}
use Rattle.lq_query.specs.Answer.{answer_of}

-- Whether a query learns of an object: a service that it sees, a host that it sees, and the host of
-- a service that it sees, whose columns stand in the service's row.
abbrev pub is_shown : Base → View → Object → Bool
is_shown base view (object.Host id) =
    sees_host view id
    || list_any (λ place. sees_service_at view place && is_service_of base id place)
    (service_places base)
is_shown base view (object.Service id) = sees_service view id

-- Whether a query learns of a line of the log: a line about an object of which it learns, and of
-- those about none the lines that each contact sees.
abbrev pub is_line_shown : Base → View → LogEntry → Bool
is_line_shown base view.All entry = true
is_line_shown base (view.Only seen) entry =
    option_map_or (is_shown base (view.Only seen)) (object_of base entry) (is_open entry)

-- two states are the same in all that a view shows
pub record AgreesIn (view : View) (s t : State) : Type 0 where
  pub base : s.base ≡ t.base
  pub now : s.now ≡ t.now
  pub notifications : s.notifications ≡ t.notifications
  pub hosts : (id : HostId) → is_shown s.base view (object.Host id) ≡ true
      → slice_get s.host_status id.0 ≡ slice_get t.host_status id.0
  pub services : (id : ServiceId) → is_shown s.base view (object.Service id) ≡ true
      → slice_get s.service_status id.0 ≡ slice_get t.service_status id.0
  pub downtimes : filter (λ downtime. is_shown s.base view downtime.object) s.downtimes
      ≡ filter (λ downtime. is_shown s.base view downtime.object) t.downtimes
  pub comments : filter (λ comment. is_shown s.base view comment.object) s.comments
      ≡ filter (λ comment. is_shown s.base view comment.object) t.comments
  pub lines : filter (is_line_shown s.base view) s.log ≡ filter (is_line_shown s.base view) t.log

-- the same to a user: the objects, the present second and the switch of notifications, the statuses
-- of the hosts and services that it sees and of the hosts of those services, the downtimes and
-- comments on these, the lines of the log about these, and those about none that are open to all
abbrev pub Agrees : List ℕ → State → State → Type 0
Agrees user s t = AgreesIn (view_of s.base (Some user)) s t

-- Whatever a query of a user asks, states that agree for that user give it the same reply. In a
-- state the ids of downtimes rise, and those of comments, as they do in each one that is reached.
abbrev pub IsIsolated : Type 0
IsIsolated = (user : List ℕ) (s t : State) (request : Request) → HasRisingIds s → HasRisingIds t
    → request.user ≡ Some user → Agrees user s t → answer_of request s ≡ answer_of request t
