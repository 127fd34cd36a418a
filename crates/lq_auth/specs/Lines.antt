-- Who may see which lines of the log.
use Rattle.std.specs.Prelude.{◌==◌, ◌&&◌, ◌||◌, Bool, true, false, Option, Some, None}
use Rattle.lq_records.specs.declared.object.Object.{Object}
use Rattle.lq_events.specs.declared.log_entry.Kind.{Kind}
use Rattle.lq_events.specs.declared.log_entry.Kind.TheVariants as kind
use Rattle.lq_events.specs.declared.log_entry.LogEntry.{LogEntry}
use Rattle.lq_auth.specs.Rights.{sees_object}
use Rattle.lq_auth.specs.declared.view.View.{View}
use Rattle.lq_auth.specs.declared.view.View.TheVariants as view

abbrev pub is_transition : Kind → Bool
is_transition (kind.TimeperiodTransition name from to) = true
is_transition _ = false

-- Of the lines about no object of the base those of class 0 and 2 are seen by each contact, and
-- those by which a time period goes over.
abbrev pub is_open : LogEntry → Bool
is_open entry = entry.class == 0 || entry.class == 2 || is_transition entry.kind

-- A line by the object that it is about. A query without a user sees each; its user sees a line
-- about an object where the object is seen. One whom the base doesn't know sees none.
abbrev pub sees_line : View → Option Object → LogEntry → Bool
sees_line view.All about entry = true
sees_line (view.Only seen) (Some object) entry = sees_object (view.Only seen) object
sees_line (view.Only seen) None entry = seen.known && is_open entry
