-- What a line tells, and which object it is about.
use Rattle.std.specs.Prelude.{ℕ, pos, Bool, Option, Some, None, List, bytes_eq, codes}
use Rattle.std.specs.Option.{option_map}
use Rattle.std.specs.Ordering.{int_eq}
use Rattle.lq_records.specs.Named.{host_named, service_named}
use Rattle.lq_records.specs.declared.base.Base.{Base}
use Rattle.lq_records.specs.declared.object.Object.{Object}
use Rattle.lq_records.specs.declared.object.Object.TheVariants as object
use Rattle.lq_records.specs.declared.object.ObjectKind.{ObjectKind}
use Rattle.lq_records.specs.declared.object.ObjectKind.TheVariants as object_kind
use Rattle.lq_events.specs.declared.log_entry.Kind.{Kind}
use Rattle.lq_events.specs.declared.log_entry.Kind.TheVariants as kind
use Rattle.lq_events.specs.declared.log_entry.LogEntry.{LogEntry}
use Rattle.lq_log.specs.declared.telling.Told.{Told}
use Rattle.lq_log.specs.declared.telling.Told.TheVariants as told

-- ---- what a line tells

abbrev pub is_hard : List ℕ → Bool
is_hard word = bytes_eq word (codes "HARD")

-- a downtime or flapping goes on from the line on
abbrev pub has_started : List ℕ → Bool
has_started word = bytes_eq word (codes "STARTED")

-- A state or alert line tells a state, whose number, attempt and output the entry has. A line of a
-- downtime or of flapping tells whether it has started; one of a time period whether the period is
-- on. Any other line tells nothing of the kind.
abbrev pub told_as : LogEntry → Kind → Option Told
told_as entry kind.HostAlert = Some (told.State (is_hard entry.word))
told_as entry kind.ServiceAlert = Some (told.State (is_hard entry.word))
told_as entry kind.CurrentHostState = Some (told.State (is_hard entry.word))
told_as entry kind.InitialHostState = Some (told.State (is_hard entry.word))
told_as entry kind.CurrentServiceState = Some (told.State (is_hard entry.word))
told_as entry kind.InitialServiceState = Some (told.State (is_hard entry.word))
told_as entry kind.HostDowntimeAlert = Some (told.Downtime (has_started entry.word))
told_as entry kind.ServiceDowntimeAlert = Some (told.Downtime (has_started entry.word))
told_as entry kind.HostFlappingAlert = Some (told.Flapping (has_started entry.word))
told_as entry kind.ServiceFlappingAlert = Some (told.Flapping (has_started entry.word))
told_as entry (kind.TimeperiodTransition name from to) = Some (told.Period (int_eq to (pos 1)))
told_as entry _ = None

abbrev pub told_by : LogEntry → Option Told
told_by entry = told_as entry entry.kind

-- ---- which object a line is about

-- whether lines of a form name a host or a service
abbrev pub form_subject : Kind → Option ObjectKind
form_subject kind.HostAlert = Some object_kind.Host
form_subject kind.CurrentHostState = Some object_kind.Host
form_subject kind.InitialHostState = Some object_kind.Host
form_subject kind.HostDowntimeAlert = Some object_kind.Host
form_subject kind.HostFlappingAlert = Some object_kind.Host
form_subject kind.HostNotification = Some object_kind.Host
form_subject kind.PassiveHostCheck = Some object_kind.Host
form_subject kind.ServiceAlert = Some object_kind.Service
form_subject kind.CurrentServiceState = Some object_kind.Service
form_subject kind.InitialServiceState = Some object_kind.Service
form_subject kind.ServiceDowntimeAlert = Some object_kind.Service
form_subject kind.ServiceFlappingAlert = Some object_kind.Service
form_subject kind.ServiceNotification = Some object_kind.Service
form_subject kind.PassiveServiceCheck = Some object_kind.Service
form_subject _ = None

abbrev pub object_named : Base → LogEntry → Option ObjectKind → Option Object
object_named base entry None = None
object_named base entry (Some object_kind.Host) =
    option_map object.Host (host_named base.hosts entry.host)
object_named base entry (Some object_kind.Service) =
    option_map object.Service (service_named base.services entry.host entry.service)

-- The object of a base that a line is about: the one that its form names, where the base has it. A
-- line of an external command is about none.
abbrev pub object_of : Base → LogEntry → Option Object
object_of base entry = object_named base entry (form_subject entry.kind)
