-- The values of the columns on contacts, commands, time periods, downtimes, comments, lines of the
-- log, the program and the schema.
use Rattle.std.specs.Prelude.{ℕ, Option, Some, None, List, length, codes}
use Rattle.lq_records.specs.Places.{all_found_at, field_at}
use Rattle.lq_records.specs.declared.base.Base.{Base}
use Rattle.lq_records.specs.declared.base.Command.{Command}
use Rattle.lq_records.specs.declared.base.Contact.{Contact}
use Rattle.lq_records.specs.declared.base.Period.{Period}
use Rattle.lq_records.specs.declared.base.Service.{Service}
use Rattle.lq_schema.specs.declared.columns.ColKind.{ColKind}
use Rattle.lq_schema.specs.declared.columns.ColKind.TheVariants as kind
use Rattle.lq_schema.specs.declared.command.CommandColumn.{CommandColumn}
use Rattle.lq_schema.specs.declared.command.CommandColumn.TheVariants as command
use Rattle.lq_schema.specs.declared.comment.CommentColumn.{CommentColumn}
use Rattle.lq_schema.specs.declared.comment.CommentColumn.TheVariants as comment
use Rattle.lq_schema.specs.declared.contact.ContactColumn.{ContactColumn}
use Rattle.lq_schema.specs.declared.contact.ContactColumn.TheVariants as contact
use Rattle.lq_schema.specs.declared.downtime.DowntimeColumn.{DowntimeColumn}
use Rattle.lq_schema.specs.declared.downtime.DowntimeColumn.TheVariants as downtime
use Rattle.lq_schema.specs.declared.line.LineColumn.{LineColumn}
use Rattle.lq_schema.specs.declared.line.LineColumn.TheVariants as line
use Rattle.lq_schema.specs.declared.period.PeriodColumn.{PeriodColumn}
use Rattle.lq_schema.specs.declared.period.PeriodColumn.TheVariants as period
use Rattle.lq_schema.specs.declared.program.ProgramColumn.{ProgramColumn}
use Rattle.lq_schema.specs.declared.program.ProgramColumn.TheVariants as program
use Rattle.lq_schema.specs.declared.schema_column.SchemaColumn.{SchemaColumn}
use Rattle.lq_schema.specs.declared.schema_column.SchemaColumn.TheVariants as schema
use Rattle.lq_records.specs.declared.ids.ServiceId.{ServiceId}
use Rattle.lq_events.specs.declared.log_entry.LogEntry.{LogEntry}
use Rattle.lq_events.specs.declared.status.Comment.{Comment}
use Rattle.lq_events.specs.declared.status.Downtime.{Downtime}
use Rattle.lq_schema.specs.Kinds.{command_kind, comment_kind, contact_kind, downtime_kind}
use Rattle.lq_schema.specs.Kinds.{line_kind, own_kind, period_kind, program_kind, schema_kind}
use Rattle.lq_schema.specs.Names.{full_name, table_name}
use Rattle.lq_schema.specs.Value.{Value, Number, Words, empty_value}
use Rattle.lq_log.specs.LastTold.{is_period_on}
use Rattle.lq_log.specs.Types.{line_options, line_type}
use Rattle.lq_live.specs.State.{State}
use Rattle.lq_columns.specs.Cells.{flag, natural}
use Rattle.lq_records.specs.Object.{is_same_kind, kind_of}
use Rattle.lq_records.specs.declared.object.Object.{Object}
use Rattle.lq_records.specs.declared.object.ObjectKind.TheVariants as object_kind
use Rattle.lq_tables.specs.declared.row.Row.{Row}
use Rattle.lq_tables.specs.declared.row.Row.TheVariants as row
use Rattle.lq_tables.specs.declared.schema.Entry.{Entry}

-- 1 for a service, 0 for a host
abbrev pub service_flag : Object → Value
service_flag about = flag (is_same_kind (kind_of about) object_kind.Service)

-- ---- contacts, commands and time periods

abbrev pub contact_cell : Option Contact → ContactColumn → Value
contact_cell None column = empty_value (contact_kind column)
contact_cell (Some item) contact.Name = Words item.contact_name
contact_cell (Some item) contact.Alias = Words item.alias
contact_cell (Some item) contact.Email = Words item.email
contact_cell (Some item) contact.Pager = Words item.pager
contact_cell (Some item) contact.HostNotificationPeriod = Words item.host_notification_period
contact_cell (Some item) contact.ServiceNotificationPeriod = Words item.service_notification_period

abbrev pub command_cell : Option Command → CommandColumn → Value
command_cell None column = empty_value (command_kind column)
command_cell (Some item) command.Name = Words item.command_name
command_cell (Some item) command.Line = Words item.command_line

-- whether a period is on follows the log
abbrev pub period_cell : State → Option Period → PeriodColumn → Value
period_cell s None column = empty_value (period_kind column)
period_cell s (Some item) period.Name = Words item.timeperiod_name
period_cell s (Some item) period.Alias = Words item.alias
period_cell s (Some item) period.In = flag (is_period_on s.log item.timeperiod_name)

-- ---- downtimes and comments

-- each downtime is fixed, and none is triggered by another
abbrev pub downtime_cell : Option Downtime → DowntimeColumn → Value
downtime_cell None column = empty_value (downtime_kind column)
downtime_cell (Some item) downtime.Id = natural item.id
downtime_cell (Some item) downtime.Author = Words item.author
downtime_cell (Some item) downtime.Comment = Words item.comment
downtime_cell (Some item) downtime.EntryTime = natural item.entry_time
downtime_cell (Some item) downtime.StartTime = natural item.start
downtime_cell (Some item) downtime.EndTime = natural item.end
downtime_cell (Some item) downtime.Fixed = natural 1
downtime_cell (Some item) downtime.Duration = natural item.duration
downtime_cell (Some item) downtime.TriggeredBy = natural 0
downtime_cell (Some item) downtime.IsService = service_flag item.object

abbrev pub comment_cell : Option Comment → CommentColumn → Value
comment_cell None column = empty_value (comment_kind column)
comment_cell (Some item) comment.Id = natural item.id
comment_cell (Some item) comment.Author = Words item.author
comment_cell (Some item) comment.Comment = Words item.text
comment_cell (Some item) comment.EntryTime = natural item.time
comment_cell (Some item) comment.EntryType = natural item.entry_type
comment_cell (Some item) comment.Persistent = natural item.persistent
comment_cell (Some item) comment.IsService = service_flag item.object

-- ---- lines of the log

abbrev pub line_cell : Option LogEntry → LineColumn → Value
line_cell None column = empty_value (line_kind column)
line_cell (Some item) line.Time = natural item.time
line_cell (Some item) line.Class = natural item.class
line_cell (Some item) line.Type = Words (line_type item)
line_cell (Some item) line.Message = Words item.message
line_cell (Some item) line.Options = Words (line_options item)
line_cell (Some item) line.Comment = Words item.comment
line_cell (Some item) line.PluginOutput = Words item.output
line_cell (Some item) line.State = Number item.state
line_cell (Some item) line.StateType = Words item.word
line_cell (Some item) line.Attempt = natural item.attempt
line_cell (Some item) line.ContactName = Words item.contact
line_cell (Some item) line.CommandName = Words item.command
line_cell (Some item) line.HostName = Words item.host
line_cell (Some item) line.ServiceDescription = Words item.service

-- ---- the program and the schema

abbrev pub program_cell : State → ProgramColumn → Value
program_cell s program.ProgramVersion = Words (codes "lqd 1")
program_cell s program.EnableNotifications = flag s.notifications
program_cell s program.NumHosts = natural (length s.base.hosts)
program_cell s program.NumServices = natural (length s.base.services)
program_cell s program.PresentSecond = natural s.now

-- the status table has the program's one row
abbrev pub program_part : State → Row → ProgramColumn → Value
program_part s row.Status column = program_cell s column
program_part s row column = empty_value (program_kind column)

abbrev pub type_name : ColKind → List ℕ
type_name kind.Int = codes "int"
type_name kind.Str = codes "string"
type_name kind.List = codes "list"
type_name kind.Nums = codes "list"
type_name kind.Pairs = codes "list"

-- a column is described by its name
abbrev pub schema_cell : Option Entry → SchemaColumn → Value
schema_cell None column = empty_value (schema_kind column)
schema_cell (Some entry) schema.Table = Words (table_name entry.table)
schema_cell (Some entry) schema.Name = Words (full_name entry.column)
schema_cell (Some entry) schema.Type = Words (type_name (own_kind entry.column.own))
schema_cell (Some entry) schema.Description = Words (full_name entry.column)

-- ---- services as pairs

-- the names of a service: its host's, and its description
abbrev pub pair_of : Base → Service → Option (List ℕ × List ℕ)
pair_of base service =
    field_at (λ host. (host.host_name, service.service_description)) base.hosts service.host.0

-- those of services, by their ids
abbrev pub pairs_of : Base → List ServiceId → List (List ℕ × List ℕ)
pairs_of base ids = all_found_at (pair_of base) base.services (λ id. id.0) ids
