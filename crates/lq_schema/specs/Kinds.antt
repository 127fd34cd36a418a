-- What the values of each column are.
use Rattle.lq_schema.specs.Object.{object_heading}
use Rattle.lq_schema.specs.Status.{status_heading}
use Rattle.lq_schema.specs.Host.{host_heading}
use Rattle.lq_schema.specs.Service.{service_heading}
use Rattle.lq_schema.specs.HostGroup.{host_group_heading}
use Rattle.lq_schema.specs.ServiceGroup.{service_group_heading}
use Rattle.lq_schema.specs.Contact.{contact_heading}
use Rattle.lq_schema.specs.ContactGroup.{contact_group_heading}
use Rattle.lq_schema.specs.Command.{command_heading}
use Rattle.lq_schema.specs.Period.{period_heading}
use Rattle.lq_schema.specs.Downtime.{downtime_heading}
use Rattle.lq_schema.specs.Comment.{comment_heading}
use Rattle.lq_schema.specs.Line.{line_heading}
use Rattle.lq_schema.specs.Slice.{slice_heading}
use Rattle.lq_schema.specs.Program.{program_heading}
use Rattle.lq_schema.specs.SchemaColumn.{schema_heading}
use Rattle.lq_schema.specs.Order.{own_heading}
use Rattle.lq_schema.specs.declared.object.ObjectColumn.{ObjectColumn}
use Rattle.lq_schema.specs.declared.status.StatusColumn.{StatusColumn}
use Rattle.lq_schema.specs.declared.host.HostColumn.{HostColumn}
use Rattle.lq_schema.specs.declared.service.ServiceColumn.{ServiceColumn}
use Rattle.lq_schema.specs.declared.host_group.HostGroupColumn.{HostGroupColumn}
use Rattle.lq_schema.specs.declared.service_group.ServiceGroupColumn.{ServiceGroupColumn}
use Rattle.lq_schema.specs.declared.contact.ContactColumn.{ContactColumn}
use Rattle.lq_schema.specs.declared.contact_group.ContactGroupColumn.{ContactGroupColumn}
use Rattle.lq_schema.specs.declared.command.CommandColumn.{CommandColumn}
use Rattle.lq_schema.specs.declared.period.PeriodColumn.{PeriodColumn}
use Rattle.lq_schema.specs.declared.downtime.DowntimeColumn.{DowntimeColumn}
use Rattle.lq_schema.specs.declared.comment.CommentColumn.{CommentColumn}
use Rattle.lq_schema.specs.declared.line.LineColumn.{LineColumn}
use Rattle.lq_schema.specs.declared.slice.SliceColumn.{SliceColumn}
use Rattle.lq_schema.specs.declared.program.ProgramColumn.{ProgramColumn}
use Rattle.lq_schema.specs.declared.schema_column.SchemaColumn.{SchemaColumn}
use Rattle.lq_schema.specs.declared.columns.OwnColumn.{OwnColumn}
use Rattle.lq_schema.specs.declared.columns.ColKind.{ColKind}

abbrev pub object_kind : ObjectColumn → ColKind
object_kind column = (object_heading column).kind

abbrev pub status_kind : StatusColumn → ColKind
status_kind column = (status_heading column).kind

abbrev pub host_kind : HostColumn → ColKind
host_kind column = (host_heading column).kind

abbrev pub service_kind : ServiceColumn → ColKind
service_kind column = (service_heading column).kind

abbrev pub host_group_kind : HostGroupColumn → ColKind
host_group_kind column = (host_group_heading column).kind

abbrev pub service_group_kind : ServiceGroupColumn → ColKind
service_group_kind column = (service_group_heading column).kind

abbrev pub contact_kind : ContactColumn → ColKind
contact_kind column = (contact_heading column).kind

abbrev pub contact_group_kind : ContactGroupColumn → ColKind
contact_group_kind column = (contact_group_heading column).kind

abbrev pub command_kind : CommandColumn → ColKind
command_kind column = (command_heading column).kind

abbrev pub period_kind : PeriodColumn → ColKind
period_kind column = (period_heading column).kind

abbrev pub downtime_kind : DowntimeColumn → ColKind
downtime_kind column = (downtime_heading column).kind

abbrev pub comment_kind : CommentColumn → ColKind
comment_kind column = (comment_heading column).kind

abbrev pub line_kind : LineColumn → ColKind
line_kind column = (line_heading column).kind

abbrev pub slice_kind : SliceColumn → ColKind
slice_kind column = (slice_heading column).kind

abbrev pub program_kind : ProgramColumn → ColKind
program_kind column = (program_heading column).kind

abbrev pub schema_kind : SchemaColumn → ColKind
schema_kind column = (schema_heading column).kind

abbrev pub own_kind : OwnColumn → ColKind
own_kind column = (own_heading column).kind
