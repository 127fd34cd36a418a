-- The columns of each subject: what is said of each, and their order.
use Rattle.std.specs.Prelude.{List, map}
use Rattle.lq_schema.specs.Heading.{Heading}
use Rattle.lq_schema.specs.Host.{host_heading, host_columns}
use Rattle.lq_schema.specs.Service.{service_heading, service_columns}
use Rattle.lq_schema.specs.HostGroup.{host_group_heading, host_group_columns}
use Rattle.lq_schema.specs.ServiceGroup.{service_group_heading, service_group_columns}
use Rattle.lq_schema.specs.Contact.{contact_heading, contact_columns}
use Rattle.lq_schema.specs.ContactGroup.{contact_group_heading, contact_group_columns}
use Rattle.lq_schema.specs.Command.{command_heading, command_columns}
use Rattle.lq_schema.specs.Period.{period_heading, period_columns}
use Rattle.lq_schema.specs.Downtime.{downtime_heading, downtime_columns}
use Rattle.lq_schema.specs.Comment.{comment_heading, comment_columns}
use Rattle.lq_schema.specs.Line.{line_heading, line_columns}
use Rattle.lq_schema.specs.Slice.{slice_heading, slice_columns}
use Rattle.lq_schema.specs.Program.{program_heading, program_columns}
use Rattle.lq_schema.specs.SchemaColumn.{schema_heading, schema_columns}
use Rattle.lq_schema.specs.declared.columns.Subject.{Subject}
use Rattle.lq_schema.specs.declared.columns.Subject.TheVariants as subject
use Rattle.lq_schema.specs.declared.columns.OwnColumn.{OwnColumn}
use Rattle.lq_schema.specs.declared.columns.OwnColumn.TheVariants as own

abbrev pub own_heading : OwnColumn → Heading
own_heading (own.Host column) = host_heading column
own_heading (own.Service column) = service_heading column
own_heading (own.HostGroup column) = host_group_heading column
own_heading (own.ServiceGroup column) = service_group_heading column
own_heading (own.Contact column) = contact_heading column
own_heading (own.ContactGroup column) = contact_group_heading column
own_heading (own.Command column) = command_heading column
own_heading (own.Period column) = period_heading column
own_heading (own.Downtime column) = downtime_heading column
own_heading (own.Comment column) = comment_heading column
own_heading (own.Line column) = line_heading column
own_heading (own.Slice column) = slice_heading column
own_heading (own.Program column) = program_heading column
own_heading (own.Schema column) = schema_heading column

-- in order
abbrev pub own_columns : Subject → List OwnColumn
own_columns subject.Host = map own.Host host_columns
own_columns subject.Service = map own.Service service_columns
own_columns subject.HostGroup = map own.HostGroup host_group_columns
own_columns subject.ServiceGroup = map own.ServiceGroup service_group_columns
own_columns subject.Contact = map own.Contact contact_columns
own_columns subject.ContactGroup = map own.ContactGroup contact_group_columns
own_columns subject.Command = map own.Command command_columns
own_columns subject.Period = map own.Period period_columns
own_columns subject.Downtime = map own.Downtime downtime_columns
own_columns subject.Comment = map own.Comment comment_columns
own_columns subject.Line = map own.Line line_columns
own_columns subject.Slice = map own.Slice slice_columns
own_columns subject.Program = map own.Program program_columns
own_columns subject.Schema = map own.Schema schema_columns
