-- The columns on a line of the log.
use Rattle.std.specs.Prelude.{List, codes, [], ◌∷◌}
use Rattle.lq_schema.specs.Heading.{Heading, heading}
use Rattle.lq_schema.specs.declared.line.LineColumn.{LineColumn}
use Rattle.lq_schema.specs.declared.line.LineColumn.TheVariants as line
use Rattle.lq_schema.specs.declared.columns.ColKind.TheVariants as kind

abbrev pub line_heading : LineColumn → Heading
line_heading line.Time = heading (codes "time") kind.Int
line_heading line.Class = heading (codes "class") kind.Int
line_heading line.Type = heading (codes "type") kind.Str
line_heading line.Message = heading (codes "message") kind.Str
line_heading line.Options = heading (codes "options") kind.Str
line_heading line.Comment = heading (codes "comment") kind.Str
line_heading line.PluginOutput = heading (codes "plugin_output") kind.Str
line_heading line.State = heading (codes "state") kind.Int
line_heading line.StateType = heading (codes "state_type") kind.Str
line_heading line.Attempt = heading (codes "attempt") kind.Int
line_heading line.ContactName = heading (codes "contact_name") kind.Str
line_heading line.CommandName = heading (codes "command_name") kind.Str
line_heading line.HostName = heading (codes "host_name") kind.Str
line_heading line.ServiceDescription = heading (codes "service_description") kind.Str

-- in order
abbrev pub line_columns : List LineColumn
line_columns =
    line.Time ∷ line.Class ∷ line.Type ∷ line.Message ∷ line.Options ∷ line.Comment
    ∷ line.PluginOutput ∷ line.State ∷ line.StateType ∷ line.Attempt ∷ line.ContactName
    ∷ line.CommandName ∷ line.HostName ∷ line.ServiceDescription ∷ []
