-- The columns on a command.
use Rattle.std.specs.Prelude.{List, codes, [], ◌∷◌}
use Rattle.lq_schema.specs.Heading.{Heading, heading}
use Rattle.lq_schema.specs.declared.command.CommandColumn.{CommandColumn}
use Rattle.lq_schema.specs.declared.command.CommandColumn.TheVariants as command
use Rattle.lq_schema.specs.declared.columns.ColKind.TheVariants as kind

abbrev pub command_heading : CommandColumn → Heading
command_heading command.Name = heading (codes "name") kind.Str
command_heading command.Line = heading (codes "line") kind.Str

-- in order
abbrev pub command_columns : List CommandColumn
command_columns =
    command.Name ∷ command.Line ∷ []
