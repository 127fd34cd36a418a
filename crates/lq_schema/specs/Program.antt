-- The columns on the program as a whole.
use Rattle.std.specs.Prelude.{List, codes, [], ◌∷◌}
use Rattle.lq_schema.specs.Heading.{Heading, heading}
use Rattle.lq_schema.specs.declared.program.ProgramColumn.{ProgramColumn}
use Rattle.lq_schema.specs.declared.program.ProgramColumn.TheVariants as program
use Rattle.lq_schema.specs.declared.columns.ColKind.TheVariants as kind

abbrev pub program_heading : ProgramColumn → Heading
program_heading program.ProgramVersion = heading (codes "program_version") kind.Str
program_heading program.EnableNotifications = heading (codes "enable_notifications") kind.Int
program_heading program.NumHosts = heading (codes "num_hosts") kind.Int
program_heading program.NumServices = heading (codes "num_services") kind.Int
program_heading program.PresentSecond = heading (codes "present_second") kind.Int

-- in order
abbrev pub program_columns : List ProgramColumn
program_columns =
    program.ProgramVersion ∷ program.EnableNotifications ∷ program.NumHosts
    ∷ program.NumServices ∷ program.PresentSecond ∷ []
