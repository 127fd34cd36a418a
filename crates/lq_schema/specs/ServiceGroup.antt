-- The columns on a group of services.
use Rattle.std.specs.Prelude.{List, codes, [], ◌∷◌, ◌++◌, map}
use Rattle.lq_schema.specs.Heading.{Heading, heading}
use Rattle.lq_schema.specs.ServiceCounter.{service_counter_heading, service_counters}
use Rattle.lq_schema.specs.declared.service_group.ServiceGroupColumn.{ServiceGroupColumn}
use Rattle.lq_schema.specs.declared.service_group.ServiceGroupColumn.TheVariants as service_group
use Rattle.lq_schema.specs.declared.columns.ColKind.TheVariants as kind

abbrev pub service_group_heading : ServiceGroupColumn → Heading
service_group_heading service_group.Name = heading (codes "name") kind.Str
service_group_heading service_group.Alias = heading (codes "alias") kind.Str
service_group_heading service_group.Notes = heading (codes "notes") kind.Str
service_group_heading service_group.NotesUrl = heading (codes "notes_url") kind.Str
service_group_heading service_group.ActionUrl = heading (codes "action_url") kind.Str
service_group_heading service_group.Members = heading (codes "members") kind.Pairs
service_group_heading (service_group.Services column) = service_counter_heading column

-- in order
abbrev pub service_group_columns : List ServiceGroupColumn
service_group_columns =
    (service_group.Name ∷ service_group.Alias ∷ service_group.Notes ∷ service_group.NotesUrl
    ∷ service_group.ActionUrl ∷ service_group.Members ∷ [])
    ++ map service_group.Services service_counters
