-- The columns on a group of hosts.
use Rattle.std.specs.Prelude.{List, codes, [], ◌∷◌, ◌++◌, map}
use Rattle.lq_schema.specs.Heading.{Heading, heading}
use Rattle.lq_schema.specs.HostCounter.{host_counter_heading, host_counters}
use Rattle.lq_schema.specs.ServiceCounter.{service_counter_heading, service_counters}
use Rattle.lq_schema.specs.declared.host_group.HostGroupColumn.{HostGroupColumn}
use Rattle.lq_schema.specs.declared.host_group.HostGroupColumn.TheVariants as host_group
use Rattle.lq_schema.specs.declared.columns.ColKind.TheVariants as kind

abbrev pub host_group_heading : HostGroupColumn → Heading
host_group_heading host_group.Name = heading (codes "name") kind.Str
host_group_heading host_group.Alias = heading (codes "alias") kind.Str
host_group_heading host_group.Notes = heading (codes "notes") kind.Str
host_group_heading host_group.NotesUrl = heading (codes "notes_url") kind.Str
host_group_heading host_group.ActionUrl = heading (codes "action_url") kind.Str
host_group_heading host_group.Members = heading (codes "members") kind.List
host_group_heading (host_group.Hosts column) = host_counter_heading column
host_group_heading (host_group.Services column) = service_counter_heading column

-- in order
abbrev pub host_group_columns : List HostGroupColumn
host_group_columns =
    (host_group.Name ∷ host_group.Alias ∷ host_group.Notes ∷ host_group.NotesUrl
    ∷ host_group.ActionUrl ∷ host_group.Members ∷ [])
    ++ map host_group.Hosts host_counters
    ++ map host_group.Services service_counters
