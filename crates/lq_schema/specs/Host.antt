-- The columns on a host.
use Rattle.std.specs.Prelude.{List, codes, [], ◌∷◌, ◌++◌, map}
use Rattle.lq_schema.specs.Heading.{Heading, heading}
use Rattle.lq_schema.specs.Object.{object_heading, object_columns}
use Rattle.lq_schema.specs.Status.{status_heading, status_columns}
use Rattle.lq_schema.specs.ServiceCounter.{service_counter_heading, service_counters}
use Rattle.lq_schema.specs.declared.host.HostColumn.{HostColumn}
use Rattle.lq_schema.specs.declared.host.HostColumn.TheVariants as host
use Rattle.lq_schema.specs.declared.columns.ColKind.TheVariants as kind

abbrev pub host_heading : HostColumn → Heading
host_heading host.Name = heading (codes "name") kind.Str
host_heading host.Alias = heading (codes "alias") kind.Str
host_heading host.Address = heading (codes "address") kind.Str
host_heading (host.Object column) = object_heading column
host_heading host.Parents = heading (codes "parents") kind.List
host_heading host.Childs = heading (codes "childs") kind.List
host_heading host.Services = heading (codes "services") kind.List
host_heading (host.Status column) = status_heading column
host_heading (host.Counter column) = service_counter_heading column

-- ---- in order

-- the columns before those of the object
abbrev pub host_front : List HostColumn
host_front = host.Name ∷ host.Alias ∷ host.Address ∷ []

-- the columns between those of the object and those of the status
abbrev pub host_links : List HostColumn
host_links = host.Parents ∷ host.Childs ∷ host.Services ∷ []

abbrev pub host_columns : List HostColumn
host_columns =
    host_front
    ++ map host.Object object_columns
    ++ host_links
    ++ map host.Status status_columns
    ++ map host.Counter service_counters
