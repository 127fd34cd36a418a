-- The columns on a service.
use Rattle.std.specs.Prelude.{List, codes, [], ◌∷◌, ◌++◌, map}
use Rattle.lq_schema.specs.Heading.{Heading, heading}
use Rattle.lq_schema.specs.Object.{object_heading, object_columns}
use Rattle.lq_schema.specs.Status.{status_heading, status_columns}
use Rattle.lq_schema.specs.declared.service.ServiceColumn.{ServiceColumn}
use Rattle.lq_schema.specs.declared.service.ServiceColumn.TheVariants as service
use Rattle.lq_schema.specs.declared.columns.ColKind.TheVariants as kind

abbrev pub service_heading : ServiceColumn → Heading
service_heading service.Description = heading (codes "description") kind.Str
service_heading (service.Object column) = object_heading column
service_heading (service.Status column) = status_heading column

-- ---- in order

-- the columns before those of the object
abbrev pub service_front : List ServiceColumn
service_front = service.Description ∷ []

abbrev pub service_columns : List ServiceColumn
service_columns =
    service_front ++ map service.Object object_columns ++ map service.Status status_columns
