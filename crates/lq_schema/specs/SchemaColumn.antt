-- The columns on a column.
use Rattle.std.specs.Prelude.{List, codes, [], ◌∷◌}
use Rattle.lq_schema.specs.Heading.{Heading, heading}
use Rattle.lq_schema.specs.declared.schema_column.SchemaColumn.{SchemaColumn}
use Rattle.lq_schema.specs.declared.schema_column.SchemaColumn.TheVariants as schema
use Rattle.lq_schema.specs.declared.columns.ColKind.TheVariants as kind

abbrev pub schema_heading : SchemaColumn → Heading
schema_heading schema.Table = heading (codes "table") kind.Str
schema_heading schema.Name = heading (codes "name") kind.Str
schema_heading schema.Type = heading (codes "type") kind.Str
schema_heading schema.Description = heading (codes "description") kind.Str

-- in order
abbrev pub schema_columns : List SchemaColumn
schema_columns =
    schema.Table ∷ schema.Name ∷ schema.Type ∷ schema.Description ∷ []
