-- All columns of all tables, in one list.
use Rattle.std.specs.Prelude.{List, map}
use Rattle.std.specs.List.{flat_map}
use Rattle.lq_schema.specs.declared.columns.Table.{Table}
use Rattle.lq_schema.specs.Schema.{columns_of, tables}
use Rattle.lq_tables.specs.declared.schema.Entry.{Entry}

abbrev pub entries_of : Table → List Entry
entries_of table = map (λ column. record { table = table; column = column }) (columns_of table)

-- the tables in their order, each with all its columns in order
unfoldable pub schema : List Entry
schema = flat_map entries_of tables
