-- The values of cells that are written.
use Rattle.lq_schema.specs.Value.{Value, Number, Words, meaning_of}
use Rattle.lq_output.specs.declared.cell.Cell.{Cell}
use Rattle.lq_output.specs.declared.cell.Cell.TheVariants as cell

abbrev pub value_of_cell : Cell → Value
value_of_cell (cell.Number number) = Number number
value_of_cell (cell.Text text) = Words text.now
value_of_cell (cell.Value value) = meaning_of value.now
