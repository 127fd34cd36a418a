use Rattle.std.proofs.Common.{◌≡◌, ◌<◌, map, take, true}
use Rattle.lq_schema.specs.Value.{meaning_of}
use Rattle.lq_query.specs.Lines.{AddsCells}
use Rattle.lq_query.proofs.line.push_values.Given as goal

abbrev pub invariant-loop-cell : goal.invariant-loop-cell
invariant-loop-cell l = record {
  cells : AddsCells l.fn.writer l.writer (map meaning_of (take l.cell-index l.cells));
  begun : 0 < l.cell-index → l.writer.has_cell ≡ true;
  still : l.fn.writer.has_cell ≡ true → l.writer.has_cell ≡ true;
}
