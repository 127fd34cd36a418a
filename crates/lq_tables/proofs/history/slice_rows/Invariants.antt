use Rattle.std.proofs.Common.{◌≡◌, ◌++◌, drop, map}
use Rattle.lq_tables.specs.Rows.{history_row}
use Rattle.lq_tables.proofs.history.slice_rows.Given as goal

abbrev pub invariant-loop-slice : goal.invariant-loop-slice
invariant-loop-slice l = l.rows.items ++ map (history_row l.window) (drop l.slice-index l.slices) ≡ map (history_row l.window) l.slices
