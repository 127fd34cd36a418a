use Rattle.std.proofs.Common.{◌≡◌, ◌++◌, drop}
use Rattle.std.specs.List.{flat_map}
use Rattle.lq_output.specs.Cells.{doubled_quote}
use Rattle.lq_output.proofs.fields.push_doubled.Given as goal

abbrev pub invariant-loop-byte : goal.invariant-loop-byte
invariant-loop-byte l =
    l.out.items ++ flat_map doubled_quote (drop l.byte-index l.text) ≡ l.fn.out.items ++ flat_map doubled_quote l.text
