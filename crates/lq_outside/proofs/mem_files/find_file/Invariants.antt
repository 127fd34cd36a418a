use Rattle.std.proofs.Common.{◌≡◌, drop}
use Rattle.lq_outside.specs.Forms.{held_in, file_pairs}
use Rattle.lq_outside.proofs.mem_files.find_file.Given as goal

abbrev pub invariant-loop-pair : goal.invariant-loop-pair
invariant-loop-pair l = held_in (file_pairs (drop l.pair-index l.pairs)) l.path ≡ held_in (file_pairs l.pairs) l.path
