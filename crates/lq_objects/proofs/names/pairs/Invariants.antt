use Rattle.std.proofs.Common.{◌≡◌, ◌++◌, ◌-◌, ◌≤◌, map, drop, length}
use Rattle.std.specs.Option.{option_map}
use Rattle.lq_records.specs.Clean.{text_of_bytes}
use Rattle.lq_objects.specs.Names.{names_in_pairs}
use Rattle.lq_objects.specs.Views.{lent_texts}
use Rattle.lq_objects.proofs.names.pairs.Given as goal

abbrev pub invariant-pairs : goal.invariant-pairs
invariant-pairs l = record {
  within : l.at ≤ length l.pieces;
  pairs : option_map (λ rest. l.names.items ++ rest) (names_in_pairs (map text_of_bytes (lent_texts (drop l.at l.pieces)))) ≡ names_in_pairs (map text_of_bytes (lent_texts l.pieces));
}

abbrev pub decreases-pairs : goal.decreases-pairs
decreases-pairs l = length l.pieces - l.at
