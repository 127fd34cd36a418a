use Rattle.std.proofs.Common.{◌≡◌, ◌++◌, map, drop}
use Rattle.lq_records.specs.Clean.{text_of_bytes}
use Rattle.lq_names.specs.Names.{single}
use Rattle.lq_objects.specs.Views.{lent_texts}
use Rattle.lq_objects.proofs.names.singles.Given as goal

abbrev pub invariant-loop-piece : goal.invariant-loop-piece
invariant-loop-piece l =
    l.names.items ++ map single (map text_of_bytes (lent_texts (drop l.piece-index l.pieces))) ≡ map single (map text_of_bytes (lent_texts l.pieces))
