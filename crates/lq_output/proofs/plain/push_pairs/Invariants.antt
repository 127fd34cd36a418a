use Rattle.std.proofs.Common.{◌≡◌, [], ◌++◌, ◌∷◌, drop, map}
use Rattle.std.specs.List.{flat_map}
use Rattle.lq_output.specs.Cells.{joined_texts, pair_text}
use Rattle.lq_output.proofs.plain.push_pairs.Given as goal

abbrev pub invariant-loop-pair : goal.invariant-loop-pair
invariant-loop-pair l =
    l.out.items ++ flat_map (λ later. l.between ∷ later) (map (pair_text l.within) (drop l.pair-index l.later))
    ≡ l.fn.out.items ++ joined_texts (l.between ∷ []) (map (pair_text l.within) l.pairs)
