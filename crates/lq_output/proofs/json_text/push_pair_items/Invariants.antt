use Rattle.std.proofs.Common.{◌≡◌, [], ◌++◌, ◌∷◌, drop, map}
use Rattle.std.specs.List.{flat_map}
use Rattle.lq_output.specs.Cells.{joined_texts, json_pair}
use Rattle.lq_output.proofs.json_text.push_pair_items.Given as goal

abbrev pub invariant-loop-pair : goal.invariant-loop-pair
invariant-loop-pair l =
    l.out.items ++ flat_map (λ later. 44 ∷ later) (map json_pair (drop l.pair-index l.later))
    ≡ l.fn.out.items ++ joined_texts (44 ∷ []) (map json_pair l.pairs)
