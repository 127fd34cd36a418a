use Rattle.std.proofs.Common.{◌≡◌, [], ◌++◌, ◌∷◌, drop, map}
use Rattle.std.specs.List.{flat_map}
use Rattle.std.specs.Fmt.{decimal}
use Rattle.lq_output.specs.Cells.{joined_texts}
use Rattle.lq_output.proofs.plain.push_numbers.Given as goal

abbrev pub invariant-loop-number : goal.invariant-loop-number
invariant-loop-number l =
    l.out.items ++ flat_map (λ later. l.between ∷ later) (map decimal (drop l.number-index l.later))
    ≡ l.fn.out.items ++ joined_texts (l.between ∷ []) (map decimal l.numbers)
