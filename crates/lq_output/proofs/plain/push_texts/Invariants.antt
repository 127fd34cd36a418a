use Rattle.std.proofs.Common.{◌≡◌, [], ◌++◌, ◌∷◌, drop}
use Rattle.std.specs.List.{flat_map}
use Rattle.lq_output.specs.Cells.{joined_texts}
use Rattle.lq_output.proofs.plain.push_texts.Given as goal

abbrev pub invariant-loop-text : goal.invariant-loop-text
invariant-loop-text l =
    l.out.items ++ flat_map (λ later. l.between ∷ later) (drop l.text-index l.later)
    ≡ l.fn.out.items ++ joined_texts (l.between ∷ []) l.texts
