use Rattle.std.proofs.Common.{◌≡◌, [], ◌++◌, ◌∷◌, drop, map}
use Rattle.std.specs.List.{flat_map}
use Rattle.json.specs.Print.{quoted}
use Rattle.lq_output.specs.Cells.{joined_texts}
use Rattle.lq_output.proofs.json_text.push_string_items.Given as goal

abbrev pub invariant-loop-text : goal.invariant-loop-text
invariant-loop-text l =
    l.out.items ++ flat_map (λ later. 44 ∷ later) (map quoted (drop l.text-index l.later))
    ≡ l.fn.out.items ++ joined_texts (44 ∷ []) (map quoted l.texts)
