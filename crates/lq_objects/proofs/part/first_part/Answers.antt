use Rattle.std.proofs.Common.{◌+◌, ◌∷◌, Some, None, List, length, take, drop, sym, ap, ◌∙◌, arith}
use Rattle.std.proofs.lemmas.List.{drop_all}
use Rattle.lq_objects.specs.Blocks.{Line, parts_of}
use Rattle.lq_objects.proofs.PartLemmas.{part, parts_of-closed, parts_of-unclosed}
use Rattle.lq_objects.proofs.part.first_part.Goals as goal

pub returns-in-Some-clause-first : goal.returns-in-Some-clause-first
returns-in-Some-clause-first c =
    let front : List Line = take c.in-Some.end c.args.lines.now in
    parts_of-closed c.args.lines.now c.in-Some.end c.index-lines-end.result c.in-Some.ensures.value
    ∙ ap (λ closing. part front (Some closing) ∷ parts_of (drop (c.in-Some.end + 1) c.args.lines.now)) (sym c.index-lines-end.is)

pub returns-in-None-clause-first : goal.returns-in-None-clause-first
returns-in-None-clause-first c =
    parts_of-unclosed c.args.lines.now c.in-None.ensures.value c.requires
    ∙ ap (λ rest. part c.args.lines.now None ∷ parts_of rest) (sym (drop_all (length c.args.lines.now) c.args.lines.now (omega arith)))
