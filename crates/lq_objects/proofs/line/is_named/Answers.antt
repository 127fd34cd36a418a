use Rattle.std.proofs.Common.{ap, bytes_eq, sym, ◌∙◌, true, false}
use Rattle.lq_objects.proofs.WordLemmas.{is_named-by_end}
use Rattle.lq_objects.proofs.line.is_named.Goals as goal

pub returns-then-has_end_at : goal.returns-then-has_end_at
returns-then-has_end_at c =
    c.eq.ensures
    ∙ ap (bytes_eq c.args.name.now) c.front.ensures
    ∙ is_named-by_end c.args.name.now c.args.text.now true (λ within. sym c.if-has_end_at.true ∙ c.has_end_at.ensures within)

pub returns-else-has_end_at : goal.returns-else-has_end_at
returns-else-has_end_at c =
    c.if-has_end_at.false
    ∙ is_named-by_end c.args.name.now c.args.text.now false (λ within. sym c.if-has_end_at.false ∙ c.has_end_at.ensures within)
