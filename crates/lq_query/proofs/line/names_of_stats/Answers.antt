use Rattle.std.proofs.Common.{ℕ, ◌+◌, ◌-◌, ◌++◌, ◌∷◌, [], List, map, ap, ◌∙◌}
use Rattle.std.proofs.lemmas.List.{map-append}
use Rattle.lq_schema.specs.Value.{Words, meaning_of}
use Rattle.lq_query.specs.Answer.{stat_names}
use Rattle.lq_query.proofs.LineLemmas.{next_name}
use Rattle.lq_query.proofs.line.names_of_stats.Goals as goal

pub loop-place-preserved : goal.loop-place-preserved
loop-place-preserved c =
    let rest = stat_names (c.loop-place.place + 1 + 1) (c.args.count - (c.loop-place.place + 1)) in
    ap (λ names. map meaning_of names ++ rest) c.in_ok-push.ensures.items
    ∙ ap (λ names. names ++ rest) (map-append meaning_of c.loop-place.names.items _)
    ∙ ap (λ (text : List ℕ). (map meaning_of c.loop-place.names.items ++ Words text ∷ []) ++ rest) c.in_ok-stat_name.ensures
    ∙ next_name (map meaning_of c.loop-place.names.items) c.loop-place.place c.args.count _ c.loop-place-test.true c.loop-place.invariant
