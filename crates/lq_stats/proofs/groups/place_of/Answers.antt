use Rattle.std.proofs.Common.{◌∙◌}
use Rattle.std.proofs.lemmas.List.{length-map}
use Rattle.lq_stats.specs.Keys.{cell_value, key_values}
use Rattle.lq_stats.proofs.GroupLemmas.{first_place}
use Rattle.lq_stats.proofs.groups.place_of.Goals as goal

pub returns-then-columns-eq0-clause-value : goal.returns-then-columns-eq0-clause-value
returns-then-columns-eq0-clause-value c =
    first_place c.args.keys.now (key_values c.args.key.now)
    (length-map c.args.key.now cell_value ∙ c.requires.long ∙ c.if-columns-eq0.true)
    (c.requires.empty c.if-columns-eq0.true)
