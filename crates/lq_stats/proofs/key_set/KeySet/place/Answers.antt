use Rattle.std.proofs.Common.{◌∙◌, ap}
use Rattle.std.specs.Prelude.{position}
use Rattle.lq_stats.specs.Groups.{same_key}
use Rattle.lq_stats.specs.Keys.{key_values}
use Rattle.lq_stats.proofs.KeyLemmas.{place_of}
use Rattle.lq_stats.proofs.key_set.KeySet.place.Goals as goal

pub returns-clause-value : goal.returns-clause-value
returns-clause-value c =
    c.get_index_of.ensures.index
    ∙ place_of c.self.inside.keys.keys c.args.key.now
    ∙ ap (position (same_key (key_values c.args.key.now))) c.self.view_is
