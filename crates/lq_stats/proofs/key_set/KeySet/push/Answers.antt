use Rattle.lq_stats.proofs.KeyLemmas.{pushed}
use Rattle.lq_stats.proofs.key_set.KeySet.push.Goals as goal

pub returns-in_default-clause-ok : goal.returns-in_default-clause-ok
returns-in_default-clause-ok c =
    pushed c.self.inside.keys.keys c.insert.new.self.keys c.args.key c.args.self.now c.self.view_is c.requires c.in_default.ensures.keys
