use Rattle.lq_names.proofs.NameLemmas.{added_key}
use Rattle.lq_names.proofs.name_index.NameIndex.push.Goals as goal

pub returns-clause-ok : goal.returns-clause-ok
returns-clause-ok c =
    added_key c.self.inside.names.keys c.insert.new.self.keys c.into_parts.result c.args.name c.args.self.now c.self.view_is c.into_parts.ensures.first c.into_parts.ensures.second c.requires.new
    (c.in-Ok.ensures {u = tt}).keys
