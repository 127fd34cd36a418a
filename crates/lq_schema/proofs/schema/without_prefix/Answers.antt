use Rattle.lq_schema.proofs.SchemaLemmas.{without_is}
use Rattle.lq_schema.proofs.schema.without_prefix.Goals as goal

pub returns : goal.returns
returns c = without_is c.strip_prefix.result c.args.front.now c.args.name.now c.strip_prefix.ensures.cases
