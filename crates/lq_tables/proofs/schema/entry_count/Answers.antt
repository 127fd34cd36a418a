use Rattle.std.proofs.Common.{ap, length, ◌∙◌}
use Rattle.std.specs.List.{flat_map}
use Rattle.lq_tables.specs.Schema.{entries_of, schema}
use Rattle.lq_tables.proofs.schema.entry_count.Goals as goal

pub returns : goal.returns
unfolding schema
returns c = c.count_in.ensures ∙ ap (λ list. length (flat_map entries_of list)) c.tables.ensures
