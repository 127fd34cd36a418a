use Rattle.std.proofs.Common.{ap, slice_get, ◌∙◌}
use Rattle.std.specs.List.{flat_map}
use Rattle.lq_tables.specs.Schema.{entries_of, schema}
use Rattle.lq_tables.proofs.schema.entry_at.Goals as goal

pub returns : goal.returns
unfolding schema
returns c = c.entry_in.ensures ∙ ap (λ list. slice_get (flat_map entries_of list) c.args.place) c.tables.ensures
