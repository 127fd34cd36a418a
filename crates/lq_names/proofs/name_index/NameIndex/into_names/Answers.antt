use Rattle.std.proofs.Common.{map, sym, ap, ◌∙◌}
use Rattle.lq_names.specs.Names.{both_parts}
use Rattle.lq_names.proofs.NameLemmas.{parts-of_keys}
use Rattle.lq_names.proofs.name_index.NameIndex.into_names.Goals as goal

pub returns-clause-names : goal.returns-clause-names
returns-clause-names c = sym (parts-of_keys c.self.inside.names.keys) ∙ ap (map both_parts) c.self.view_is
