use Rattle.std.proofs.Common.{is_some, sym, ap, ◌∙◌}
use Rattle.lq_names.specs.Names.{is_equal_name, place_of}
use Rattle.lq_names.proofs.NameLemmas.{is_some-position, none_from_is_some}
use Rattle.lq_names.proofs.name_index.NameIndex.contains.Goals as goal

pub returns-clause-value : goal.returns-clause-value
returns-clause-value c =
    c.is_some.ensures ∙ ap is_some c.find.ensures.value ∙ is_some-position (is_equal_name c.args.name.now) c.args.self.now

pub returns-clause-absent : goal.returns-clause-absent
returns-clause-absent c = λ absent. none_from_is_some (place_of c.args.self.now c.args.name.now) (sym (c.is_some.ensures ∙ ap is_some c.find.ensures.value) ∙ absent)
