use Rattle.std.proofs.Common.{List, ℕ, ap, ◌∙◌}
use Rattle.std.specs.List.{position}
use Rattle.std.specs.Prelude.{bytes_eq, ◌&&◌}
use Rattle.lq_records.specs.Named.{has_name}
use Rattle.lq_records.proofs.NameLemmas.{place_among}
use Rattle.lq_records.proofs.named.NamedItems.place_of.Goals as goal

pub returns-in-Some-clause-value : goal.returns-in-Some-clause-value
returns-in-Some-clause-value g c =
    c.in-Some.ensures.index
    ∙ ap (position (λ (name : List ℕ × List ℕ). bytes_eq c.args.name.first.now name.0 && bytes_eq c.args.name.second.now name.1)) c.self.invariant.1
    ∙ place_among g.T.NamedObject.name_of c.self.inside.items.items c.args.name.first.now c.args.name.second.now
    ∙ ap (position (λ item. has_name c.args.name.first.now c.args.name.second.now (g.T.NamedObject.name_of item))) c.self.view_is

pub returns-in-None-clause-value : goal.returns-in-None-clause-value
returns-in-None-clause-value g c =
    c.in-None.ensures.index
    ∙ ap (position (λ (name : List ℕ × List ℕ). bytes_eq c.args.name.first.now name.0 && bytes_eq c.args.name.second.now name.1)) c.self.invariant.1
    ∙ place_among g.T.NamedObject.name_of c.self.inside.items.items c.args.name.first.now c.args.name.second.now
    ∙ ap (position (λ item. has_name c.args.name.first.now c.args.name.second.now (g.T.NamedObject.name_of item))) c.self.view_is
