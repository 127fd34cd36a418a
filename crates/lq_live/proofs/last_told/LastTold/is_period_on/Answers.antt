use Rattle.std.proofs.Common.{rules, ◌≡◌, Some, sym, ap, ◌∙◌}
use Rattle.std.specs.Arc.{arc_value}
use Rattle.lq_live.specs.LastTold.{place_of_name}
use Rattle.lq_live.proofs.last_told.LastTold.is_period_on.Goals as goal

pub returns-in-Some-get : goal.returns-in-Some-get
returns-in-Some-get c = λ base are.
    let found : place_of_name (arc_value c.args.self.now.names).keys c.args.name.now ≡ Some c.in-Some.place =
    ap (λ names. place_of_name names.keys c.args.name.now) (sym c.deref.ensures) ∙ sym c.get_index_of.ensures.index ∙ c.in-Some.is in
    search (are.periods c.args.name.now c.in-Some.place found, rules)
