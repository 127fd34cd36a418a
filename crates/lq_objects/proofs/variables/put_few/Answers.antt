use Rattle.std.proofs.Common.{set, sym, ap, ◌∙◌}
use Rattle.std.specs.Prelude.{bytes_eq}
use Rattle.std.specs.List.{position}
use Rattle.lq_objects.proofs.VariableLemmas.{put-new, put-there}
use Rattle.lq_objects.proofs.variables.put_few.Goals as goal

pub returns-in-Some : goal.returns-in-Some
returns-in-Some c =
    let variables = c.args.variables.now.items in
    let new = c.args.variable in
    let found = ap (position (λ variable. bytes_eq new.0 variable.0)) (sym c.deref.ensures.value) ∙ sym c.in-Some.ensures.value in
    ap (λ pair. set variables c.in-Some.place (pair.0, new.1)) c.index_mut.ensures.value
    ∙ put-there variables new.0 new.1 c.in-Some.place c.index_mut.result.now found

pub returns-in_ok-push-in-None : goal.returns-in_ok-push-in-None
returns-in_ok-push-in-None c =
    let new = c.args.variable in
    let absent = ap (position (λ variable. bytes_eq new.0 variable.0)) (sym c.deref.ensures.value) ∙ sym c.in-None.ensures.value in
    (c.in_ok-push-in-None.ensures {u = tt}).items ∙ put-new c.args.variables.now.items new.0 new.1 absent
