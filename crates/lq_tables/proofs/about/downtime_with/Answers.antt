use Rattle.std.proofs.Common.{rules, ◌≡◌, ◌==◌, Some, Ok, Err, slice_get, sym, ap, ◌∙◌}
use Rattle.std.specs.List.{find}
use Rattle.std.proofs.lemmas.List.Sorted.{answers_always}
use Rattle.std.proofs.lemmas.Option.{slice_get-get_or}
use Rattle.lq_live.specs.Ids.{downtime_id}
use Rattle.lq_tables.proofs.OwnLemmas.{searched}
use Rattle.lq_tables.proofs.about.downtime_with.Goals as goal

pub returns-in-Ok : goal.returns-in-Ok
returns-in-Ok c =
    let list = c.downtimes-downtimes.result.now in
    let found : slice_get list c.in-Ok.place ≡ find (λ downtime. downtime.id == c.args.id) list =
    searched downtime_id c.args.live.now.state.next_downtime list c.downtimes-downtimes.ensures.ids c.args.id (Ok c.in-Ok.place) c.in-Ok.ensures.bound
    (c.in-Ok.ensures.position downtime_id (answers_always _ _ _ (λ f a r g called. search rules))) in
    sym (slice_get-get_or list c.in-Ok.place c.index-downtimes-place.result c.in-Ok.ensures.bound ∙ ap Some (sym c.index-downtimes-place.is))
    ∙ found ∙ ap (find (λ downtime. downtime.id == c.args.id)) c.downtimes-downtimes.ensures.all

pub returns-in-Err : goal.returns-in-Err
returns-in-Err c =
    let list = c.downtimes-downtimes.result.now in
    searched downtime_id c.args.live.now.state.next_downtime list c.downtimes-downtimes.ensures.ids c.args.id (Err c.in-Err.field-0) c.in-Err.ensures.bound
    (c.in-Err.ensures.position downtime_id (answers_always _ _ _ (λ f a r g called. search rules)))
    ∙ ap (find (λ downtime. downtime.id == c.args.id)) c.downtimes-downtimes.ensures.all
