use Rattle.std.proofs.Common.{sym, ap, ◌∙◌}
use Rattle.lq_names.specs.Names.{place_of}
use Rattle.lq_objects.proofs.DistinctLemmas.{distinct-found, distinct-not_found}
use Rattle.lq_objects.proofs.places.few_places.Goals.{in-Some+in_ok-push_new, in_default}
use Rattle.lq_objects.proofs.places.few_places.Goals as goal

pub loop-name-preserved : goal.loop-name-preserved
loop-name-preserved c = elim c.match-find.branch [
  | in-Some+in_ok-push_new w ↦
      distinct-found (place_of c.args.index.now) c.args.names.now c.loop-name.name-index c.name-item.result w.in-Some.place
      c.loop-name.places.items c.match-find.places.items c.loop-name-test.true c.name-item.is c.loop-name.invariant
      (sym w.in-Some.ensures.value) (ap (λ places. places.items) w.places-is ∙ w.in_ok-push_new.ensures)
  | in_default w ↦ ap (λ places. places.items) w.places-is
      ∙ distinct-not_found (place_of c.args.index.now) c.args.names.now c.loop-name.name-index c.name-item.result
      c.loop-name.places.items c.loop-name-test.true c.name-item.is c.loop-name.invariant (sym w.in_default.ensures.value)
]
