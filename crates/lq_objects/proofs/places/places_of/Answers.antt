use Rattle.std.proofs.Common.{sym, ap, ◌∙◌}
use Rattle.lq_names.specs.Names.{place_of}
use Rattle.lq_objects.proofs.DistinctLemmas.{distinct-found, distinct-not_found}
use Rattle.lq_objects.proofs.places.places_of.Goals.{in-Some+in-Ok, in_default}
use Rattle.lq_objects.proofs.places.places_of.Goals as goal

pub loop-name-preserved : goal.loop-name-preserved
loop-name-preserved c = elim c.match-find.branch [
  | in-Some+in-Ok w ↦
      distinct-found (place_of c.args.index.now) c.args.names.now c.loop-name.name-index c.name-item.result w.in-Some.place
      c.loop-name.places.keys c.match-find.places.keys c.loop-name-test.true c.name-item.is c.loop-name.invariant
      (sym w.in-Some.ensures.value) (ap (λ places. places.keys) w.places-is ∙ w.in-Ok.ensures.keys)
  | in_default w ↦ ap (λ places. places.keys) w.places-is
      ∙ distinct-not_found (place_of c.args.index.now) c.args.names.now c.loop-name.name-index c.name-item.result
      c.loop-name.places.keys c.loop-name-test.true c.name-item.is c.loop-name.invariant (sym w.in_default.ensures.value)
]
