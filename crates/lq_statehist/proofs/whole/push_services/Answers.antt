use Rattle.std.proofs.Common.{List, ℕ, [], ◌∷◌, ◌++◌, map, filter, ap, ◌∙◌}
use Rattle.std.specs.List.{enumerate_from}
use Rattle.lq_auth.specs.Rights.{sees_object}
use Rattle.lq_records.specs.declared.object.Object.TheVariants as object
use Rattle.lq_statehist.specs.Pass.{subject_of_lines}
use Rattle.lq_statehist.specs.Slices.{service_subject}
use Rattle.lq_statehist.proofs.WholeLemmas.{next_seen}
use Rattle.lq_statehist.proofs.whole.push_services.Goals as goal

pub loop-place-preserved : goal.loop-place-preserved
loop-place-preserved c =
    next_seen service_subject (λ about. sees_object c.args.view.now about.object) (map subject_of_lines c.loop-place.subjects.items) (map subject_of_lines c.push_seen.new.subjects.items)
    (map subject_of_lines c.args.subjects.now.items ++ filter (λ about. sees_object c.args.view.now about.object) (map service_subject (enumerate_from 0 c.args.services.now)))
    c.args.services.now c.loop-place.place _ c.loop-place-test.true
    (c.in_ok-push_seen.ensures
    ∙ ap (λ (period : List ℕ). map subject_of_lines c.loop-place.subjects.items ++ filter (λ about. sees_object c.args.view.now about.object)
    (record { object = object.Service (record { 0 = c.loop-place.place }); host = c.index-services-place.result.host; period = period } ∷ []))
    c.as_str.ensures
    ∙ ap (λ service. map subject_of_lines c.loop-place.subjects.items ++ filter (λ about. sees_object c.args.view.now about.object) (service_subject (c.loop-place.place, service) ∷ []))
    c.index-services-place.is)
    c.loop-place.invariant
