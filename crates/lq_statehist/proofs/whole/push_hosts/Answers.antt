use Rattle.std.proofs.Common.{List, ℕ, [], ◌∷◌, ◌++◌, map, filter, ap, ◌∙◌}
use Rattle.std.specs.List.{enumerate_from}
use Rattle.lq_auth.specs.Rights.{sees_object}
use Rattle.lq_records.specs.declared.object.Object.TheVariants as object
use Rattle.lq_statehist.specs.Pass.{subject_of_lines}
use Rattle.lq_statehist.specs.Slices.{host_subject}
use Rattle.lq_statehist.proofs.WholeLemmas.{next_seen}
use Rattle.lq_statehist.proofs.whole.push_hosts.Goals as goal

pub loop-place-preserved : goal.loop-place-preserved
loop-place-preserved c =
    next_seen host_subject (λ about. sees_object c.args.view.now about.object) (map subject_of_lines c.loop-place.subjects.items) (map subject_of_lines c.push_seen.new.subjects.items)
    (map subject_of_lines c.args.subjects.now.items ++ filter (λ about. sees_object c.args.view.now about.object) (map host_subject (enumerate_from 0 c.args.hosts.now)))
    c.args.hosts.now c.loop-place.place _ c.loop-place-test.true
    (c.in_ok-push_seen.ensures
    ∙ ap (λ (period : List ℕ). map subject_of_lines c.loop-place.subjects.items ++ filter (λ about. sees_object c.args.view.now about.object)
    (record { object = object.Host (record { 0 = c.loop-place.place }); host = record { 0 = c.loop-place.place }; period = period } ∷ []))
    (c.as_str.ensures ∙ ap (λ host. host.fields.notification_period) c.index-hosts-place.is))
    c.loop-place.invariant
