use Rattle.std.proofs.Common.{◌≡◌, ◌++◌, map, filter, drop}
use Rattle.std.specs.List.{enumerate_from}
use Rattle.lq_auth.specs.Rights.{sees_object}
use Rattle.lq_statehist.specs.Pass.{subject_of_lines}
use Rattle.lq_statehist.specs.Slices.{host_subject}
use Rattle.lq_statehist.proofs.whole.push_hosts.Given as goal

abbrev pub invariant-loop-place : goal.invariant-loop-place
invariant-loop-place l =
    map subject_of_lines l.subjects.items ++ filter (λ about. sees_object l.view about.object) (map host_subject (enumerate_from l.place (drop l.place l.hosts)))
    ≡ map subject_of_lines l.fn.subjects.items ++ filter (λ about. sees_object l.view about.object) (map host_subject (enumerate_from 0 l.hosts))
