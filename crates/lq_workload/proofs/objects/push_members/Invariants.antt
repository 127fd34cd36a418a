use Rattle.std.proofs.Common.{◌≡◌, ◌++◌, ◌+◌, ◌*◌, codes, string_bytes}
use Rattle.lq_workload.specs.Objects.{host_name}
use Rattle.lq_workload.specs.Texts.{texts_below}
use Rattle.lq_workload.proofs.objects.push_members.Given as goal

abbrev pub invariant-loop-tens : goal.invariant-loop-tens
invariant-loop-tens l =
    string_bytes l.text
    ≡ string_bytes l.initial.text
    ++ texts_below l.tens (λ tens. codes "," ++ host_name ((tens + 1) * 10 + l.group))
