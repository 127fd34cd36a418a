use Rattle.std.proofs.Common.{◌≡◌, ◌++◌, string_bytes}
use Rattle.lq_workload.specs.Objects.{group_block}
use Rattle.lq_workload.specs.Texts.{texts_below}
use Rattle.lq_workload.proofs.objects.push_groups.Given as goal

abbrev pub invariant-loop-group : goal.invariant-loop-group
invariant-loop-group l =
    string_bytes l.text ≡ string_bytes l.initial.text ++ texts_below l.group group_block
