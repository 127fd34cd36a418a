use Rattle.std.proofs.Common.{◌≡◌, ◌++◌, string_bytes}
use Rattle.lq_workload.specs.Draws.{after_draws, drawn_after}
use Rattle.lq_workload.specs.Objects.{host_block}
use Rattle.lq_workload.specs.Texts.{texts_below}
use Rattle.lq_workload.proofs.objects.push_hosts.Given as goal

abbrev pub invariant-loop-host : goal.invariant-loop-host
invariant-loop-host l = record {
  text : string_bytes l.text ≡ string_bytes l.initial.text
      ++ texts_below l.host (λ host. host_block host (drawn_after host 5 l.initial.generator.number));
  drawn : l.generator.number ≡ after_draws l.host l.initial.generator.number;
}
