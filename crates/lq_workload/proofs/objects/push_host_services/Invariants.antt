use Rattle.std.proofs.Common.{◌≡◌, ◌++◌, ◌*◌, string_bytes}
use Rattle.lq_workload.specs.Draws.{after_draws}
use Rattle.lq_workload.specs.Objects.{drawn_service}
use Rattle.lq_workload.specs.Texts.{texts_below}
use Rattle.lq_workload.proofs.objects.push_host_services.Given as goal

abbrev pub invariant-loop-service : goal.invariant-loop-service
invariant-loop-service l = record {
  text : string_bytes l.text ≡ string_bytes l.initial.text
      ++ texts_below l.service (λ service. drawn_service l.host service (after_draws (service * 2) l.initial.generator.number));
  drawn : l.generator.number ≡ after_draws (l.service * 2) l.initial.generator.number;
}
