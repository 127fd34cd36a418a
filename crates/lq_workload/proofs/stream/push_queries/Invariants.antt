use Rattle.std.proofs.Common.{◌≡◌, ◌++◌, ◌*◌, string_bytes}
use Rattle.lq_workload.specs.Draws.{after_draws}
use Rattle.lq_workload.specs.Queries.{four_queries}
use Rattle.lq_workload.specs.Texts.{texts_below}
use Rattle.lq_workload.proofs.stream.push_queries.Given as goal

abbrev pub invariant-loop-turn : goal.invariant-loop-turn
invariant-loop-turn l = record {
  text : string_bytes l.text ≡ string_bytes l.initial.text
      ++ texts_below l.turn (λ turn. four_queries (after_draws (turn * 3) l.initial.generator.number));
  drawn : l.generator.number ≡ after_draws (l.turn * 3) l.initial.generator.number;
}
