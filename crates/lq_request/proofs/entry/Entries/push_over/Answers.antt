use Rattle.std.proofs.lemmas.List.Elements.{All-push, All-same}
use Rattle.lq_request.specs.Stats.{IsEntry}
use Rattle.lq_request.proofs.entry.Entries.push_over.Goals as goal

pub invariant_of-self-2 : goal.invariant_of-self-2
invariant_of-self-2 c = All-same IsEntry _ _ c.in_ok-push_back.ensures.items (All-push IsEntry _ _ c.self.invariant c.requires)
