use Rattle.std.proofs.Common.{◌≡◌, ℕ, ◌+◌, ◌-◌, length}
use Rattle.lq_records.specs.Owned.{places_at}
use Rattle.lq_records.proofs.owned.grow.Given as goal

abbrev pub invariant-owners : goal.invariant-owners
invariant-owners l = (other : ℕ) → places_at l.lists.items other ≡ places_at l.initial.lists.items other

abbrev pub decreases-owners : goal.decreases-owners
decreases-owners l = l.owner + 1 - length l.lists.items
