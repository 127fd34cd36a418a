use Rattle.std.proofs.Common.{◌≡◌, ℕ, ◌==◌, filter}
use Rattle.std.specs.List.{range_with_len}
use Rattle.lq_records.specs.Owned.{places_at}
use Rattle.lq_records.specs.Places.{holds_at}
use Rattle.lq_records.proofs.owned.lists_by_owner.Given as goal

abbrev pub invariant-loop-place : goal.invariant-loop-place
invariant-loop-place g l =
    (owner : ℕ) → places_at l.lists.items owner ≡ filter (holds_at (λ item. g.T.MonitoredObject.owner_of item == owner) l.items) (range_with_len 0 l.place)
