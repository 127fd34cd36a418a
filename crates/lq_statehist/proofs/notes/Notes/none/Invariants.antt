use Rattle.std.proofs.Common.{◌≡◌, ◌≤◌, ◌-◌, [], ℕ, IfSome, length, slice_get}
use Rattle.lq_statehist.proofs.notes.Notes.none.Given as goal

abbrev pub invariant-hosts : goal.invariant-hosts
invariant-hosts l = record {
  count : length l.none.items ≤ l.hosts;
  each : (place : ℕ) → IfSome (slice_get l.none.items place) (λ kept. kept.items ≡ []);
}

abbrev pub decreases-hosts : goal.decreases-hosts
decreases-hosts l = l.hosts - length l.none.items
