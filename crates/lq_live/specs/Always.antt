-- What holds of every state that a step leaves, and of every step.
use Rattle.std.specs.Prelude.{◌≡◌, ℕ, ◌<◌, nat_le, List, ◌++◌}
use Rattle.lq_events.specs.declared.status.Downtime.{Downtime}

-- A downtime of a state at a second: it begins before it ends, its end lies ahead, and it is active
-- exactly where its start has come.
pub record IsCurrent (second : ℕ) (downtime : Downtime) : Type 0 where
  pub order : downtime.start < downtime.end
  pub ahead : second < downtime.end
  pub active : downtime.active ≡ nat_le downtime.start second

-- a list is what another begins with
pub record IsFront {X : Type 0} (front whole : List X) : Type 0 where
  pub rest : List X
  pub is : whole ≡ front ++ rest
