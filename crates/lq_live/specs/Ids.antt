-- Ids that are given once.
use Rattle.std.specs.Prelude.{ℕ, ◌+◌, ◌<◌, ◌≤◌, List, [], ◌∷◌}
use Rattle.lq_events.specs.declared.status.Comment.{Comment}
use Rattle.lq_events.specs.declared.status.Downtime.{Downtime}
use Rattle.lq_live.specs.State.{State}

abbrev pub downtime_id : Downtime → ℕ
downtime_id downtime = downtime.id

abbrev pub comment_id : Comment → ℕ
comment_id comment = comment.id

-- the ids of a list rise, from a least one on, and stay below a next one; so each stands once
abbrev pub IdsRise : {A : Type 0} → (A → ℕ) → ℕ → ℕ → List A → Type 0
IdsRise id least next [] = Unit {0}
IdsRise id least next (item ∷ items) =
    (least ≤ id item) × (id item < next) × IdsRise id (id item + 1) next items

-- the ids of downtimes and those of comments rise, and the next ones are past them
pub record HasRisingIds (s : State) : Type 0 where
  pub downtimes : IdsRise downtime_id 0 s.next_downtime s.downtimes
  pub comments : IdsRise comment_id 0 s.next_comment s.comments
