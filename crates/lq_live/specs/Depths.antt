-- How the code works: how many downtimes of each object are active, counted for one step.
use Rattle.std.specs.Prelude.{◌≡◌, ℕ, ◌+◌, ◌-◌, ◌&&◌, Bool, Option, List, length, if◌then◌else◌}
use Rattle.std.specs.Prelude.{IfSome}
use Rattle.std.specs.List.{slice_get}
use Rattle.lq_records.specs.declared.base.Base.{Base}
use Rattle.lq_records.specs.declared.object.Object.{Object}
use Rattle.lq_records.specs.declared.object.Object.TheVariants as object
use Rattle.lq_events.specs.declared.status.Downtime.{Downtime}
use Rattle.lq_live.specs.State.{changed_at}
use Rattle.lq_live.specs.Downtimes.{depth, is_active_of}
use Rattle.lq_live.specs.Edits.{begun_by, ends_after}

-- whether a downtime is one of an object, and active when all that is due at a second has happened
abbrev pub is_active_at : ℕ → Object → Downtime → Bool
is_active_at second object downtime =
    ends_after second downtime && is_active_of object (begun_by second downtime)

-- a number for each host and each service, by its place
pub record Depths : Type 0 where
  pub hosts : List ℕ
  pub services : List ℕ

abbrev pub counted_depth : Depths → Object → Option ℕ
counted_depth depths (object.Host id) = slice_get depths.hosts id.0
counted_depth depths (object.Service id) = slice_get depths.services id.0

-- one more where a downtime begins, and else one fewer
abbrev pub changed_depth : Bool → ℕ → ℕ
changed_depth begins number = if begins then number + 1 else number - 1

abbrev pub with_depth : Bool → Object → Depths → Depths
with_depth begins (object.Host id) depths =
    record depths { hosts = changed_at (changed_depth begins) id.0 depths.hosts }
with_depth begins (object.Service id) depths =
    record depths { services = changed_at (changed_depth begins) id.0 depths.services }

-- each object of the base has the number of its active downtimes
pub record AreDepths (base : Base) (downtimes : List Downtime) (depths : Depths) : Type 0 where
  pub hosts : length depths.hosts ≡ length base.hosts
  pub services : length depths.services ≡ length base.services
  pub each : (object : Object)
      → IfSome (counted_depth depths object) (λ n. n ≡ depth object downtimes)
