-- How the code works: what the log last told is kept beside it.
use Rattle.std.specs.Prelude.{◌≡◌, ℕ, ◌<◌, ◌==◌, Bool, false, Option, Some, List, length, bytes_eq}
use Rattle.std.specs.Prelude.{slice_index_or, slice_set, if◌then◌else◌}
use Rattle.std.specs.Arc.{arc_value}
use Rattle.std.specs.List.{position}
use Rattle.std.specs.Option.{option_map_or}
use Rattle.lq_records.specs.declared.base.Base.{Base}
use Rattle.lq_records.specs.declared.ids.HostId.{HostId}
use Rattle.lq_records.specs.declared.ids.ServiceId.{ServiceId}
use Rattle.lq_records.specs.declared.object.Object.{Object}
use Rattle.lq_records.specs.declared.object.Object.TheVariants as object
use Rattle.lq_events.specs.declared.log_entry.LogEntry.{LogEntry}
use Rattle.lq_log.specs.LastTold.{is_flapping, is_period_on}
use Rattle.lq_live.specs.declared.last_told.LastTold.{LastTold}

-- the place of a name, the first where it stands
abbrev pub place_of_name : List (List ℕ) → List ℕ → Option ℕ
place_of_name names name = position (bytes_eq name) names

-- each mark is what the log last told, of a host, of a service, and of a time period by its name
pub record AreTold (told : LastTold) (base : Base) (log : List LogEntry) : Type 0 where
  pub hosts : (id : HostId) → id.0 < length told.hosts.items
      → slice_index_or told.hosts.items id.0 false ≡ is_flapping base log (object.Host id)
  pub services : (id : ServiceId) → id.0 < length told.services.items
      → slice_index_or told.services.items id.0 false ≡ is_flapping base log (object.Service id)
  pub periods : (name : List ℕ) (place : ℕ)
      → place_of_name (arc_value told.names).keys name ≡ Some place
      → place < length told.periods.items
      → slice_index_or told.periods.items place false ≡ is_period_on log name

-- the marks of hosts, and those of services, with that of an object set
abbrev pub hosts_with : Option Object → Bool → List Bool → List Bool
hosts_with (Some (object.Host id)) on marks = slice_set marks id.0 on
hosts_with _ on marks = marks

abbrev pub services_with : Option Object → Bool → List Bool → List Bool
services_with (Some (object.Service id)) on marks = slice_set marks id.0 on
services_with _ on marks = marks

-- the marks of time periods with that of a name set
abbrev pub periods_with : List (List ℕ) → List ℕ → Bool → List Bool → List Bool
periods_with names name on marks =
    if length name == 0 then marks
    else option_map_or (λ place. slice_set marks place on) (place_of_name names name) marks
