-- How the code works: what the log says is kept by the hosts that it is about.
use Rattle.std.specs.Prelude.{◌≡◌, ℕ, ◌≤◌, ◌<◌, ◌+◌, ◌==◌, ◌||◌, nat_lt, Bool, true, false, Option}
use Rattle.std.specs.Prelude.{Some, None, IfSome, List, [], ◌∷◌, ◌++◌, length, map, filter}
use Rattle.std.specs.Prelude.{if◌then◌else◌}
use Rattle.std.specs.List.{slice_get}
use Rattle.std.specs.Option.{option_map, option_map_or}
use Rattle.lq_records.specs.declared.base.Base.{Base}
use Rattle.lq_records.specs.declared.ids.HostId.{HostId}
use Rattle.lq_records.specs.declared.object.Object.{Object}
use Rattle.lq_records.specs.declared.object.Object.TheVariants as object
use Rattle.lq_statehist.specs.Facts.{Subject}
use Rattle.lq_statehist.specs.Notes.{Note, Said, State, Downtime, Flapping, Period}
use Rattle.lq_statehist.specs.Pass.{note_of}
use Rattle.lq_statehist.specs.declared.line.Line.{Line}
use Rattle.lq_statehist.specs.declared.notes.Notes.{Notes}

-- the host itself, or the one that a service runs on
abbrev pub host_about : Base → Object → Option HostId
host_about base (object.Host id) = Some id
host_about base (object.Service id) =
    option_map (λ service. service.host) (slice_get base.services id.0)

-- an object's host is the one that is told with it, and the base has it
pub record IsHosted (base : Base) (about : Subject) : Type 0 where
  pub host : host_about base about.object ≡ Some about.host
  pub known : about.host.0 < length base.hosts

abbrev pub object_of_said : Said → Option Object
object_of_said (State object state output) = Some object
object_of_said (Downtime object on) = Some object
object_of_said (Flapping object on) = Some object
object_of_said (Period name on) = None

abbrev pub is_on : Base → HostId → Object → Bool
is_on base host about = option_map_or (λ own. own.0 == host.0) (host_about base about) false

-- whether a line is about a host or a service on it
abbrev pub is_of_host : Base → HostId → Note → Bool
is_of_host base host note = option_map_or (is_on base host) (object_of_said note.said) false

abbrev pub is_period : Said → Bool
is_period (Period name on) = true
is_period _ = false

-- whether a line is about a time period
abbrev pub is_of_period : Note → Bool
is_of_period note = is_period note.said

-- whether a line may say something of an object: it is about its host or a service on that, or
-- about a time period
abbrev pub is_near : Base → Subject → Note → Bool
is_near base about note = is_of_host base about.host note || is_of_period note

-- those whose second is before another
abbrev pub below : ℕ → List Note → List Note
below until notes = filter (λ note. nat_lt note.time until) notes

-- what is kept for the host at a place, with a line of a host
abbrev pub with_note : HostId → ℕ → Line → List Note → List Note
with_note host place line kept = if host.0 == place then kept ++ note_of line ∷ [] else kept

-- what is kept for each host, and of time periods
pub record AreSorted (notes : Notes) (base : Base) (told : List Note) : Type 0 where
  pub count : length notes.hosts.items ≡ length base.hosts
  pub hosts : (place : ℕ) → IfSome (slice_get notes.hosts.items place) (λ kept.
      map note_of kept.items ≡ filter (is_of_host base (record { 0 = place })) told)
  pub periods : map note_of notes.periods.items ≡ filter is_of_period told

-- the places of lines rise
abbrev pub PlacesFrom : ℕ → List Note → Type 0
PlacesFrom place [] = Unit {0}
PlacesFrom place (note ∷ notes) = (place ≤ note.place) × PlacesFrom (note.place + 1) notes

-- what may concern an object, of what is kept
pub record AreNear (notes : Notes) (about : Subject) (near : List Note) : Type 0 where
  pub all : (base : Base) (told : List Note) → AreSorted notes base told → PlacesFrom 0 told
      → about.host.0 < length base.hosts → near ≡ filter (is_near base about) told

-- two lists in the order of the log become one
abbrev pub merged_notes : List Note → List Note → List Note
merged_notes [] others = others
merged_notes (note ∷ notes) [] = note ∷ notes
merged_notes (note ∷ notes) (other ∷ others) =
    if nat_lt note.place other.place then note ∷ merged_notes notes (other ∷ others)
    else other ∷ merged_notes (note ∷ notes) others
