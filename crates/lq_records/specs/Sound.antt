-- When a base is sound.
use Rattle.std.specs.Prelude.{◌≡◌, ◌≢◌, ℕ, ◌<◌, ◌≤◌, ◌==◌, false, Some, List, [], map, length}
use Rattle.std.specs.List.{All, AllPairs, list_any, slice_get}
use Rattle.lq_records.specs.declared.base.Base.{Base}
use Rattle.lq_records.specs.declared.base.ObjectFields.{ObjectFields}

-- ---- lists

-- the names of one kind differ, and none is empty
pub record AreNames (names : List (List ℕ)) : Type 0 where
  pub different : AllPairs (λ a b. a ≢ b) names
  pub some : All (λ name. name ≢ []) names

-- places in a list of `count` objects, without repeats
pub record ArePlaces (count : ℕ) (places : List ℕ) : Type 0 where
  pub different : AllPairs (λ a b. a ≢ b) places
  pub within : All (λ place. place < count) places

-- a name has no `;`, whose byte is 59
abbrev pub HasNoSemicolon : List ℕ → Type 0
HasNoSemicolon name = list_any (λ byte. byte == 59) name ≡ false

-- ---- objects

-- what a host or a service has
pub record AreSoundFields (base : Base) (fields : ObjectFields) : Type 0 where
  pub attempts : 1 ≤ fields.max_check_attempts
  pub attempts_most : fields.max_check_attempts ≤ 1000000
  pub notifications : fields.notifications_enabled ≤ 1
  pub contacts : ArePlaces (length base.contacts) (map (λ id. id.0) fields.contacts)
  pub contact_groups :
      ArePlaces (length base.contact_groups) (map (λ id. id.0) fields.contact_groups)

pub record AreLimited (base : Base) : Type 0 where
  pub hosts : length base.hosts ≤ 10000
  pub services : length base.services ≤ 60000
  pub host_groups : length base.host_groups ≤ 1000
  pub service_groups : length base.service_groups ≤ 1000
  pub contacts : length base.contacts ≤ 10000
  pub contact_groups : length base.contact_groups ≤ 1000
  pub periods : length base.periods ≤ 1000
  pub commands : length base.commands ≤ 10000

pub record AreNamed (base : Base) : Type 0 where
  pub hosts : AreNames (map (λ host. host.host_name) base.hosts)
  pub services :
      AllPairs (λ a b. (a.host ≡ b.host → a.service_description ≢ b.service_description))
      base.services
  pub descriptions : All (λ service. service.service_description ≢ []) base.services
  pub host_groups : AreNames (map (λ group. group.hostgroup_name) base.host_groups)
  pub service_groups : AreNames (map (λ group. group.servicegroup_name) base.service_groups)
  pub contacts : AreNames (map (λ contact. contact.contact_name) base.contacts)
  pub contact_groups : AreNames (map (λ group. group.contactgroup_name) base.contact_groups)
  pub periods : AreNames (map (λ period. period.timeperiod_name) base.periods)
  pub commands : AreNames (map (λ command. command.command_name) base.commands)
  pub plain_hosts : All (λ host. HasNoSemicolon host.host_name) base.hosts
  pub plain_services : All (λ service. HasNoSemicolon service.service_description) base.services

pub record AreLinked (base : Base) : Type 0 where
  pub parents :
      All (λ host. ArePlaces (length base.hosts) (map (λ id. id.0) host.parents)) base.hosts
  pub host_fields : All (λ host. AreSoundFields base host.fields) base.hosts
  pub service_hosts : All (λ service. service.host.0 < length base.hosts) base.services
  pub service_names :
      All (λ service. slice_get (map (λ host. host.host_name) base.hosts) service.host.0
      ≡ Some service.host_name)
      base.services
  pub service_fields : All (λ service. AreSoundFields base service.fields) base.services
  pub host_groups :
      All (λ group. ArePlaces (length base.hosts) (map (λ id. id.0) group.members)) base.host_groups
  pub service_groups :
      All (λ group. ArePlaces (length base.services) (map (λ id. id.0) group.members))
      base.service_groups
  pub contact_groups :
      All (λ group. ArePlaces (length base.contacts) (map (λ id. id.0) group.members))
      base.contact_groups

-- its names are those of different objects, its ids are places in its lists, its numbers are in
-- their ranges, and its lists are within the limits
pub record IsSound (base : Base) : Type 0 where
  pub limited : AreLimited base
  pub named : AreNamed base
  pub linked : AreLinked base
