-- The services of some hosts, host by host.
use Rattle.std.specs.Prelude.{ℕ, List, filter}
use Rattle.std.specs.List.{flat_map}
use Rattle.lq_auth.specs.Rights.{sees_service_at}
use Rattle.lq_auth.specs.declared.view.View.{View}
use Rattle.lq_records.specs.declared.base.Base.{Base}
use Rattle.lq_records.specs.declared.ids.HostId.{HostId}
use Rattle.lq_columns.specs.Counts.{scope_places}
use Rattle.lq_columns.specs.declared.scope.Scope.TheVariants as scope

-- the places of the services of each host, in the order of the hosts
abbrev pub places_of_hosts : Base → List HostId → List ℕ
places_of_hosts base hosts = flat_map (λ id. scope_places base (scope.Host id)) hosts

-- of those that are seen
abbrev pub seen_of_hosts : Base → View → List HostId → List ℕ
seen_of_hosts base view hosts = filter (sees_service_at view) (places_of_hosts base hosts)
