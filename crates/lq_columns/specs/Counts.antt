-- How many hosts and services are in a state, and the worst state of several.
use Rattle.std.specs.Prelude.{ℕ, ℤ, pos, ◌==◌, ◌&&◌, not, Bool, true, List, [], ◌∷◌, length, filter}
use Rattle.std.specs.Prelude.{if◌then◌else◌}
use Rattle.std.specs.List.{list_any, range_with_len}
use Rattle.std.specs.Ordering.{int_eq}
use Rattle.lq_records.specs.Places.{holds_at, items_at, list_at}
use Rattle.lq_records.specs.declared.base.Base.{Base}
use Rattle.lq_records.specs.declared.ids.HostId.{HostId}
use Rattle.lq_records.specs.declared.ids.HostGroupId.{HostGroupId}
use Rattle.lq_records.specs.declared.ids.ServiceGroupId.{ServiceGroupId}
use Rattle.lq_records.specs.declared.ids.ServiceId.{ServiceId}
use Rattle.lq_events.specs.declared.status.Status.{Status}
use Rattle.lq_live.specs.State.{State}
use Rattle.lq_auth.specs.Rights.{sees_host, sees_service_at}
use Rattle.lq_auth.specs.declared.view.View.{View}
use Rattle.lq_columns.specs.Names.{has_host, is_service_of}
use Rattle.lq_columns.specs.declared.scope.Scope.{Scope}
use Rattle.lq_columns.specs.declared.scope.Scope.TheVariants as scope
use Rattle.lq_columns.specs.declared.counted.Counted.{Counted}
use Rattle.lq_columns.specs.declared.counted.Counted.TheVariants as counted

-- ---- the hosts and services that are counted

-- the hosts that a group lists
abbrev pub group_members : Base → HostGroupId → List HostId
group_members base group = list_at (λ group. group.members) base.host_groups group.0

-- the services that a group lists
abbrev pub service_members : Base → ServiceGroupId → List ServiceId
service_members base group = list_at (λ group. group.members) base.service_groups group.0

-- the service at a place is one of a host that a group lists
abbrev pub is_group_service : Base → HostGroupId → ℕ → Bool
is_group_service base group place =
    holds_at (λ service. has_host (group_members base group) service.host) base.services place

-- a group lists the service at a place
abbrev pub group_lists : Base → ServiceGroupId → ℕ → Bool
group_lists base group place =
    holds_at (λ group. list_any (λ member. member.0 == place) group.members) base.service_groups
    group.0

abbrev pub is_in_scope : Base → Scope → ℕ → Bool
is_in_scope base (scope.Host id) place = is_service_of base id place
is_in_scope base (scope.HostGroup group) place = is_group_service base group place
is_in_scope base (scope.ServiceGroup group) place = group_lists base group place

-- the places of a base's services
abbrev pub service_places : Base → List ℕ
service_places base = range_with_len 0 (length base.services)

-- the places of the services that a scope takes in
abbrev pub scope_places : Base → Scope → List ℕ
scope_places base scope = filter (is_in_scope base scope) (service_places base)

-- the places of those of them that are seen
abbrev pub seen_places : Base → View → Scope → List ℕ
seen_places base view scope = filter (sees_service_at view) (scope_places base scope)

-- the hosts that a group lists and that are seen
abbrev pub seen_members : Base → View → HostGroupId → List HostId
seen_members base view group = filter (sees_host view) (group_members base group)

-- ---- counts

abbrev pub is_pending : Status → Bool
is_pending status = status.has_been_checked == 0

-- an object that was never checked counts as pending, whatever its state
abbrev pub counts : Counted → Status → Bool
counts counted.All status = true
counts counted.Pending status = is_pending status
counts (counted.In state) status = not (is_pending status) && int_eq status.state state

abbrev pub counts_at : List Status → Counted → ℕ → Bool
counts_at statuses which place = holds_at (counts which) statuses place

-- services and hosts that are seen
abbrev pub services_counted : State → View → Scope → Counted → ℕ
services_counted s view scope which =
    length (filter (counts_at s.service_status which) (seen_places s.base view scope))

abbrev pub hosts_counted : State → View → HostGroupId → Counted → ℕ
hosts_counted s view group which =
    length (filter (λ id. counts_at s.host_status which id.0) (seen_members s.base view group))

-- ---- the worst state

-- the state that a member counts with: 0 where it was never checked
abbrev pub state_of_member : Status → ℤ
state_of_member member = if is_pending member then pos 0 else member.state

-- some member counts with a state
abbrev pub has_state : List Status → ℕ → Bool
has_state members state = list_any (λ member. int_eq (state_of_member member) (pos state)) members

-- the last of some states, or a state that comes before them all
abbrev pub last_after : ℕ → List ℕ → ℕ
last_after before [] = before
last_after before (state ∷ states) = last_after state states

-- the last state of an order, from good to bad, that some member counts with, and 0 without one
unfoldable pub worst_of : List ℕ → List Status → ℕ
worst_of order members = last_after 0 (filter (has_state members) order)

-- the worst state of the services of a scope that are seen, in the order ok, warning, unknown,
-- critical
abbrev pub worst_service : State → View → Scope → ℕ
worst_service s view scope =
    worst_of (0 ∷ 1 ∷ 3 ∷ 2 ∷ [])
    (items_at s.service_status (λ place. place) (seen_places s.base view scope))

-- the worst state of the hosts that a group lists and that are seen, in the order up, unreachable,
-- down
abbrev pub worst_host : State → View → HostGroupId → ℕ
worst_host s view group =
    worst_of (0 ∷ 2 ∷ 1 ∷ [])
    (items_at s.host_status (λ id. id.0) (seen_members s.base view group))
