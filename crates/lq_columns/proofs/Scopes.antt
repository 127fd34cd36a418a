-- What a cell makes of the services of hosts, or of a service group's members, is what its definition makes of the places of the
-- scope.
use Rattle.std.proofs.Common.{◌≡◌, ◌≢◌, ℕ, ◌+◌, ◌^◌, ◌<◌, ◌≤◌, ◌==◌, AllPairs, Bool, true, false, cond, Option, None, Some, List, [], ◌∷◌, length, drop, get_or, map, filter, max, fold, refl, sym, ap, subst, ◌∙◌, add-one, append-nil, drop-cons, arith}
use Rattle.std.specs.List.{list_any, range_with_len, slice_get}
use Rattle.std.specs.Option.{option_map_or}
use Rattle.std.proofs.lemmas.List.{length-append}
use Rattle.std.proofs.lemmas.List.Elements.{filter-append, filter_agree}
use Rattle.std.proofs.lemmas.List.FromFn.{length-range_with_len}
use Rattle.std.proofs.lemmas.Option.{get_or_from_slice_get, slice_get_within}
use Rattle.lq_auth.specs.Rights.{sees_service, sees_service_at}
use Rattle.lq_auth.specs.declared.view.View.{View}
use Rattle.lq_events.specs.declared.status.Status.{Status}
use Rattle.lq_records.specs.Sound.{ArePlaces, IsSound}
use Rattle.lq_records.specs.declared.base.Base.{Base}
use Rattle.lq_records.specs.declared.base.HostGroup.{HostGroup}
use Rattle.lq_records.specs.declared.base.Service.{Service}
use Rattle.lq_records.specs.declared.base.ServiceGroup.{ServiceGroup}
use Rattle.lq_records.specs.declared.ids.HostGroupId.{HostGroupId}
use Rattle.lq_records.specs.declared.ids.HostId.{HostId}
use Rattle.lq_records.specs.declared.ids.ServiceGroupId.{ServiceGroupId}
use Rattle.lq_records.specs.declared.ids.ServiceId.{ServiceId}
use Rattle.lq_columns.proofs.MemberLemmas.{greatest_over_members, greatest_over_owned, number_over_members, number_over_owned}
use Rattle.lq_columns.specs.Counts.{counts_at, group_lists, group_members, is_group_service, scope_places, seen_places, service_members, service_places}
use Rattle.lq_columns.specs.Hosts.{places_of_hosts, seen_of_hosts}
use Rattle.lq_columns.specs.Severity.{service_severity, severity_at}
use Rattle.lq_columns.specs.declared.counted.Counted.{Counted}
use Rattle.lq_columns.specs.declared.scope.Scope.TheVariants as scope

-- ---- the services of a host

pub greatest_of_host : (base : Base) (statuses : List Status) (view : View) (id : HostId) (hosts : List HostId) (severity : ℕ) → hosts ≡ id ∷ []
    → severity ≡ fold max 0 (map (severity_at service_severity statuses) (seen_of_hosts base view hosts))
    → severity ≡ fold max 0 (map (severity_at service_severity statuses) (seen_places base view (scope.Host id)))
greatest_of_host base statuses view id hosts severity own is =
    is
    ∙ ap (λ those. fold max 0 (map (severity_at service_severity statuses) (seen_of_hosts base view those))) own
    ∙ ap (λ places. fold max 0 (map (severity_at service_severity statuses) (filter (sees_service_at view) places))) (append-nil (scope_places base (scope.Host id)))

-- ---- the services of several hosts, one host after the other

more_hosts : (base : Base) (statuses : List Status) (view : View) (which : Counted) (id : HostId) (hosts : List HostId)
    → length (filter (counts_at statuses which) (seen_of_hosts base view (id ∷ hosts)))
    ≡ length (filter (counts_at statuses which) (seen_places base view (scope.Host id))) + length (filter (counts_at statuses which) (seen_of_hosts base view hosts))
more_hosts base statuses view which id hosts =
    let counted = counts_at statuses which in
    ap (λ places. length (filter counted places)) (filter-append (sees_service_at view) (scope_places base (scope.Host id)) (places_of_hosts base hosts))
    ∙ ap length (filter-append counted (seen_places base view (scope.Host id)) (seen_of_hosts base view hosts))
    ∙ length-append (filter counted (seen_places base view (scope.Host id))) (filter counted (seen_of_hosts base view hosts))

-- the services of the hosts before one, of that one, and of those after it
pub one_host_more : (base : Base) (statuses : List Status) (view : View) (which : Counted) (hosts : List HostId) (i : ℕ) (d : HostId) (places : List ℕ) (count number total : ℕ) → i < length hosts
    → places ≡ scope_places base (scope.Host (get_or hosts i d)) → number ≡ length (filter (counts_at statuses which) (filter (sees_service_at view) places))
    → count + length (filter (counts_at statuses which) (seen_of_hosts base view (drop i hosts))) ≡ total
    → count + number + length (filter (counts_at statuses which) (seen_of_hosts base view (drop (i + 1) hosts))) ≡ total
one_host_more base statuses view which hosts i d places count number total more own is before =
    let left : drop i hosts ≡ get_or hosts i d ∷ drop (i + 1) hosts = rw (add-one, drop-cons hosts i d more) refl in
    let here = is ∙ ap (λ those. length (filter (counts_at statuses which) (filter (sees_service_at view) those))) own in
    let rest = ap (λ those. length (filter (counts_at statuses which) (seen_of_hosts base view those))) left ∙ more_hosts base statuses view which (get_or hosts i d) (drop (i + 1) hosts) in
    omega (arith, here, rest, before)

-- ---- the services of the hosts in a group

different_of : (count : ℕ) (found : Option HostGroup) → ((group : HostGroup) → found ≡ Some group → ArePlaces count (map (λ id. id.0) group.members))
    → AllPairs (λ a b. a ≢ b) (map (λ (id : HostId). id.0) (option_map_or (λ (group : HostGroup). group.members) found []))
different_of count None each = λ i j d before below. absurd (omega arith)
different_of count (Some group) each = let places = each group refl in places.different

are_different : (base : Base) → IsSound base → (group : HostGroupId) → AllPairs (λ a b. a ≢ b) (map (λ (id : HostId). id.0) (group_members base group))
are_different base sound group = different_of (length base.hosts) (slice_get base.host_groups group.0) (λ one is.
    subst (λ (own : HostGroup). ArePlaces (length base.hosts) (map (λ id. id.0) own.members)) (get_or_from_slice_get base.host_groups group.0 one one is)
    (sound.linked.host_groups group.0 one (slice_get_within base.host_groups group.0 one is)))

pub counted_of_group : (base : Base) (statuses : List Status) (view : View) (group : HostGroupId) (which : Counted) (hosts : List HostId) (count : ℕ) → IsSound base
    → hosts ≡ group_members base group
    → count ≡ length (filter (counts_at statuses which) (seen_of_hosts base view hosts))
    → count ≡ length (filter (counts_at statuses which) (seen_places base view (scope.HostGroup group)))
counted_of_group base statuses view group which hosts count sound own is =
    is
    ∙ ap (λ those. length (filter (counts_at statuses which) (seen_of_hosts base view those))) own
    ∙ number_over_owned (λ (service : Service). service.host.0) (slice_get base.services) (λ (id : HostId). id.0) (sees_service_at view) (service_places base) (group_members base group)
    (are_different base sound group) (counts_at statuses which)

kept-le : {A : Type 0} (b : Bool) (item : A) (kept rest : List A) → length kept ≤ length rest → length (cond b (item ∷ kept) kept) ≤ length (item ∷ rest)
kept-le true item kept rest below = omega (arith, below)
kept-le false item kept rest below = omega (arith, below)

filter-le : {A : Type 0} (test : A → Bool) (items : List A) → length (filter test items) ≤ length items
filter-le test [] = omega arith
filter-le test (item ∷ items) = kept-le (test item) item (filter test items) items (filter-le test items)

-- they are no more than all services
pub few_of_group : (base : Base) (statuses : List Status) (view : View) (group : HostGroupId) (which : Counted) (hosts : List HostId) → IsSound base
    → hosts ≡ group_members base group
    → length (filter (counts_at statuses which) (seen_of_hosts base view hosts)) < 2 ^ 64
few_of_group base statuses view group which hosts sound own =
    let count = length (filter (counts_at statuses which) (seen_of_hosts base view hosts)) in
    let same = counted_of_group base statuses view group which hosts count sound own refl in
    let seen = seen_places base view (scope.HostGroup group) in
    let counted = filter-le (counts_at statuses which) seen in
    let listed = filter-le (sees_service_at view) (scope_places base (scope.HostGroup group)) in
    let all = filter-le (is_group_service base group) (service_places base) in
    let places = length-range_with_len 0 (length base.services) in
    omega (arith, same, counted, listed, all, places, sound.limited.services)

pub greatest_of_group : (base : Base) (statuses : List Status) (view : View) (group : HostGroupId) (hosts : List HostId) (severity : ℕ) → IsSound base
    → hosts ≡ group_members base group
    → severity ≡ fold max 0 (map (severity_at service_severity statuses) (seen_of_hosts base view hosts))
    → severity ≡ fold max 0 (map (severity_at service_severity statuses) (seen_places base view (scope.HostGroup group)))
greatest_of_group base statuses view group hosts severity sound own is =
    is
    ∙ ap (λ those. fold max 0 (map (severity_at service_severity statuses) (seen_of_hosts base view those))) own
    ∙ greatest_over_owned (λ (service : Service). service.host.0) (slice_get base.services) (λ (id : HostId). id.0) (sees_service_at view) (service_places base) (group_members base group)
    (are_different base sound group) (severity_at service_severity statuses)

-- ---- the members of a service group

places_of : (count : ℕ) (found : Option ServiceGroup) → ((group : ServiceGroup) → found ≡ Some group → ArePlaces count (map (λ id. id.0) group.members))
    → ArePlaces count (map (λ (id : ServiceId). id.0) (option_map_or (λ (group : ServiceGroup). group.members) found []))
places_of count None each = record { different = λ i j d before below. absurd (omega arith); within = λ i d below. absurd (omega arith) }
places_of count (Some group) each = each group refl

are_places : (base : Base) → IsSound base → (group : ServiceGroupId) → ArePlaces (length base.services) (map (λ (id : ServiceId). id.0) (service_members base group))
are_places base sound group = places_of (length base.services) (slice_get base.service_groups group.0) (λ one is.
    subst (λ (own : ServiceGroup). ArePlaces (length base.services) (map (λ id. id.0) own.members)) (get_or_from_slice_get base.service_groups group.0 one one is)
    (sound.linked.service_groups group.0 one (slice_get_within base.service_groups group.0 one is)))

listed : (place : ℕ) (found : Option ServiceGroup) → option_map_or (λ (group : ServiceGroup). list_any (λ member. member.0 == place) group.members) found false
    ≡ list_any (λ (member : ServiceId). member.0 == place) (option_map_or (λ (group : ServiceGroup). group.members) found [])
listed place None = refl
listed place (Some group) = refl

-- the places that a group takes in are those of its members
listed_places : (base : Base) (group : ServiceGroupId) → filter (λ place. list_any (λ (member : ServiceId). member.0 == place) (service_members base group)) (range_with_len 0 (length base.services))
    ≡ scope_places base (scope.ServiceGroup group)
listed_places base group =
    filter_agree (λ place. list_any (λ (member : ServiceId). member.0 == place) (service_members base group)) (group_lists base group)
    (λ place. sym (listed place (slice_get base.service_groups group.0))) (range_with_len 0 (length base.services))

-- ---- what is counted of them

pub counted_in_group : (base : Base) (statuses : List Status) (view : View) (group : ServiceGroupId) (which : Counted) (members : List ServiceId) (count : ℕ) → IsSound base
    → members ≡ service_members base group
    → count ≡ length (filter (λ id. counts_at statuses which id.0) (filter (sees_service view) members))
    → count ≡ length (filter (counts_at statuses which) (seen_places base view (scope.ServiceGroup group)))
counted_in_group base statuses view group which members count sound own is =
    let places = are_places base sound group in
    is
    ∙ ap (λ those. length (filter (λ id. counts_at statuses which id.0) (filter (sees_service view) those))) own
    ∙ number_over_members (λ (id : ServiceId). id.0) (sees_service_at view) (length base.services) (service_members base group) places.different places.within (counts_at statuses which)
    ∙ ap (λ listed. length (filter (counts_at statuses which) (filter (sees_service_at view) listed))) (listed_places base group)

pub greatest_in_group : (base : Base) (statuses : List Status) (view : View) (group : ServiceGroupId) (members : List ServiceId) (severity : ℕ) → IsSound base
    → members ≡ service_members base group
    → severity ≡ fold max 0 (map (λ id. severity_at service_severity statuses id.0) (filter (sees_service view) members))
    → severity ≡ fold max 0 (map (severity_at service_severity statuses) (seen_places base view (scope.ServiceGroup group)))
greatest_in_group base statuses view group members severity sound own is =
    let places = are_places base sound group in
    is
    ∙ ap (λ those. fold max 0 (map (λ id. severity_at service_severity statuses id.0) (filter (sees_service view) those))) own
    ∙ greatest_over_members (λ (id : ServiceId). id.0) (sees_service_at view) (length base.services) (service_members base group) places.different places.within (severity_at service_severity statuses)
    ∙ ap (λ listed. fold max 0 (map (severity_at service_severity statuses) (filter (sees_service_at view) listed))) (listed_places base group)
