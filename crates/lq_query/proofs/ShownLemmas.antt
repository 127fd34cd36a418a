-- Cells of what a view shows, at states that agree in it.
use Rattle.std.proofs.Common.{◌≡◌, ℕ, ◌+◌, ◌<◌, Bool, true, false, ◌&&◌, ◌||◌, Option, Some, None, IfSome, List, [], ◌∷◌, length, map, filter, get_or, slice_get, refl, sym, ap, subst, arith, ◌∙◌}
use Rattle.std.specs.List.{list_any}
use Rattle.std.specs.Option.{option_and_then, option_map, option_map_or}
use Rattle.std.proofs.lemmas.Bool.{eq-eqb, eqb-true}
use Rattle.std.proofs.lemmas.List.Folds.{list_any_at}
use Rattle.std.proofs.lemmas.List.FromFn.{get_or-range_with_len, length-range_with_len}
use Rattle.std.proofs.lemmas.Option.{slice_get_within}
use Rattle.lq_records.specs.declared.base.Host.{Host}
use Rattle.lq_records.specs.declared.base.Service.{Service}
use Rattle.lq_records.specs.declared.ids.HostGroupId.{HostGroupId}
use Rattle.lq_records.specs.declared.ids.HostId.{HostId}
use Rattle.lq_records.specs.declared.ids.ServiceId.{ServiceId}
use Rattle.lq_records.specs.declared.object.Object.{Object}
use Rattle.lq_records.specs.declared.object.Object.TheVariants as object
use Rattle.lq_records.specs.Object.{is_same_object}
use Rattle.lq_events.specs.declared.status.Comment.{Comment}
use Rattle.lq_events.specs.declared.status.Downtime.{Downtime}
use Rattle.lq_events.specs.declared.status.Status.{Status}
use Rattle.lq_schema.specs.declared.host.HostColumn.{HostColumn}
use Rattle.lq_schema.specs.declared.host.HostColumn.TheVariants as host_column
use Rattle.lq_schema.specs.declared.host_counter.HostCounter.{HostCounter}
use Rattle.lq_schema.specs.declared.host_counter.HostCounter.TheVariants as host_counter
use Rattle.lq_schema.specs.declared.host_group.HostGroupColumn.{HostGroupColumn}
use Rattle.lq_schema.specs.declared.host_group.HostGroupColumn.TheVariants as host_group
use Rattle.lq_schema.specs.declared.service.ServiceColumn.{ServiceColumn}
use Rattle.lq_schema.specs.declared.service.ServiceColumn.TheVariants as service_column
use Rattle.lq_schema.specs.declared.service_counter.ServiceCounter.{ServiceCounter}
use Rattle.lq_schema.specs.declared.service_counter.ServiceCounter.TheVariants as service_counter
use Rattle.lq_schema.specs.declared.service_group.ServiceGroupColumn.{ServiceGroupColumn}
use Rattle.lq_schema.specs.declared.service_group.ServiceGroupColumn.TheVariants as service_group
use Rattle.lq_schema.specs.declared.status.StatusColumn.{StatusColumn}
use Rattle.lq_schema.specs.declared.status.StatusColumn.TheVariants as status_column
use Rattle.lq_schema.specs.Value.{Numbers}
use Rattle.lq_live.specs.State.{State}
use Rattle.lq_auth.specs.Rights.{sees_host, sees_object, sees_service, sees_service_at}
use Rattle.lq_auth.specs.declared.view.View.{View}
use Rattle.lq_columns.specs.Cells.{HostRecord, ServiceRecord, flag, host_at, host_cell, hosts_cell, natural, notification_period_of, service_at, service_cell, services_cell, status_cell}
use Rattle.lq_columns.specs.Counts.{group_members, scope_places, seen_members, seen_places, service_places, worst_host, worst_of, worst_service}
use Rattle.lq_columns.specs.Names.{is_service_of}
use Rattle.lq_columns.specs.declared.scope.Scope.{Scope}
use Rattle.lq_columns.specs.declared.scope.Scope.TheVariants as scope
use Rattle.lq_tables.specs.About.{HostGroupRecord, ServiceGroupRecord, host_of_object, service_of_object}
use Rattle.lq_tables.specs.Cells.{host_group_cell, host_group_part, host_part, service_group_cell, service_group_part, service_part}
use Rattle.lq_query.specs.Isolation.{AgreesIn, is_shown}
use Rattle.lq_query.proofs.KeptLemmas.{filter_kept, filter_map_kept, kept_of_same}
use Rattle.lq_query.proofs.ToldLemmas.{flapping_agrees, period_agrees}

-- one state with the objects, the second and the switch of another
abbrev pub like : State → State → State
like s t = record t { base = s.base; now = s.now; notifications = s.notifications }

abbrev host_made : HostId → Host → Status → HostRecord
host_made id host status = record { id = id; host = host; status = status }

abbrev service_made : ServiceId → Service → Status → ServiceRecord
service_made id service status = record { id = id; service = service; status = status }

pub and_right : (a b : Bool) → (a && b) ≡ true → b ≡ true
and_right true b both = both
and_right false b both = absurd (cc)

or_right : (a b : Bool) → b ≡ true → (a || b) ≡ true
or_right true b is = refl
or_right false b is = is

module _ (s t : State) (view : View) (agree : AgreesIn view s (like s t)) where
  -- ---- what is shown

  pub seen_shown : (about : Object) → sees_object view about ≡ true → is_shown s.base view about ≡ true
  seen_shown (object.Host id) sees = rw sees refl
  seen_shown (object.Service id) sees = sees

  same_shown : (a b : Object) → is_same_object a b ≡ true → is_shown s.base view b ≡ true → is_shown s.base view a ≡ true
  same_shown (object.Host a) (object.Host b) same shown =
      subst (λ n. is_shown s.base view (object.Host (record { 0 = n })) ≡ true) (sym (eqb-true a.0 b.0 same)) shown
  same_shown (object.Service a) (object.Service b) same shown =
      subst (λ n. is_shown s.base view (object.Service (record { 0 = n })) ≡ true) (sym (eqb-true a.0 b.0 same)) shown
  same_shown (object.Host a) (object.Service b) same shown = absurd (cc)
  same_shown (object.Service a) (object.Host b) same shown = absurd (cc)

  -- ---- statuses

  host_same : (id : HostId) → is_shown s.base view (object.Host id) ≡ true → host_at s id ≡ host_at (like s t) id
  host_same id shown =
      let look : Option Status → Option HostRecord
      = λ found. option_and_then (λ host. option_map (λ status. record { id = id; host = host; status = status }) found) (slice_get s.base.hosts id.0) in
      ap look (agree.hosts id shown)

  service_same : (id : ServiceId) → is_shown s.base view (object.Service id) ≡ true → service_at s id ≡ service_at (like s t) id
  service_same id shown =
      let look : Option Status → Option ServiceRecord
      = λ found. option_and_then (λ service. option_map (λ status. record { id = id; service = service; status = status }) found) (slice_get s.base.services id.0) in
      ap look (agree.services id shown)

  status_same : (about : Object) → is_shown s.base view about ≡ true → (status : Status) (column : StatusColumn)
      → status_cell s about status column ≡ status_cell (like s t) about status column
  status_same about shown status status_column.ScheduledDowntimeDepth =
      ap (λ (found : List Downtime). natural (length found))
      (kept_of_same (λ (downtime : Downtime). downtime.active && is_same_object downtime.object about) (λ downtime. is_shown s.base view downtime.object)
      (λ downtime is. same_shown downtime.object about (and_right downtime.active (is_same_object downtime.object about) is) shown) s.downtimes t.downtimes agree.downtimes)
  status_same about shown status status_column.Comments =
      ap (λ (found : List Comment). Numbers (map (λ comment. comment.id) found))
      (kept_of_same (λ (comment : Comment). is_same_object comment.object about) (λ comment. is_shown s.base view comment.object)
      (λ comment is. same_shown comment.object about is shown) s.comments t.comments agree.comments)
  status_same about shown status status_column.Downtimes =
      ap (λ (found : List Downtime). Numbers (map (λ downtime. downtime.id) found))
      (kept_of_same (λ (downtime : Downtime). is_same_object downtime.object about) (λ downtime. is_shown s.base view downtime.object)
      (λ downtime is. same_shown downtime.object about is shown) s.downtimes t.downtimes agree.downtimes)
  status_same about shown status status_column.IsFlapping = ap flag (flapping_agrees s.base view s.log t.log agree.lines about shown)
  status_same about shown status status_column.InNotificationPeriod = ap flag (period_agrees s.base view s.log t.log agree.lines (notification_period_of s.base about))
  status_same about shown status _ = refl

  -- ---- counters

  services_counted_same : (which : Scope) (test : Status → Bool)
      → length (filter (λ place. option_map_or test (slice_get s.service_status place) false) (seen_places s.base view which))
      ≡ length (filter (λ place. option_map_or test (slice_get t.service_status place) false) (seen_places s.base view which))
  services_counted_same which test =
      ap length
      (filter_kept (λ (place : ℕ). option_map_or test (slice_get s.service_status place) false) (λ place. option_map_or test (slice_get t.service_status place) false)
      (sees_service_at view) (λ place sees. ap (λ found. option_map_or test found false) (agree.services (record { 0 = place }) sees)) (scope_places s.base which))

  worst_service_same : (which : Scope) → worst_service s view which ≡ worst_service (like s t) view which
  worst_service_same which =
      ap (worst_of (0 ∷ 1 ∷ 3 ∷ 2 ∷ []))
      (filter_map_kept (slice_get s.service_status) (slice_get t.service_status) (sees_service_at view)
      (λ place sees. agree.services (record { 0 = place }) sees) (scope_places s.base which))

  services_same : (which : Scope) (column : ServiceCounter) → services_cell s view which column ≡ services_cell (like s t) view which column
  services_same which service_counter.NumServices = ap natural (services_counted_same which _)
  services_same which service_counter.NumServicesOk = ap natural (services_counted_same which _)
  services_same which service_counter.NumServicesWarn = ap natural (services_counted_same which _)
  services_same which service_counter.NumServicesCrit = ap natural (services_counted_same which _)
  services_same which service_counter.NumServicesUnknown = ap natural (services_counted_same which _)
  services_same which service_counter.NumServicesPending = ap natural (services_counted_same which _)
  services_same which service_counter.WorstServiceState = ap natural (worst_service_same which)

  host_status_same : (id : HostId) → sees_host view id ≡ true → slice_get s.host_status id.0 ≡ slice_get t.host_status id.0
  host_status_same id sees = agree.hosts id (seen_shown (object.Host id) sees)

  hosts_counted_same : (group : HostGroupId) (test : Status → Bool)
      → length (filter (λ (id : HostId). option_map_or test (slice_get s.host_status id.0) false) (seen_members s.base view group))
      ≡ length (filter (λ (id : HostId). option_map_or test (slice_get t.host_status id.0) false) (seen_members s.base view group))
  hosts_counted_same group test =
      ap length
      (filter_kept (λ (id : HostId). option_map_or test (slice_get s.host_status id.0) false) (λ id. option_map_or test (slice_get t.host_status id.0) false) (sees_host view)
      (λ id sees. ap (λ found. option_map_or test found false) (host_status_same id sees)) (group_members s.base group))

  worst_host_same : (group : HostGroupId) → worst_host s view group ≡ worst_host (like s t) view group
  worst_host_same group =
      ap (worst_of (0 ∷ 2 ∷ 1 ∷ []))
      (filter_map_kept (λ (id : HostId). slice_get s.host_status id.0) (λ id. slice_get t.host_status id.0) (sees_host view)
      (λ id sees. host_status_same id sees) (group_members s.base group))

  hosts_same : (group : HostGroupId) (column : HostCounter) → hosts_cell s view group column ≡ hosts_cell (like s t) view group column
  hosts_same group host_counter.NumHosts = ap natural (hosts_counted_same group _)
  hosts_same group host_counter.NumHostsUp = ap natural (hosts_counted_same group _)
  hosts_same group host_counter.NumHostsDown = ap natural (hosts_counted_same group _)
  hosts_same group host_counter.NumHostsUnreach = ap natural (hosts_counted_same group _)
  hosts_same group host_counter.NumHostsPending = ap natural (hosts_counted_same group _)
  hosts_same group host_counter.WorstHostState = ap natural (worst_host_same group)

  -- ---- hosts and services

  host_cell_same : (about : HostRecord) → is_shown s.base view (object.Host about.id) ≡ true → (column : HostColumn)
      → host_cell s view about column ≡ host_cell (like s t) view about column
  host_cell_same about shown (host_column.Status column) = status_same (object.Host about.id) shown about.status column
  host_cell_same about shown (host_column.Counter column) = services_same (scope.Host about.id) column
  host_cell_same about shown _ = refl

  service_cell_same : (about : ServiceRecord) → is_shown s.base view (object.Service about.id) ≡ true → (column : ServiceColumn)
      → service_cell s about column ≡ service_cell (like s t) about column
  service_cell_same about shown (service_column.Status column) = status_same (object.Service about.id) shown about.status column
  service_cell_same about shown _ = refl

  host_part_same : (found : Option HostRecord) → IfSome found (λ about. is_shown s.base view (object.Host about.id) ≡ true) → (column : HostColumn)
      → host_part s view found column ≡ host_part (like s t) view found column
  host_part_same None shown column = refl
  host_part_same (Some about) shown column = host_cell_same about shown column

  service_part_same : (found : Option ServiceRecord) → IfSome found (λ about. is_shown s.base view (object.Service about.id) ≡ true) → (column : ServiceColumn)
      → service_part s found column ≡ service_part (like s t) found column
  service_part_same None shown column = refl
  service_part_same (Some about) shown column = service_cell_same about shown column

  -- ---- the host and the service that an object is, or is on

  host_found : (id : HostId) (host : Option Host) (status : Option Status) → is_shown s.base view (object.Host id) ≡ true
      → IfSome (option_and_then (λ there. option_map (host_made id there) status) host) (λ about. is_shown s.base view (object.Host about.id) ≡ true)
  host_found id None status shown = tt
  host_found id (Some host) None shown = tt
  host_found id (Some host) (Some status) shown = shown

  service_found : (id : ServiceId) (service : Option Service) (status : Option Status) → is_shown s.base view (object.Service id) ≡ true
      → IfSome (option_and_then (λ there. option_map (service_made id there) status) service) (λ about. is_shown s.base view (object.Service about.id) ≡ true)
  service_found id None status shown = tt
  service_found id (Some service) None shown = tt
  service_found id (Some service) (Some status) shown = shown

  -- the host of a service that is seen is shown
  pub runs_on_shown : (id : ServiceId) (service : Service) → sees_service view id ≡ true → slice_get s.base.services id.0 ≡ Some service
      → is_shown s.base view (object.Host service.host) ≡ true
  runs_on_shown id service sees is =
      let test : ℕ → Bool = λ place. sees_service_at view place && is_service_of s.base service.host place in
      let below : id.0 < length s.base.services = slice_get_within s.base.services id.0 service is in
      let from_start : 0 + id.0 ≡ id.0 = omega arith in
      let there : get_or (service_places s.base) id.0 0 ≡ id.0 = get_or-range_with_len 0 (length s.base.services) id.0 0 below ∙ from_start in
      let within : id.0 < length (service_places s.base) = subst (λ n. id.0 < n) (sym (length-range_with_len 0 (length s.base.services))) below in
      let holds : test id.0 ≡ true = rw (sees, is) (eq-eqb service.host.0 service.host.0 refl) in
      or_right (sees_host view service.host) (list_any test (service_places s.base))
      (list_any_at test (service_places s.base) id.0 0 within (subst (λ place. test place ≡ true) (sym there) holds))

  runs_on_found : (id : ServiceId) (service : Option Service) (status : Option Status) → sees_service view id ≡ true → slice_get s.base.services id.0 ≡ service
      → IfSome (option_and_then (λ there. option_map (service_made id there) status) service) (λ about. is_shown s.base view (object.Host about.service.host) ≡ true)
  runs_on_found id None status sees is = tt
  runs_on_found id (Some service) None sees is = tt
  runs_on_found id (Some service) (Some status) sees is = runs_on_shown id service sees is

  host_of_service_same : (found : Option ServiceRecord) → IfSome found (λ about. is_shown s.base view (object.Host about.service.host) ≡ true)
      → option_and_then (λ about. host_at s about.service.host) found ≡ option_and_then (λ about. host_at (like s t) about.service.host) found
  host_of_service_same None shown = refl
  host_of_service_same (Some about) shown = host_same about.service.host shown

  host_of_same : (about : Object) → is_shown s.base view about ≡ true → host_of_object s about ≡ host_of_object (like s t) about
  host_of_same (object.Host id) shown = host_same id shown
  host_of_same (object.Service id) shown =
      ap (λ found. option_and_then (λ (about : ServiceRecord). host_at s about.service.host) found) (service_same id shown)
      ∙ host_of_service_same (service_at (like s t) id) (runs_on_found id (slice_get s.base.services id.0) (slice_get t.service_status id.0) shown refl)

  host_of_host_shown : (found : Option ServiceRecord) → IfSome found (λ about. is_shown s.base view (object.Host about.service.host) ≡ true)
      → IfSome (option_and_then (λ about. host_at s about.service.host) found) (λ about. is_shown s.base view (object.Host about.id) ≡ true)
  host_of_host_shown None shown = tt
  host_of_host_shown (Some about) shown =
      host_found about.service.host (slice_get s.base.hosts about.service.host.0) (slice_get s.host_status about.service.host.0) shown

  host_of_shown : (about : Object) → is_shown s.base view about ≡ true → IfSome (host_of_object s about) (λ found. is_shown s.base view (object.Host found.id) ≡ true)
  host_of_shown (object.Host id) shown = host_found id (slice_get s.base.hosts id.0) (slice_get s.host_status id.0) shown
  host_of_shown (object.Service id) shown =
      host_of_host_shown (service_at s id) (runs_on_found id (slice_get s.base.services id.0) (slice_get s.service_status id.0) shown refl)

  service_of_same : (about : Object) → is_shown s.base view about ≡ true → service_of_object s about ≡ service_of_object (like s t) about
  service_of_same (object.Host id) shown = refl
  service_of_same (object.Service id) shown = service_same id shown

  service_of_shown : (about : Object) → is_shown s.base view about ≡ true → IfSome (service_of_object s about) (λ found. is_shown s.base view (object.Service found.id) ≡ true)
  service_of_shown (object.Host id) shown = tt
  service_of_shown (object.Service id) shown = service_found id (slice_get s.base.services id.0) (slice_get s.service_status id.0) shown

  -- ---- the columns of an object, and of groups

  pub host_column_same : (about : Option Object) → IfSome about (λ found. is_shown s.base view found ≡ true) → (column : HostColumn)
      → host_part s view (option_and_then (host_of_object s) about) column ≡ host_part (like s t) view (option_and_then (host_of_object (like s t)) about) column
  host_column_same None shown column = refl
  host_column_same (Some about) shown column =
      host_part_same (host_of_object s about) (host_of_shown about shown) column ∙ ap (λ found. host_part (like s t) view found column) (host_of_same about shown)

  pub service_column_same : (about : Option Object) → IfSome about (λ found. is_shown s.base view found ≡ true) → (column : ServiceColumn)
      → service_part s (option_and_then (service_of_object s) about) column ≡ service_part (like s t) (option_and_then (service_of_object (like s t)) about) column
  service_column_same None shown column = refl
  service_column_same (Some about) shown column =
      service_part_same (service_of_object s about) (service_of_shown about shown) column ∙ ap (λ found. service_part (like s t) found column) (service_of_same about shown)

  host_group_cell_same : (about : HostGroupRecord) (column : HostGroupColumn) → host_group_cell s view about column ≡ host_group_cell (like s t) view about column
  host_group_cell_same about (host_group.Hosts column) = hosts_same about.id column
  host_group_cell_same about (host_group.Services column) = services_same (scope.HostGroup about.id) column
  host_group_cell_same about _ = refl

  pub host_group_same : (found : Option HostGroupRecord) (column : HostGroupColumn) → host_group_part s view found column ≡ host_group_part (like s t) view found column
  host_group_same None column = refl
  host_group_same (Some about) column = host_group_cell_same about column

  service_group_cell_same : (about : ServiceGroupRecord) (column : ServiceGroupColumn) → service_group_cell s view about column ≡ service_group_cell (like s t) view about column
  service_group_cell_same about (service_group.Services column) = services_same (scope.ServiceGroup about.id) column
  service_group_cell_same about _ = refl

  pub service_group_same : (found : Option ServiceGroupRecord) (column : ServiceGroupColumn) → service_group_part s view found column ≡ service_group_part (like s t) view found column
  service_group_same None column = refl
  service_group_same (Some about) column = service_group_cell_same about column
