-- What whole outputs come to when they are parted.
use Rattle.std.proofs.Common.{◌≡◌, ◌∙◌, ℕ, Bool, Some, None, List, [], ◌∷◌, map, refl, ap}
use Rattle.std.proofs.lemmas.List.{map-set}
use Rattle.std.proofs.lemmas.Option.{slice_get-map}
use Rattle.std.specs.List.{slice_get, slice_set}
use Rattle.std.specs.Option.{option_map}
use Rattle.lq_records.specs.declared.base.Base.{Base}
use Rattle.lq_records.specs.declared.base.Host.{Host}
use Rattle.lq_records.specs.declared.base.Service.{Service}
use Rattle.lq_records.specs.declared.object.Object.{Object}
use Rattle.lq_records.specs.declared.object.Object.TheVariants as object
use Rattle.lq_events.specs.declared.log_entry.LogEntry.{LogEntry}
use Rattle.lq_events.specs.declared.status.Status.{Status}
use Rattle.lq_live.specs.Opening.{status_told}
use Rattle.lq_live.specs.Results.{status_after}
use Rattle.lq_live.specs.State.{State, all_pending, changed_at, object_status, pending, with_status}
use Rattle.lq_live.specs.Whole.{all_parted, with_parted_output, whole_told}

parted_told : (entry : LogEntry) (hard : Bool) (old : Status) → with_parted_output (whole_told entry hard old) ≡ status_told entry hard (with_parted_output old)
unfolding status_after
parted_told entry hard old = refl

-- ---- one place of a list

at_place : (entry : LogEntry) (hard : Bool) (place : ℕ) (items : List Status) (old : Status) → slice_get items place ≡ Some old
    → map with_parted_output (changed_at (λ _. whole_told entry hard old) place items) ≡ changed_at (status_told entry hard) place (map with_parted_output items)
at_place entry hard place items old is =
    let found : slice_get (map with_parted_output items) place ≡ Some (with_parted_output old) = slice_get-map with_parted_output items place ∙ ap (option_map with_parted_output) is in
    rw (is, found) (map-set with_parted_output items place (whole_told entry hard old) ∙ ap (slice_set (map with_parted_output items) place) (parted_told entry hard old))

no_place : (entry : LogEntry) (hard : Bool) (place : ℕ) (items : List Status) → slice_get items place ≡ None
    → map with_parted_output items ≡ changed_at (status_told entry hard) place (map with_parted_output items)
no_place entry hard place items is =
    let found : slice_get (map with_parted_output items) place ≡ None = slice_get-map with_parted_output items place ∙ ap (option_map with_parted_output) is in
    rw found refl

-- ---- an object's status

pub told_parted : (entry : LogEntry) (hard : Bool) (of : Object) (s : State) (old : Status) → object_status s of ≡ Some old
    → all_parted (with_status (λ _. whole_told entry hard old) of s) ≡ with_status (status_told entry hard) of (all_parted s)
told_parted entry hard (object.Host id) s old is =
    ap (λ statuses. record s { host_status = statuses; service_status = map with_parted_output s.service_status }) (at_place entry hard id.0 s.host_status old is)
told_parted entry hard (object.Service id) s old is =
    ap (λ statuses. record s { host_status = map with_parted_output s.host_status; service_status = statuses }) (at_place entry hard id.0 s.service_status old is)

pub none_parted : (entry : LogEntry) (hard : Bool) (of : Object) (s : State) → object_status s of ≡ None
    → all_parted s ≡ with_status (status_told entry hard) of (all_parted s)
none_parted entry hard (object.Host id) s is =
    ap (λ statuses. record s { host_status = statuses; service_status = map with_parted_output s.service_status }) (no_place entry hard id.0 s.host_status is)
none_parted entry hard (object.Service id) s is =
    ap (λ statuses. record s { host_status = map with_parted_output s.host_status; service_status = statuses }) (no_place entry hard id.0 s.service_status is)

-- ---- before the first line

all_still : {X : Type 0} (notified : X → ℕ) (items : List X) → map with_parted_output (map (λ item. pending (notified item)) items) ≡ map (λ item. pending (notified item)) items
all_still notified [] = refl
all_still notified (item ∷ items) = ap (λ rest. pending (notified item) ∷ rest) (all_still notified items)

pub pending_parted : (base : Base) → all_parted (all_pending base) ≡ all_pending base
pending_parted base = rw (all_still (λ (host : Host). host.fields.notifications_enabled) base.hosts, all_still (λ (service : Service). service.fields.notifications_enabled) base.services) refl
