-- Services by their own contacts, and by those of their hosts.
use Rattle.std.proofs.Common.{◌≡◌, ℕ, Bool, true, false, ◌||◌, Option, List, map, zip, slice_index_or, refl, ap, ◌∙◌}
use Rattle.lq_records.specs.declared.base.Base.{Base}
use Rattle.lq_records.specs.declared.base.Service.{Service}
use Rattle.lq_records.specs.declared.ids.ContactId.{ContactId}
use Rattle.lq_auth.specs.Rights.{is_contact_of, is_host_seen, is_host_seen_at, is_service_seen}
use Rattle.lq_auth.proofs.MarkLemmas.{mark_of_each, tested_together}

or_false : (b : Bool) → b ≡ (b || false)
or_false true = refl
or_false false = refl

module _ (base : Base) (contact : Option ContactId) where
  strict_each : (service : Service) → base.rules.service_strict ≡ true → is_contact_of base contact service.fields ≡ is_service_seen base contact service
  strict_each service strict = rw strict (or_false (is_contact_of base contact service.fields))

  -- under strict rules a service is seen by its own contacts alone
  pub seen_strictly : base.rules.service_strict ≡ true
      → map (λ (service : Service). is_contact_of base contact service.fields) base.services ≡ map (is_service_seen base contact) base.services
  seen_strictly strict i = map (λ service. strict_each service strict i) base.services

  loose_each : (hosts : List Bool) (service : Service) → base.rules.service_strict ≡ false → hosts ≡ map (is_host_seen base contact) base.hosts
      → (is_contact_of base contact service.fields || slice_index_or hosts service.host.0 false) ≡ is_service_seen base contact service
  loose_each hosts service loose made =
      let host : slice_index_or hosts service.host.0 false ≡ is_host_seen_at base contact service.host =
      ap (λ list. slice_index_or list service.host.0 false) made ∙ mark_of_each (is_host_seen base contact) base.hosts service.host.0 in
      rw (loose, host) refl

  -- under loose rules also by those of its host
  pub seen_loosely : (hosts marks : List Bool) (owners : List ℕ) → base.rules.service_strict ≡ false → hosts ≡ map (is_host_seen base contact) base.hosts
      → marks ≡ map (λ (service : Service). is_contact_of base contact service.fields) base.services → owners ≡ map (λ (service : Service). service.host.0) base.services
      → map (λ (pair : Bool × ℕ). pair.0 || slice_index_or hosts pair.1 false) (zip marks owners) ≡ map (is_service_seen base contact) base.services
  seen_loosely hosts marks owners loose made marked owned =
      ap (λ list. map (λ (pair : Bool × ℕ). pair.0 || slice_index_or hosts pair.1 false) (zip list owners)) marked
      ∙ ap (λ list. map (λ (pair : Bool × ℕ). pair.0 || slice_index_or hosts pair.1 false) (zip (map (λ (service : Service). is_contact_of base contact service.fields) base.services) list)) owned
      ∙ tested_together (λ (pair : Bool × ℕ). pair.0 || slice_index_or hosts pair.1 false) (λ (service : Service). is_contact_of base contact service.fields) (λ (service : Service). service.host.0) base.services
      ∙ (λ i. map (λ service. loose_each hosts service loose made i) base.services)
