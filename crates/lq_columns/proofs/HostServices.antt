-- The services of a host are those at the places that the base keeps of it.
use Rattle.std.proofs.Common.{◌≡◌, ℕ, Bool, true, false, cond, List, [], ◌∷◌, map, filter, refl, ap, ◌∙◌}
use Rattle.lq_auth.specs.Rights.{sees_service}
use Rattle.lq_auth.specs.declared.view.View.{View}
use Rattle.lq_records.specs.declared.base.Base.{Base}
use Rattle.lq_records.specs.declared.ids.HostId.{HostId}
use Rattle.lq_records.specs.declared.ids.ServiceId.{ServiceId}
use Rattle.lq_columns.specs.Counts.{scope_places, service_places}
use Rattle.lq_columns.specs.Names.{is_service_of, seen_services}
use Rattle.lq_columns.specs.declared.scope.Scope.TheVariants as scope

kept : {A B : Type 0} (make : A → B) (item : A) (rest : List A) (b : Bool) → map make (cond b (item ∷ rest) rest) ≡ cond b (make item ∷ map make rest) (map make rest)
kept make item rest true = refl
kept make item rest false = refl

-- what is made of the items that pass a test are those of what is made of all that pass it
made : {A B : Type 0} (make : A → B) (test : B → Bool) (items : List A) → map make (filter (λ item. test (make item)) items) ≡ filter test (map make items)
made make test [] = refl
made make test (item ∷ items) =
    kept make item (filter (λ item. test (make item)) items) (test (make item)) ∙ ap (λ rest. cond (test (make item)) (make item ∷ rest) rest) (made make test items)

pub seen_by_their_places : (base : Base) (view : View) (id : HostId) (places : List ℕ) (ids : List ServiceId) → places ≡ scope_places base (scope.Host id)
    → ids ≡ filter (sees_service view) (map (λ place. record { 0 = place }) places) → ids ≡ seen_services base view id
seen_by_their_places base view id places ids of_host is =
    is ∙ ap (λ those. filter (sees_service view) (map (λ place. record { 0 = place }) those)) of_host
    ∙ ap (filter (sees_service view)) (made (λ (place : ℕ). record { 0 = place }) (λ (service : ServiceId). is_service_of base id service.0) (service_places base))
