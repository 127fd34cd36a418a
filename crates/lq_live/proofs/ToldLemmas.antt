-- What the log last told, after one more line.
use Rattle.std.proofs.Common.{◌≡◌, ℕ, zero, suc, ◌<◌, ◌==◌, ◌&&◌, not, Bool, true, false, Option, Some, None, List, [], ◌∷◌, ◌++◌, length, map, slice_index_or, slice_set, bytes_eq, refl, sym, ap, subst, ◌∙◌, true≢false, arith, if◌then◌else◌}
use Rattle.std.specs.Arc.{arc_value}
use Rattle.std.specs.List.{range_with_len}
use Rattle.std.specs.Option.{option_map_or, unwrap_or}
use Rattle.std.proofs.lemmas.Bool.{eq-eqb, eqb-true, ne_eqb}
use Rattle.std.proofs.lemmas.List.{get_or-set_other, get_or-set_same, length-set}
use Rattle.std.proofs.lemmas.List.Quantifiers.{position-Some}
use Rattle.std.proofs.lemmas.List.Sums.{fold-append}
use Rattle.std.proofs.lemmas.Slice.Eq.{bytes_eq-Decides}
use Rattle.lq_records.specs.Object.{is_same_object}
use Rattle.lq_records.specs.declared.base.Base.{Base}
use Rattle.lq_records.specs.declared.ids.HostId.{HostId}
use Rattle.lq_records.specs.declared.ids.ServiceId.{ServiceId}
use Rattle.lq_records.specs.declared.object.Object.{Object}
use Rattle.lq_records.specs.declared.object.Object.TheVariants as object
use Rattle.lq_events.specs.declared.log_entry.LogEntry.{LogEntry}
use Rattle.lq_log.specs.LastTold.{flapping_in, flapping_told, last_told, period_in, period_of_kind, period_told}
use Rattle.lq_log.specs.Told.{object_of, told_by}
use Rattle.lq_log.specs.declared.telling.Told.TheVariants as telling
use Rattle.lq_live.specs.LastTold.{AreTold, hosts_with, periods_with, place_of_name, services_with}
use Rattle.lq_live.specs.declared.last_told.LastTold.{LastTold}

-- ---- one more line

next_told : (tells : LogEntry → Option Bool) (before : Bool) (log : List LogEntry) (entry : LogEntry)
    → last_told tells before (log ++ entry ∷ []) ≡ unwrap_or (tells entry) (last_told tells before log)
next_told tells before log entry = fold-append (λ known line. unwrap_or (tells line) known) before log (entry ∷ [])

told_none : (tells : LogEntry → Option Bool) (before : Bool) (log : List LogEntry) (entry : LogEntry) → tells entry ≡ None
    → last_told tells before log ≡ last_told tells before (log ++ entry ∷ [])
told_none tells before log entry none =
    sym (next_told tells before log entry ∙ ap (λ (found : Option Bool). unwrap_or found (last_told tells before log)) none)

either_none : (test : Bool) (found : Option Bool) → found ≡ None → (if test then found else None) ≡ None
either_none true found none = none
either_none false found none = refl

unwrap_if : (test on known : Bool) → unwrap_or (if test then Some on else None) known ≡ (if test then on else known)
unwrap_if true on known = refl
unwrap_if false on known = refl

-- a line that tells of a thing, where a test holds
told_where : (tells : LogEntry → Option Bool) (before : Bool) (log : List LogEntry) (entry : LogEntry) (test on : Bool) → tells entry ≡ (if test then Some on else None)
    → (if test then on else last_told tells before log) ≡ last_told tells before (log ++ entry ∷ [])
told_where tells before log entry test on is =
    sym (next_told tells before log entry ∙ ap (λ (found : Option Bool). unwrap_or found (last_told tells before log)) is ∙ unwrap_if test on (last_told tells before log))

-- a line that tells neither of flapping nor of a period
pub told_nothing : (told : LastTold) (base : Base) (entry : LogEntry) (log : List LogEntry) → flapping_in (told_by entry) ≡ None → period_in (told_by entry) ≡ None
    → AreTold told base log → AreTold told base (log ++ entry ∷ [])
told_nothing told base entry log no_flapping no_period are = record {
  hosts = λ id within. are.hosts id within
      ∙ told_none (flapping_told base (object.Host id)) false log entry (either_none (option_map_or (is_same_object (object.Host id)) (object_of base entry) false) (flapping_in (told_by entry)) no_flapping);
  services = λ id within. are.services id within
      ∙ told_none (flapping_told base (object.Service id)) false log entry (either_none (option_map_or (is_same_object (object.Service id)) (object_of base entry) false) (flapping_in (told_by entry)) no_flapping);
  periods = λ name place found within. are.periods name place found within
      ∙ told_none (period_told name) true log entry (either_none (not (length name == 0) && bytes_eq name (period_of_kind entry.kind)) (period_in (told_by entry)) no_period);
}

-- ---- marks

all_same : {A : Type 0} (on : Bool) (xs : List A) (i : ℕ) → i < length (map (λ (_ : A). on) xs) → slice_index_or (map (λ (_ : A). on) xs) i false ≡ on
all_same on [] i within = absurd (omega (arith, within))
all_same on (x ∷ xs) zero within = refl
all_same on (x ∷ xs) (suc i) within = all_same on xs i (omega (arith, within))

pub nothing_told : (told : LastTold) (base : Base) (hosts services periods : ℕ) → told.hosts.items ≡ map (λ (_ : ℕ). false) (range_with_len 0 hosts)
    → told.services.items ≡ map (λ (_ : ℕ). false) (range_with_len 0 services) → told.periods.items ≡ map (λ (_ : ℕ). true) (range_with_len 0 periods) → AreTold told base []
nothing_told told base hosts services periods hosts_are services_are periods_are = record {
  hosts = λ id within. ap (λ list. slice_index_or list id.0 false) hosts_are ∙ all_same false (range_with_len 0 hosts) id.0 (subst (λ (list : List Bool). id.0 < length list) hosts_are within);
  services = λ id within. ap (λ list. slice_index_or list id.0 false) services_are ∙ all_same false (range_with_len 0 services) id.0 (subst (λ (list : List Bool). id.0 < length list) services_are within);
  periods = λ name place found within. ap (λ list. slice_index_or list place false) periods_are ∙ all_same true (range_with_len 0 periods) place (subst (λ (list : List Bool). place < length list) periods_are within);
}

set_here : (marks : List Bool) (place i : ℕ) (on is : Bool) → (i == place) ≡ is → i < length (slice_set marks place on)
    → slice_index_or (slice_set marks place on) i false ≡ (if is then on else slice_index_or marks i false)
set_here marks place i on true is within =
    ap (λ k. slice_index_or (slice_set marks place on) k false) (eqb-true i place is)
    ∙ get_or-set_same marks place on false (omega (arith, within, eqb-true i place is, length-set marks place on))
set_here marks place i on false is within =
    get_or-set_other marks place i on false (λ same. true≢false (sym (ap (λ k. k == place) same ∙ eq-eqb place place refl) ∙ is))

host_mark : (about : Option Object) (marks : List Bool) (on : Bool) (id : HostId) → id.0 < length (hosts_with about on marks)
    → slice_index_or (hosts_with about on marks) id.0 false ≡ (if option_map_or (is_same_object (object.Host id)) about false then on else slice_index_or marks id.0 false)
host_mark None marks on id within = refl
host_mark (Some (object.Host other)) marks on id within = set_here marks other.0 id.0 on (id.0 == other.0) refl within
host_mark (Some (object.Service other)) marks on id within = refl

service_mark : (about : Option Object) (marks : List Bool) (on : Bool) (id : ServiceId) → id.0 < length (services_with about on marks)
    → slice_index_or (services_with about on marks) id.0 false ≡ (if option_map_or (is_same_object (object.Service id)) about false then on else slice_index_or marks id.0 false)
service_mark None marks on id within = refl
service_mark (Some (object.Host other)) marks on id within = refl
service_mark (Some (object.Service other)) marks on id within = set_here marks other.0 id.0 on (id.0 == other.0) refl within

hosts_long : (about : Option Object) (marks : List Bool) (on : Bool) → length (hosts_with about on marks) ≡ length marks
hosts_long None marks on = refl
hosts_long (Some (object.Host other)) marks on = length-set marks other.0 on
hosts_long (Some (object.Service other)) marks on = refl

services_long : (about : Option Object) (marks : List Bool) (on : Bool) → length (services_with about on marks) ≡ length marks
services_long None marks on = refl
services_long (Some (object.Host other)) marks on = refl
services_long (Some (object.Service other)) marks on = length-set marks other.0 on

-- ---- flapping

module _ (old new : LastTold) (base : Base) (entry : LogEntry) (on : Bool) (log : List LogEntry) (are : AreTold old base log) where
  pub told_flapping : (about : Option Object) → told_by entry ≡ Some (telling.Flapping on) → object_of base entry ≡ about
      → new.hosts.items ≡ hosts_with about on old.hosts.items → new.services.items ≡ services_with about on old.services.items
      → new.names ≡ old.names → new.periods.items ≡ old.periods.items → AreTold new base (log ++ entry ∷ [])
  told_flapping about tells of hosts services names periods = record {
    hosts = λ id within.
        let inside : id.0 < length (hosts_with about on old.hosts.items) = subst (λ (list : List Bool). id.0 < length list) hosts within in
        let test : Bool = option_map_or (is_same_object (object.Host id)) about false in
        ap (λ list. slice_index_or list id.0 false) hosts
        ∙ host_mark about old.hosts.items on id inside
        ∙ ap (λ known. if test then on else known) (are.hosts id (omega (arith, inside, hosts_long about old.hosts.items on)))
        ∙ told_where (flapping_told base (object.Host id)) false log entry test on (rw (of, tells) refl);
    services = λ id within.
        let inside : id.0 < length (services_with about on old.services.items) = subst (λ (list : List Bool). id.0 < length list) services within in
        let test : Bool = option_map_or (is_same_object (object.Service id)) about false in
        ap (λ list. slice_index_or list id.0 false) services
        ∙ service_mark about old.services.items on id inside
        ∙ ap (λ known. if test then on else known) (are.services id (omega (arith, inside, services_long about old.services.items on)))
        ∙ told_where (flapping_told base (object.Service id)) false log entry test on (rw (of, tells) refl);
    periods = λ name place found within.
        ap (λ list. slice_index_or list place false) periods
        ∙ are.periods name place ((λ i. place_of_name (arc_value (sym names i)).keys name) ∙ found) (subst (λ (list : List Bool). place < length list) periods within)
        ∙ told_none (period_told name) true log entry (either_none (not (length name == 0) && bytes_eq name (period_of_kind entry.kind)) (period_in (told_by entry)) (ap period_in tells));
  }

-- ---- time periods

-- the name at a place is the one that was found there
found_name : (names : List (List ℕ)) (name : List ℕ) (place : ℕ) → place_of_name names name ≡ Some place → slice_index_or names place [] ≡ name
found_name names name place found =
    sym ((bytes_eq-Decides name (slice_index_or names place [])).0 (position-Some (bytes_eq name) names place [] found).1)

some_same : (a b : ℕ) → ◌≡◌ {A = Option ℕ} (Some a) (Some b) → a ≡ b
some_same a b same = ap (λ (found : Option ℕ). unwrap_or found 0) same

suc_not : (n : ℕ) → (suc n == 0) ≡ false
suc_not n = ne_eqb (suc n) 0 (λ same. omega (arith, same))

and_no : (a : Bool) → (a && false) ≡ false
and_no true = refl
and_no false = refl

-- the mark at a place where another one may be set
other_mark : (names : List (List ℕ)) (marks : List Bool) (name other : List ℕ) (on : Bool) (place : ℕ) (there : Option ℕ) → place_of_name names name ≡ Some place
    → place_of_name names other ≡ there → bytes_eq name other ≡ false
    → slice_index_or (option_map_or (λ k. slice_set marks k on) there marks) place false ≡ slice_index_or marks place false
other_mark names marks name other on place None found sought differ = refl
other_mark names marks name other on place (Some k) found sought differ =
    get_or-set_other marks k place on false
    (λ same. true≢false (sym ((bytes_eq-Decides name other).1
    (sym (found_name names name place found) ∙ ap (λ at. slice_index_or names at []) same ∙ found_name names other k sought)) ∙ differ))

named_mark : (names : List (List ℕ)) (marks : List Bool) (name : List ℕ) (first : ℕ) (rest : List ℕ) (on is : Bool) (place : ℕ) → bytes_eq name (first ∷ rest) ≡ is
    → place_of_name names name ≡ Some place → place < length marks
    → slice_index_or (periods_with names (first ∷ rest) on marks) place false ≡ (if not (length name == 0) && is then on else slice_index_or marks place false)
named_mark names marks name first rest on true place is found within =
    let same : name ≡ first ∷ rest = (bytes_eq-Decides name (first ∷ rest)).0 is in
    let there : place_of_name names (first ∷ rest) ≡ Some place = ap (place_of_name names) (sym same) ∙ found in
    let full : (length name == 0) ≡ false = ap (λ (text : List ℕ). length text == 0) same ∙ suc_not (length rest) in
    ap (λ test. slice_index_or (if test then marks else option_map_or (λ k. slice_set marks k on) (place_of_name names (first ∷ rest)) marks) place false) (suc_not (length rest))
    ∙ ap (λ (k : Option ℕ). slice_index_or (option_map_or (λ k. slice_set marks k on) k marks) place false) there
    ∙ get_or-set_same marks place on false within
    ∙ sym (ap (λ test. if not test && true then on else slice_index_or marks place false) full)
named_mark names marks name first rest on false place is found within =
    ap (λ test. slice_index_or (if test then marks else option_map_or (λ k. slice_set marks k on) (place_of_name names (first ∷ rest)) marks) place false) (suc_not (length rest))
    ∙ other_mark names marks name (first ∷ rest) on place (place_of_name names (first ∷ rest)) found refl is
    ∙ ap (λ test. if test then on else slice_index_or marks place false) (sym (and_no (not (length name == 0))))

period_mark : (names : List (List ℕ)) (marks : List Bool) (name other : List ℕ) (on : Bool) (place : ℕ) → place_of_name names name ≡ Some place → place < length marks
    → slice_index_or (periods_with names other on marks) place false ≡ (if not (length name == 0) && bytes_eq name other then on else slice_index_or marks place false)
period_mark names marks [] [] on place found within = refl
period_mark names marks (first ∷ rest) [] on place found within =
    ap (λ test. if test then on else slice_index_or marks place false) (sym (and_no (not (suc (length rest) == 0))))
period_mark names marks name (first ∷ rest) on place found within = named_mark names marks name first rest on (bytes_eq name (first ∷ rest)) place refl found within

periods_long : (marks : List Bool) (other : List ℕ) (on : Bool) (there : Option ℕ)
    → length (if length other == 0 then marks else option_map_or (λ k. slice_set marks k on) there marks) ≡ length marks
periods_long marks [] on there = refl
periods_long marks (first ∷ rest) on None = ap (λ test. length (if test then marks else marks)) (suc_not (length rest))
periods_long marks (first ∷ rest) on (Some k) = ap (λ test. length (if test then marks else slice_set marks k on)) (suc_not (length rest)) ∙ length-set marks k on

module _ (old new : LastTold) (base : Base) (entry : LogEntry) (on : Bool) (log : List LogEntry) (are : AreTold old base log) where
  pub told_period : told_by entry ≡ Some (telling.Period on) → new.hosts.items ≡ old.hosts.items → new.services.items ≡ old.services.items
      → new.names ≡ old.names → new.periods.items ≡ periods_with (arc_value old.names).keys (period_of_kind entry.kind) on old.periods.items → AreTold new base (log ++ entry ∷ [])
  told_period tells hosts services names periods = record {
    hosts = λ id within.
        ap (λ list. slice_index_or list id.0 false) hosts
        ∙ are.hosts id (subst (λ (list : List Bool). id.0 < length list) hosts within)
        ∙ told_none (flapping_told base (object.Host id)) false log entry (either_none (option_map_or (is_same_object (object.Host id)) (object_of base entry) false) (flapping_in (told_by entry)) (ap flapping_in tells));
    services = λ id within.
        ap (λ list. slice_index_or list id.0 false) services
        ∙ are.services id (subst (λ (list : List Bool). id.0 < length list) services within)
        ∙ told_none (flapping_told base (object.Service id)) false log entry (either_none (option_map_or (is_same_object (object.Service id)) (object_of base entry) false) (flapping_in (told_by entry)) (ap flapping_in tells));
    periods = λ name place found within.
        let other : List ℕ = period_of_kind entry.kind in
        let there : place_of_name (arc_value old.names).keys name ≡ Some place = (λ i. place_of_name (arc_value (sym names i)).keys name) ∙ found in
        let inside : place < length old.periods.items =
        omega (arith, within, ap length periods, periods_long old.periods.items other on (place_of_name (arc_value old.names).keys other)) in
        let test : Bool = not (length name == 0) && bytes_eq name other in
        ap (λ list. slice_index_or list place false) periods
        ∙ period_mark (arc_value old.names).keys old.periods.items name other on place there inside
        ∙ ap (λ known. if test then on else known) (are.periods name place there inside)
        ∙ told_where (period_told name) true log entry test on (rw tells refl);
  }
