-- The histories of all objects.
use Rattle.std.proofs.Common.{◌≡◌, ℕ, zero, suc, ◌+◌, ◌<◌, ◌≤◌, Bool, true, false, All, List, [], ◌∷◌, ◌++◌, length, map, filter, flat_map, drop, get_or, slice_get, refl, sym, ap, subst, ◌∙◌, arith, append_assoc, drop-cons, cond}
use Rattle.std.specs.List.{AllByRecursion, enumerate_from}
use Rattle.std.specs.Option.{option_map}
use Rattle.std.proofs.lemmas.List.{get_or-map, length-append, length-map}
use Rattle.std.proofs.lemmas.List.Elements.{filter-append}
use Rattle.lq_auth.specs.Rights.{sees_object}
use Rattle.lq_auth.specs.declared.view.View.{View}
use Rattle.lq_records.specs.Sound.{IsSound}
use Rattle.lq_records.specs.declared.base.Base.{Base}
use Rattle.lq_records.specs.declared.base.Host.{Host}
use Rattle.lq_records.specs.declared.base.Service.{Service}
use Rattle.lq_events.specs.declared.log_entry.LogEntry.{LogEntry}
use Rattle.lq_log.specs.Book.{InOrder}
use Rattle.lq_statehist.specs.Facts.{Subject}
use Rattle.lq_statehist.specs.History.{history}
use Rattle.lq_statehist.specs.Notes.{Note, notes_of}
use Rattle.lq_statehist.specs.Pass.{RisesFrom, subject_of_lines}
use Rattle.lq_statehist.specs.Slices.{host_subject, seen_subjects, service_subject, subjects_of}
use Rattle.lq_statehist.specs.Sorted.{IsHosted, PlacesFrom, below, is_near}
use Rattle.lq_statehist.specs.declared.slice.Slice.{Slice}
use Rattle.lq_statehist.specs.declared.subject.Subject.{Subject as LineSubject}
use Rattle.lq_statehist.proofs.SortedLemmas.{filter_placed, filter_rises, history_near, notes_placed, notes_rise}

-- ---- each object has its host

hosts_hosted : (base : Base) (hosts : List Host) (place : ℕ) → place + length hosts ≤ length base.hosts → AllByRecursion (IsHosted base) (map host_subject (enumerate_from place hosts))
hosts_hosted base [] place within = tt
hosts_hosted base (host ∷ hosts) place within = (record { host = refl; known = omega (arith, within) }, hosts_hosted base hosts (place + 1) (omega (arith, within)))

services_hosted : (base : Base) (services : List Service) (place : ℕ) → ((i : ℕ) → slice_get services i ≡ slice_get base.services (place + i))
    → All (λ service. service.host.0 < length base.hosts) services → AllByRecursion (IsHosted base) (map service_subject (enumerate_from place services))
services_hosted base [] place same known = tt
services_hosted base (service ∷ services) place same known = (
  record {
    host = ap (option_map (λ (own : Service). own.host)) (ap (slice_get base.services) (omega arith) ∙ sym (same 0));
    known = known 0 service (omega arith);
  },
  services_hosted base services (place + 1) (λ i. same (suc i) ∙ ap (slice_get base.services) (omega arith)) (λ k d within. known (suc k) d (omega (arith, within))),
)

both_hosted : (P : Subject → Type 0) (xs ys : List Subject) → AllByRecursion P xs → AllByRecursion P ys → AllByRecursion P (xs ++ ys)
both_hosted P [] ys all also = also
both_hosted P (x ∷ xs) ys all also = (all.0, both_hosted P xs ys all.1 also)

kept_hosted : (P : Subject → Type 0) (p : Subject → Bool) (xs : List Subject) → AllByRecursion P xs → AllByRecursion P (filter p xs)
kept_hosted P p [] all = tt
kept_hosted P p (x ∷ xs) all = either (p x) (kept_hosted P p xs all.1)
  where
    either : (is : Bool) → AllByRecursion P (filter p xs) → AllByRecursion P (cond is (x ∷ filter p xs) (filter p xs))
    either true rest = (all.0, rest)
    either false rest = rest

pub all_hosted : (base : Base) (view : View) → IsSound base → AllByRecursion (IsHosted base) (seen_subjects base view)
all_hosted base view sound =
    kept_hosted (IsHosted base) (λ about. sees_object view about.object) (subjects_of base)
    (both_hosted (IsHosted base) (map host_subject (enumerate_from 0 base.hosts)) (map service_subject (enumerate_from 0 base.services))
    (hosts_hosted base base.hosts 0 (omega arith))
    (services_hosted base base.services 0 (λ i. ap (slice_get base.services) (omega arith)) sound.linked.service_hosts))

-- ---- object by object

from_place : {A : Type 0} (xs : List A) (i : ℕ) (d : A) → i < length xs → drop i xs ≡ get_or xs i d ∷ drop (i + 1) xs
from_place xs i d within =
    let next : i + 1 ≡ suc i = omega arith in
    drop-cons xs i d within ∙ ap (λ k. get_or xs i d ∷ drop k xs) (sym next)

-- an object that is added where it is seen, before those that follow
pub next_seen : {A : Type 0} (make : ℕ × A → Subject) (seen : Subject → Bool) (before after whole : List Subject) (items : List A) (i : ℕ) (d : A)
    → i < length items → after ≡ before ++ filter seen (make (i, get_or items i d) ∷ []) → before ++ filter seen (map make (enumerate_from i (drop i items))) ≡ whole
    → after ++ filter seen (map make (enumerate_from (i + 1) (drop (i + 1) items))) ≡ whole
next_seen make seen before after whole items i d within step is =
    ap (λ front. front ++ filter seen (map make (enumerate_from (i + 1) (drop (i + 1) items)))) step
    ∙ append_assoc before (filter seen (make (i, get_or items i d) ∷ [])) (filter seen (map make (enumerate_from (i + 1) (drop (i + 1) items))))
    ∙ ap (λ list. before ++ list) (sym (filter-append seen (make (i, get_or items i d) ∷ []) (map make (enumerate_from (i + 1) (drop (i + 1) items)))))
    ∙ sym (ap (λ list. before ++ filter seen (map make (enumerate_from i list))) (from_place items i d within)) ∙ is

-- what may concern an object, of the lines before a second
abbrev pub near_of : Base → List LogEntry → ℕ → Subject → List Note
near_of base log until about = filter (is_near base about) (below until (notes_of base log))

pub near_rises : (base : Base) (log : List LogEntry) (until : ℕ) (about : Subject) → InOrder log → RisesFrom 0 (near_of base log until about)
near_rises base log until about order =
    filter_rises (is_near base about) 0 (below until (notes_of base log)) (filter_rises _ 0 (notes_of base log) (notes_rise base log 0 0 order))

pub told_placed : (base : Base) (log : List LogEntry) (until : ℕ) → PlacesFrom 0 (below until (notes_of base log))
told_placed base log until = filter_placed _ 0 (notes_of base log) (notes_placed base log 0 0 (omega arith))

-- what is near an object tells its whole history
pub near_tells : (base : Base) (log : List LogEntry) (from until : ℕ) (about : Subject) (near : List Note) → IsHosted base about → near ≡ near_of base log until about
    → history about near from until ≡ history about (notes_of base log) from until
near_tells base log from until about near hosted found =
    ap (λ notes. history about notes from until) found ∙ history_near base about hosted (notes_of base log) from until

rest_of : (P : Subject → Type 0) (subjects : List Subject) (i : ℕ) → AllByRecursion P (drop i subjects) → AllByRecursion P (drop (suc i) subjects)
rest_of P [] zero all = tt
rest_of P [] (suc i) all = tt
rest_of P (about ∷ subjects) zero all = all.1
rest_of P (about ∷ subjects) (suc i) all = rest_of P subjects i all

pub rest_hosted : (base : Base) (subjects : List Subject) (i : ℕ) → AllByRecursion (IsHosted base) (drop i subjects) → AllByRecursion (IsHosted base) (drop (i + 1) subjects)
rest_hosted base subjects i all =
    let next : i + 1 ≡ suc i = omega arith in
    subst (λ n. AllByRecursion (IsHosted base) (drop n subjects)) (sym next) (rest_of (IsHosted base) subjects i all)

module _ (base : Base) (log : List LogEntry) (from until : ℕ) (subjects : List LineSubject) (i : ℕ) (d : LineSubject) (within : i < length subjects) where
  next_subject : drop i (map subject_of_lines subjects) ≡ subject_of_lines (get_or subjects i d) ∷ drop (i + 1) (map subject_of_lines subjects)
  next_subject =
      from_place (map subject_of_lines subjects) i (subject_of_lines d) (omega (arith, within, length-map subjects subject_of_lines))
      ∙ ap (λ about. about ∷ drop (i + 1) (map subject_of_lines subjects)) (get_or-map subject_of_lines subjects i d (subject_of_lines d) within)

  pub this_hosted : AllByRecursion (IsHosted base) (drop i (map subject_of_lines subjects)) → IsHosted base (subject_of_lines (get_or subjects i d))
  this_hosted all = (subst (AllByRecursion (IsHosted base)) next_subject all).0

  pub told_next : (old whole : List Slice)
      → old ++ flat_map (λ about. history about (notes_of base log) from until) (drop i (map subject_of_lines subjects)) ≡ whole
      → (old ++ history (subject_of_lines (get_or subjects i d)) (notes_of base log) from until) ++ flat_map (λ about. history about (notes_of base log) from until) (drop (i + 1) (map subject_of_lines subjects)) ≡ whole
  told_next old whole is =
      append_assoc old (history (subject_of_lines (get_or subjects i d)) (notes_of base log) from until)
      (flat_map (λ about. history about (notes_of base log) from until) (drop (i + 1) (map subject_of_lines subjects)))
      ∙ ap (λ list. old ++ flat_map (λ about. history about (notes_of base log) from until) list) (sym next_subject) ∙ is

pub many_more : (some more whole : List Slice) → some ++ more ≡ whole → 1000000 < length some → 1000000 < length whole
many_more some more whole is many = omega (arith, many, ap length is, length-append some more)

pub told_all : (old whole : List Slice) (told : Subject → List Slice) (subjects : List LineSubject) (i : ℕ) → length subjects ≤ i
    → old ++ flat_map told (drop i (map subject_of_lines subjects)) ≡ whole → old ≡ whole
told_all old whole told subjects i all is =
    append_none old ∙ ap (λ list. old ++ flat_map told list) (sym (none_left subjects i all)) ∙ is
  where
    append_none : (xs : List Slice) → xs ≡ xs ++ []
    append_none [] = refl
    append_none (x ∷ xs) = ap (λ list. x ∷ list) (append_none xs)

    none_left : (xs : List LineSubject) (i : ℕ) → length xs ≤ i → drop i (map subject_of_lines xs) ≡ []
    none_left [] zero all = refl
    none_left [] (suc i) all = refl
    none_left (x ∷ xs) zero all = absurd (omega (arith, all))
    none_left (x ∷ xs) (suc i) all = none_left xs i (omega (arith, all))

-- the hosts and then the services that are seen
pub both_seen : (base : Base) (view : View) (none hosts all : List LineSubject) (first : List Host) (second : List Service) → none ≡ [] → first ≡ base.hosts
    → map subject_of_lines hosts ≡ map subject_of_lines none ++ filter (λ about. sees_object view about.object) (map host_subject (enumerate_from 0 first))
    → second ≡ base.services
    → map subject_of_lines all ≡ map subject_of_lines hosts ++ filter (λ about. sees_object view about.object) (map service_subject (enumerate_from 0 second))
    → map subject_of_lines all ≡ seen_subjects base view
both_seen base view none hosts all first second empty is_first seen is_second also =
    also
    ∙ ap (λ list. list ++ filter (λ about. sees_object view about.object) (map service_subject (enumerate_from 0 second)))
    (seen ∙ ap (λ list. map subject_of_lines list ++ filter (λ about. sees_object view about.object) (map host_subject (enumerate_from 0 first))) empty
    ∙ ap (λ list. filter (λ about. sees_object view about.object) (map host_subject (enumerate_from 0 list))) is_first)
    ∙ ap (λ list. filter (λ about. sees_object view about.object) (map host_subject (enumerate_from 0 base.hosts)) ++ filter (λ about. sees_object view about.object) (map service_subject (enumerate_from 0 list))) is_second
    ∙ sym (filter-append (λ about. sees_object view about.object) (map host_subject (enumerate_from 0 base.hosts)) (map service_subject (enumerate_from 0 base.services)))
