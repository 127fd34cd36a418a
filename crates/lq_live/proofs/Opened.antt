-- The opening state keeps what every state keeps.
use Rattle.std.proofs.Common.{◌≡◌, ◌∙◌, ◌<◌, ℕ, Option, Some, None, List, [], ◌∷◌, refl, sym, subst, ap, arith, length}
use Rattle.std.proofs.lemmas.List.{length-map}
use Rattle.std.specs.Arc.{arc_value}
use Rattle.std.specs.List.{slice_get}
use Rattle.lq_records.specs.Sound.{IsSound}
use Rattle.lq_records.specs.declared.base.Base.{Base}
use Rattle.lq_records.specs.declared.object.Object.{Object}
use Rattle.lq_records.specs.declared.object.Object.TheVariants as object
use Rattle.lq_events.specs.declared.log_entry.LogEntry.{LogEntry}
use Rattle.lq_events.specs.declared.status.Status.{Status}
use Rattle.lq_log.specs.Book.{last_time, time_limit}
use Rattle.lq_log.specs.Told.{object_of, told_by}
use Rattle.lq_log.specs.declared.telling.Told.{Told}
use Rattle.lq_log.specs.declared.telling.Told.TheVariants as told
use Rattle.lq_live.specs.Kept.{AllFrom, IsKept, KeepsAll, state_of}
use Rattle.lq_live.specs.LastTold.{AreTold}
use Rattle.lq_live.specs.Opening.{opening_state, status_told, where_told, with_log_line, with_lines}
use Rattle.lq_live.specs.State.{State, all_pending, changed_at, with_status}
use Rattle.lq_live.specs.declared.live_state.LiveState.{LiveState}
use Rattle.lq_live.proofs.Changed.{changed_length}

-- ---- lines change statuses alone

-- the second state has as many statuses as the first, and all else that opening leaves
record IsBeside (s t : State) : Type 0 where
  base : t.base ≡ s.base
  hosts : length t.host_status ≡ length s.host_status
  services : length t.service_status ≡ length s.service_status
  downtimes : t.downtimes ≡ s.downtimes
  comments : t.comments ≡ s.comments
  downtime_ids : t.next_downtime ≡ s.next_downtime
  comment_ids : t.next_comment ≡ s.next_comment

itself : (s : State) → IsBeside s s
itself s = record { base = refl; hosts = refl; services = refl; downtimes = refl; comments = refl; downtime_ids = refl; comment_ids = refl }

then_ : {s t u : State} → IsBeside s t → IsBeside t u → IsBeside s u
then_ first next = record {
  base = next.base ∙ first.base;
  hosts = next.hosts ∙ first.hosts;
  services = next.services ∙ first.services;
  downtimes = next.downtimes ∙ first.downtimes;
  comments = next.comments ∙ first.comments;
  downtime_ids = next.downtime_ids ∙ first.downtime_ids;
  comment_ids = next.comment_ids ∙ first.comment_ids;
}

status_beside : (change : Status → Status) (of : Object) (s : State) → IsBeside s (with_status change of s)
status_beside change (object.Host id) s = record {
  base = refl;
  hosts = changed_length change id.0 s.host_status;
  services = refl;
  downtimes = refl;
  comments = refl;
  downtime_ids = refl;
  comment_ids = refl;
}
status_beside change (object.Service id) s = record {
  base = refl;
  hosts = refl;
  services = changed_length change id.0 s.service_status;
  downtimes = refl;
  comments = refl;
  downtime_ids = refl;
  comment_ids = refl;
}

told_beside : (entry : LogEntry) (what : Option Told) (of : Option Object) (s : State) → IsBeside s (where_told entry what of s)
told_beside entry None of s = itself s
told_beside entry (Some (told.State hard)) None s = itself s
told_beside entry (Some (told.State hard)) (Some of) s = status_beside (status_told entry hard) of s
told_beside entry (Some (told.Downtime on)) of s = itself s
told_beside entry (Some (told.Flapping on)) of s = itself s
told_beside entry (Some (told.Period on)) of s = itself s

lines_beside : (log : List LogEntry) (s : State) → IsBeside s (with_lines log s)
lines_beside [] s = itself s
lines_beside (entry ∷ log) s =
    then_ (told_beside entry (told_by entry) (object_of s.base entry) s) (lines_beside log (with_log_line entry s))

-- ---- what is kept

opened_kept : (base : Base) (log : List LogEntry) → last_time log < time_limit → IsKept (opening_state base log)
opened_kept base log below =
    let beside = lines_beside log (all_pending base) in
    record {
      hosts = beside.hosts ∙ length-map base.hosts _ ∙ ap (λ (b : Base). length b.hosts) (sym beside.base);
      services = beside.services ∙ length-map base.services _ ∙ ap (λ (b : Base). length b.services) (sym beside.base);
      lines = omega arith;
      ahead = rw beside.downtimes tt;
      order = rw beside.downtimes tt;
      begun = rw beside.downtimes tt;
      second = below;
      downtime_ids = let first = beside.downtime_ids in omega (arith, first);
      comment_ids = let first = beside.comment_ids in omega (arith, first);
      ids = record { downtimes = rw beside.downtimes tt; comments = rw beside.comments tt };
    }

pub opened_keeps : (base : Base) (log : List LogEntry) (live : LiveState) → state_of live ≡ opening_state base log → last_time log < time_limit → IsSound base
    → AreTold live.told (arc_value live.base) live.log.entries → KeepsAll live 0
opened_keeps base log live same below sound told =
    let beside = lines_beside log (all_pending base) in
    record {
      sound = subst IsSound (sym (ap (λ (s : State). s.base) same ∙ beside.base)) sound;
      state = subst IsKept (sym same) (opened_kept base log below);
      count = omega arith;
      index = record { moment = subst (AllFrom live.next_moment) (sym (ap (λ (s : State). s.downtimes) same ∙ beside.downtimes)) tt; told = told };
    }

-- ---- a status found by its place

-- the status that a change makes of the one that is there
pub changed_to : {X : Type 0} (change : X → X) (place : ℕ) (items : List X) (old : X) → slice_get items place ≡ Some old
    → changed_at (λ _. change old) place items ≡ changed_at change place items
changed_to change place items old is = rw is refl

pub unchanged : {X : Type 0} (change : X → X) (place : ℕ) (items : List X) → slice_get items place ≡ None → items ≡ changed_at change place items
unchanged change place items is = rw is refl
