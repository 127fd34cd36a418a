-- What a further entry does to the order of a book, and the time of the last one.
use Rattle.std.proofs.Common.{All, ◌≡◌, ℕ, zero, suc, ◌<◌, ◌≤◌, ◌+◌, ◌-◌, List, [], ◌∷◌, ◌++◌, Some, None, length, refl, ap, arith}
use Rattle.std.proofs.lemmas.Grind.{common_steps}
use Rattle.std.proofs.lemmas.Option.{slice_get-get_or, slice_get_within}
use Rattle.std.proofs.lemmas.List.Elements.{All-push}
use Rattle.std.specs.List.{slice_get}
use Rattle.std.specs.Option.{option_map_or}
use Rattle.lq_events.specs.declared.log_entry.LogEntry.{LogEntry}
use Rattle.lq_log.specs.Entries.{IsOfLine}
use Rattle.lq_log.specs.Book.{InOrder, InOrderAfter, last_time, time_after, time_limit}

longer_after : (before : ℕ) (entries : List LogEntry) (entry : LogEntry) → InOrderAfter before entries → time_after before entries ≤ entry.time → entry.time < time_limit → InOrderAfter before (entries ++ entry ∷ [])
longer_after before [] entry order later below = (later, below, tt)
longer_after before (first ∷ entries) entry order later below =
    (order.0, order.1, longer_after first.time entries entry order.2 later below)

last_after : (before : ℕ) (entries : List LogEntry) (entry : LogEntry) → time_after before (entries ++ entry ∷ []) ≡ entry.time
last_after before [] entry = refl
last_after before (first ∷ entries) entry = last_after first.time entries entry

pub longer_in_order : (entries longer : List LogEntry) (entry : LogEntry) → longer ≡ entries ++ entry ∷ [] → InOrder entries → last_time entries ≤ entry.time → entry.time < time_limit → InOrder longer
longer_in_order entries longer entry is order later below = rw is (longer_after 0 entries entry order later below)

pub last_time_added : (entries longer : List LogEntry) (entry : LogEntry) → longer ≡ entries ++ entry ∷ [] → last_time longer ≡ entry.time
last_time_added entries longer entry is = rw is (last_after 0 entries entry)

time_at : (before : ℕ) (entries : List LogEntry) (place : ℕ) (entry : LogEntry) → length entries ≡ place + 1 → slice_get entries place ≡ Some entry → time_after before entries ≡ entry.time
time_at before [] place entry one is = omega (arith, one)
time_at before (first ∷ []) zero entry one is = ap (λ found. option_map_or (λ (e : LogEntry). e.time) found 0) is
time_at before (first ∷ next ∷ entries) zero entry one is = omega (arith, one)
time_at before (first ∷ entries) (suc place) entry one is = time_at first.time entries place entry (omega (arith, one)) is

pub last_time_is : (entries : List LogEntry) (entry : LogEntry) → slice_get entries (length entries - 1) ≡ Some entry → last_time entries ≡ entry.time
last_time_is entries entry is =
    time_at 0 entries (length entries - 1) entry (omega (arith, slice_get_within entries (length entries - 1) entry is)) is

pub no_last_time : (entries : List LogEntry) → slice_get entries (length entries - 1) ≡ None → last_time entries ≡ 0
no_last_time [] none = refl
no_last_time (first ∷ entries) none = grind (arith, common_steps, none, slice_get-get_or (first ∷ entries) (length entries) first)

pub longer_of_lines : (entries longer : List LogEntry) (entry : LogEntry) → longer ≡ entries ++ entry ∷ [] → All IsOfLine entries → IsOfLine entry → All IsOfLine longer
longer_of_lines entries longer entry is all of_line = rw is (All-push IsOfLine entries entry all of_line)

below_after : (before : ℕ) (entries : List LogEntry) → before < time_limit → InOrderAfter before entries → time_after before entries < time_limit
below_after before [] below order = below
below_after before (first ∷ entries) below order = below_after first.time entries order.1 order.2

pub last_time_below : (entries : List LogEntry) → InOrder entries → last_time entries < time_limit
last_time_below entries order = below_after 0 entries (omega arith) order
