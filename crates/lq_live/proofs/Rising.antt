-- The events that are due stand in order of their moments, and so do their lines.
use Rattle.std.proofs.Common.{◌≡◌, ◌∙◌, ℕ, ◌+◌, ◌<◌, ◌≤◌, ◌&&◌, nat_le, not, Bool, true, false, Option, Some, None, List, [], ◌∷◌, ◌++◌, flat_map, refl, ap, arith, is_gt}
use Rattle.std.proofs.lemmas.Bool.{false≢true}
use Rattle.std.proofs.lemmas.Bool.Decides.{nat_tests}
use Rattle.lq_records.specs.declared.base.Base.{Base}
use Rattle.lq_events.specs.declared.log_entry.LogEntry.{LogEntry}
use Rattle.lq_events.specs.declared.status.Downtime.{Downtime}
use Rattle.lq_log.specs.Book.{time_limit}
use Rattle.lq_log.specs.declared.written.DowntimeChange.{DowntimeChange}
use Rattle.lq_log.specs.declared.written.Form.TheVariants as form
use Rattle.lq_log.proofs.LineLemmas.{written_of_line}
use Rattle.lq_live.specs.State.{LineNames, names_of}
use Rattle.lq_live.specs.Downtimes.{Event, downtimes_after, change_of, crosses, depth, downtime_line, due, end_of, event_order, line_if, moments, only_if, put_in, sort_by, start_of}
use Rattle.lq_live.specs.Edits.{line_edits, line_of_edit}
use Rattle.lq_live.specs.Order.{LinesUpTo, Rising, Within, due_lines, event_lines}
use Rattle.lq_live.specs.Kept.{AllFrom, IsFrom, MayFollow, Timely, last_time_after}
use Rattle.lq_live.specs.declared.edit.Edit.{Edit}
use Rattle.lq_live.specs.declared.edit.Edit.TheVariants as edit
use Rattle.lq_live.proofs.DueEvents.{event_total, precedes}
use Rattle.lq_live.proofs.Sorting.{greater_back}

-- ---- the order of events

before_moment : (a b : Event) → is_gt (event_order a b) ≡ false → a.moment ≤ b.moment
before_moment a b is = (precedes a b is).moment

after_moment : (a b : Event) → is_gt (event_order a b) ≡ true → b.moment ≤ a.moment
after_moment a b is = (precedes b a (ap is_gt (event_total.antisymm b a) ∙ greater_back (event_order a b) is)).moment

put_by : (low high : ℕ) (event first : Event) (events : List Event) (test : Bool) → is_gt (event_order event first) ≡ test
    → low ≤ event.moment → event.moment ≤ high → Rising low high (first ∷ events)
    → (first.moment ≤ event.moment → Rising first.moment high (put_in event_order event events))
    → Rising low high (put_in event_order event (first ∷ events))
put_by low high event first events false is above below rising rest = rw is (above, below, (before_moment event first is, rising.1, rising.2))
put_by low high event first events true is above below rising rest = rw is (rising.0, rising.1, rest (after_moment event first is))

put_rising : (low high : ℕ) (event : Event) (events : List Event) → low ≤ event.moment → event.moment ≤ high → Rising low high events
    → Rising low high (put_in event_order event events)
put_rising low high event [] above below rising = (above, below, tt)
put_rising low high event (first ∷ events) above below rising =
    put_by low high event first events (is_gt (event_order event first)) refl above below rising
    (λ later. put_rising first.moment high event events later below rising.2)

sorted_rising : (low high : ℕ) (events : List Event) → Within low high events → Rising low high (sort_by event_order events)
sorted_rising low high [] within = tt
sorted_rising low high (event ∷ events) within =
    put_rising low high event (sort_by event_order events) within.0 within.1 (sorted_rising low high events within.2)

-- ---- what is due lies between the present second and the next

within_append : (low high : ℕ) (a b : List Event) → Within low high a → Within low high b → Within low high (a ++ b)
within_append low high [] b all more = more
within_append low high (event ∷ a) b all more = (all.0, all.1, within_append low high a b all.2 more)

within_only_if : (low high : ℕ) (test : Bool) (event : Event) → (test ≡ true → (low ≤ event.moment) × (event.moment ≤ high)) → Within low high (only_if test event)
within_only_if low high true event between = ((between refl).0, (between refl).1, tt)
within_only_if low high false event between = tt

start_between : (low high start : ℕ) (active : Bool) → (active ≡ false → low + 1 ≤ start) → (not active && nat_le start high) ≡ true → (low ≤ start) × (start ≤ high)
start_between low high start true from is = absurd (false≢true is)
start_between low high start false from is = (omega (arith, from refl), grind (arith, nat_tests, is))

moments_within : (low high : ℕ) (downtime : Downtime) → IsFrom (low + 1) downtime → Within low high (moments high downtime)
moments_within low high downtime from =
    within_append low high (only_if (not downtime.active && nat_le downtime.start high) (start_of downtime)) (only_if (nat_le downtime.end high) (end_of downtime))
    (within_only_if low high (not downtime.active && nat_le downtime.start high) (start_of downtime) (λ is. start_between low high downtime.start downtime.active from.start is))
    (within_only_if low high (nat_le downtime.end high) (end_of downtime) (λ is. (omega (arith, from.end), grind (arith, nat_tests, is))))

all_within : (low high : ℕ) (ds : List Downtime) → AllFrom (low + 1) ds → Within low high (flat_map (moments high) ds)
all_within low high [] all = tt
all_within low high (downtime ∷ ds) all =
    within_append low high (moments high downtime) (flat_map (moments high) ds) (moments_within low high downtime all.0) (all_within low high ds all.1)

pub due_rising : (low high : ℕ) (ds : List Downtime) → AllFrom (low + 1) ds → Rising low high (due high ds)
unfolding due
due_rising low high ds all = sorted_rising low high (flat_map (moments high) ds) (all_within low high ds all)

-- ---- their lines

later_by : (low high : ℕ) (line : Option LogEntry) (edits : List Edit) → low ≤ high → MayFollow high line → Timely (last_time_after high line) edits
    → (Timely high edits → Timely low edits) → MayFollow low line × Timely (last_time_after low line) edits
later_by low high None edits above may timely rest = (tt, rest timely)
later_by low high (Some entry) edits above may timely rest = ((omega (arith, above, may.0), may.1, may.2), timely)

pub timely_later : (low high : ℕ) (edits : List Edit) → low ≤ high → Timely high edits → Timely low edits
timely_later low high [] above timely = tt
timely_later low high (edit ∷ edits) above timely =
    later_by low high (line_of_edit edit) edits above timely.0 timely.1 (λ rest. timely_later low high edits above rest)

moment_timely : (low moment : ℕ) (test : Bool) (change : DowntimeChange) (names : Option LineNames) (rest : List Edit) → low ≤ moment → moment < time_limit
    → Timely moment rest → Timely low (line_edits (line_if test moment change names) ++ rest)
unfolding downtime_line
moment_timely low moment test change None rest above below timely = timely_later low moment rest above timely
moment_timely low moment false change (Some names) rest above below timely = timely_later low moment rest above timely
moment_timely low moment true change (Some names) rest above below timely =
    ((above, below, written_of_line moment (form.Downtime names.host names.service change) below), timely)

lines_append : (a b : List LogEntry) (rest : List Edit) → line_edits (a ++ b) ++ rest ≡ line_edits a ++ (line_edits b ++ rest)
lines_append [] b rest = refl
lines_append (entry ∷ a) b rest = ap (λ edits. edit.Line entry ∷ edits) (lines_append a b rest)

-- the lines of events, and others after them
pub due_timely : (low high : ℕ) (base : Base) (events : List Event) (ds : List Downtime) (rest : List Edit) → Rising low high events → low ≤ high → high < time_limit
    → Timely high rest → Timely low (line_edits (due_lines base events ds) ++ rest)
due_timely low high base [] ds rest rising above below timely = timely_later low high rest above timely
due_timely low high base (event ∷ events) ds rest rising above below timely =
    rw (lines_append (event_lines base event ds) (due_lines base events (downtimes_after event ds)) rest)
    (moment_timely low event.moment (crosses (depth event.object ds) (depth event.object (downtimes_after event ds))) (change_of event) (names_of base event.object)
    (line_edits (due_lines base events (downtimes_after event ds)) ++ rest) rising.0 (omega (arith, rising.1, below))
    (due_timely event.moment high base events (downtimes_after event ds) rest rising.2 rising.1 below timely))

-- no line of theirs is past the second
line_up_to : (second moment : ℕ) (test : Bool) (change : DowntimeChange) (names : Option LineNames) (rest : List LogEntry) → moment ≤ second → LinesUpTo second rest
    → LinesUpTo second (line_if test moment change names ++ rest)
unfolding downtime_line
line_up_to second moment test change None rest below all = all
line_up_to second moment false change (Some names) rest below all = all
line_up_to second moment true change (Some names) rest below all = (below, all)

pub due_lines_up_to : (low high : ℕ) (base : Base) (events : List Event) (ds : List Downtime) → Rising low high events → LinesUpTo high (due_lines base events ds)
due_lines_up_to low high base [] ds rising = tt
due_lines_up_to low high base (event ∷ events) ds rising =
    line_up_to high event.moment (crosses (depth event.object ds) (depth event.object (downtimes_after event ds))) (change_of event) (names_of base event.object)
    (due_lines base events (downtimes_after event ds)) rising.1 (due_lines_up_to event.moment high base events (downtimes_after event ds) rising.2)
