-- Lines that don't concern an object say nothing of it.
use Rattle.std.proofs.Common.{◌≡◌, ℕ, negsuc, zero, suc, ◌+◌, ◌-◌, ◌<◌, ◌||◌, nat_le, Bool, true, false, Option, Some, None, List, [], ◌∷◌, length, map, filter, fold, drop, get_or, unwrap_or, refl, sym, ap, ◌∙◌, true≢false, arith, cond, if◌then◌else◌}
use Rattle.std.specs.List.{cons_option, enumerate_from, filter_map}
use Rattle.std.specs.Option.{option_and_then, option_map, option_map_or}
use Rattle.lq_records.specs.Object.{is_same_object}
use Rattle.lq_records.specs.declared.base.Base.{Base}
use Rattle.lq_records.specs.declared.object.Object.{Object}
use Rattle.lq_records.specs.declared.object.Object.TheVariants as object
use Rattle.lq_events.specs.declared.log_entry.Kind.{Kind}
use Rattle.lq_events.specs.declared.log_entry.Kind.TheVariants as kind
use Rattle.lq_events.specs.declared.log_entry.LogEntry.{LogEntry}
use Rattle.lq_log.specs.Told.{object_of, told_as, told_by}
use Rattle.lq_log.specs.declared.telling.Told.{Told}
use Rattle.lq_log.specs.declared.telling.Told.TheVariants as told
use Rattle.lq_auth.specs.Lines.{is_transition}
use Rattle.lq_statehist.specs.Facts.{Facts, Known, Subject, down_in, downtime_fact, flapping_fact, known_at, last_said, output_in, period_fact, state_in, up_to}
use Rattle.lq_statehist.specs.Laws.{IsOwnHistory, Shown, concerns, is_about, shown_piece}
use Rattle.lq_statehist.specs.Notes.{Note, Said, State, Downtime, Flapping, Period, note_at, notes_of, said_as, said_by}
use Rattle.lq_statehist.specs.Sorted.{object_of_said}
use Rattle.lq_statehist.specs.Tiling.{HistoryPiece, with_piece_before, pieces_between, same_facts, second_piece}
use Rattle.lq_statehist.proofs.JoinLemmas.{no_pieces, pieces_next}
use Rattle.lq_statehist.proofs.SortedLemmas.{filter_commutes, kept_said}

-- ---- what speaks of one object alone

-- nothing is said by what is about another object or about none
abbrev SpeaksOf : {A : Type 0} → Object → (Said → Option A) → Type 0
SpeaksOf about says = (said : Said) → option_map_or (is_same_object about) (object_of_said said) false ≡ false → says said ≡ None

state_speaks : (about : Object) → SpeaksOf about (state_in about)
state_speaks about (State found state output) other = rw other refl
state_speaks about (Downtime found on) other = refl
state_speaks about (Flapping found on) other = refl
state_speaks about (Period name on) other = refl

output_speaks : (about : Object) → SpeaksOf about (output_in about)
output_speaks about (State found state output) other = rw other refl
output_speaks about (Downtime found on) other = refl
output_speaks about (Flapping found on) other = refl
output_speaks about (Period name on) other = refl

down_speaks : (about : Object) → SpeaksOf about (down_in about)
down_speaks about (State found state output) other = rw other refl
down_speaks about (Downtime found on) other = refl
down_speaks about (Flapping found on) other = refl
down_speaks about (Period name on) other = refl

downtime_speaks : (about : Object) → SpeaksOf about (downtime_fact about)
downtime_speaks about (State found state output) other = refl
downtime_speaks about (Downtime found on) other = rw other refl
downtime_speaks about (Flapping found on) other = refl
downtime_speaks about (Period name on) other = refl

flapping_speaks : (about : Object) → SpeaksOf about (flapping_fact about)
flapping_speaks about (State found state output) other = refl
flapping_speaks about (Downtime found on) other = refl
flapping_speaks about (Flapping found on) other = rw other refl
flapping_speaks about (Period name on) other = refl

-- ---- what a line says

abbrev line_says : {A : Type 0} → (Said → Option A) → Base → LogEntry → Option A
line_says says base entry = option_and_then says (said_by base entry)

quiet : {A : Type 0} (says : Said → Option A) (about : Object) → SpeaksOf about says → (entry : LogEntry) (found : Option Object) (tells : Option Told)
    → option_map_or (is_same_object about) found false ≡ false → option_and_then says (option_and_then (said_as entry found) tells) ≡ None
quiet says about speaks entry found None other = refl
quiet says about speaks entry None (Some (told.State hard)) other = refl
quiet says about speaks entry (Some object) (Some (told.State hard)) other = speaks (State object entry.state entry.output) other
quiet says about speaks entry None (Some (told.Downtime on)) other = refl
quiet says about speaks entry (Some object) (Some (told.Downtime on)) other = speaks (Downtime object on) other
quiet says about speaks entry None (Some (told.Flapping on)) other = refl
quiet says about speaks entry (Some object) (Some (told.Flapping on)) other = speaks (Flapping object on) other
quiet says about speaks entry found (Some (told.Period on)) other = speaks (Period _ on) refl

quiet_kind : (period : List ℕ) (entry : LogEntry) (found : Option Object) (is : Kind) → is_transition is ≡ false
    → option_and_then (period_fact period) (option_and_then (said_as entry found) (told_as entry is)) ≡ None
quiet_kind period entry found (kind.TimeperiodTransition name from to) far = absurd (true≢false far)
quiet_kind period entry None _ far = refl
quiet_kind period entry (Some object) _ far = refl

or_first : (a b c : Bool) → (a || b || c) ≡ false → a ≡ false
or_first false b c is = refl
or_first true true c is = absurd (true≢false is)
or_first true false true is = absurd (true≢false is)
or_first true false false is = absurd (true≢false is)

or_second : (a b c : Bool) → (a || b || c) ≡ false → b ≡ false
or_second a false c is = refl
or_second true true c is = absurd (true≢false is)
or_second false true c is = absurd (true≢false is)

or_third : (a b c : Bool) → (a || b || c) ≡ false → c ≡ false
or_third a b false is = refl
or_third true true true is = absurd (true≢false is)
or_third true false true is = absurd (true≢false is)
or_third false true true is = absurd (true≢false is)
or_third false false true is = absurd (true≢false is)

-- ---- what lines say, whichever their places

module _ {A : Type 0} (says : Said → Option A) (base : Base) (second : ℕ) where
  abbrev lines_say : A → List LogEntry → A
  lines_say known log = fold (λ before entry. unwrap_or (line_says says base entry) before) known log

  abbrev in_time : List LogEntry → List LogEntry
  in_time log = filter (λ entry. nat_le entry.time second) log

  abbrev notes_say : A → List Note → A
  notes_say known notes = last_said (λ note. says note.said) known (up_to second notes)

  abbrev with_note : LogEntry → ℕ → Option Said → List Note → List Note
  with_note entry place found rest = cons_option (option_map (λ said. record { time = entry.time; place = place; said = said }) found) rest

  line_step : (entry : LogEntry) (place : ℕ) (rest : List Note) (log : List LogEntry) (known : A) (found : Option Said) (is : Bool) → said_by base entry ≡ found → nat_le entry.time second ≡ is
      → ((next : A) → notes_say next rest ≡ lines_say next (in_time log))
      → notes_say known (with_note entry place (said_by base entry) rest) ≡ lines_say known (in_time (entry ∷ log))
  line_step entry place rest log known None true said is later =
      ap (λ found. notes_say known (with_note entry place found rest)) said ∙ later known
      ∙ sym (ap (λ b. lines_say known (cond b (entry ∷ in_time log) (in_time log))) is
      ∙ ap (λ found. lines_say (unwrap_or (option_and_then says found) known) (in_time log)) said)
  line_step entry place rest log known None false said is later =
      ap (λ found. notes_say known (with_note entry place found rest)) said ∙ later known
      ∙ sym (ap (λ b. lines_say known (cond b (entry ∷ in_time log) (in_time log))) is)
  line_step entry place rest log known (Some what) true said is later =
      ap (λ found. notes_say known (with_note entry place found rest)) said
      ∙ ap (λ b. last_said (λ note. says note.said) known (cond b (record { time = entry.time; place = place; said = what } ∷ up_to second rest) (up_to second rest))) is
      ∙ later (unwrap_or (says what) known)
      ∙ sym (ap (λ b. lines_say known (cond b (entry ∷ in_time log) (in_time log))) is
      ∙ ap (λ found. lines_say (unwrap_or (option_and_then says found) known) (in_time log)) said)
  line_step entry place rest log known (Some what) false said is later =
      ap (λ found. notes_say known (with_note entry place found rest)) said
      ∙ ap (λ b. last_said (λ note. says note.said) known (cond b (record { time = entry.time; place = place; said = what } ∷ up_to second rest) (up_to second rest))) is
      ∙ later known
      ∙ sym (ap (λ b. lines_say known (cond b (entry ∷ in_time log) (in_time log))) is)

  said_by_lines : (log : List LogEntry) (place : ℕ) (known : A) → notes_say known (filter_map (note_at base) (enumerate_from place log)) ≡ lines_say known (in_time log)
  said_by_lines [] place known = refl
  said_by_lines (entry ∷ log) place known =
      line_step entry place (filter_map (note_at base) (enumerate_from (place + 1) log)) log known (said_by base entry) (nat_le entry.time second) refl refl
      (λ next. said_by_lines log (place + 1) next)

  -- logs that agree in the lines that may say something say the same
  lines_agree : (keeps : LogEntry → Bool) → ((entry : LogEntry) → keeps entry ≡ false → line_says says base entry ≡ None)
      → (xs ys : List LogEntry) → filter keeps xs ≡ filter keeps ys → (known : A) → notes_say known (notes_of base xs) ≡ notes_say known (notes_of base ys)
  lines_agree keeps none xs ys same known = half xs ∙ ap (λ list. lines_say known (in_time list)) same ∙ sym (half ys)
    where
      half : (log : List LogEntry) → notes_say known (notes_of base log) ≡ lines_say known (in_time (filter keeps log))
      half log =
          said_by_lines log 0 known ∙ sym (kept_said (line_says says base) keeps none (in_time log) known)
          ∙ ap (lines_say known) (filter_commutes keeps (λ entry. nat_le entry.time second) log)

-- ---- facts

module _ (base : Base) (about : Subject) (xs ys : List LogEntry) (same : filter (concerns base about) xs ≡ filter (concerns base about) ys) where
  no_own : (entry : LogEntry) → concerns base about entry ≡ false → is_about base about.object entry ≡ false
  no_own entry far = or_first (is_about base about.object entry) (is_about base (object.Host about.host) entry) (is_transition entry.kind) far

  no_host : (entry : LogEntry) → concerns base about entry ≡ false → is_about base (object.Host about.host) entry ≡ false
  no_host entry far = or_second (is_about base about.object entry) (is_about base (object.Host about.host) entry) (is_transition entry.kind) far

  agree : {A : Type 0} (says : Said → Option A) → SpeaksOf about.object says → (second : ℕ) (known : A)
      → last_said (λ note. says note.said) known (up_to second (notes_of base xs)) ≡ last_said (λ note. says note.said) known (up_to second (notes_of base ys))
  agree says speaks second known =
      lines_agree says base second (concerns base about) (λ entry far. quiet says about.object speaks entry (object_of base entry) (told_by entry) (no_own entry far)) xs ys same known

  host_agrees : {A : Type 0} (says : Said → Option A) → SpeaksOf (object.Host about.host) says → (second : ℕ) (known : A)
      → last_said (λ note. says note.said) known (up_to second (notes_of base xs)) ≡ last_said (λ note. says note.said) known (up_to second (notes_of base ys))
  host_agrees says speaks second known =
      lines_agree says base second (concerns base about) (λ entry far. quiet says (object.Host about.host) speaks entry (object_of base entry) (told_by entry) (no_host entry far)) xs ys same known

  period_agrees : (second : ℕ) (known : Bool)
      → last_said (λ note. period_fact about.period note.said) known (up_to second (notes_of base xs)) ≡ last_said (λ note. period_fact about.period note.said) known (up_to second (notes_of base ys))
  period_agrees second known =
      lines_agree (period_fact about.period) base second (concerns base about) (λ entry far. quiet_kind about.period entry (object_of base entry) entry.kind
      (or_third (is_about base about.object entry) (is_about base (object.Host about.host) entry) (is_transition entry.kind) far)) xs ys same known

  facts_agree : (second : ℕ) → (known_at about (notes_of base xs) second).facts ≡ (known_at about (notes_of base ys) second).facts
  facts_agree second = rw (
    agree (state_in about.object) (state_speaks about.object) second (negsuc 0),
    agree (output_in about.object) (output_speaks about.object) second [],
    host_agrees (down_in (object.Host about.host)) (down_speaks (object.Host about.host)) second false,
    agree (downtime_fact about.object) (downtime_speaks about.object) second false,
    host_agrees (downtime_fact (object.Host about.host)) (downtime_speaks (object.Host about.host)) second false,
    agree (flapping_fact about.object) (flapping_speaks about.object) second false,
    period_agrees second true,
  ) refl

-- ---- pieces

shown_same : (p q : HistoryPiece) → shown_piece p ≡ shown_piece q → p.known.facts ≡ q.known.facts
shown_same p q same = ap (λ piece. piece.facts) same

abbrev made : ℕ → ℕ → Facts → Shown
made from until facts = record { from = from; until = until; facts = facts }

grown : (is : Bool) (p q a b : HistoryPiece) (ps qs : List HistoryPiece) → shown_piece p ≡ shown_piece q → shown_piece a ≡ shown_piece b → map shown_piece ps ≡ map shown_piece qs
    → map shown_piece (if is then record p { until = a.until } ∷ ps else p ∷ a ∷ ps) ≡ map shown_piece (if is then record q { until = b.until } ∷ qs else q ∷ b ∷ qs)
grown true p q a b ps qs same next later =
    ap (λ (piece : Shown). made piece.from a.until piece.facts ∷ map shown_piece ps) same
    ∙ ap (λ (piece : Shown). made q.from piece.until q.known.facts ∷ map shown_piece ps) next
    ∙ ap (λ list. made q.from b.until q.known.facts ∷ list) later
grown false p q a b ps qs same next later =
    ap (λ piece. piece ∷ shown_piece a ∷ map shown_piece ps) same ∙ ap (λ piece. shown_piece q ∷ piece ∷ map shown_piece ps) next ∙ ap (λ list. shown_piece q ∷ shown_piece b ∷ list) later

joined_shown : (p q : HistoryPiece) (ps qs : List HistoryPiece) → shown_piece p ≡ shown_piece q → map shown_piece ps ≡ map shown_piece qs → map shown_piece (with_piece_before p ps) ≡ map shown_piece (with_piece_before q qs)
joined_shown p q [] [] same later = ap (λ piece. piece ∷ []) same
joined_shown p q [] (b ∷ qs) same later = absurd (omega (arith, ap length later))
joined_shown p q (a ∷ ps) [] same later = absurd (omega (arith, ap length later))
joined_shown p q (a ∷ ps) (b ∷ qs) same later =
    let next : shown_piece a ≡ shown_piece b = ap (λ list. get_or list 0 (shown_piece a)) later in
    let rest : map shown_piece ps ≡ map shown_piece qs = ap (drop 1) later in
    grown (same_facts p.known.facts a.known.facts) p q a b ps qs same next rest
    ∙ ap (λ is. map shown_piece (if is then record q { until = b.until } ∷ qs else q ∷ b ∷ qs))
    (ap (λ facts. same_facts facts a.known.facts) (shown_same p q same) ∙ ap (same_facts q.known.facts) (shown_same a b next))

pieces_shown : (at bt : ℕ → Known) → ((second : ℕ) → (at second).facts ≡ (bt second).facts) → (count from until : ℕ) → until - from ≡ count
    → map shown_piece (pieces_between at from until) ≡ map shown_piece (pieces_between bt from until)
pieces_shown at bt same zero from until left =
    ap (map shown_piece) (no_pieces at from until (omega (arith, left)) ∙ sym (no_pieces bt from until (omega (arith, left))))
pieces_shown at bt same (suc count) from until left =
    let some : from < until = omega (arith, left) in
    ap (map shown_piece) (pieces_next at from until some)
    ∙ joined_shown (second_piece at from) (second_piece bt from) (pieces_between at (from + 1) until) (pieces_between bt (from + 1) until)
    (ap (λ facts. record { from = from; until = from + 1; facts = facts }) (same from)) (pieces_shown at bt same count (from + 1) until (omega (arith, left)))
    ∙ ap (map shown_piece) (sym (pieces_next bt from until some))

pub own_history : IsOwnHistory
own_history base about xs ys same from until =
    pieces_shown (known_at about (notes_of base xs)) (known_at about (notes_of base ys)) (facts_agree base about xs ys same) (until - from) from until refl
