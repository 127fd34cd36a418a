-- Lines that are read one after the other.
use Rattle.std.proofs.Common.{◌≡◌, ℕ, zero, suc, ◌+◌, ◌<◌, ◌≤◌, nat_lt, Bool, true, false, Option, Some, None, List, [], ◌∷◌, ◌++◌, length, filter, take, slice_get, option_to_list, is_none, unwrap_or, refl, sym, ap, ◌∙◌, true≢false, arith, cond}
use Rattle.std.specs.List.{cons_option, enumerate_from, filter_map}
use Rattle.std.specs.Option.{option_map}
use Rattle.std.proofs.lemmas.Bool.Decides.{nat_tests}
use Rattle.std.proofs.lemmas.List.Elements.{filter-append}
use Rattle.lq_records.specs.declared.base.Base.{Base}
use Rattle.lq_events.specs.declared.log_entry.LogEntry.{LogEntry}
use Rattle.lq_log.specs.Book.{InOrder, InOrderAfter}
use Rattle.lq_statehist.specs.Notes.{Note, Said, lines_below, note_at, notes_of, said_by}
use Rattle.lq_statehist.specs.Sorted.{below}

none_at : {A : Type 0} (x : A) → ◌≡◌ {A = Option A} None (Some x) → ⊥
none_at x same = true≢false (ap (λ (found : Option _). is_none found) same)

-- ---- what a line gives, before and after others

alone : {A : Type 0} (found : Option A) → cons_option found [] ≡ option_to_list found
alone None = refl
alone (Some x) = refl

ahead : {A : Type 0} (found : Option A) (xs ys : List A) → cons_option found (xs ++ ys) ≡ cons_option found xs ++ ys
ahead None xs ys = refl
ahead (Some x) xs ys = refl

some_same : {A : Type 0} (x y : A) → ◌≡◌ {A = Option A} (Some x) (Some y) → x ≡ y
some_same x y same = ap (λ (found : Option _). unwrap_or found x) same

next_from : (base : Base) (log : List LogEntry) (first at place : ℕ) (entry : LogEntry) → place ≡ first + at → slice_get log at ≡ Some entry
    → filter_map (note_at base) (enumerate_from first (take (suc at) log)) ≡ filter_map (note_at base) (enumerate_from first (take at log)) ++ option_to_list (note_at base (place, entry))
next_from base [] first at place entry is found = absurd (none_at entry found)
next_from base (line ∷ log) first zero place entry is found =
    alone (note_at base (first, line))
    ∙ ap (λ n. option_to_list (note_at base (n, line))) (sym (is ∙ omega arith))
    ∙ ap (λ e. option_to_list (note_at base (place, e))) (some_same line entry found)
next_from base (line ∷ log) first (suc at) place entry is found =
    ap (cons_option (note_at base (first, line))) (next_from base log (first + 1) at place entry (is ∙ omega arith) found)
    ∙ ahead (note_at base (first, line)) (filter_map (note_at base) (enumerate_from (first + 1) (take at log))) (option_to_list (note_at base (place, entry)))

-- ---- those before a second

some_below : (until : ℕ) (entry : LogEntry) (place : ℕ) (found : Option Said) → entry.time < until
    → below until (option_to_list (option_map (λ said. record { time = entry.time; place = place; said = said }) found))
    ≡ option_to_list (option_map (λ said. record { time = entry.time; place = place; said = said }) found)
some_below until entry place None before = refl
some_below until entry place (Some said) before =
    let is : nat_lt entry.time until ≡ true = grind (arith, nat_tests, before) in
    rw is refl

-- what one more line that is before it says
pub read_next : (base : Base) (log : List LogEntry) (at until : ℕ) (entry : LogEntry) → slice_get log at ≡ Some entry → entry.time < until
    → below until (notes_of base (take (at + 1) log)) ≡ below until (notes_of base (take at log)) ++ option_to_list (note_at base (at, entry))
read_next base log at until entry found before =
    let more : at + 1 ≡ suc at = omega arith in
    ap (λ n. below until (notes_of base (take n log))) more
    ∙ ap (below until) (next_from base log 0 at at entry (omega arith) found)
    ∙ filter-append (λ (note : Note). nat_lt note.time until) (notes_of base (take at log)) (option_to_list (note_at base (at, entry)))
    ∙ ap (λ list. below until (notes_of base (take at log)) ++ list) (some_below until entry at (said_by base entry) before)

-- the lines from one on that isn't say nothing before it
late_some : (until : ℕ) (entry : LogEntry) (place : ℕ) (found : Option Said) (rest : List Note) → until ≤ entry.time → below until rest ≡ []
    → below until (cons_option (option_map (λ said. record { time = entry.time; place = place; said = said }) found) rest) ≡ []
late_some until entry place None rest late none = none
late_some until entry place (Some said) rest late none =
    let is : nat_lt entry.time until ≡ false = grind (arith, nat_tests, late) in
    rw is none

all_late : (base : Base) (log : List LogEntry) (until before place : ℕ) → until ≤ before → InOrderAfter before log → below until (filter_map (note_at base) (enumerate_from place log)) ≡ []
all_late base [] until before place late order = refl
all_late base (entry ∷ log) until before place late order =
    late_some until entry place (said_by base entry) (filter_map (note_at base) (enumerate_from (place + 1) log)) (omega (arith, late, order.0))
    (all_late base log until entry.time (place + 1) (omega (arith, late, order.0)) order.2)

below_cons : (until : ℕ) (found : Option Note) (xs ys : List Note) → below until xs ≡ below until ys → below until (cons_option found xs) ≡ below until (cons_option found ys)
below_cons until None xs ys same = same
below_cons until (Some note) xs ys same = ap (λ list. cond (nat_lt note.time until) (note ∷ list) list) same

last_from : (base : Base) (log : List LogEntry) (before place at until : ℕ) (entry : LogEntry) → slice_get log at ≡ Some entry → until ≤ entry.time → InOrderAfter before log
    → below until (filter_map (note_at base) (enumerate_from place (take at log))) ≡ below until (filter_map (note_at base) (enumerate_from place log))
last_from base [] before place at until entry found late order = absurd (none_at entry found)
last_from base (line ∷ log) before place zero until entry found late order =
    let later : until ≤ line.time = omega (arith, late, ap (λ (e : LogEntry). e.time) (some_same line entry found)) in
    sym (late_some until line place (said_by base line) (filter_map (note_at base) (enumerate_from (place + 1) log)) later
    (all_late base log until line.time (place + 1) later order.2))
last_from base (line ∷ log) before place (suc at) until entry found late order =
    below_cons until (note_at base (place, line)) (filter_map (note_at base) (enumerate_from (place + 1) (take at log))) (filter_map (note_at base) (enumerate_from (place + 1) log))
    (last_from base log line.time (place + 1) at until entry found late order.2)

pub read_last : (base : Base) (log : List LogEntry) (at until : ℕ) (entry : LogEntry) → slice_get log at ≡ Some entry → until ≤ entry.time → InOrder log
    → below until (notes_of base (take at log)) ≡ below until (notes_of base log)
read_last base log at until entry found late order = last_from base log 0 0 at until entry found late order

whole : (log : List LogEntry) (at : ℕ) → length log ≤ at → take at log ≡ log
whole [] zero all = refl
whole [] (suc at) all = refl
whole (line ∷ log) zero all = absurd (omega (arith, all))
whole (line ∷ log) (suc at) all = ap (λ list. line ∷ list) (whole log at (omega (arith, all)))

pub read_all : (base : Base) (log : List LogEntry) (at until : ℕ) → length log ≤ at → below until (notes_of base (take at log)) ≡ below until (notes_of base log)
read_all base log at until all = ap (λ list. below until (notes_of base list)) (whole log at all)

-- ---- how many are read

pub few_lines : (log : List LogEntry) (at until : ℕ) → lines_below until (take at log) ≤ lines_below until log
few_lines [] zero until = omega arith
few_lines [] (suc at) until = omega arith
few_lines (line ∷ log) zero until = omega arith
few_lines (line ∷ log) (suc at) until = either (nat_lt line.time until) (few_lines log at until)
  where
    either : (is : Bool) → lines_below until (take at log) ≤ lines_below until log
        → length (cond is (line ∷ filter (λ (entry : LogEntry). nat_lt entry.time until) (take at log)) (filter (λ (entry : LogEntry). nat_lt entry.time until) (take at log)))
        ≤ length (cond is (line ∷ filter (λ (entry : LogEntry). nat_lt entry.time until) log) (filter (λ (entry : LogEntry). nat_lt entry.time until) log))
    either true few = omega (arith, few)
    either false few = few

next_lines : (log : List LogEntry) (at until : ℕ) (entry : LogEntry) → slice_get log at ≡ Some entry → entry.time < until
    → lines_below until (take (suc at) log) ≡ lines_below until (take at log) + 1
next_lines [] at until entry found before = absurd (none_at entry found)
next_lines (line ∷ log) zero until entry found before =
    let is : nat_lt line.time until ≡ true = grind (arith, nat_tests, before, ap (λ (e : LogEntry). e.time) (some_same line entry found)) in
    rw is refl
next_lines (line ∷ log) (suc at) until entry found before = either (nat_lt line.time until) (next_lines log at until entry found before)
  where
    either : (is : Bool) → lines_below until (take (suc at) log) ≡ lines_below until (take at log) + 1
        → length (cond is (line ∷ filter (λ (entry : LogEntry). nat_lt entry.time until) (take (suc at) log)) (filter (λ (entry : LogEntry). nat_lt entry.time until) (take (suc at) log)))
        ≡ length (cond is (line ∷ filter (λ (entry : LogEntry). nat_lt entry.time until) (take at log)) (filter (λ (entry : LogEntry). nat_lt entry.time until) (take at log))) + 1
    either true more = omega (arith, more)
    either false more = more

pub lines_next : (log : List LogEntry) (at until : ℕ) (entry : LogEntry) → slice_get log at ≡ Some entry → entry.time < until
    → lines_below until (take (at + 1) log) ≡ lines_below until (take at log) + 1
lines_next log at until entry found before =
    let more : at + 1 ≡ suc at = omega arith in
    ap (λ n. lines_below until (take n log)) more ∙ next_lines log at until entry found before
