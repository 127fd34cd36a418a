-- Lines that are kept by their hosts tell of an object what all lines do.
use Rattle.std.proofs.Common.{◌≡◌, ℕ, zero, suc, ◌+◌, ◌<◌, ◌≤◌, ◌==◌, ◌||◌, nat_le, nat_lt, Bool, true, false, Option, Some, None, IfSome, List, [], ◌∷◌, length, map, filter, fold, slice_get, get_or, negsuc, unwrap_or, refl, sym, ap, ◌∙◌, true≢false, arith, cond}
use Rattle.std.specs.List.{cons_option, enumerate_from, filter_map}
use Rattle.std.specs.Option.{option_map, option_map_or}
use Rattle.std.proofs.lemmas.Bool.{eq-eqb, eqb-true, ne_eqb}
use Rattle.std.proofs.lemmas.Bool.Decides.{nat_tests}
use Rattle.lq_records.specs.Object.{is_same_object}
use Rattle.lq_records.specs.declared.base.Base.{Base}
use Rattle.lq_records.specs.declared.ids.HostId.{HostId}
use Rattle.lq_records.specs.declared.object.Object.{Object}
use Rattle.lq_records.specs.declared.object.Object.TheVariants as object
use Rattle.lq_events.specs.declared.log_entry.LogEntry.{LogEntry}
use Rattle.lq_log.specs.Book.{InOrderAfter}
use Rattle.lq_statehist.specs.Facts.{Subject, down_in, downtime_fact, flapping_fact, known_after, known_at, line_fact, output_in, period_fact, state_in, up_to}
use Rattle.lq_statehist.specs.History.{history, slice_of}
use Rattle.lq_statehist.specs.Notes.{Note, Said, State, Downtime, Flapping, Period, note_at, said_by}
use Rattle.lq_statehist.specs.Pass.{RisesFrom}
use Rattle.lq_statehist.specs.Sorted.{IsHosted, PlacesFrom, below, host_about, is_near, is_of_host, is_of_period, is_on, merged_notes}
use Rattle.lq_statehist.specs.declared.notes.Notes.{Notes}
use Rattle.lq_statehist.proofs.JoinLemmas.{same_pieces}

-- ---- lists

module _ {A : Type 0} (p q : A → Bool) where
  twice_step : (x : A) (xs : List A) (is : Bool) → q x ≡ is → (is ≡ false → p x ≡ false) → filter p (filter q xs) ≡ filter p xs → filter p (filter q (x ∷ xs)) ≡ filter p (x ∷ xs)
  twice_step x xs true is none rest = rw is (ap (cond (p x) (x ∷ filter p (filter q xs))) rest ∙ ap (λ list. cond (p x) (x ∷ list) (filter p xs)) rest)
  twice_step x xs false is none rest = rw (is, none refl) rest

  pub filter_twice : ((x : A) → q x ≡ false → p x ≡ false) → (xs : List A) → filter p (filter q xs) ≡ filter p xs
  filter_twice none [] = refl
  filter_twice none (x ∷ xs) = twice_step x xs (q x) refl (λ is. none x is) (filter_twice none xs)

  commute_in : (x : A) (xs : List A) (first second : Bool) → p x ≡ first → q x ≡ second → filter p (filter q xs) ≡ filter q (filter p xs)
      → filter p (cond second (x ∷ filter q xs) (filter q xs)) ≡ filter q (cond first (x ∷ filter p xs) (filter p xs))
  commute_in x xs true true is also rest =
      ap (λ b. cond b (x ∷ filter p (filter q xs)) (filter p (filter q xs))) is ∙ ap (λ list. x ∷ list) rest
      ∙ sym (ap (λ b. cond b (x ∷ filter q (filter p xs)) (filter q (filter p xs))) also)
  commute_in x xs true false is also rest = rest ∙ sym (ap (λ b. cond b (x ∷ filter q (filter p xs)) (filter q (filter p xs))) also)
  commute_in x xs false true is also rest = ap (λ b. cond b (x ∷ filter p (filter q xs)) (filter p (filter q xs))) is ∙ rest
  commute_in x xs false false is also rest = rest

  commute_step : (x : A) (xs : List A) (first second : Bool) → p x ≡ first → q x ≡ second → filter p (filter q xs) ≡ filter q (filter p xs)
      → filter p (filter q (x ∷ xs)) ≡ filter q (filter p (x ∷ xs))
  commute_step x xs first second is also rest =
      ap (λ b. filter p (cond b (x ∷ filter q xs) (filter q xs))) also ∙ commute_in x xs first second is also rest
      ∙ sym (ap (λ b. filter q (cond b (x ∷ filter p xs) (filter p xs))) is)

  pub filter_commutes : (xs : List A) → filter p (filter q xs) ≡ filter q (filter p xs)
  filter_commutes [] = refl
  filter_commutes (x ∷ xs) = commute_step x xs (p x) (q x) refl refl (filter_commutes xs)

-- ---- lines that say nothing of an object

module _ {X A : Type 0} (says : X → Option A) (keeps : X → Bool) (none : (note : X) → keeps note ≡ false → says note ≡ None) where
  abbrev said_last : A → List X → A
  said_last known notes = fold (λ before note. unwrap_or (says note) before) known notes

  said_step : (note : X) (notes : List X) (known : A) (is : Bool) → keeps note ≡ is
      → ((next : A) → said_last next (filter keeps notes) ≡ said_last next notes)
      → said_last known (filter keeps (note ∷ notes)) ≡ said_last known (note ∷ notes)
  said_step note notes known true is rest = rw is (rest (unwrap_or (says note) known))
  said_step note notes known false is rest = rw is (rest known ∙ ap (λ (found : Option A). said_last (unwrap_or found known) notes) (sym (none note is)))

  pub kept_said : (notes : List X) (known : A) → said_last known (filter keeps notes) ≡ said_last known notes
  kept_said [] known = refl
  kept_said (note ∷ notes) known = said_step note notes known (keeps note) refl (kept_said notes)

same_host : (base : Base) (a b : Object) → is_same_object a b ≡ true → host_about base a ≡ host_about base b
same_host base (object.Host a) (object.Host b) same = ap (λ n. Some (record { 0 = n })) (eqb-true a.0 b.0 same)
same_host base (object.Service a) (object.Service b) same = ap (λ n. host_about base (object.Service (record { 0 = n }))) (eqb-true a.0 b.0 same)
same_host base (object.Host a) (object.Service b) same = absurd (true≢false (sym same))
same_host base (object.Service a) (object.Host b) same = absurd (true≢false (sym same))

module _ (base : Base) (about : Subject) (has : IsHosted base about) where
  other_object : (found : Object) (is : Bool) → is_same_object about.object found ≡ is → is_on base about.host found ≡ false → is_same_object about.object found ≡ false
  other_object found false is far = is
  other_object found true is far =
      absurd (true≢false (sym (ap (λ (own : Option HostId). option_map_or (λ host. host.0 == about.host.0) own false) (sym (same_host base about.object found is) ∙ has.host)
      ∙ eq-eqb about.host.0 about.host.0 refl) ∙ far))

  other_host : (found : Object) → is_on base about.host found ≡ false → is_same_object (object.Host about.host) found ≡ false
  other_host (object.Host id) far = ne_eqb about.host.0 id.0 (λ same. true≢false (sym (eq-eqb id.0 about.host.0 (sym same)) ∙ far))
  other_host (object.Service id) far = refl

  or_left : (a b : Bool) → (a || b) ≡ false → a ≡ false
  or_left false b is = refl
  or_left true b is = is

  -- what is far says nothing of the object and of its host
  far : (found : Object) → (is_on base about.host found || false) ≡ false → is_same_object about.object found ≡ false
  far found is = other_object found (is_same_object about.object found) refl (or_left (is_on base about.host found) false is)

  far_host : (found : Object) → (is_on base about.host found || false) ≡ false → is_same_object (object.Host about.host) found ≡ false
  far_host found is = other_host found (or_left (is_on base about.host found) false is)

  or_true : (a : Bool) → (a || true) ≡ true
  or_true true = refl
  or_true false = refl

  no_state : (time place : ℕ) (said : Said) → is_near base about (record { time = time; place = place; said = said }) ≡ false → state_in about.object said ≡ None
  no_state time place (State found state output) is = rw (far found is) refl
  no_state time place (Downtime found on) is = refl
  no_state time place (Flapping found on) is = refl
  no_state time place (Period name on) is = refl

  no_output : (time place : ℕ) (said : Said) → is_near base about (record { time = time; place = place; said = said }) ≡ false → output_in about.object said ≡ None
  no_output time place (State found state output) is = rw (far found is) refl
  no_output time place (Downtime found on) is = refl
  no_output time place (Flapping found on) is = refl
  no_output time place (Period name on) is = refl

  no_line : (time place : ℕ) (said : Said) → is_near base about (record { time = time; place = place; said = said }) ≡ false
      → line_fact about.object (record { time = time; place = place; said = said }) said ≡ None
  no_line time place (State found state output) is = rw (far found is) refl
  no_line time place (Downtime found on) is = refl
  no_line time place (Flapping found on) is = refl
  no_line time place (Period name on) is = refl

  no_down : (time place : ℕ) (said : Said) → is_near base about (record { time = time; place = place; said = said }) ≡ false → down_in (object.Host about.host) said ≡ None
  no_down time place (State found state output) is = rw (far_host found is) refl
  no_down time place (Downtime found on) is = refl
  no_down time place (Flapping found on) is = refl
  no_down time place (Period name on) is = refl

  no_downtime : (time place : ℕ) (said : Said) → is_near base about (record { time = time; place = place; said = said }) ≡ false → downtime_fact about.object said ≡ None
  no_downtime time place (State found state output) is = refl
  no_downtime time place (Downtime found on) is = rw (far found is) refl
  no_downtime time place (Flapping found on) is = refl
  no_downtime time place (Period name on) is = refl

  no_host_downtime : (time place : ℕ) (said : Said) → is_near base about (record { time = time; place = place; said = said }) ≡ false → downtime_fact (object.Host about.host) said ≡ None
  no_host_downtime time place (State found state output) is = refl
  no_host_downtime time place (Downtime found on) is = rw (far_host found is) refl
  no_host_downtime time place (Flapping found on) is = refl
  no_host_downtime time place (Period name on) is = refl

  no_flapping : (time place : ℕ) (said : Said) → is_near base about (record { time = time; place = place; said = said }) ≡ false → flapping_fact about.object said ≡ None
  no_flapping time place (State found state output) is = refl
  no_flapping time place (Downtime found on) is = refl
  no_flapping time place (Flapping found on) is = rw (far found is) refl
  no_flapping time place (Period name on) is = refl

  no_period : (time place : ℕ) (said : Said) → is_near base about (record { time = time; place = place; said = said }) ≡ false → period_fact about.period said ≡ None
  no_period time place (State found state output) is = refl
  no_period time place (Downtime found on) is = refl
  no_period time place (Flapping found on) is = refl
  no_period time place (Period name on) is = absurd (true≢false (sym (or_true (is_of_host base about.host (record { time = time; place = place; said = Period name on }))) ∙ is))

  near_known : (notes : List Note) → known_after about (filter (is_near base about) notes) ≡ known_after about notes
  near_known notes = rw (
    kept_said (λ note. state_in about.object note.said) (is_near base about) (λ note is. no_state note.time note.place note.said is) notes (negsuc 0),
    kept_said (λ note. output_in about.object note.said) (is_near base about) (λ note is. no_output note.time note.place note.said is) notes [],
    kept_said (λ note. down_in (object.Host about.host) note.said) (is_near base about) (λ note is. no_down note.time note.place note.said is) notes false,
    kept_said (λ note. downtime_fact about.object note.said) (is_near base about) (λ note is. no_downtime note.time note.place note.said is) notes false,
    kept_said (λ note. downtime_fact (object.Host about.host) note.said) (is_near base about) (λ note is. no_host_downtime note.time note.place note.said is) notes false,
    kept_said (λ note. flapping_fact about.object note.said) (is_near base about) (λ note is. no_flapping note.time note.place note.said is) notes false,
    kept_said (λ note. period_fact about.period note.said) (is_near base about) (λ note is. no_period note.time note.place note.said is) notes true,
    kept_said (λ note. line_fact about.object note note.said) (is_near base about) (λ note is. no_line note.time note.place note.said is) notes None,
  ) refl

  known_near : (until : ℕ) (all : List Note) (second : ℕ) → second < until → known_at about (filter (is_near base about) (below until all)) second ≡ known_at about all second
  known_near until all second before =
      ap (known_after about) (filter_commutes (λ note. nat_le note.time second) (is_near base about) (below until all)
      ∙ ap (filter (is_near base about)) (filter_twice (λ note. nat_le note.time second) (λ note. nat_lt note.time until)
      (λ note late. grind (arith, nat_tests, late, before)) all))
      ∙ near_known (up_to second all)

  pub history_near : (all : List Note) (from until : ℕ) → history about (filter (is_near base about) (below until all)) from until ≡ history about all from until
  history_near all from until =
      ap (map (slice_of about.object)) (same_pieces (known_at about (filter (is_near base about) (below until all))) (known_at about all) from until
      (λ second after before. known_near until all second before))

-- ---- the order of lines

rises_some : (found : Option Said) (before place : ℕ) (entry : LogEntry) (rest : List Note) → before ≤ entry.time → RisesFrom entry.time rest
    → RisesFrom before (cons_option (option_map (λ said. record { time = entry.time; place = place; said = said }) found) rest)
rises_some None before place entry [] later rises = tt
rises_some None before place entry (note ∷ rest) later rises = (omega (arith, later, rises.0), rises.1)
rises_some (Some said) before place entry rest later rises = (later, rises)

pub notes_rise : (base : Base) (log : List LogEntry) (before place : ℕ) → InOrderAfter before log → RisesFrom before (filter_map (note_at base) (enumerate_from place log))
notes_rise base [] before place order = tt
notes_rise base (entry ∷ log) before place order =
    rises_some (said_by base entry) before place entry (filter_map (note_at base) (enumerate_from (place + 1) log)) order.0 (notes_rise base log entry.time (place + 1) order.2)

rises_lower : (low before : ℕ) (notes : List Note) → low ≤ before → RisesFrom before notes → RisesFrom low notes
rises_lower low before [] le rises = tt
rises_lower low before (note ∷ notes) le rises = (omega (arith, le, rises.0), rises.1)

rises_step : (keeps : Note → Bool) (before : ℕ) (note : Note) (notes : List Note) (is : Bool) → keeps note ≡ is → before ≤ note.time → RisesFrom note.time (filter keeps notes)
    → RisesFrom before (filter keeps (note ∷ notes))
rises_step keeps before note notes true is later rises = rw is (later, rises)
rises_step keeps before note notes false is later rises = rw is (rises_lower before note.time (filter keeps notes) later rises)

pub filter_rises : (keeps : Note → Bool) (before : ℕ) (notes : List Note) → RisesFrom before notes → RisesFrom before (filter keeps notes)
filter_rises keeps before [] rises = tt
filter_rises keeps before (note ∷ notes) rises = rises_step keeps before note notes (keeps note) refl rises.0 (filter_rises keeps note.time notes rises.1)

places_some : (found : Option Said) (low place : ℕ) (entry : LogEntry) (rest : List Note) → low ≤ place → PlacesFrom (place + 1) rest
    → PlacesFrom low (cons_option (option_map (λ said. record { time = entry.time; place = place; said = said }) found) rest)
places_some None low place entry [] le rises = tt
places_some None low place entry (note ∷ rest) le rises = (omega (arith, le, rises.0), rises.1)
places_some (Some said) low place entry rest le rises = (le, rises)

pub notes_placed : (base : Base) (log : List LogEntry) (low place : ℕ) → low ≤ place → PlacesFrom low (filter_map (note_at base) (enumerate_from place log))
notes_placed base [] low place le = tt
notes_placed base (entry ∷ log) low place le =
    places_some (said_by base entry) low place entry (filter_map (note_at base) (enumerate_from (place + 1) log)) le (notes_placed base log (place + 1) (place + 1) (omega arith))

places_lower : (low before : ℕ) (notes : List Note) → low ≤ before → PlacesFrom before notes → PlacesFrom low notes
places_lower low before [] le rises = tt
places_lower low before (note ∷ notes) le rises = (omega (arith, le, rises.0), rises.1)

places_step : (keeps : Note → Bool) (low : ℕ) (note : Note) (notes : List Note) (is : Bool) → keeps note ≡ is → low ≤ note.place → PlacesFrom (note.place + 1) (filter keeps notes)
    → PlacesFrom low (filter keeps (note ∷ notes))
places_step keeps low note notes true is le rises = rw is (le, rises)
places_step keeps low note notes false is le rises = rw is (places_lower low (note.place + 1) (filter keeps notes) (omega (arith, le)) rises)

pub filter_placed : (keeps : Note → Bool) (low : ℕ) (notes : List Note) → PlacesFrom low notes → PlacesFrom low (filter keeps notes)
filter_placed keeps low [] rises = tt
filter_placed keeps low (note ∷ notes) rises = places_step keeps low note notes (keeps note) refl rises.0 (filter_placed keeps (note.place + 1) notes rises.1)

-- ---- two lists in the order of the log

merged_none : (notes : List Note) → merged_notes notes [] ≡ notes
merged_none [] = refl
merged_none (note ∷ notes) = refl

-- a note that stands before all others comes first, in whichever list it is
first_left : (note : Note) (notes others : List Note) → PlacesFrom (note.place + 1) others → merged_notes (note ∷ notes) others ≡ note ∷ merged_notes notes others
first_left note notes [] placed = ap (λ list. note ∷ list) (sym (merged_none notes))
first_left note notes (other ∷ others) placed =
    let is : nat_lt note.place other.place ≡ true = grind (arith, nat_tests, placed.0) in
    rw is refl

first_right : (note : Note) (notes others : List Note) → PlacesFrom (note.place + 1) others → merged_notes others (note ∷ notes) ≡ note ∷ merged_notes others notes
first_right note notes [] placed = refl
first_right note notes (other ∷ others) placed =
    let is : nat_lt other.place note.place ≡ false = grind (arith, nat_tests, placed.0) in
    rw is refl

module _ (p q : Note → Bool) (never : (note : Note) → p note ≡ true → q note ≡ false) where
  merged_step : (note : Note) (notes : List Note) (first second : Bool) → p note ≡ first → q note ≡ second → PlacesFrom (note.place + 1) notes
      → merged_notes (filter p notes) (filter q notes) ≡ filter (λ other. p other || q other) notes
      → merged_notes (filter p (note ∷ notes)) (filter q (note ∷ notes)) ≡ filter (λ other. p other || q other) (note ∷ notes)
  merged_step note notes true true is also placed rest = absurd (true≢false (sym also ∙ never note is))
  merged_step note notes true false is also placed rest =
      rw (is, also) (first_left note (filter p notes) (filter q notes) (filter_placed q (note.place + 1) notes placed) ∙ ap (λ list. note ∷ list) rest)
  merged_step note notes false true is also placed rest =
      rw (is, also) (first_right note (filter q notes) (filter p notes) (filter_placed p (note.place + 1) notes placed) ∙ ap (λ list. note ∷ list) rest)
  merged_step note notes false false is also placed rest = rw (is, also) rest

  merged_filters : (low : ℕ) (notes : List Note) → PlacesFrom low notes → merged_notes (filter p notes) (filter q notes) ≡ filter (λ other. p other || q other) notes
  merged_filters low [] placed = refl
  merged_filters low (note ∷ notes) placed = merged_step note notes (p note) (q note) refl refl placed.1 (merged_filters (note.place + 1) notes placed.1)

host_or_period : (base : Base) (host : HostId) (time place : ℕ) (said : Said) → is_of_host base host (record { time = time; place = place; said = said }) ≡ true
    → is_of_period (record { time = time; place = place; said = said }) ≡ false
host_or_period base host time place (State found state output) is = refl
host_or_period base host time place (Downtime found on) is = refl
host_or_period base host time place (Flapping found on) is = refl
host_or_period base host time place (Period name on) is = absurd (true≢false (sym is))

pub near_merged : (base : Base) (about : Subject) (low : ℕ) (told : List Note) → PlacesFrom low told
    → merged_notes (filter (is_of_host base about.host) told) (filter is_of_period told) ≡ filter (is_near base about) told
near_merged base about low told placed =
    merged_filters (is_of_host base about.host) is_of_period (λ note is. host_or_period base about.host note.time note.place note.said is) low told placed

-- ---- what is near an object

pub at_place : {V : Type 0} (P : V → Type 0) (items : List V) (at : ℕ) (d : V) → at < length items → IfSome (slice_get items at) P → P (get_or items at d)
at_place P [] at d within is = absurd (omega (arith, within))
at_place P (x ∷ items) zero d within is = is
at_place P (x ∷ items) (suc at) d within is = at_place P items at d (omega (arith, within)) is

-- the two lists that are kept, as one
pub near_both : (base : Base) (notes : Notes) (about : Subject) (near kept others : List Note) (told : List Note) → near ≡ merged_notes kept others
    → kept ≡ filter (is_of_host base about.host) told → others ≡ filter is_of_period told → PlacesFrom 0 told → near ≡ filter (is_near base about) told
near_both base notes about near kept others told is of_host of_period placed =
    is ∙ ap (λ list. merged_notes list others) of_host ∙ ap (merged_notes (filter (is_of_host base about.host) told)) of_period ∙ near_merged base about 0 told placed
