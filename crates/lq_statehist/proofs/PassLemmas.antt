-- One pass over what a log says.
use Rattle.std.proofs.Common.{◌≡◌, ℕ, ℤ, negsuc, unwrap_or, suc, ◌+◌, ◌<◌, ◌≤◌, min, nat_le, Bool, true, false, Option, None, Result, Ok, Err, IfOk, OnOk, List, [], ◌∷◌, ◌++◌, length, map, refl, sym, ap, subst, ◌∙◌, arith}
use Rattle.std.proofs.lemmas.Bool.Decides.{nat_tests}
use Rattle.lq_records.specs.declared.object.Object.{Object}
use Rattle.lq_records.specs.declared.object.Object.TheVariants as object
use Rattle.lq_statehist.specs.Facts.{Known, Subject, down_in, downtime_fact, flapping_fact, known_after, known_at, last_said, line_fact, output_in, period_fact, state_in, up_to}
use Rattle.lq_statehist.specs.History.{slice_of}
use Rattle.lq_statehist.specs.Notes.{Note}
use Rattle.lq_statehist.specs.Pass.{IsKnownThroughout, RisesFrom, all_noted, before, known_after_note, unknown}
use Rattle.lq_statehist.specs.Tiling.{HistoryPiece, with_piece_before, pieces_between, same_facts}
use Rattle.lq_statehist.specs.declared.slice.Slice.{Slice}
use Rattle.lq_statehist.proofs.JoinLemmas.{joined_apart, joined_twice, stretch_to}

pub on_ok : {T E A B : Type 0} (result : Result T E) → (A → B) → OnOk result A → OnOk result B
on_ok (Ok value) next is = next is
on_ok (Err error) next is = is

pub if_ok : {T E : Type 0} (P Q : T → Type 0) (result : Result T E) → ((value : T) → P value → Q value) → IfOk result P → IfOk result Q
if_ok P Q (Ok value) next is = next value is
if_ok P Q (Err error) next is = is

-- ---- what is known, note by note

abbrev known_with : ℤ → List ℕ → Bool → Bool → Bool → Bool → Bool → Option ℕ → Known
known_with state output down downtime host_downtime flapping period line = record {
  facts = record {
    state = state;
    output = output;
    host_down = down;
    in_downtime = downtime;
    in_host_downtime = host_downtime;
    is_flapping = flapping;
    in_period = period;
  };
  line = line;
}

all_said : (about : Subject) (notes : List Note) (s : ℤ) (o : List ℕ) (a b c d e : Bool) (l : Option ℕ)
    → known_with (last_said (λ note. state_in about.object note.said) s notes) (last_said (λ note. output_in about.object note.said) o notes)
    (last_said (λ note. down_in (object.Host about.host) note.said) a notes) (last_said (λ note. downtime_fact about.object note.said) b notes)
    (last_said (λ note. downtime_fact (object.Host about.host) note.said) c notes) (last_said (λ note. flapping_fact about.object note.said) d notes)
    (last_said (λ note. period_fact about.period note.said) e notes) (last_said (λ note. line_fact about.object note note.said) l notes)
    ≡ all_noted about (known_with s o a b c d e l) notes
all_said about [] s o a b c d e l = refl
all_said about (note ∷ notes) s o a b c d e l =
    all_said about notes (unwrap_or (state_in about.object note.said) s) (unwrap_or (output_in about.object note.said) o)
    (unwrap_or (down_in (object.Host about.host) note.said) a) (unwrap_or (downtime_fact about.object note.said) b)
    (unwrap_or (downtime_fact (object.Host about.host) note.said) c) (unwrap_or (flapping_fact about.object note.said) d)
    (unwrap_or (period_fact about.period note.said) e) (unwrap_or (line_fact about.object note note.said) l)

pub known_noted : (about : Subject) (notes : List Note) → known_after about notes ≡ all_noted about unknown notes
known_noted about notes = all_said about notes (negsuc 0) [] false false false false true None

-- ---- notes up to a second

pub none_up_to : (first second : ℕ) (notes : List Note) → RisesFrom first notes → second < first → up_to second notes ≡ []
none_up_to first second [] rises before = refl
none_up_to first second (note ∷ notes) rises before =
    let late : nat_le note.time second ≡ false = grind (arith, nat_tests, rises.0, before) in
    rw late (none_up_to note.time second notes rises.1 (omega (arith, rises.0, before)))

note_up_to : (second : ℕ) (note : Note) (notes : List Note) → note.time ≤ second → up_to second (note ∷ notes) ≡ note ∷ up_to second notes
note_up_to second note notes before =
    let in_time : nat_le note.time second ≡ true = grind (arith, nat_tests, before) in
    rw in_time refl

-- at each second from one up to before another what is known is told by what is known and the notes that are left
abbrev pub IsLeft : Subject → List Note → ℕ → Known → ℕ → List Note → Type 0
IsLeft about all until known since left =
    (second : ℕ) → since ≤ second → second < until → known_at about all second ≡ all_noted about known (up_to second left)

pub all_left : (about : Subject) (all : List Note) (from until : ℕ) → IsLeft about all until unknown from all
all_left about all from until = λ second after before. known_noted about (up_to second all)

rises_from : (low first : ℕ) (notes : List Note) → low ≤ first → RisesFrom first notes → RisesFrom low notes
rises_from low first [] le rises = tt
rises_from low first (note ∷ notes) le rises = (omega (arith, le, rises.0), rises.1)

module _ (about : Subject) (all : List Note) (until since : ℕ) (known : Known) (note : Note) (left list : List Note) (next : list ≡ note ∷ left) (to : ℕ) (is : to ≡ min note.time until) where
  pub held_before : IsLeft about all until known since list → RisesFrom 0 list → IsKnownThroughout (known_at about all) known since to
  held_before tells rises = λ second after before.
      tells second after (omega (arith, before, is))
      ∙ ap (λ rest. all_noted about known (up_to second rest)) next
      ∙ ap (all_noted about known) (none_up_to note.time second (note ∷ left) (omega arith, (subst (RisesFrom 0) next rises).1) (omega (arith, before, is)))

  pub left_after : (later : ℕ) (now found : Known) → found ≡ known_after_note about now note → now ≡ known → IsLeft about all until known since list → since ≤ later → to ≤ later → IsLeft about all until found later left
  left_after later now found finds same tells goes reached = λ second after before.
      tells second (omega (arith, goes, after)) before
      ∙ ap (λ rest. all_noted about known (up_to second rest)) next
      ∙ ap (all_noted about known) (note_up_to second note left (omega (arith, reached, after, before, is)))
      ∙ ap (λ value. all_noted about (known_after_note about value note) (up_to second left)) (sym same)
      ∙ ap (λ value. all_noted about value (up_to second left)) (sym finds)

  pub rises_after : RisesFrom 0 list → RisesFrom 0 left
  rises_after rises = rises_from 0 note.time left (omega arith) (subst (RisesFrom 0) next rises).1

pub held_last : (about : Subject) (all list : List Note) (until since : ℕ) (known : Known) → list ≡ [] → IsLeft about all until known since list → IsKnownThroughout (known_at about all) known since until
held_last about all list until since known none tells = λ second after before.
    tells second after before ∙ ap (λ rest. all_noted about known (up_to second rest)) none

-- ---- slices

append_assoc : {A : Type 0} (xs ys zs : List A) → (xs ++ ys) ++ zs ≡ xs ++ (ys ++ zs)
append_assoc [] ys zs = refl
append_assoc (x ∷ xs) ys zs = ap (λ list. x ∷ list) (append_assoc xs ys zs)

long : {A : Type 0} (xs : List A) (y : A) (ys : List A) → length xs + suc (length ys) ≡ length (xs ++ y ∷ ys)
long [] y ys = omega arith
long (x ∷ xs) y ys = omega (arith, long xs y ys)

map_some : {A B : Type 0} (f : A → B) (xs : List A) → 0 < length xs → 0 < length (map f xs)
map_some f [] some = some
map_some f (x ∷ xs) some = omega arith

module _ (about : Object) (old new : List Slice) (last next : HistoryPiece) (later : List HistoryPiece) where
  pub settled_same : same_facts last.known.facts next.known.facts ≡ true
      → old ++ map (slice_of about) (with_piece_before (record { from = last.from; until = next.until; known = last.known }) later)
      ≡ old ++ map (slice_of about) (with_piece_before last (with_piece_before next later))
  settled_same same = ap (λ pieces. old ++ map (slice_of about) pieces) (sym (joined_twice last next later same))

  pub settled_apart : same_facts last.known.facts next.known.facts ≡ false → new ≡ old ++ slice_of about last ∷ []
      → new ++ map (slice_of about) (with_piece_before next later) ≡ old ++ map (slice_of about) (with_piece_before last (with_piece_before next later))
  settled_apart apart added =
      ap (λ slices. slices ++ map (slice_of about) (with_piece_before next later)) added
      ∙ append_assoc old (slice_of about last ∷ []) (map (slice_of about) (with_piece_before next later))
      ∙ ap (λ pieces. old ++ map (slice_of about) pieces) (sym (joined_apart last next later apart))

  pub many_apart : same_facts last.known.facts next.known.facts ≡ false → 1000000 ≤ length old
      → 1000000 < length (old ++ map (slice_of about) (with_piece_before last (with_piece_before next later)))
  many_apart apart many =
      subst (λ pieces. 1000000 < length (old ++ map (slice_of about) pieces)) (sym (joined_apart last next later apart))
      (omega (arith, many, long old (slice_of about last) (map (slice_of about) (with_piece_before next later))))

pub many_last : (about : Object) (old : List Slice) (last : HistoryPiece) → 1000000 ≤ length old → 1000000 < length (old ++ slice_of about last ∷ [])
many_last about old last many = omega (arith, many, long old (slice_of about last) [])

module _ (about : Object) (at : ℕ → Known) (old new : List Slice) (growing : Option HistoryPiece) (known : Known) (since to until : ℕ) (some : since < to) (within : to ≤ until) (held : IsKnownThroughout at known since to) where
  pub advanced : (grown : Option HistoryPiece)
      → new ++ map (slice_of about) (before grown (pieces_between at to until)) ≡ old ++ map (slice_of about) (before growing (with_piece_before (record { from = since; until = to; known = known }) (pieces_between at to until)))
      → new ++ map (slice_of about) (before grown (pieces_between at to until)) ≡ old ++ map (slice_of about) (before growing (pieces_between at since until))
  advanced grown settled = settled ∙ ap (λ pieces. old ++ map (slice_of about) (before growing pieces)) (sym (stretch_to at known since to until some within held))

  pub advanced_many : 1000000 < length (old ++ map (slice_of about) (before growing (with_piece_before (record { from = since; until = to; known = known }) (pieces_between at to until))))
      → 1000000 < length (old ++ map (slice_of about) (before growing (pieces_between at since until)))
  advanced_many many = subst (λ pieces. 1000000 < length (old ++ map (slice_of about) (before growing pieces))) (sym (stretch_to at known since to until some within held)) many
