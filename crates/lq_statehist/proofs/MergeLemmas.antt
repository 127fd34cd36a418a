-- Two lists that become one, step by step.
use Rattle.std.proofs.Common.{◌≡◌, ℕ, zero, suc, take, ◌+◌, ◌-◌, ◌<◌, ◌≤◌, nat_lt, true, false, List, [], ◌∷◌, ◌++◌, length, map, drop, get_or, refl, sym, ap, ◌∙◌, arith, append_assoc, drop-cons}
use Rattle.std.proofs.lemmas.Bool.Decides.{nat_tests}
use Rattle.std.proofs.lemmas.List.{get_or-map, length-drop, length-map}
use Rattle.lq_statehist.specs.Notes.{Note}
use Rattle.lq_statehist.specs.Pass.{note_of}
use Rattle.lq_statehist.specs.Sorted.{merged_notes}
use Rattle.lq_statehist.specs.declared.line.Line.{Line}

pub from_line : (lines : List Line) (at : ℕ) (d : Line) → at < length lines → drop at (map note_of lines) ≡ note_of (get_or lines at d) ∷ drop (at + 1) (map note_of lines)
from_line lines at d within =
    let next : at + 1 ≡ suc at = omega arith in
    drop-cons (map note_of lines) at (note_of d) (omega (arith, within, length-map lines note_of))
    ∙ ap (λ note. note ∷ drop (suc at) (map note_of lines)) (get_or-map note_of lines at d (note_of d) within)
    ∙ ap (λ n. note_of (get_or lines at d) ∷ drop n (map note_of lines)) (sym next)

takes : (first second : Note) (notes others : List Note) → first.place < second.place → merged_notes (first ∷ notes) (second ∷ others) ≡ first ∷ merged_notes notes (second ∷ others)
takes first second notes others before =
    let is : nat_lt first.place second.place ≡ true = grind (arith, nat_tests, before) in
    rw is refl

takes_other : (first second : Note) (notes others : List Note) → second.place ≤ first.place → merged_notes (first ∷ notes) (second ∷ others) ≡ second ∷ merged_notes (first ∷ notes) others
takes_other first second notes others before =
    let is : nat_lt first.place second.place ≡ false = grind (arith, nat_tests, before) in
    rw is refl

pushed : (all : List Line) (line : Line) (later : List Note) → map note_of all ++ note_of line ∷ later ≡ map note_of (all ++ line ∷ []) ++ later
pushed [] line later = refl
pushed (first ∷ all) line later = ap (λ list. note_of first ∷ list) (pushed all line later)

map_append : (xs ys : List Line) → map note_of (xs ++ ys) ≡ map note_of xs ++ map note_of ys
map_append [] ys = refl
map_append (x ∷ xs) ys = ap (λ list. note_of x ∷ list) (map_append xs ys)

map_drop : (lines : List Line) (at : ℕ) → map note_of (drop at lines) ≡ drop at (map note_of lines)
map_drop [] zero = refl
map_drop [] (suc at) = refl
map_drop (line ∷ lines) zero = refl
map_drop (line ∷ lines) (suc at) = map_drop lines at

append_none : (notes : List Note) → notes ≡ notes ++ []
append_none [] = refl
append_none (note ∷ notes) = ap (λ list. note ∷ list) (append_none notes)

merged_none : (notes : List Note) → merged_notes notes [] ≡ notes
merged_none [] = refl
merged_none (note ∷ notes) = refl

pub nothing_left : (lines : List Line) (at : ℕ) → length lines ≤ at → drop at (map note_of lines) ≡ []
nothing_left [] zero all = refl
nothing_left [] (suc at) all = refl
nothing_left (line ∷ lines) zero all = absurd (omega (arith, all))
nothing_left (line ∷ lines) (suc at) all = nothing_left lines at (omega (arith, all))

all_taken : {A : Type 0} (xs : List A) (count : ℕ) → length xs ≤ count → take count xs ≡ xs
all_taken [] zero all = refl
all_taken [] (suc count) all = refl
all_taken (x ∷ xs) zero all = absurd (omega (arith, all))
all_taken (x ∷ xs) (suc count) all = ap (λ list. x ∷ list) (all_taken xs count (omega (arith, all)))

-- what follows a place, taken whole
pub rest_taken : {A : Type 0} (xs : List A) (at : ℕ) → take (length xs - at) (drop at xs) ≡ drop at xs
rest_taken xs at = all_taken (drop at xs) (length xs - at) (omega (arith, length-drop at xs))

module _ (lines others all : List Line) (at other : ℕ) where
  -- where one list is at its end the rest of both is what is left
  rest : map note_of ((all ++ drop at lines) ++ drop other others) ≡ map note_of all ++ (drop at (map note_of lines) ++ drop other (map note_of others))
  rest =
      ap (map note_of) (append_assoc all (drop at lines) (drop other others))
      ∙ map_append all (drop at lines ++ drop other others)
      ∙ ap (λ list. map note_of all ++ list) (map_append (drop at lines) (drop other others)
      ∙ ap (λ list. list ++ map note_of (drop other others)) (map_drop lines at)
      ∙ ap (λ list. drop at (map note_of lines) ++ list) (map_drop others other))

  pub rest_others : length lines ≤ at → map note_of ((all ++ drop at lines) ++ drop other others) ≡ map note_of all ++ merged_notes (drop at (map note_of lines)) (drop other (map note_of others))
  rest_others end =
      rest ∙ ap (λ list. map note_of all ++ (list ++ drop other (map note_of others))) (nothing_left lines at end)
      ∙ ap (λ list. map note_of all ++ merged_notes list (drop other (map note_of others))) (sym (nothing_left lines at end))

  pub rest_lines : length others ≤ other → map note_of ((all ++ drop at lines) ++ drop other others) ≡ map note_of all ++ merged_notes (drop at (map note_of lines)) (drop other (map note_of others))
  rest_lines end =
      rest ∙ ap (λ list. map note_of all ++ (drop at (map note_of lines) ++ list)) (nothing_left others other end)
      ∙ ap (λ list. map note_of all ++ list) (sym (append_none (drop at (map note_of lines))) ∙ sym (merged_none (drop at (map note_of lines))))
      ∙ ap (λ list. map note_of all ++ merged_notes (drop at (map note_of lines)) list) (sym (nothing_left others other end))

module _ (lines others all : List Line) (at other : ℕ) (d e : Line) (within : at < length lines) (other_within : other < length others) where
  pub step : (get_or lines at d).place < (get_or others other e).place
      → map note_of all ++ merged_notes (drop at (map note_of lines)) (drop other (map note_of others))
      ≡ map note_of (all ++ get_or lines at d ∷ []) ++ merged_notes (drop (at + 1) (map note_of lines)) (drop other (map note_of others))
  step before =
      ap (λ list. map note_of all ++ list)
      (ap (λ list. merged_notes list (drop other (map note_of others))) (from_line lines at d within)
      ∙ ap (merged_notes (note_of (get_or lines at d) ∷ drop (at + 1) (map note_of lines))) (from_line others other e other_within)
      ∙ takes (note_of (get_or lines at d)) (note_of (get_or others other e)) (drop (at + 1) (map note_of lines)) (drop (other + 1) (map note_of others)) before
      ∙ ap (λ list. note_of (get_or lines at d) ∷ merged_notes (drop (at + 1) (map note_of lines)) list) (sym (from_line others other e other_within)))
      ∙ pushed all (get_or lines at d) (merged_notes (drop (at + 1) (map note_of lines)) (drop other (map note_of others)))

  pub step_other : (get_or others other e).place ≤ (get_or lines at d).place
      → map note_of all ++ merged_notes (drop at (map note_of lines)) (drop other (map note_of others))
      ≡ map note_of (all ++ get_or others other e ∷ []) ++ merged_notes (drop at (map note_of lines)) (drop (other + 1) (map note_of others))
  step_other before =
      ap (λ list. map note_of all ++ list)
      (ap (λ list. merged_notes list (drop other (map note_of others))) (from_line lines at d within)
      ∙ ap (merged_notes (note_of (get_or lines at d) ∷ drop (at + 1) (map note_of lines))) (from_line others other e other_within)
      ∙ takes_other (note_of (get_or lines at d)) (note_of (get_or others other e)) (drop (at + 1) (map note_of lines)) (drop (other + 1) (map note_of others)) before
      ∙ ap (λ list. note_of (get_or others other e) ∷ merged_notes list (drop (other + 1) (map note_of others))) (sym (from_line lines at d within)))
      ∙ pushed all (get_or others other e) (merged_notes (drop at (map note_of lines)) (drop (other + 1) (map note_of others)))
