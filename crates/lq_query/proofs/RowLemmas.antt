-- Rows and their lines, part by part.
use Rattle.std.proofs.Common.{◌≡◌, ℕ, zero, suc, ◌+◌, ◌-◌, ◌<◌, ◌≤◌, Bool, true, false, List, [], ◌∷◌, ◌++◌, length, map, min, take, drop, get_or, refl, subst, sym, ap, ◌∙◌, append_assoc, arith, length-append, length-drop}
use Rattle.std.proofs.Math.Logic.{⊎_elim}
use Rattle.std.proofs.Math.Seq.{take-add}
use Rattle.std.proofs.lemmas.Bool.{cases_Bool}
use Rattle.std.proofs.lemmas.List.{append-nil, get_or_default, length-map, length-take, map-append, take-append-drop, take-map, take_all, take_more}
use Rattle.std.proofs.lemmas.List.Elements.{filter-append}
use Rattle.std.specs.List.{list_any}
use Rattle.std.proofs.lemmas.List.Sums.{count_by-le-length, length-filter}
use Rattle.std.specs.Prelude.{Result, Ok, Err, OnOk, Option, None, Some, IfSome}
use Rattle.lq_schema.specs.Value.{Value}
use Rattle.lq_schema.specs.declared.columns.Col.{Col}
use Rattle.lq_filter.specs.Trees.{holds, truth_on}
use Rattle.lq_filter.specs.declared.header.Header.{Header}
use Rattle.lq_output.specs.Body.{body_limit, body_text}
use Rattle.lq_output.specs.Writing.{Writes, Writing, IsTooLargeWith, AddsCell, EndsLine}
use Rattle.lq_tables.specs.declared.row.Row.{Row}
use Rattle.lq_query.specs.Answer.{first_lines}
use Rattle.lq_query.specs.Rows.{chosen_rows, row_cells}
use Rattle.lq_query.specs.Lines.{AddsCells, AreTooLarge, HasLines, IsTooLarge, first_rows, rows_with_marks}

-- ---- lines one after the other

-- no lines
pub no_lines : (w : Writing) → HasLines w w []
no_lines w = record {
  layout = refl;
  written = λ before is. subst (λ lines. Writes w lines []) (sym (append-nil before)) is;
}

pub HasLines-then : (old mid new : Writing) (front back : List (List Value)) → HasLines old mid front → HasLines mid new back → HasLines old new (front ++ back)
HasLines-then old mid new front back first second = record {
  layout = second.layout ∙ first.layout;
  written = λ before is. subst (λ lines. Writes new lines []) (append_assoc before front back) (second.written (before ++ front) (first.written before is));
}

-- where lines after others are too many, so are all of them
pub IsTooLarge-then : (old mid : Writing) (front back rest : List (List Value)) → HasLines old mid front → IsTooLarge mid back → IsTooLarge old (front ++ (back ++ rest))
IsTooLarge-then old mid front back rest first large before is more =
    let lines : (before ++ front) ++ (back ++ (rest ++ more)) ≡ before ++ ((front ++ (back ++ rest)) ++ more)
    = simp append_assoc in
    subst (λ (l : List (List Value)). body_limit < length (body_text old.layout l)) lines
    (rw (← first.layout) (large (before ++ front) (first.written before is) (rest ++ more)))

-- ---- the cells of a line

pub no_cells : (w : Writing) → AddsCells w w []
no_cells w = record {
  layout = refl;
  written = λ before front is. subst (Writes w before) (sym (append-nil front)) is;
}

pub AddsCells-more : (old mid new : Writing) (cells : List Value) (value : Value) → AddsCells old mid cells → new.layout ≡ mid.layout → AddsCell mid new value → AddsCells old new (cells ++ value ∷ [])
AddsCells-more old mid new cells value first layout adds = record {
  layout = layout ∙ first.layout;
  written = λ before front is. subst (Writes new before) (append_assoc front cells (value ∷ [])) (adds before (front ++ cells) (first.written before front is));
}

pub AddsCells-then : (old mid new : Writing) (cells later : List Value) → AddsCells old mid cells → AddsCells mid new later → AddsCells old new (cells ++ later)
AddsCells-then old mid new cells later first second = record {
  layout = second.layout ∙ first.layout;
  written = λ before front is. subst (Writes new before) (append_assoc front cells later) (second.written before (front ++ cells) (first.written before front is));
}

pub AreTooLarge-cell : (old mid : Writing) (cells : List Value) (value : Value) (later : List Value) → AddsCells old mid cells → IsTooLargeWith mid value → AreTooLarge old (cells ++ value ∷ later)
AreTooLarge-cell old mid cells value later first large before front is rest more =
    let line : (front ++ cells) ++ (value ∷ (later ++ rest)) ≡ front ++ ((cells ++ value ∷ later) ++ rest) = simp append_assoc in
    subst (λ (l : List Value). body_limit < length (body_text old.layout (before ++ l ∷ more))) line
    (rw (← first.layout) (large before (front ++ cells) (first.written before front is) (later ++ rest) more))

pub AreTooLarge-then : (old mid : Writing) (cells later : List Value) → AddsCells old mid cells → AreTooLarge mid later → AreTooLarge old (cells ++ later)
AreTooLarge-then old mid cells later first large before front is rest more =
    let line : (front ++ cells) ++ (later ++ rest) ≡ front ++ ((cells ++ later) ++ rest) = simp append_assoc in
    subst (λ (l : List Value). body_limit < length (body_text old.layout (before ++ l ∷ more))) line
    (rw (← first.layout) (large before (front ++ cells) (first.written before front is) rest more))

-- a line of cells
pub line_of_cells : (old mid new : Writing) (cells : List Value) → AddsCells old mid cells → new.layout ≡ mid.layout → EndsLine mid new → HasLines old new (cells ∷ [])
line_of_cells old mid new cells first layout ends = record {
  layout = layout ∙ first.layout;
  written = λ before is. ends before cells (first.written before [] is);
}

pub line_too_large : (old : Writing) (cells : List Value) → AreTooLarge old cells → IsTooLarge old (cells ∷ [])
line_too_large old cells large before is more =
    subst (λ (l : List Value). body_limit < length (body_text old.layout (before ++ l ∷ more))) (append-nil cells) (large before [] is [] more)

-- ---- rows

take-append : {X : Type 0} (n : ℕ) (xs ys : List X) → take n (xs ++ ys) ≡ take n xs ++ take (n - length xs) ys
take-append zero [] ys =
    let none : 0 ≡ 0 - 0 = omega arith in
    ap (λ k. take k ys) none
take-append (suc n) [] ys =
    let all : suc n ≡ suc n - 0 = omega arith in
    ap (λ k. take k ys) all
take-append zero (x ∷ xs) ys =
    let none : 0 ≡ 0 - length (x ∷ xs) = omega arith in
    ap (λ k. take k ys) none
take-append (suc n) (x ∷ xs) ys =
    let rest : n - length xs ≡ suc n - length (x ∷ xs) = omega arith in
    ap (λ l. x ∷ l) (take-append n xs ys ∙ ap (λ k. take n xs ++ take k ys) rest)

pub map-map : {X Y Z : Type 0} (f : Y → Z) (g : X → Y) (xs : List X) → map f (map g xs) ≡ map (λ x. f (g x)) xs
map-map f g [] = refl
map-map f g (x ∷ xs) = ap (λ l. f (g x) ∷ l) (map-map f g xs)

-- the lines of rows in two parts: the second shows what the first has left
pub lines_of_parts : (columns : List Col) (most : ℕ) (front back : List (Col → Value))
    → first_rows columns most (front ++ back) ≡ first_rows columns most front ++ first_rows columns (most - length front) back
lines_of_parts columns most front back =
    ap (map (row_cells columns)) (take-append most front back)
    ∙ map-append (row_cells columns) (take most front) (take (most - length front) back)

pub chosen-append : (headers : List Header) (row : Row → (Col → Value)) (front back : List Row)
    → chosen_rows headers (map row (front ++ back)) ≡ chosen_rows headers (map row front) ++ chosen_rows headers (map row back)
chosen-append headers row front back =
    ap (chosen_rows headers) (map-append row front back)
    ∙ filter-append (λ cells. holds (truth_on cells) headers) (map row front) (map row back)

-- the rows that are marked as the filter says are those that it chooses
pub chosen_marked : (headers : List Header) (row : Row → (Col → Value)) (rows : List Row)
    → map row (rows_with_marks (map (λ each. holds (truth_on (row each)) headers) rows) rows) ≡ chosen_rows headers (map row rows)
chosen_marked headers row [] = refl
chosen_marked headers row (first ∷ rows) = ⊎_elim
    (λ (is : holds (truth_on (row first)) headers ≡ true). rw is (ap (λ l. row first ∷ l) (chosen_marked headers row rows)))
    (λ (other : holds (truth_on (row first)) headers ≡ false). rw other (chosen_marked headers row rows))
    (cases_Bool (holds (truth_on (row first)) headers))

-- ---- rows that aren't tested

-- without a header each row is chosen
all_chosen : (rows : List (Col → Value)) → chosen_rows [] rows ≡ rows
all_chosen [] = refl
all_chosen (row ∷ rows) = ap (λ l. row ∷ l) (all_chosen rows)

pub chosen_by_none : (headers : List Header) (rows : List (Col → Value)) → length headers ≡ 0 → rows ≡ chosen_rows headers rows
chosen_by_none [] rows none = sym (all_chosen rows)
chosen_by_none (header ∷ headers) rows none = absurd (omega arith)

-- where no mark is set no row is marked
pub none_marked : (marks : List Bool) (rows : List Row) → list_any (λ mark. mark) marks ≡ false → rows_with_marks marks rows ≡ []
none_marked [] rows none = refl
none_marked (mark ∷ marks) [] none = refl
none_marked (true ∷ marks) (row ∷ rows) none = cc
none_marked (false ∷ marks) (row ∷ rows) none = none_marked marks rows none

-- of no more rows than there may be all are the first
pub few_rows : (rows : List Row) (most : ℕ) → length rows ≤ most → rows ≡ take most rows
few_rows rows most few = sym (take_all most rows few)

-- the lines of the first rows, row by row
pub first_of_rows : (columns : List Col) (row : Row → (Col → Value)) (most : ℕ) (rows : List Row)
    → map (λ each. row_cells columns (row each)) (take most rows) ≡ first_rows columns most (map row rows)
first_of_rows columns row most rows = sym (map-map (row_cells columns) row (take most rows)) ∙ ap (map (row_cells columns)) (sym (take-map row most rows))

-- ---- the lines of rows in parts

module _ (columns : List Col) (old mid : Writing) (most left : ℕ) (front : List (Col → Value))
    (first : HasLines old mid (first_rows columns most front)) (count : left ≡ most - length front) where
  pub part_added : (new : Writing) (back : List (Col → Value)) → HasLines mid new (first_rows columns left back) → HasLines old new (first_rows columns most (front ++ back))
  part_added new back second =
      let lines : first_rows columns most front ++ first_rows columns left back ≡ first_rows columns most (front ++ back)
      = ap (λ n. first_rows columns most front ++ first_rows columns n back) count ∙ sym (lines_of_parts columns most front back) in
      subst (HasLines old new) lines (HasLines-then old mid new (first_rows columns most front) (first_rows columns left back) first second)

  pub part_too_large : (back rest : List (Col → Value)) → IsTooLarge mid (first_rows columns left back) → IsTooLarge old (first_rows columns most (front ++ (back ++ rest)))
  part_too_large back rest large =
      let lines : first_rows columns most front ++ (first_rows columns left back ++ first_rows columns (left - length back) rest) ≡ first_rows columns most (front ++ (back ++ rest))
      = ap (λ l. first_rows columns most front ++ l) (sym (lines_of_parts columns left back rest))
      ∙ ap (λ n. first_rows columns most front ++ first_rows columns n (back ++ rest)) count
      ∙ sym (lines_of_parts columns most front (back ++ rest)) in
      subst (IsTooLarge old) lines (IsTooLarge-then old mid (first_rows columns most front) (first_rows columns left back) (first_rows columns (left - length back) rest) first large)

-- where no line is left to show, none follows
pub none_left : (columns : List Col) (most : ℕ) (front back : List (Col → Value)) → most - length front ≡ 0 → first_rows columns most front ≡ first_rows columns most (front ++ back)
none_left columns most front back none =
    sym (append-nil (first_rows columns most front))
    ∙ ap (λ n. first_rows columns most front ++ first_rows columns n back) (sym none)
    ∙ sym (lines_of_parts columns most front back)

-- ---- one marked row after the other

marked-append : (ma mb : List Bool) (ra rb : List Row) → length ma ≡ length ra → rows_with_marks (ma ++ mb) (ra ++ rb) ≡ rows_with_marks ma ra ++ rows_with_marks mb rb
marked-append [] mb [] rb same = refl
marked-append [] mb (row ∷ ra) rb same = absurd (omega (arith, same))
marked-append (mark ∷ ma) mb [] rb same = absurd (omega (arith, same))
marked-append (true ∷ ma) mb (row ∷ ra) rb same = ap (λ l. row ∷ l) (marked-append ma mb ra rb (omega (arith, same)))
marked-append (false ∷ ma) mb (row ∷ ra) rb same = marked-append ma mb ra rb (omega (arith, same))

module _ (marks : List Bool) (rows : List Row) (place : ℕ) (row : Row) (same : length marks ≡ length rows) (within : place < length rows) where
  fronts : (n : ℕ) → length (take n marks) ≡ length (take n rows)
  fronts n = length-take n marks ∙ ap (λ k. min n k) same ∙ sym (length-take n rows)

  pub marked_more : rows_with_marks (take (place + 1) marks) (take (place + 1) rows)
      ≡ rows_with_marks (take place marks) (take place rows) ++ rows_with_marks (get_or marks place false ∷ []) (get_or rows place row ∷ [])
  marked_more =
      ap (λ those. rows_with_marks those (take (place + 1) rows)) (take_more marks place false (omega (arith, same, within)))
      ∙ ap (λ those. rows_with_marks (take place marks ++ get_or marks place false ∷ []) those) (take_more rows place row within)
      ∙ marked-append (take place marks) (get_or marks place false ∷ []) (take place rows) (get_or rows place row ∷ []) (fronts place)

  pub marked_all : rows_with_marks (take place marks) (take place rows)
      ++ (rows_with_marks (get_or marks place false ∷ []) (get_or rows place row ∷ []) ++ rows_with_marks (drop (place + 1) marks) (drop (place + 1) rows)) ≡ rows_with_marks marks rows
  marked_all =
      sym (append_assoc (rows_with_marks (take place marks) (take place rows)) (rows_with_marks (get_or marks place false ∷ []) (get_or rows place row ∷ [])) (rows_with_marks (drop (place + 1) marks) (drop (place + 1) rows)))
      ∙ ap (λ those. those ++ rows_with_marks (drop (place + 1) marks) (drop (place + 1) rows)) (sym marked_more)
      ∙ sym (marked-append (take (place + 1) marks) (drop (place + 1) marks) (take (place + 1) rows) (drop (place + 1) rows) (fronts (place + 1)))
      ∙ ap (λ those. rows_with_marks those (take (place + 1) rows ++ drop (place + 1) rows)) (take-append-drop (place + 1) marks)
      ∙ ap (rows_with_marks marks) (take-append-drop (place + 1) rows)

-- ---- one place of a list

pub split_map : {X Y : Type 0} (f : X → Y) (xs : List X) (k : ℕ) (x : X) → k < length xs → x ≡ get_or xs k x
    → map f (take k xs) ++ (f x ∷ map f (drop (k + 1) xs)) ≡ map f xs
split_map f [] k x within is = absurd (omega (arith, within))
split_map f (y ∷ xs) zero x within is = ap (λ z. f z ∷ map f xs) is
split_map f (y ∷ xs) (suc k) x within is =
    let next : suc k + 1 ≡ suc (k + 1) = omega arith in
    ap (λ l. f y ∷ l)
    (ap (λ n. map f (take k xs) ++ (f x ∷ map f (drop n (y ∷ xs)))) next ∙ split_map f xs k x (omega (arith, within)) is)

-- the lines of the first rows, one more, or all with the next one too large
pub lines_more : {X : Type 0} (line : X → List Value) (rows : List X) (place : ℕ) (row : X) (old mid new : Writing) → place < length rows
    → HasLines old mid (map line (take place rows)) → HasLines mid new (line (get_or rows place row) ∷ []) → HasLines old new (map line (take (place + 1) rows))
lines_more line rows place row old mid new within first next =
    subst (HasLines old new)
    (sym (map-append line (take place rows) (get_or rows place row ∷ [])) ∙ ap (map line) (sym (take_more rows place row within)))
    (HasLines-then old mid new (map line (take place rows)) (line (get_or rows place row) ∷ []) first next)

pub line_large : {X : Type 0} (line : X → List Value) (rows : List X) (place : ℕ) (row : X) (old mid : Writing) → place < length rows
    → HasLines old mid (map line (take place rows)) → IsTooLarge mid (line (get_or rows place row) ∷ []) → IsTooLarge old (map line rows)
line_large line rows place row old mid within first large =
    subst (IsTooLarge old)
    (split_map line rows place (get_or rows place row) within (get_or_default rows place row (get_or rows place row) within))
    (IsTooLarge-then old mid (map line (take place rows)) (line (get_or rows place row) ∷ []) (map line (drop (place + 1) rows)) first large)

-- all rows are the first so many
pub lines_all : {X : Type 0} (line : X → List Value) (rows : List X) (place : ℕ) (old new : Writing) → length rows ≤ place
    → HasLines old new (map line (take place rows)) → HasLines old new (map line rows)
lines_all line rows place old new all first = subst (λ those. HasLines old new (map line those)) (take_all place rows all) first

-- the lines of the rows that are left after the first
rest_of : {X : Type 0} (line : X → List Value) (rows : List X) (count : ℕ)
    → map line (take count rows) ++ map line (take (length rows - count) (drop count rows)) ≡ map line rows
rest_of line rows count =
    ap (λ those. map line (take count rows) ++ map line those) (take_all (length rows - count) (drop count rows) (omega (arith, length-drop count rows)))
    ∙ sym (map-append line (take count rows) (drop count rows)) ∙ ap (map line) (take-append-drop count rows)

module _ {X : Type 0} (line : X → List Value) (rows : List X) (count : ℕ) (old mid : Writing) (first : HasLines old mid (map line (take count rows))) where
  pub rest_added : (new : Writing) → HasLines mid new (map line (take (length rows - count) (drop count rows))) → HasLines old new (map line rows)
  rest_added new second =
      subst (HasLines old new) (rest_of line rows count)
      (HasLines-then old mid new (map line (take count rows)) (map line (take (length rows - count) (drop count rows))) first second)

  pub rest_large : IsTooLarge mid (map line (take (length rows - count) (drop count rows))) → IsTooLarge old (map line rows)
  rest_large large =
      let front = map line (take count rows) in
      let back = map line (take (length rows - count) (drop count rows)) in
      subst (IsTooLarge old) (ap (λ those. front ++ those) (append-nil back) ∙ rest_of line rows count) (IsTooLarge-then old mid front back [] first large)

-- ---- the lines of marked rows

module _ (marks : List Bool) (rows : List Row) (place : ℕ) (row : Row) (same : length marks ≡ length rows) (within : place < length rows) where
  pub not_marked_more : get_or marks place false ≡ false → rows_with_marks (take (place + 1) marks) (take (place + 1) rows) ≡ rows_with_marks (take place marks) (take place rows)
  not_marked_more is =
      marked_more marks rows place row same within
      ∙ ap (λ mark. rows_with_marks (take place marks) (take place rows) ++ rows_with_marks (mark ∷ []) (get_or rows place row ∷ [])) is
      ∙ append-nil (rows_with_marks (take place marks) (take place rows))

  one_more : get_or marks place false ≡ true → rows_with_marks (take (place + 1) marks) (take (place + 1) rows) ≡ rows_with_marks (take place marks) (take place rows) ++ get_or rows place row ∷ []
  one_more is =
      marked_more marks rows place row same within
      ∙ ap (λ mark. rows_with_marks (take place marks) (take place rows) ++ rows_with_marks (mark ∷ []) (get_or rows place row ∷ [])) is

  pub marked_left : (most left new : ℕ) → left ≡ most - length (rows_with_marks (take place marks) (take place rows)) → get_or marks place false ≡ true → new ≡ left - 1
      → new ≡ most - length (rows_with_marks (take (place + 1) marks) (take (place + 1) rows))
  marked_left most left new count is next = omega (arith, count, next, ap length (one_more is), length-append (rows_with_marks (take place marks) (take place rows)) (get_or rows place row ∷ []))

  module _ (columns : List Col) (row_of : Row → (Col → Value)) (old mid : Writing) (most left : ℕ)
      (first : HasLines old mid (first_rows columns most (map row_of (rows_with_marks (take place marks) (take place rows)))))
      (count : left ≡ most - length (rows_with_marks (take place marks) (take place rows))) (is : get_or marks place false ≡ true) where
    counted : left ≡ most - length (map row_of (rows_with_marks (take place marks) (take place rows)))
    counted = count ∙ ap (λ n. most - n) (sym (length-map (rows_with_marks (take place marks) (take place rows)) row_of))

    pub marked_added : (new : Writing) → HasLines mid new (first_rows columns left (row_of (get_or rows place row) ∷ []))
        → HasLines old new (first_rows columns most (map row_of (rows_with_marks (take (place + 1) marks) (take (place + 1) rows))))
    marked_added new next =
        subst (λ (those : List (Col → Value)). HasLines old new (first_rows columns most those))
        (sym (map-append row_of (rows_with_marks (take place marks) (take place rows)) (get_or rows place row ∷ [])) ∙ ap (map row_of) (sym (one_more is)))
        (part_added columns old mid most left (map row_of (rows_with_marks (take place marks) (take place rows))) first counted new (row_of (get_or rows place row) ∷ []) next)

    pub marked_large : IsTooLarge mid (first_rows columns left (row_of (get_or rows place row) ∷ [])) → IsTooLarge old (first_rows columns most (map row_of (rows_with_marks marks rows)))
    marked_large large =
        let front : List Row = rows_with_marks (take place marks) (take place rows) in
        let rest : List Row = rows_with_marks (drop (place + 1) marks) (drop (place + 1) rows) in
        let all : front ++ (get_or rows place row ∷ rest) ≡ rows_with_marks marks rows
        = ap (λ mark. front ++ (rows_with_marks (mark ∷ []) (get_or rows place row ∷ []) ++ rest)) (sym is) ∙ marked_all marks rows place row same within in
        subst (λ (those : List (Col → Value)). IsTooLarge old (first_rows columns most those))
        (sym (map-append row_of front (get_or rows place row ∷ rest)) ∙ ap (map row_of) all)
        (part_too_large columns old mid most left (map row_of front) first counted (row_of (get_or rows place row) ∷ []) (map row_of rest) large)

-- ---- two facts of one result

pub on_ok_both : {T E P Q R : Type 0} (r : Result T E) → (P → Q → R) → OnOk r P → OnOk r Q → OnOk r R
on_ok_both (Ok value) both p q = both p q
on_ok_both (Err error) both p q = p

-- ---- blocks of rows

-- no rows have no lines
pub no_first_rows : (columns : List Col) (most : ℕ) (rows : List (Col → Value)) → [] ≡ rows → [] ≡ first_rows columns most rows
no_first_rows columns zero rows none = ap (first_rows columns 0) none
no_first_rows columns (suc most) rows none = ap (first_rows columns (suc most)) none

module _ (headers : List Header) (row_of : Row → (Col → Value)) (rows : List Row) (at end : ℕ) (some : at < end) where
  -- the rows that are chosen up to the end of a block
  pub up_to : chosen_rows headers (map row_of (take end rows)) ≡ chosen_rows headers (map row_of (take at rows)) ++ chosen_rows headers (map row_of (take (end - at) (drop at rows)))
  up_to =
      let sum : end ≡ at + (end - at) = omega (arith, some) in
      ap (λ n. chosen_rows headers (map row_of (take n rows))) sum
      ∙ ap (λ those. chosen_rows headers (map row_of those)) (take-add at (end - at) rows)
      ∙ chosen-append headers row_of (take at rows) (take (end - at) (drop at rows))

  whole : chosen_rows headers (map row_of (take at rows)) ++ (chosen_rows headers (map row_of (take (end - at) (drop at rows))) ++ chosen_rows headers (map row_of (drop end rows)))
      ≡ chosen_rows headers (map row_of rows)
  whole =
      sym (append_assoc (chosen_rows headers (map row_of (take at rows))) (chosen_rows headers (map row_of (take (end - at) (drop at rows)))) (chosen_rows headers (map row_of (drop end rows))))
      ∙ ap (λ those. those ++ chosen_rows headers (map row_of (drop end rows))) (sym up_to)
      ∙ sym (chosen-append headers row_of (take end rows) (drop end rows))
      ∙ ap (λ those. chosen_rows headers (map row_of those)) (take-append-drop end rows)

  pub block_left : (most left new : ℕ) → left ≡ most - length (chosen_rows headers (map row_of (take at rows)))
      → new ≡ left - length (chosen_rows headers (map row_of (take (end - at) (drop at rows)))) → new ≡ most - length (chosen_rows headers (map row_of (take end rows)))
  block_left most left new count next =
      omega (arith, count, next, ap length up_to, length-append (chosen_rows headers (map row_of (take at rows))) (chosen_rows headers (map row_of (take (end - at) (drop at rows)))))

module _ (columns : List Col) (headers : List Header) (row_of : Row → (Col → Value)) (rows : List Row) (at end : ℕ) (some : at < end)
    (old mid : Writing) (most left : ℕ) (first : HasLines old mid (first_rows columns most (chosen_rows headers (map row_of (take at rows)))))
    (count : left ≡ most - length (chosen_rows headers (map row_of (take at rows)))) where
  pub block_added : (new : Writing) → HasLines mid new (first_rows columns left (chosen_rows headers (map row_of (take (end - at) (drop at rows)))))
      → HasLines old new (first_rows columns most (chosen_rows headers (map row_of (take end rows))))
  block_added new next =
      subst (λ (those : List (Col → Value)). HasLines old new (first_rows columns most those)) (sym (up_to headers row_of rows at end some))
      (part_added columns old mid most left (chosen_rows headers (map row_of (take at rows))) first count new (chosen_rows headers (map row_of (take (end - at) (drop at rows)))) next)

  pub block_large : IsTooLarge mid (first_rows columns left (chosen_rows headers (map row_of (take (end - at) (drop at rows)))))
      → IsTooLarge old (first_rows columns most (chosen_rows headers (map row_of rows)))
  block_large large =
      subst (λ (those : List (Col → Value)). IsTooLarge old (first_rows columns most those)) (whole headers row_of rows at end some)
      (part_too_large columns old mid most left (chosen_rows headers (map row_of (take at rows))) first count (chosen_rows headers (map row_of (take (end - at) (drop at rows)))) (chosen_rows headers (map row_of (drop end rows))) large)

module _ (columns : List Col) (headers : List Header) (row_of : Row → (Col → Value)) (rows : List Row) (at most : ℕ) (old new : Writing)
    (lines : HasLines old new (first_rows columns most (chosen_rows headers (map row_of (take at rows))))) where
  -- all rows have been looked at
  pub rows_done : length rows ≤ at → HasLines old new (first_rows columns most (chosen_rows headers (map row_of rows)))
  rows_done all = subst (λ those. HasLines old new (first_rows columns most (chosen_rows headers (map row_of those)))) (take_all at rows all) lines

  -- as many rows as may be are shown
  pub rows_shown : most - length (chosen_rows headers (map row_of (take at rows))) ≡ 0 → HasLines old new (first_rows columns most (chosen_rows headers (map row_of rows)))
  rows_shown none =
      subst (HasLines old new)
      (none_left columns most (chosen_rows headers (map row_of (take at rows))) (chosen_rows headers (map row_of (drop at rows))) none
      ∙ ap (first_rows columns most) (sym (chosen-append headers row_of (take at rows) (drop at rows)) ∙ ap (λ those. chosen_rows headers (map row_of those)) (take-append-drop at rows)))
      lines

-- ---- the lines that a query shows

pub few_chosen : (headers : List Header) (row_of : Row → (Col → Value)) (rows : List Row) → length (chosen_rows headers (map row_of rows)) ≤ length rows
few_chosen headers row_of rows =
    let chosen_of : (Col → Value) → Bool = λ cells. holds (truth_on cells) headers in
    omega (arith, length-filter chosen_of (map row_of rows), count_by-le-length chosen_of (map row_of rows), length-map rows row_of)

pub limited_lines : (columns : List Col) (headers : List Header) (row_of : Row → (Col → Value)) (rows : List Row) (limit : Option ℕ) (most : ℕ)
    → (limit ≡ None → most ≡ length rows) → IfSome limit (λ count. most ≡ count)
    → first_rows columns most (chosen_rows headers (map row_of rows)) ≡ first_lines limit (map (row_cells columns) (chosen_rows headers (map row_of rows)))
limited_lines columns headers row_of rows None most none some =
    let all : most ≡ length rows = none refl in
    ap (map (row_cells columns)) (take_all most (chosen_rows headers (map row_of rows)) (omega (arith, all, few_chosen headers row_of rows)))
limited_lines columns headers row_of rows (Some count) most none some =
    ap (λ n. first_rows columns n (chosen_rows headers (map row_of rows))) some ∙ sym (take-map (row_cells columns) count (chosen_rows headers (map row_of rows)))

-- with further cells after them too many cells stay too many
pub AreTooLarge-front : (old : Writing) (cells later : List Value) → AreTooLarge old cells → AreTooLarge old (cells ++ later)
AreTooLarge-front old cells later large before front is rest more =
    subst (λ (l : List Value). body_limit < length (body_text old.layout (before ++ (front ++ l) ∷ more))) (sym (append_assoc cells later rest)) (large before front is (later ++ rest) more)
