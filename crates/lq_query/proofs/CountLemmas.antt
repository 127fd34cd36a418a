-- Rows that are counted, one after another.
use Rattle.std.proofs.Common.{◌≡◌, ◌≢◌, ℕ, zero, suc, ◌+◌, ◌<◌, ◌≤◌, ◌^◌, nat_le, Bool, true, false, List, [], ◌∷◌, ◌++◌, length, map, min, take, drop, get_or, unsigned_abs, ℤ, pos, cond, count_by, if◌then◌else◌, leb-true, refl, subst, sym, ap, ◌∙◌, append_assoc, arith, length-append}
use Rattle.std.proofs.Math.Logic.{⊎_elim}
use Rattle.std.proofs.Math.Seq.{get_or-append_seam}
use Rattle.std.proofs.lemmas.Bool.{cases_Bool}
use Rattle.std.proofs.lemmas.List.{append-nil, drop_more, get_or-map, get_or-take, length-map, length-take, map-append, take-map, take_more}
use Rattle.std.proofs.lemmas.List.Sums.{sum_by-cons}
use Rattle.std.specs.List.{AllByRecursion, AllZip, list_any}
use Rattle.std.specs.Prelude.{All, Option, None, Some, IfSome, slice_get}
use Rattle.lq_schema.specs.Value.{Value, meaning_of, Number, Millionths, Words, Texts, Numbers, Pairs}
use Rattle.lq_schema.specs.declared.columns.Col.{Col}
use Rattle.lq_filter.specs.Trees.{holds, truth_on}
use Rattle.lq_filter.specs.declared.header.Header.{Header}
use Rattle.lq_request.specs.Stats.{IsStat}
use Rattle.lq_request.specs.declared.entry.StatEntry.{StatEntry}
use Rattle.lq_request.specs.declared.entry.StatEntry.TheVariants as entry
use Rattle.lq_stats.specs.Columns.{IsColumnOf, cells_at, marked_rows}
use Rattle.lq_stats.specs.Grouped.{AreGroupsOf, Grouped}
use Rattle.lq_stats.specs.Groups.{IsCellOf, Key, GroupLine, keys_of, stat_lines, rows_with_key, shown_line, values_from}
use Rattle.lq_stats.specs.declared.spec.StatLine.{StatLine}
use Rattle.lq_stats.specs.declared.spec.StatsSpec.{StatsSpec}
use Rattle.lq_query.specs.Answer.{first_lines}
use Rattle.lq_stats.specs.Groups.{Row as StatsRow}
use Rattle.lq_stats.specs.declared.cell.StatCell.{StatCell}
use Rattle.lq_stats.specs.declared.cell.StatCell.TheVariants as cell
use Rattle.lq_stats.specs.declared.kind.StatKind.{StatKind}
use Rattle.lq_stats.specs.declared.kind.StatKind.TheVariants as kind
use Rattle.lq_tables.specs.declared.row.Row.{Row}
use Rattle.lq_query.specs.Counting.{Counts, counted_from}
use Rattle.lq_query.specs.Groups.{number_cell, stat_cell, stat_kind, stats_row}
use Rattle.lq_query.specs.Rows.{chosen_rows, row_cells}

-- ---- one row after the other

pub counts_none : (groups : Grouped) → groups.next ≡ [] → Counts groups groups []
counts_none groups next = record {
  spec = refl;
  next = next;
  count = omega arith;
  groups = λ before are. subst (AreGroupsOf groups) (sym (append-nil before)) are;
}

pub counts_then : (old mid new : Grouped) (first second : List StatsRow) → Counts old mid first → Counts mid new second → Counts old new (first ++ second)
counts_then old mid new first second a b = record {
  spec = b.spec ∙ a.spec;
  next = b.next;
  count = omega (arith, a.count, b.count, length-append first second);
  groups = λ before are. subst (AreGroupsOf new) (append_assoc before first second) (b.groups (before ++ first) (a.groups before are));
}

-- ---- marked rows

module _ (key : Row → Key) (columns : List (List StatCell)) where
  counted-append : (place : ℕ) (ma mb : List Bool) (ra rb : List Row) → length ma ≡ length ra
      → counted_from key place (ma ++ mb) (ra ++ rb) columns ≡ counted_from key place ma ra columns ++ counted_from key (place + length ra) mb rb columns
  counted-append place [] mb [] rb same =
      let at : place ≡ place + 0 = omega arith in
      ap (λ n. counted_from key n mb rb columns) at
  counted-append place [] mb (row ∷ ra) rb same = absurd (omega (arith, same))
  counted-append place (mark ∷ ma) mb [] rb same = absurd (omega (arith, same))
  counted-append place (true ∷ ma) mb (row ∷ ra) rb same =
      let at : suc place + length ra ≡ place + length (row ∷ ra) = omega arith in
      ap (λ l. record { key = key row; cells = cells_at place columns } ∷ l)
      (counted-append (suc place) ma mb ra rb (omega (arith, same)) ∙ ap (λ n. counted_from key (suc place) ma ra columns ++ counted_from key n mb rb columns) at)
  counted-append place (false ∷ ma) mb (row ∷ ra) rb same =
      let at : suc place + length ra ≡ place + length (row ∷ ra) = omega arith in
      counted-append (suc place) ma mb ra rb (omega (arith, same)) ∙ ap (λ n. counted_from key (suc place) ma ra columns ++ counted_from key n mb rb columns) at

  pub counted_more : (marks : List Bool) (rows : List Row) (place : ℕ) (row : Row) → length marks ≡ length rows → place < length rows
      → counted_from key 0 (take (place + 1) marks) (take (place + 1) rows) columns
      ≡ counted_from key 0 (take place marks) (take place rows) columns ++ counted_from key place (get_or marks place false ∷ []) (get_or rows place row ∷ []) columns
  counted_more marks rows place row same within =
      let count : 0 + length (take place rows) ≡ place = omega (arith, length-take place rows, within) in
      ap (λ those. counted_from key 0 those (take (place + 1) rows) columns) (take_more marks place false (omega (arith, same, within)))
      ∙ ap (λ those. counted_from key 0 (take place marks ++ get_or marks place false ∷ []) those columns) (take_more rows place row within)
      ∙ counted-append 0 (take place marks) (get_or marks place false ∷ []) (take place rows) (get_or rows place row ∷ [])
      (length-take place marks ∙ ap (λ k. min place k) same ∙ sym (length-take place rows))
      ∙ ap (λ n. counted_from key 0 (take place marks) (take place rows) columns ++ counted_from key n (get_or marks place false ∷ []) (get_or rows place row ∷ []) columns) count

-- ---- cells

some_of : {X Y : Type 0} (f : X → Y) (xs : List X) (k : ℕ) (d : X) → k < length xs → slice_get (map f xs) k ≡ Some (f (get_or xs k d))
some_of f [] k d within = absurd (omega (arith, within))
some_of f (x ∷ xs) zero d within = refl
some_of f (x ∷ xs) (suc k) d within = some_of f xs k d (omega (arith, within))

-- the columns of cells of some rows have in each place the cells of that row
pub cells_of_row : (row_of : Row → (Col → Value)) (stats : List StatEntry) (rows : List Row) (place : ℕ) (row : Row) → place < length rows
    → cells_at place (map (λ (entry : StatEntry). map (λ (each : Row). stat_cell (row_of each) entry) rows) stats) ≡ map (stat_cell (row_of (get_or rows place row))) stats
cells_of_row row_of [] rows place row within = refl
cells_of_row row_of (entry ∷ stats) rows place row within =
    rw (some_of (λ (each : Row). stat_cell (row_of each) entry) rows place row within)
    (ap (λ l. stat_cell (row_of (get_or rows place row)) entry ∷ l) (cells_of_row row_of stats rows place row within))

-- a number, of at most 2 ^ 64 in size
record IsSizedNumber (value : StatCell) : Type 0 where
  number : ℤ
  is : value ≡ cell.Number number
  small : unsigned_abs number ≤ 2 ^ 64

sized_if : (number : ℤ) (small : Bool) → nat_le (unsigned_abs number) (2 ^ 64) ≡ small → IsSizedNumber (if small then cell.Number number else cell.Number (pos 0))
sized_if number true is = record { number = number; is = refl; small = leb-true (unsigned_abs number) (2 ^ 64) is }
sized_if number false is = record { number = pos 0; is = refl; small = omega arith }

sized : (value : Value) → IsSizedNumber (number_cell value)
sized (Number number) = sized_if number (nat_le (unsigned_abs number) (2 ^ 64)) refl
sized (Millionths number) = record { number = pos 0; is = refl; small = omega arith }
sized (Words text) = record { number = pos 0; is = refl; small = omega arith }
sized (Texts texts) = record { number = pos 0; is = refl; small = omega arith }
sized (Numbers numbers) = record { number = pos 0; is = refl; small = omega arith }
sized (Pairs pairs) = record { number = pos 0; is = refl; small = omega arith }

over_cell : (asked : StatKind) → asked ≢ kind.Count → (taken : StatCell) → IsSizedNumber taken → IsCellOf asked taken
over_cell kind.Count other taken number = absurd (other refl)
over_cell kind.Sum other taken number = subst (IsCellOf kind.Sum) (sym number.is) number.small
over_cell kind.Min other taken number = subst (IsCellOf kind.Min) (sym number.is) number.small
over_cell kind.Max other taken number = subst (IsCellOf kind.Max) (sym number.is) number.small
over_cell kind.Avg other taken number = subst (IsCellOf kind.Avg) (sym number.is) number.small

is_cell : (asked : StatEntry) → IsStat asked → (row : Col → Value) → IsCellOf (stat_kind asked) (stat_cell row asked)
is_cell (entry.Count headers) is row = tt
is_cell (entry.Over over column) is row = over_cell over is.0 (number_cell (row column)) (sized (row column))

cells_are : (kind : StatKind) (cell_of_row : Row → StatCell) → ((row : Row) → IsCellOf kind (cell_of_row row)) → (rows : List Row) → IsColumnOf (length rows) kind (map cell_of_row rows)
cells_are kind cell_of_row each rows = (length-map rows cell_of_row, all rows)
  where
    all : (rows : List Row) → AllByRecursion (IsCellOf kind) (map cell_of_row rows)
    all [] = tt
    all (row ∷ rows) = (each row, all rows)

-- each statistic has a column of cells of its kind
pub are_columns : (row_of : Row → (Col → Value)) (rows : List Row) (stats : List StatEntry) → All IsStat stats
    → AllZip (IsColumnOf (length rows)) (map stat_kind stats) (map (λ (entry : StatEntry). map (λ (each : Row). stat_cell (row_of each) entry) rows) stats)
are_columns row_of rows [] all = tt
are_columns row_of rows (entry ∷ stats) all = (
  cells_are (stat_kind entry) (λ (each : Row). stat_cell (row_of each) entry) (λ (each : Row). is_cell entry (all 0 entry (omega arith)) (row_of each)) rows,
  are_columns row_of rows stats (λ k d below. all (suc k) d (omega (arith, below))),
)

-- a cell of each column is one of each statistic
one_of_each : (count place : ℕ) → place < count → (kinds : List StatKind) (columns : List (List StatCell)) → AllZip (IsColumnOf count) kinds columns → AllZip IsCellOf kinds (cells_at place columns)
one_of_each count place within [] [] are = tt
one_of_each count place within [] (column ∷ columns) are = absurd are
one_of_each count place within (kind ∷ kinds) [] are = absurd are
one_of_each count place within (kind ∷ kinds) (column ∷ columns) are =
    let has = one_at kind place column (omega (arith, within, are.0.0)) are.0.1 in
    rw has.1 (has.2, one_of_each count place within kinds columns are.1)
  where
    one_at : (kind : StatKind) (place : ℕ) (column : List StatCell) → place < length column → AllByRecursion (IsCellOf kind) column → (taken : StatCell) × (slice_get column place ≡ Some taken) × IsCellOf kind taken
    one_at kind place [] below are = absurd (omega (arith, below))
    one_at kind zero (first ∷ column) below are = (first, refl, are.0)
    one_at kind (suc place) (first ∷ column) below are = one_at kind place column (omega (arith, below)) are.1

pub cells_of_each : (count : ℕ) (kinds : List StatKind) (columns : List (List StatCell)) → AllZip (IsColumnOf count) kinds columns → (place : ℕ) → place < count → AllZip IsCellOf kinds (cells_at place columns)
cells_of_each count kinds columns are place within = one_of_each count place within kinds columns are

-- ---- without columns

-- the marked rows are those that are counted, and there are as many as marks
marked_counted : (key : Row → Key) → ((row : Row) → key row ≡ []) → (columns : List (List StatCell)) (place : ℕ) (marks : List Bool) (rows : List Row) → length marks ≡ length rows
    → marked_rows place marks columns ≡ counted_from key place marks rows columns
marked_counted key none columns place [] rows same = refl
marked_counted key none columns place (mark ∷ marks) [] same = absurd (omega (arith, same))
marked_counted key none columns place (true ∷ marks) (row ∷ rows) same =
    let one : Key → StatsRow = λ each. record { key = each; cells = cells_at place columns } in
    ap (λ each. one each ∷ marked_rows (suc place) marks columns) (sym (none row))
    ∙ ap (λ later. one (key row) ∷ later) (marked_counted key none columns (suc place) marks rows (omega (arith, same)))
marked_counted key none columns place (false ∷ marks) (row ∷ rows) same = marked_counted key none columns (suc place) marks rows (omega (arith, same))

as_many_marked : (columns : List (List StatCell)) (place : ℕ) (marks : List Bool) → length (marked_rows place marks columns) ≡ count_by (λ mark. mark) marks
as_many_marked columns place [] = refl
as_many_marked columns place (true ∷ marks) =
    let more = sum_by-cons (λ mark. cond mark 1 0) true marks in
    let later = as_many_marked columns (suc place) marks in
    omega (arith, later) ∙ sym more
as_many_marked columns place (false ∷ marks) = as_many_marked columns (suc place) marks

-- without columns no row has a key
pub no_key : (columns : List Col) → length columns ≡ 0 → (row : Col → Value) → row_cells columns row ≡ []
no_key [] none row = refl
no_key (column ∷ columns) none row = absurd (omega (arith, none))

pub counts_marked : (old new : Grouped) (key : Row → Key) → ((row : Row) → key row ≡ []) → (columns : List (List StatCell)) (marks : List Bool) (rows : List Row) → length marks ≡ length rows
    → new.spec ≡ old.spec → new.next ≡ [] → new.count ≡ old.count + count_by (λ mark. mark) marks
    → ((before : List StatsRow) → AreGroupsOf old before → AreGroupsOf new (before ++ marked_rows 0 marks columns)) → Counts old new (counted_from key 0 marks rows columns)
counts_marked old new key none columns marks rows same spec next count groups =
    subst (Counts old new) (marked_counted key none columns 0 marks rows same)
    (record {
      spec = spec;
      next = next;
      count = count ∙ ap (λ more. old.count + more) (sym (as_many_marked columns 0 marks));
      groups = groups;
    })

-- ---- the rows that are counted

module _ (columns : List Col) (stats : List StatEntry) (headers : List Header) (row_of : Row → (Col → Value)) where
  chosen_from : (front rows : List Row)
      → counted_from (λ row. row_cells columns (row_of row)) (length front) (map (λ (each : Row). holds (truth_on (row_of each)) headers) rows) rows
      (map (λ (entry : StatEntry). map (λ (each : Row). stat_cell (row_of each) entry) (front ++ rows)) stats)
      ≡ map (stats_row columns stats) (chosen_rows headers (map row_of rows))
  chosen_from front [] = refl
  chosen_from front (row ∷ rows) =
      let all : front ++ (row ∷ rows) ≡ (front ++ row ∷ []) ++ rows = sym (append_assoc front (row ∷ []) rows) in
      let count : suc (length front) ≡ length (front ++ row ∷ []) = omega (arith, length-append front (row ∷ [])) in
      let here : get_or (front ++ (row ∷ rows)) (length front) row ≡ row = get_or-append_seam front row rows row in
      let cells : cells_at (length front) (map (λ (entry : StatEntry). map (λ (each : Row). stat_cell (row_of each) entry) (front ++ (row ∷ rows))) stats) ≡ map (stat_cell (row_of row)) stats
      = cells_of_row row_of stats (front ++ (row ∷ rows)) (length front) row (omega (arith, length-append front (row ∷ rows))) ∙ ap (λ (each : Row). map (stat_cell (row_of each)) stats) here in
      let later = ap (λ (those : List Row). counted_from (λ each. row_cells columns (row_of each)) (suc (length front)) (map (λ (each : Row). holds (truth_on (row_of each)) headers) rows) rows (map (λ (entry : StatEntry). map (λ (each : Row). stat_cell (row_of each) entry) those) stats)) all
      ∙ ap (λ n. counted_from (λ each. row_cells columns (row_of each)) n (map (λ (each : Row). holds (truth_on (row_of each)) headers) rows) rows (map (λ (entry : StatEntry). map (λ (each : Row). stat_cell (row_of each) entry) ((front ++ row ∷ []) ++ rows)) stats)) count
      ∙ chosen_from (front ++ row ∷ []) rows in
      ⊎_elim
      (λ (is : holds (truth_on (row_of row)) headers ≡ true). rw is
      (ap (λ taken. record { key = row_cells columns (row_of row); cells = taken } ∷ counted_from (λ each. row_cells columns (row_of each)) (suc (length front)) (map (λ (each : Row). holds (truth_on (row_of each)) headers) rows) rows (map (λ (entry : StatEntry). map (λ (each : Row). stat_cell (row_of each) entry) (front ++ (row ∷ rows))) stats)) cells
      ∙ ap (λ l. stats_row columns stats (row_of row) ∷ l) later))
      (λ (other : holds (truth_on (row_of row)) headers ≡ false). rw other later)
      (cases_Bool (holds (truth_on (row_of row)) headers))

  -- the rows of a block that are marked as the filter says are those that it chooses
  pub chosen_counted : (rows : List Row)
      → counted_from (λ row. row_cells columns (row_of row)) 0 (map (λ (each : Row). holds (truth_on (row_of each)) headers) rows) rows
      (map (λ (entry : StatEntry). map (λ (each : Row). stat_cell (row_of each) entry) rows) stats)
      ≡ map (stats_row columns stats) (chosen_rows headers (map row_of rows))
  chosen_counted rows = chosen_from [] rows

-- ---- lines of groups

-- with a statistic each group has a value
pub values_length : (place : ℕ) (kinds : List StatKind) (rows : List StatsRow) → length (values_from place kinds rows) ≡ length kinds
values_length place [] rows = refl
values_length place (kind ∷ kinds) rows = ap suc (values_length (suc place) kinds rows)

-- no more rows are counted than there are
pub few_counted : (key : Row → Key) (columns : List (List StatCell)) (place : ℕ) (marks : List Bool) (rows : List Row) → length (counted_from key place marks rows columns) ≤ length rows
few_counted key columns place [] rows = omega arith
few_counted key columns place (mark ∷ marks) [] = omega arith
few_counted key columns place (true ∷ marks) (row ∷ rows) = omega (arith, few_counted key columns (suc place) marks rows)
few_counted key columns place (false ∷ marks) (row ∷ rows) = omega (arith, few_counted key columns (suc place) marks rows)

-- no row is counted where none is marked
pub none_counted : (key : Row → Key) (columns : List (List StatCell)) (place : ℕ) (marks : List Bool) (rows : List Row) → list_any (λ mark. mark) marks ≡ false → counted_from key place marks rows columns ≡ []
none_counted key columns place [] rows none = refl
none_counted key columns place (mark ∷ marks) [] none = refl
none_counted key columns place (true ∷ marks) (row ∷ rows) none = cc
none_counted key columns place (false ∷ marks) (row ∷ rows) none = none_counted key columns (suc place) marks rows none

-- ---- one column after the other

module _ (place : ℕ) (taken : List StatCell) (columns : List (List StatCell)) (k : ℕ) (column : List StatCell) (within : k < length columns) (is : column ≡ get_or columns k column)
    (all : List StatCell) (so_far : taken ++ cells_at place (drop k columns) ≡ all) where
  here : drop k columns ≡ column ∷ drop (k + 1) columns
  here = drop_more columns k column within ∙ ap (λ (first : List StatCell). first ∷ drop (k + 1) columns) (sym is)

  pub cell_taken : (cell : StatCell) → slice_get column place ≡ Some cell → (taken ++ cell ∷ []) ++ cells_at place (drop (k + 1) columns) ≡ all
  cell_taken cell found =
      let first : cells_at place (column ∷ drop (k + 1) columns) ≡ cell ∷ cells_at place (drop (k + 1) columns) = rw (found) refl in
      append_assoc taken (cell ∷ []) (cells_at place (drop (k + 1) columns))
      ∙ ap (λ l. taken ++ l) (sym first) ∙ ap (λ those. taken ++ cells_at place those) (sym here) ∙ so_far

  pub no_cell_taken : slice_get column place ≡ None → taken ++ cells_at place (drop (k + 1) columns) ≡ all
  no_cell_taken none =
      let first : cells_at place (column ∷ drop (k + 1) columns) ≡ cells_at place (drop (k + 1) columns) = rw (none) refl in
      ap (λ l. taken ++ l) (sym first) ∙ ap (λ those. taken ++ cells_at place those) (sym here) ∙ so_far

-- the columns of one more entry
pub columns_more : (column_of : StatEntry → List StatCell) (stats : List StatEntry) (place : ℕ) (asked : StatEntry) (old : List (List StatCell)) (column : List StatCell) → place < length stats
    → old ≡ map column_of (take place stats) → asked ≡ get_or stats place asked → column ≡ column_of asked → old ++ column ∷ [] ≡ map column_of (take (place + 1) stats)
columns_more column_of stats place asked old column within before is made =
    ap (λ l. l ++ column ∷ []) before
    ∙ ap (λ (last : List StatCell). map column_of (take place stats) ++ last ∷ []) (made ∙ ap column_of is)
    ∙ sym (map-append column_of (take place stats) (get_or stats place asked ∷ []))
    ∙ ap (map column_of) (sym (take_more stats place asked within))

-- ---- lines of groups

pub have_values : (spec : StatsSpec) (rows : List StatsRow) (lines : List StatLine) → map shown_line lines ≡ stat_lines spec rows → 0 < length spec.entries
    → (k : ℕ) (d : StatLine) → k < length lines → 0 < length (get_or lines k d).values
have_values spec rows lines are some k d below =
    let line_of : Key → GroupLine = λ key. record { key = key; values = values_from 0 spec.entries (rows_with_key key rows) } in
    let keys = keys_of spec.keys rows in
    let count : length lines ≡ length keys = sym (length-map lines shown_line) ∙ ap length are ∙ length-map keys line_of in
    let line = sym (get_or-map shown_line lines k d (line_of []) below) ∙ ap (λ (those : List GroupLine). get_or those k (line_of [])) are ∙ get_or-map line_of keys k [] (line_of []) (omega (arith, below, count)) in
    let long = ap (λ (shown : GroupLine). length shown.values) line ∙ values_length 0 spec.entries (rows_with_key (get_or keys k []) rows) in
    omega (arith, some, long, length-map (get_or lines k d).values meaning_of)

-- the first of some lines, as many as a limit says
pub first_of_limit : {X : Type 0} (line : X → List Value) (limit : Option ℕ) (first lines : List X) → (limit ≡ None → first ≡ lines) → IfSome limit (λ most. first ≡ take most lines)
    → map line first ≡ first_lines limit (map line lines)
first_of_limit line None first lines none some = ap (map line) (none refl)
first_of_limit line (Some most) first lines none some = ap (map line) some ∙ sym (take-map line most lines)

pub all_of_limit : {X : Type 0} (P : X → Type 0) (limit : Option ℕ) (first lines : List X) → (limit ≡ None → first ≡ lines) → IfSome limit (λ most. first ≡ take most lines)
    → ((k : ℕ) (d : X) → k < length lines → P (get_or lines k d)) → (k : ℕ) (d : X) → k < length first → P (get_or first k d)
all_of_limit {X = X} P None first lines none some all k d below = subst (λ (those : List X). P (get_or those k d)) (sym (none refl)) (all k d (omega (arith, below, ap length (none refl))))
all_of_limit {X = X} P (Some most) first lines none some all k d below =
    subst (λ (those : List X). P (get_or those k d)) (sym some)
    (subst P (sym (get_or-take most lines k d (omega (arith, below, ap length some, length-take most lines)))) (all k d (omega (arith, below, ap length some, length-take most lines))))
