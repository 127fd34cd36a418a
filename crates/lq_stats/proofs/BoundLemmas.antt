-- What is kept of rows is within its limits, and their lines.
use Rattle.std.proofs.Common.{◌≡◌, ◌<◌, ◌≤◌, ◌+◌, ◌*◌, ◌^◌, ℕ, zero, suc, true, false, Option, Some, None, List, [], ◌∷◌, ◌++◌, append_assoc, drop, get_or, length, map, cond, filter, refl, sym, ap, ◌∙◌, subst, ℤ, ◌+ℤ◌, slice_get, unsigned_abs, All, arith}
use Rattle.std.specs.List.{AllByRecursion, AllZip, cons_option}
use Rattle.std.proofs.lemmas.Int.{ints}
use Rattle.std.proofs.lemmas.List.{drop_more, length-map, map_push}
use Rattle.std.proofs.lemmas.Option.{get_or_from_slice_get}
use Rattle.std.proofs.lemmas.List.Elements.{All-from_recursion, All-map}
use Rattle.lq_schema.specs.Value.{meaning_of}
use Rattle.lq_stats.specs.Grouped.{AreGroupsOf, Grouped, HasRows, kept_lines}
use Rattle.lq_stats.specs.Groups.{IsCellOf, Key, GroupLine, Row, column, is_marked, keys_of, stat_lines, numbers, rows_with_key, same_key, shown_line, sum_of, values_from, stat_value}
use Rattle.lq_stats.specs.Totals.{HasRoomForRows, IsSized, IsSmall, total_of, total_value, totals_from}
use Rattle.lq_stats.specs.declared.cell.StatCell.{StatCell}
use Rattle.lq_stats.specs.declared.cell.StatCell.TheVariants as cell
use Rattle.lq_stats.specs.declared.kind.StatKind.{StatKind}
use Rattle.lq_stats.specs.declared.kind.StatKind.TheVariants as kind
use Rattle.lq_stats.specs.declared.spec.StatLine.{StatLine}
use Rattle.lq_stats.specs.declared.total.Total.{Total}
use Rattle.lq_stats.proofs.StatsLemmas.{as_long}

-- ---- cells

pub size_of-add : (a b : ℤ) → unsigned_abs (a +ℤ b) ≤ unsigned_abs a + unsigned_abs b
size_of-add a b = omega (arith, ints)

few_numbers : (cells : List StatCell) → length (numbers cells) ≤ length cells
few_numbers [] = omega arith
few_numbers (cell.Counted marked ∷ cells) = omega (arith, few_numbers cells)
few_numbers (cell.Number number ∷ cells) = omega (arith, few_numbers cells)

few_marked : (cells : List StatCell) → length (filter is_marked cells) ≤ length cells
few_marked [] = omega arith
few_marked (cell.Counted true ∷ cells) = omega (arith, few_marked cells)
few_marked (cell.Counted false ∷ cells) = omega (arith, few_marked cells)
few_marked (cell.Number number ∷ cells) = omega (arith, few_marked cells)

size_of_sum : (cells : List StatCell) → AllByRecursion IsSized cells → unsigned_abs (sum_of (numbers cells)) ≤ length cells * 2 ^ 64
size_of_sum [] sized = omega arith
size_of_sum (cell.Counted marked ∷ cells) sized = omega (arith, size_of_sum cells sized.1)
size_of_sum (cell.Number number ∷ cells) sized =
    omega (arith, size_of_sum cells sized.1, sized.0, size_of-add number (sum_of (numbers cells)))

small_total : (kind : StatKind) (cells : List StatCell) → AllByRecursion IsSized cells → length cells ≤ 2 ^ 40 → IsSmall (total_of kind cells)
small_total kind.Count cells sized few = omega (arith, few, few_marked cells)
small_total kind.Sum cells sized few = omega (arith, few, size_of_sum cells sized)
small_total kind.Min cells sized few = tt
small_total kind.Max cells sized few = tt
small_total kind.Avg cells sized few = (omega (arith, few, few_numbers cells), omega (arith, few, size_of_sum cells sized))

room_in_total : (more : ℕ) (kind : StatKind) (cells : List StatCell) → AllByRecursion IsSized cells → length cells + more ≤ 2 ^ 40 → HasRoomForRows more (total_of kind cells)
room_in_total more kind.Count cells sized few = omega (arith, few, few_marked cells)
room_in_total more kind.Sum cells sized few = omega (arith, few, size_of_sum cells sized)
room_in_total more kind.Min cells sized few = tt
room_in_total more kind.Max cells sized few = tt
room_in_total more kind.Avg cells sized few = (omega (arith, few, few_numbers cells), omega (arith, few, size_of_sum cells sized))

-- ---- rows

-- rows whose numbers are within their limits
abbrev AreSized : List Row → Type 0
AreSized rows = AllByRecursion (λ (row : Row). AllByRecursion IsSized row.cells) rows

pub sized_at : (cells : List StatCell) (place : ℕ) (later : List StatCell) → AllByRecursion IsSized cells → AllByRecursion IsSized later
    → AllByRecursion IsSized (cons_option (slice_get cells place) later)
sized_at [] place later sized rest = rest
sized_at (first ∷ cells) zero later sized rest = (sized.0, rest)
sized_at (first ∷ cells) (suc place) later sized rest = sized_at cells place later sized.1 rest

sized_column : (place : ℕ) (rows : List Row) → AreSized rows → AllByRecursion IsSized (column place rows)
sized_column place [] sized = tt
sized_column place (row ∷ rows) sized = sized_at row.cells place (column place rows) sized.0 (sized_column place rows sized.1)

one_more_at_most : {X : Type 0} (found : Option X) (later : List X) → length (cons_option found later) ≤ length later + 1
one_more_at_most None later = omega arith
one_more_at_most (Some first) later = omega arith

few_in_column : (place : ℕ) (rows : List Row) → length (column place rows) ≤ length rows
few_in_column place [] = omega arith
few_in_column place (row ∷ rows) = omega (arith, few_in_column place rows, one_more_at_most (slice_get row.cells place) (column place rows))

sized_group : (key : Key) (rows : List Row) → AreSized rows → AreSized (rows_with_key key rows)
sized_group key [] sized = tt
sized_group key (row ∷ rows) sized =
    elim (same_key key row.key) as (λ same. AreSized (cond same (row ∷ rows_with_key key rows) (rows_with_key key rows))) [
      | true ↦ (sized.0, sized_group key rows sized.1)
      | false ↦ sized_group key rows sized.1
    ]

few_in_group : (key : Key) (rows : List Row) → length (rows_with_key key rows) ≤ length rows
few_in_group key [] = omega arith
few_in_group key (row ∷ rows) =
    elim (same_key key row.key) as (λ same. length (cond same (row ∷ rows_with_key key rows) (rows_with_key key rows)) ≤ length (row ∷ rows)) [
      | true ↦ omega (arith, few_in_group key rows)
      | false ↦ omega (arith, few_in_group key rows)
    ]

-- ---- totals

small_from : (kinds : List StatKind) (place : ℕ) (rows : List Row) → AreSized rows → length rows ≤ 2 ^ 40 → AllByRecursion IsSmall (totals_from place kinds rows)
small_from [] place rows sized few = tt
small_from (kind ∷ kinds) place rows sized few = (
  small_total kind (column place rows) (sized_column place rows sized) (omega (arith, few, few_in_column place rows)),
  small_from kinds (suc place) rows sized few,
)

room_from : (more : ℕ) (kinds : List StatKind) (place : ℕ) (rows : List Row) → AreSized rows → length rows + more ≤ 2 ^ 40 → AllByRecursion (HasRoomForRows more) (totals_from place kinds rows)
room_from more [] place rows sized few = tt
room_from more (kind ∷ kinds) place rows sized few = (
  room_in_total more kind (column place rows) (sized_column place rows sized) (omega (arith, few, few_in_column place rows)),
  room_from more kinds (suc place) rows sized few,
)

as_many : (kinds : List StatKind) (place : ℕ) (rows : List Row) → length (totals_from place kinds rows) ≡ length kinds
as_many [] place rows = refl
as_many (kind ∷ kinds) place rows = ap suc (as_many kinds (suc place) rows)

pub small_none : (kinds : List StatKind) → All IsSmall (map (λ kind. total_of kind []) kinds)
small_none kinds = All-map IsSmall (λ kind. total_of kind []) kinds (λ k d below. small_total _ [] tt (omega arith))

pub small_totals : (groups : Grouped) → HasRows groups → All (All IsSmall) groups.totals
small_totals groups has =
    let group : Key → List Total = λ key. totals_from 0 groups.spec.entries (rows_with_key key has.rows) in
    let each : (key : Key) → All IsSmall (group key) = λ key.
    All-from_recursion IsSmall (group key)
    (small_from groups.spec.entries 0 (rows_with_key key has.rows) (sized_group key has.rows has.cells) (let few = has.few in omega (arith, few, few_in_group key has.rows))) in
    subst (All (All IsSmall)) (sym has.are.totals) (All-map (All IsSmall) group (keys_of groups.spec.keys has.rows) (λ k d below. each _))

pub room_in_totals : (more : ℕ) (groups : Grouped) → HasRows groups → groups.count + more ≤ 2 ^ 40 → All (All (HasRoomForRows more)) groups.totals
room_in_totals more groups has few =
    let group : Key → List Total = λ key. totals_from 0 groups.spec.entries (rows_with_key key has.rows) in
    let each : (key : Key) → All (HasRoomForRows more) (group key) = λ key.
    All-from_recursion (HasRoomForRows more) (group key)
    (room_from more groups.spec.entries 0 (rows_with_key key has.rows) (sized_group key has.rows has.cells) (let count = has.are.count in omega (arith, few, count, few_in_group key has.rows))) in
    subst (All (All (HasRoomForRows more))) (sym has.are.totals) (All-map (All (HasRoomForRows more)) group (keys_of groups.spec.keys has.rows) (λ k d below. each _))

-- each group has as many totals as there are statistics
pub totals_as_many : (groups : Grouped) → HasRows groups → All (λ (each : List Total). length groups.spec.entries ≡ length each) groups.totals
totals_as_many groups has =
    let group : Key → List Total = λ key. totals_from 0 groups.spec.entries (rows_with_key key has.rows) in
    let Long : List Total → Type 0 = λ each. length groups.spec.entries ≡ length each in
    let each : (key : Key) → Long (group key) = λ key. sym (as_many groups.spec.entries 0 (rows_with_key key has.rows)) in
    subst (All Long) (sym has.are.totals) (All-map Long group (keys_of groups.spec.keys has.rows) (λ k d below. each _))

pub long_totals : (groups : Grouped) (cells : List StatCell) → HasRows groups → AllZip IsCellOf groups.spec.entries cells
    → All (λ (each : List Total). length cells ≡ length each) groups.totals
long_totals groups cells has are =
    let group : Key → List Total = λ key. totals_from 0 groups.spec.entries (rows_with_key key has.rows) in
    let Long : List Total → Type 0 = λ each. length cells ≡ length each in
    let each : (key : Key) → Long (group key) = λ key.
    as_long groups.spec.entries cells are ∙ sym (as_many groups.spec.entries 0 (rows_with_key key has.rows)) in
    subst (All Long) (sym has.are.totals) (All-map Long group (keys_of groups.spec.keys has.rows) (λ k d below. each _))

pub as_many_groups : (groups : Grouped) → HasRows groups → length groups.totals ≡ length groups.keys
as_many_groups groups has =
    ap length has.are.totals
    ∙ length-map (keys_of groups.spec.keys has.rows) (λ (key : Key). totals_from 0 groups.spec.entries (rows_with_key key has.rows))
    ∙ ap length (sym has.are.keys)

-- ---- lines

kept_value : (kind : StatKind) (cells : List StatCell) → total_value (total_of kind cells) ≡ stat_value kind cells
kept_value kind.Count cells = refl
kept_value kind.Sum cells = refl
kept_value kind.Min cells = refl
kept_value kind.Max cells = refl
kept_value kind.Avg cells = refl

kept_values : (kinds : List StatKind) (place : ℕ) (rows : List Row) → map total_value (totals_from place kinds rows) ≡ values_from place kinds rows
kept_values [] place rows = refl
kept_values (kind ∷ kinds) place rows = λ i. kept_value kind (column place rows) i ∷ kept_values kinds (suc place) rows i

lines_kept : (kinds : List StatKind) (rows : List Row) (keys : List Key)
    → kept_lines keys (map (λ key. totals_from 0 kinds (rows_with_key key rows)) keys)
    ≡ map (λ key. let line : GroupLine = record { key = key; values = values_from 0 kinds (rows_with_key key rows) } in line) keys
lines_kept kinds rows [] = refl
lines_kept kinds rows (key ∷ keys) =
    ap (λ values. let line : GroupLine = record { key = key; values = values } in line ∷ kept_lines keys (map (λ key. totals_from 0 kinds (rows_with_key key rows)) keys)) (kept_values kinds 0 (rows_with_key key rows))
    ∙ ap (λ later. let line : GroupLine = record { key = key; values = values_from 0 kinds (rows_with_key key rows) } in line ∷ later) (lines_kept kinds rows keys)

pub lines_are : (groups : Grouped) (rows : List Row) → AreGroupsOf groups rows → kept_lines groups.keys groups.totals ≡ stat_lines groups.spec rows
lines_are groups rows are =
    ap (λ keys. kept_lines keys groups.totals) are.keys
    ∙ ap (kept_lines (keys_of groups.spec.keys rows)) are.totals
    ∙ lines_kept groups.spec.entries rows (keys_of groups.spec.keys rows)

-- the line of a place more
pub one_line_more : (lines : List StatLine) (line : StatLine) (keys : List Key) (totals : List (List Total)) (place : ℕ) (key : Key) (group : List Total)
    → place < length keys → place < length totals → slice_get keys place ≡ Some key → group ≡ get_or totals place group
    → map meaning_of line.keys ≡ key → map meaning_of line.values ≡ map total_value group
    → map shown_line (lines ++ line ∷ []) ++ kept_lines (drop (place + 1) keys) (drop (place + 1) totals)
    ≡ map shown_line lines ++ kept_lines (drop place keys) (drop place totals)
one_line_more lines line keys totals place key group within below found is keys_are values_are =
    let rest = kept_lines (drop (place + 1) keys) (drop (place + 1) totals) in
    let first : drop place keys ≡ key ∷ drop (place + 1) keys =
    drop_more keys place key within ∙ ap (λ first. first ∷ drop (place + 1) keys) (get_or_from_slice_get keys place key key found) in
    let second : drop place totals ≡ group ∷ drop (place + 1) totals =
    drop_more totals place group below ∙ ap (λ first. first ∷ drop (place + 1) totals) (sym is) in
    let step : shown_line line ∷ rest ≡ kept_lines (drop place keys) (drop place totals) = rw (first, second, keys_are, values_are) refl in
    ap (λ all. all ++ rest) (map_push shown_line lines line)
    ∙ append_assoc (map shown_line lines) (shown_line line ∷ []) rest
    ∙ ap (λ later. map shown_line lines ++ later) step
