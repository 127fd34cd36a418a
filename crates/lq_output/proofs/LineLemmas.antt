-- Lines of one text each, written over bytes that are there.
use Rattle.std.proofs.Common.{◌≡◌, ℕ, zero, suc, ◌+◌, ◌-◌, ◌<◌, ◌≤◌, ◌||◌, ◌⊎◌, inl, inr, nat_lt, List, [], ◌∷◌, ◌++◌, drop, length, map, slice_set, take, refl, subst, sym, ap, ap₂, ◌∙◌, append_assoc, arith, length-drop}
use Rattle.std.proofs.Math.Seq.{take-add, take_all}
use Rattle.std.proofs.lemmas.Bool.Decides.{nat_tests}
use Rattle.std.proofs.lemmas.Grind.{take-set_at}
use Rattle.std.proofs.lemmas.List.{append-nil, length-take-le, map-append}
use Rattle.std.proofs.lemmas.List.Concat.{flat_map-append}
use Rattle.std.proofs.lemmas.Slice.{take-put_mid}
use Rattle.std.specs.List.{flat_map}
use Rattle.lq_records.specs.declared.format.Format.{Format}
use Rattle.lq_records.specs.declared.format.Format.TheVariants as format
use Rattle.lq_records.specs.declared.format.Separators.{Separators}
use Rattle.lq_schema.specs.Value.{Value}
use Rattle.lq_output.specs.Body.{body_limit, line_of_values}
use Rattle.lq_output.specs.Cells.{joined_texts, plain_line, plain_text}
use Rattle.lq_output.specs.Writing.{AddsLines, HasNoRoom, Writing, is_some_of, so_far}
use Rattle.lq_output.specs.declared.layout.Layout.{Layout}
use borrow.Rule.Slice.PartMut.{mid_len, put_mid, same_len_mid}

-- a line is written after others
pub written_line : (bytes part text : List ℕ) (at stop end : ℕ)
    → part ≡ text → stop ≡ at + length text → stop < length bytes
    → take (stop + 1) (slice_set (put_mid at (stop - at) bytes part) stop end) ≡ take at bytes ++ (text ++ end ∷ [])
written_line bytes part text at stop end same place room =
    let count = ap length same in
    let whole = mid_len at stop bytes (omega arith) in
    let long = same_len_mid at (stop - at) bytes part (omega arith) in
    take-set_at (put_mid at (stop - at) bytes part) stop (stop + 1) end (omega arith) (omega arith)
    ∙ ap (λ front. front ++ end ∷ []) (take-put_mid at (stop - at) bytes part stop (omega arith) (omega arith))
    ∙ append_assoc (take at bytes) part (end ∷ [])
    ∙ ap (λ those. take at bytes ++ (those ++ end ∷ [])) same

-- a block has no more rows than are left
pub few_more : {Row : Type 0} (rows : List Row) (done count : ℕ) → done ≤ length rows
    → count ≤ length (take (length rows - done) (drop done rows)) → done + count ≤ length rows
few_more rows done count within few =
    let rest = ap length (take_all (length rows - done) (drop done rows) (omega (arith, length-drop done rows))) in
    omega (arith, rest, length-drop done rows)

-- the lines of a block follow those of the blocks before
pub more_lines : {Row : Type 0} (line : Row → List ℕ) (rows : List Row) (done count : ℕ) (first mid last : List ℕ)
    → mid ≡ first ++ flat_map line (take done rows) → last ≡ mid ++ flat_map line (take count (take (length rows - done) (drop done rows)))
    → last ≡ first ++ flat_map line (take (done + count) rows)
more_lines line rows done count first mid last before after =
    let rest = take_all (length rows - done) (drop done rows) (omega (arith, length-drop done rows)) in
    after ∙ ap₂ (λ those more. those ++ flat_map line (take count more)) before rest
    ∙ append_assoc first (flat_map line (take done rows)) (flat_map line (take count (drop done rows)))
    ∙ ap (λ those. first ++ those)
    (sym (flat_map-append line (take done rows) (take count (drop done rows))) ∙ ap (flat_map line) (sym (take-add done count rows)))

-- ---- where lines stop

-- after no line the place is that of the first
pub place_of_none : {Row : Type 0} (line : Row → List ℕ) (rows : List Row) (bytes before : List ℕ) (start end count : ℕ)
    → count ≡ 0 → start ≤ length before → end ≤ length bytes
    → take end bytes ≡ take start before ++ flat_map line (take count rows) → end ≡ start
place_of_none line rows bytes before start end count none fits within is =
    sym (length-take-le end bytes within)
    ∙ ap length (is ∙ ap (λ more. take start before ++ flat_map line (take more rows)) none ∙ append-nil (take start before))
    ∙ length-take-le start before fits

-- a block that begins with a line and has no room for it
pub no_room : (line : List ℕ) (start end whole count : ℕ) → (whole ≡ body_limit) ⊎ (whole ≡ start + 4096)
    → end ≡ start → count ≡ end → whole < end + length line → HasNoRoom count line
no_room line start end whole count (inl limit) same is short = inr (omega (arith, limit, is, short))
no_room line start end whole count (inr block) same is short = inl (omega (arith, block, same, short))

-- the first of the rows that are left is that of the next block
pub next_row : {Row : Type 0} (rows later : List Row) (row : Row) (done : ℕ)
    → drop done rows ≡ row ∷ later → take (length rows - done) (drop done rows) ≡ row ∷ later
next_row rows later row done is =
    take_all (length rows - done) (drop done rows) (omega (arith, length-drop done rows)) ∙ is

-- no row is left after the last one
pub none_left : {Row : Type 0} (rows later : List Row) (row : Row) (done : ℕ)
    → length rows ≤ done → drop done rows ≡ row ∷ later → ⊥
none_left rows later row done all is = omega (arith, length-drop done rows, ap length is, all)

-- ---- the lines that the bytes are

joined_with_nothing : (texts : List (List ℕ)) → joined_texts [] texts ≡ flat_map (λ text. text) texts
joined_with_nothing [] = refl
joined_with_nothing (text ∷ texts) = refl

module _ {Row : Type 0} (cell : Row → Value) (separators : Separators) where
  abbrev plain : Layout
  plain = record { format = format.Csv; separators = separators }

  single_lines : (rows : List Row)
      → flat_map (λ text. text) (map (line_of_values plain) (map (λ row. cell row ∷ []) rows)) ≡ flat_map (λ row. plain_line separators (cell row)) rows
  single_lines [] = refl
  single_lines (row ∷ rows) =
      ap₂ (λ line rest. (line ++ separators.row ∷ []) ++ rest) (append-nil (plain_text separators.list separators.pair (cell row))) (single_lines rows)

  bytes_of_lines : (lines : List (List Value)) → so_far plain lines [] ≡ flat_map (λ text. text) (map (line_of_values plain) lines)
  bytes_of_lines lines = append-nil (joined_texts [] (map (line_of_values plain) lines)) ∙ joined_with_nothing (map (line_of_values plain) lines)

  -- the bytes of csv are those of the lines, one after the other
  csv_lines : (body : List ℕ) (lines : List (List Value)) (rows : List Row)
      → body ≡ so_far plain lines []
      → body ++ flat_map (λ row. plain_line separators (cell row)) rows ≡ so_far plain (lines ++ map (λ row. cell row ∷ []) rows) []
  csv_lines body lines rows is =
      let line = line_of_values plain in
      let added = map (λ row. cell row ∷ []) rows in
      ap (λ those. those ++ flat_map (λ row. plain_line separators (cell row)) rows) (is ∙ bytes_of_lines lines)
      ∙ ap (λ rest. flat_map (λ text. text) (map line lines) ++ rest) (sym (single_lines rows))
      ∙ sym (flat_map-append (λ text. text) (map line lines) (map line added))
      ∙ ap (flat_map (λ text. text)) (sym (map-append line lines added))
      ∙ sym (bytes_of_lines (lines ++ added))

-- ---- whether there is a line

some_lines : {Row : Type 0} (line : Row → List Value) (lines : List (List Value)) (rows : List Row)
    → (is_some_of lines || is_some_of rows) ≡ is_some_of (lines ++ map line rows)
some_lines line [] [] = refl
some_lines line [] (row ∷ rows) = refl
some_lines line (first ∷ lines) rows = refl

some_of_first : {Row : Type 0} (count : ℕ) (rows : List Row) → count ≤ length rows → nat_lt 0 count ≡ is_some_of (take count rows)
some_of_first zero rows within = refl
some_of_first (suc count) [] within = absurd (omega (arith, within))
some_of_first (suc count) (row ∷ rows) within = grind (arith, nat_tests)

-- lines that follow in a body of csv
pub adds_lines : {Row : Type 0} (cell : Row → Value) (rows : List Row) (count : ℕ) (old new : Writing)
    → count ≤ length rows → old.layout.format ≡ format.Csv → new.layout ≡ old.layout
    → new.body ≡ old.body ++ flat_map (λ row. plain_line old.layout.separators (cell row)) (take count rows)
    → new.has_line ≡ (old.has_line || nat_lt 0 count) → new.has_cell ≡ old.has_cell
    → AddsLines old new (map (λ row. cell row ∷ []) (take count rows))
adds_lines cell rows count old new within csv layout body has_line has_cell lines is =
    let added = map (λ row. cell row ∷ []) (take count rows) in
    let bytes = subst (λ (format : Format). old.body ≡ so_far (record { format = format; separators = old.layout.separators }) lines []
    → old.body ++ flat_map (λ row. plain_line old.layout.separators (cell row)) (take count rows)
    ≡ so_far (record { format = format; separators = old.layout.separators }) (lines ++ added) [])
    (sym csv) (csv_lines cell old.layout.separators old.body lines (take count rows)) in
    record {
      body = body ∙ bytes is.body ∙ ap (λ (layout : Layout). so_far layout (lines ++ added) []) (sym layout);
      has_line = has_line ∙ ap₂ (λ before more. before || more) is.has_line (some_of_first count rows within) ∙ some_lines (λ row. cell row ∷ []) lines (take count rows);
      has_cell = has_cell ∙ is.has_cell;
    }
