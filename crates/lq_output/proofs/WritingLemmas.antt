-- How much the lines of a writer take.
use Rattle.std.proofs.Common.{◌≡◌, ℕ, ◌<◌, ◌≤◌, true, false, List, [], ◌∷◌, ◌++◌, length, map, refl, subst, sym, ap, ◌∙◌, append_assoc, arith, length-append}
use Rattle.std.proofs.lemmas.List.{append-nil, map-append}
use Rattle.std.proofs.lemmas.List.Concat.{flat_map-append}
use Rattle.std.specs.List.{flat_map}
use Rattle.lq_schema.specs.Value.{Value}
use Rattle.lq_output.specs.Body.{body_limit, body_text, line_of_values, marks_of}
use Rattle.lq_output.specs.Cells.{cell_text, joined_texts}
use Rattle.lq_output.specs.Writing.{AddsCell, EndsLine, IsTooLargeWith, IsWithinLimit, Writes, Writing, all_lines, whole_body, gap_of_line, is_some_of, so_far, with_cell, with_line_end}
use Rattle.lq_output.specs.declared.layout.Layout.{Layout}

-- ---- joined texts

-- one more text after others
joined_more : (between first : List ℕ) (later : List (List ℕ)) (text : List ℕ)
    → joined_texts between (first ∷ (later ++ text ∷ [])) ≡ joined_texts between (first ∷ later) ++ (between ++ text)
joined_more between first later text =
    ap (λ rest. first ++ rest) (flat_map-append (λ each. between ++ each) later (text ∷ [])
    ∙ ap (λ last. flat_map (λ each. between ++ each) later ++ last) (append-nil (between ++ text)))
    ∙ sym (append_assoc first (flat_map (λ each. between ++ each) later) (between ++ text))

-- more texts are no shorter
joined_front : (between : List ℕ) (texts later : List (List ℕ)) → length (joined_texts between texts) ≤ length (joined_texts between (texts ++ later))
joined_front between [] later = omega arith
joined_front between (first ∷ texts) later =
    let each : List ℕ → List ℕ = λ text. between ++ text in
    let all = ap length (flat_map-append each texts later) in
    omega (arith, all, length-append (flat_map each texts) (flat_map each later), length-append first (flat_map each texts), length-append first (flat_map each (texts ++ later)))

-- a longer last text makes no shorter text
joined_last : (between : List ℕ) (texts : List (List ℕ)) (short long : List ℕ) → length short ≤ length long
    → length (joined_texts between (texts ++ short ∷ [])) ≤ length (joined_texts between (texts ++ long ∷ []))
joined_last between [] short long le = omega (arith, le, length-append short [], length-append long [])
joined_last between (first ∷ texts) short long le =
    let a = ap length (joined_more between first texts short) in
    let b = ap length (joined_more between first texts long) in
    omega (
      arith,
      le,
      a,
      b,
      length-append (joined_texts between (first ∷ texts)) (between ++ short),
      length-append (joined_texts between (first ∷ texts)) (between ++ long),
      length-append between short,
      length-append between long,
    )

-- ---- one more cell

first_cell : (start lines gap line cell : List ℕ)
    → (start ++ (lines ++ [])) ++ ((gap ++ line) ++ cell) ≡ start ++ (lines ++ (gap ++ (line ++ (cell ++ []))))
first_cell start lines gap line cell = simp (append_assoc, append-nil)

later_cell : (start lines gap line cells between cell : List ℕ)
    → (start ++ (lines ++ (gap ++ (line ++ cells)))) ++ (between ++ cell) ≡ start ++ (lines ++ (gap ++ (line ++ (cells ++ (between ++ cell)))))
later_cell start lines gap line cells between cell = simp append_assoc

adds_cell : (w : Writing) (value : Value) → AddsCell w (with_cell w value) value
adds_cell w value lines [] is = record {
  body = rw (is.body, is.has_line, is.has_cell)
      (first_cell (marks_of w.layout).start (joined_texts (marks_of w.layout).between_lines (map (line_of_values w.layout) lines))
      (gap_of_line (marks_of w.layout) (is_some_of lines)) (marks_of w.layout).line_start (cell_text w.layout value));
  has_line = is.has_line;
  has_cell = refl;
}
adds_cell w value lines (cell ∷ cells) is =
    let marks = marks_of w.layout in
    let texts = map (cell_text w.layout) cells in
    let more = ap (λ later. joined_texts marks.between_cells (cell_text w.layout cell ∷ later)) (map-append (cell_text w.layout) cells (value ∷ []))
    ∙ joined_more marks.between_cells (cell_text w.layout cell) texts (cell_text w.layout value) in
    let before = joined_texts marks.between_lines (map (line_of_values w.layout) lines) in
    let gap = gap_of_line marks (is_some_of lines) in
    record {
      body = rw (is.body, is.has_cell)
          (later_cell marks.start before gap marks.line_start (joined_texts marks.between_cells (cell_text w.layout cell ∷ texts)) marks.between_cells (cell_text w.layout value)
          ∙ ap (λ line. marks.start ++ (before ++ (gap ++ (marks.line_start ++ line)))) (sym more));
      has_line = is.has_line;
      has_cell = refl;
    }

pub adds_cell_to : (old new : Writing) (value : Value) → new ≡ with_cell old value → AddsCell old new value
adds_cell_to old new value is = subst (λ after. AddsCell old after value) (sym is) (adds_cell old value)

-- ---- the open line

first_line : (start line cells last finish : List ℕ)
    → (start ++ (line ++ cells)) ++ (last ++ finish) ≡ start ++ (((line ++ (cells ++ last)) ++ []) ++ finish)
first_line start line cells last finish = simp (append_assoc, append-nil)

later_line : (start lines between line cells last finish : List ℕ)
    → (start ++ (lines ++ (between ++ (line ++ cells)))) ++ (last ++ finish) ≡ start ++ ((lines ++ (between ++ (line ++ (cells ++ last)))) ++ finish)
later_line start lines between line cells last finish = simp append_assoc

-- the open line ended after some cells, and then any bytes
ended : (layout : Layout) (lines : List (List Value)) (cell : Value) (cells : List Value) (finish : List ℕ)
    → so_far layout lines (cell ∷ cells) ++ ((marks_of layout).line_end ++ finish)
    ≡ (marks_of layout).start ++ (joined_texts (marks_of layout).between_lines (map (line_of_values layout) (lines ++ (cell ∷ cells) ∷ [])) ++ finish)
ended layout [] cell cells finish =
    let marks = marks_of layout in
    first_line marks.start marks.line_start (joined_texts marks.between_cells (map (cell_text layout) (cell ∷ cells))) marks.line_end finish
ended layout (first ∷ lines) cell cells finish =
    let marks = marks_of layout in
    let texts = map (line_of_values layout) lines in
    let more = ap (λ later. joined_texts marks.between_lines (line_of_values layout first ∷ later)) (map-append (line_of_values layout) lines ((cell ∷ cells) ∷ []))
    ∙ joined_more marks.between_lines (line_of_values layout first) texts (line_of_values layout (cell ∷ cells)) in
    later_line marks.start (joined_texts marks.between_lines (line_of_values layout first ∷ texts)) marks.between_lines marks.line_start
    (joined_texts marks.between_cells (map (cell_text layout) (cell ∷ cells))) marks.line_end finish
    ∙ ap (λ text. marks.start ++ (text ++ finish)) (sym more)

-- the text of the lines with the open one
closed_text : (w : Writing) (lines : List (List Value)) (cells : List Value) → Writes w lines cells → whole_body w ≡ body_text w.layout (all_lines lines cells)
closed_text w lines [] is = rw (is.has_cell, is.body) (simp (append_assoc, append-nil))
closed_text w lines (cell ∷ cells) is = rw (is.has_cell, is.body) (ended w.layout lines cell cells (marks_of w.layout).finish)

some_line : (lines : List (List Value)) (line : List Value) → true ≡ is_some_of (lines ++ line ∷ [])
some_line [] line = refl
some_line (first ∷ lines) line = refl

ends_line : (w : Writing) → w.has_cell ≡ true → EndsLine w (with_line_end w)
ends_line w begun lines [] is = let none : true ≡ false = sym begun ∙ is.has_cell in absurd (cc)
ends_line w begun lines (cell ∷ cells) is = record {
  body = rw is.body (ap (λ last. so_far w.layout lines (cell ∷ cells) ++ last) (sym (append-nil (marks_of w.layout).line_end)) ∙ ended w.layout lines cell cells []);
  has_line = some_line lines (cell ∷ cells);
  has_cell = refl;
}

pub ends_line_of : (old new : Writing) → old.has_cell ≡ true → new ≡ with_line_end old → EndsLine old new
ends_line_of old new begun is = subst (λ after. EndsLine old after) (sym is) (ends_line old begun)

-- ---- the limit

pub within_limit : (w : Writing) → length (whole_body w) ≤ body_limit → IsWithinLimit w
within_limit w fits lines cells is = let text = ap length (closed_text w lines cells is) in omega arith

around : (before short long after : List ℕ) → length short ≤ length long → length (before ++ (short ++ after)) ≤ length (before ++ (long ++ after))
around before short long after le =
    omega (arith, le, length-append before (short ++ after), length-append before (long ++ after), length-append short after, length-append long after)

-- a line with more cells is no shorter
longer_line : (layout : Layout) (cells later : List Value) → length (line_of_values layout cells) ≤ length (line_of_values layout (cells ++ later))
longer_line layout cells later =
    let marks = marks_of layout in
    let texts = map (cell_text layout) in
    around marks.line_start (joined_texts marks.between_cells (texts cells)) (joined_texts marks.between_cells (texts (cells ++ later))) marks.line_end
    (rw (map-append (cell_text layout) cells later) (joined_front marks.between_cells (texts cells) (texts later)))

-- lines after others, as their texts
texts_of : (layout : Layout) (lines : List (List Value)) (line : List Value) (more : List (List Value))
    → map (line_of_values layout) (lines ++ line ∷ more) ≡ (map (line_of_values layout) lines ++ line_of_values layout line ∷ []) ++ map (line_of_values layout) more
texts_of layout lines line more =
    map-append (line_of_values layout) lines (line ∷ more)
    ∙ sym (append_assoc (map (line_of_values layout) lines) (line_of_values layout line ∷ []) (map (line_of_values layout) more))

-- a body with more cells in its last line, and with more lines, is no shorter
longer_body : (layout : Layout) (lines : List (List Value)) (cells later : List Value) (more : List (List Value))
    → length (body_text layout (lines ++ cells ∷ [])) ≤ length (body_text layout (lines ++ (cells ++ later) ∷ more))
longer_body layout lines cells later more =
    let marks = marks_of layout in
    let texts = map (line_of_values layout) in
    let short = ap (λ those. length (joined_texts marks.between_lines those)) (map-append (line_of_values layout) lines (cells ∷ [])) in
    let long = ap (λ those. length (joined_texts marks.between_lines those)) (texts_of layout lines (cells ++ later) more) in
    let last = joined_last marks.between_lines (texts lines) (line_of_values layout cells) (line_of_values layout (cells ++ later)) (longer_line layout cells later) in
    let front = joined_front marks.between_lines (texts lines ++ line_of_values layout (cells ++ later) ∷ []) (texts more) in
    around marks.start (joined_texts marks.between_lines (texts (lines ++ cells ∷ []))) (joined_texts marks.between_lines (texts (lines ++ (cells ++ later) ∷ more))) marks.finish
    (omega (arith, short, long, last, front))

with_open : (lines : List (List Value)) (cells : List Value) (value : Value) → all_lines lines (cells ++ value ∷ []) ≡ lines ++ (cells ++ value ∷ []) ∷ []
with_open lines [] value = refl
with_open lines (cell ∷ cells) value = refl

pub too_large_with : (w : Writing) (value : Value) → body_limit < length (whole_body (with_cell w value)) → IsTooLargeWith w value
too_large_with w value large lines cells is later more =
    let text = ap length (closed_text (with_cell w value) lines (cells ++ value ∷ []) (adds_cell w value lines cells is)
    ∙ ap (body_text w.layout) (with_open lines cells value)) in
    let longer = longer_body w.layout lines (cells ++ value ∷ []) later more in
    let same = ap (λ last. length (body_text w.layout (lines ++ last ∷ more))) (append_assoc cells (value ∷ []) later) in
    omega (arith, large, text, longer, same)

-- a line's end was counted with its cells
pub line_within_limit : (old new : Writing) → old.has_cell ≡ true → new ≡ with_line_end old → length (whole_body old) ≤ body_limit → IsWithinLimit new
line_within_limit old new begun is fits =
    let same : length (whole_body (with_line_end old)) ≡ length (whole_body old) = rw begun (ap length (append_assoc old.body (marks_of old.layout).line_end (marks_of old.layout).finish)) in
    subst IsWithinLimit (sym is) (within_limit (with_line_end old) (omega arith))
