-- Where a search stands, it may go on.
use Rattle.std.proofs.Common.{◌≡◌, ℕ, ◌+◌, ◌-◌, ◌<◌, ◌≤◌, ◌==◌, nat_lt, not, true, false, List, [], ◌∷◌, ◌++◌, slice_index, length, take, drop, refl, sym, ap, ◌∙◌, subst, arith, append-nil, append_assoc, length-take, length-drop, length-append}
use Rattle.std.specs.List.{concat, take_while, Contains}
use Rattle.std.proofs.lemmas.Bool.{cases_Bool, cases_lt, eqb-true, eqb-false}
use Rattle.std.proofs.lemmas.List.{drop-drop, take-take, take-append-drop, take-append-le, drop-take}
use Rattle.std.proofs.lemmas.List.Sums.{passes_at_first, fails_before_first}
use Rattle.std.proofs.lemmas.List.Elements.{Contains-get_or}
use Rattle.std.proofs.Math.Logic.{⊎_elim}
use Rattle.std.proofs.lemmas.Grind.{common_steps}
use Rattle.lq_text.specs.Lines.{IsLineAt, line_text, whole_lines}
use Rattle.lq_text.proofs.LineLemmas.{whole_lines-append, whole_to_end}
use Rattle.lq_request.specs.Messages.{front_lines, is_command, is_line_of, message_at, message_of, one_empty_line, query_from, has_feed}
use Rattle.lq_request.specs.Search.{AreLines, begins_command, IsKnown, IsSearched}
use Rattle.lq_request.specs.Extent.{IsExtentOf}
use Rattle.lq_request.specs.declared.extent.LineKind.{LineKind}
use Rattle.lq_request.specs.declared.extent.LineKind.TheVariants as kind
use Rattle.lq_request.specs.declared.extent.MessageKind.TheVariants as message
use Rattle.lq_request.proofs.FrontLemmas.{fails_first, front_next, front_stop, passes_first, take_parts, text_at, text_length_at}
use Rattle.lq_request.proofs.ExtentLemmas.{feed_shorter}
use Rattle.lq_request.proofs.MessageLemmas.{ended_feed, feed_place, first_line_alone, line_has_feed, message_query, query_feed, HasFeed}

-- ---- whole lines of a kind

pub no_lines : (kind : LineKind) → AreLines kind []
no_lines kind rest = refl

pub lines_append : (kind : LineKind) (lines more : List ℕ) → AreLines kind lines → AreLines kind more → AreLines kind (lines ++ more)
lines_append kind lines more first second rest =
    ap (front_lines kind) (append_assoc lines more rest) ∙ first (more ++ rest) ∙ ap (λ later. lines ++ later) (second rest)
    ∙ sym (append_assoc lines more (front_lines kind rest))

-- lines at the front, and those after them
pub front_after : (kind : LineKind) (bytes : List ℕ) (n : ℕ) → AreLines kind (take n bytes) → front_lines kind bytes ≡ take n bytes ++ front_lines kind (drop n bytes)
front_after kind bytes n lines = ap (front_lines kind) (sym (take-append-drop n bytes)) ∙ lines (drop n bytes)

-- bytes up to their first line feed are one line, whatever follows
line_to_feed : (bytes rest : List ℕ) → HasFeed bytes
    → whole_lines (take (feed_place bytes + 1) bytes ++ rest) ≡ take (feed_place bytes + 1) bytes ∷ whole_lines rest
line_to_feed bytes rest has =
    let feed : ℕ = feed_place bytes in
    let line : List ℕ = take (feed + 1) bytes in
    let low : feed < length bytes = has.within in
    let size : length line ≡ feed + 1 = omega (arith, length-take (feed + 1) bytes, low) in
    let same : (k : ℕ) → k ≤ feed → slice_index line k ≡ slice_index bytes k = λ k below. grind (arith, common_steps) in
    let none : (k : ℕ) → k < feed → slice_index line k ≡ 10 → ⊥ = λ k below is.
    eqb-false _ _ (fails_before_first (λ byte. byte == 10) bytes k 0 below) (sym (same k (omega (arith, below))) ∙ is) in
    let here : slice_index line feed ≡ 10 = same feed (omega arith) ∙ eqb-true _ _ (passes_at_first (λ byte. byte == 10) bytes 0 low) in
    let all : take (feed + 1) line ≡ line = grind (arith, common_steps) in
    let nothing : drop (feed + 1) line ≡ [] = grind (arith, common_steps) in
    whole_lines-append line rest feed (omega (arith, size)) none here ∙ ap (λ first. first ∷ whole_lines (drop (feed + 1) line ++ rest)) all
    ∙ ap (λ none. line ∷ whole_lines (none ++ rest)) nothing

module _ (bytes : List ℕ) (at end next : ℕ) (is : IsLineAt bytes at end next) where
  abbrev line : List ℕ
  line = take (next - at) (drop at bytes)

  line_length : length line ≡ next - at
  line_length = omega (arith, length-take (next - at) (drop at bytes), length-drop at bytes, is.within, is.more)

  -- whether it has its line feed
  fed_is : has_feed line ≡ nat_lt (end - at) (next - at)
  fed_is = feed_shorter line ∙ ap (λ n. nat_lt n (length line)) (text_length_at bytes at end next is) ∙ ap (nat_lt (end - at)) line_length

  fed_line : end < next → line ≡ take (feed_place (drop at bytes) + 1) (drop at bytes) × HasFeed (drop at bytes)
  fed_line fed =
      let order : at ≤ end = is.text in
      let has : has_feed line ≡ true = fed_is ∙ grind arith in
      let feed : HasFeed (drop at bytes) = line_has_feed (drop at bytes) line (whole_lines (drop next bytes)) is.whole has in
      let both = sym is.whole ∙ first_line_alone (drop at bytes) feed in
      (cc, feed)

  pub fed_contains : end < next → Contains (drop at bytes) 10
  fed_contains fed =
      let rest : List ℕ = drop at bytes in
      let low : feed_place rest < length rest = (fed_line fed).1.within in
      subst (Contains rest) (eqb-true _ _ (passes_at_first (λ byte. byte == 10) rest 0 low)) (Contains-get_or rest (feed_place rest) 0 low)

  -- a line with its line feed is one line, whatever follows
  pub single_line : end < next → (rest : List ℕ) → whole_lines (line ++ rest) ≡ line ∷ whole_lines rest
  single_line fed rest =
      let found = fed_line fed in
      subst (λ l. whole_lines (l ++ rest) ≡ l ∷ whole_lines rest) (sym found.0) (line_to_feed (drop at bytes) rest found.1)

  pub line_lines : (kind : LineKind) → end < next → is_line_of kind line ≡ true → AreLines kind line
  line_lines kind fed pass rest = ap (λ lines. concat (take_while (is_line_of kind) lines)) (single_line fed rest) ∙ passes_first kind _ _ pass

  -- after one without it no line feed stands
  pub none_fed : end ≡ next → (k : ℕ) → k < length (drop at bytes) → slice_index (drop at bytes) k ≡ 10 → ⊥
  none_fed same =
      let rest : List ℕ = drop at bytes in
      let lacks : has_feed line ≡ false = fed_is ∙ grind (arith, same) in
      ⊎_elim
      (λ (low : feed_place rest < length rest).
      let found : HasFeed rest = record { within = low } in
      let both = sym is.whole ∙ first_line_alone rest found in
      let own : line ≡ take (feed_place rest + 1) rest = cc in
      let size : length line ≡ feed_place rest + 1 = ap length own ∙ omega (arith, length-take (feed_place rest + 1) rest, low) in
      let place : slice_index line (length line - 1) ≡ slice_index rest (feed_place rest) = grind (arith, common_steps, own, size, low) in
      let here : slice_index rest (feed_place rest) ≡ 10 = eqb-true _ _ (passes_at_first (λ byte. byte == 10) rest 0 low) in
      absurd (eqb-false _ _ lacks (place ∙ here)))
      (λ high k low here. eqb-false _ _ (fails_before_first (λ byte. byte == 10) rest k 0 (omega (arith, high, low))) here)
      (cases_lt (feed_place rest) (length rest))

  -- and it is the last one
  pub last_line : end ≡ next → next ≡ length bytes
  last_line same =
      let rest : List ℕ = drop at bytes in
      let alone : whole_lines rest ≡ rest ∷ [] = whole_to_end rest (omega (arith, length-drop at bytes, is.more, is.within)) (none_fed same) in
      let both = sym is.whole ∙ alone in
      let own : line ≡ rest = cc in
      omega (arith, ap length own, line_length, length-drop at bytes, is.more, is.within)

  -- an empty line has its line feed
  pub empty_fed : is_line_of kind.Empty line ≡ true → end ≡ at
  empty_fed empty = let none : length (line_text line) ≡ 0 = eqb-true _ _ empty in omega (arith, none, text_length_at bytes at end next is, is.text)

-- ---- the lines of a kind at the front, line by line

pub lines_next : (kind : LineKind) (bytes : List ℕ) (at end next : ℕ) → IsLineAt bytes at end next → end < next → is_line_of kind (take (next - at) (drop at bytes)) ≡ true
    → AreLines kind (take at bytes) → AreLines kind (take next bytes)
lines_next kind bytes at end next is fed pass lines =
    subst (AreLines kind) (sym (take_parts bytes at next (omega (arith, is.more))))
    (lines_append kind (take at bytes) _ lines (line_lines bytes at end next is kind fed pass))

pub all_lines : (kind : LineKind) (bytes : List ℕ) (at : ℕ) → at ≡ length bytes → AreLines kind (take at bytes) → front_lines kind bytes ≡ take at bytes
all_lines kind bytes at end lines =
    let none : drop at bytes ≡ [] = grind (arith, common_steps) in
    front_after kind bytes at lines ∙ ap (λ rest. take at bytes ++ front_lines kind rest) none ∙ append-nil (take at bytes)

pub lines_stop : (kind : LineKind) (bytes : List ℕ) (at end next : ℕ) → IsLineAt bytes at end next → is_line_of kind (take (next - at) (drop at bytes)) ≡ false
    → AreLines kind (take at bytes) → front_lines kind bytes ≡ take at bytes
lines_stop kind bytes at end next is fail lines =
    front_after kind bytes at lines ∙ ap (λ rest. take at bytes ++ rest) (front_stop kind bytes at end next is fail) ∙ append-nil (take at bytes)

-- a last line of the kind, without its line feed
pub lines_last : (kind : LineKind) (bytes : List ℕ) (at end next : ℕ) → IsLineAt bytes at end next → end ≡ next → is_line_of kind (take (next - at) (drop at bytes)) ≡ true
    → AreLines kind (take at bytes) → front_lines kind bytes ≡ take next bytes
lines_last kind bytes at end next is same pass lines =
    let none : drop next bytes ≡ [] = let last = last_line bytes at end next is same in grind (arith, common_steps) in
    front_after kind bytes at lines ∙ front_next kind bytes at end next is pass ∙ ap (λ rest. take next bytes ++ front_lines kind rest) none ∙ append-nil (take next bytes)

-- no empty line lacks its line feed
pub last_has_text : (lines : LineKind) (bytes : List ℕ) (at end next : ℕ) → IsLineAt bytes at end next → end ≡ next → is_line_of lines (take (next - at) (drop at bytes)) ≡ true → lines ≡ kind.Empty → ⊥
last_has_text kind.Empty bytes at end next is same pass empty = omega (arith, empty_fed bytes at end next is pass, same, is.more)
last_has_text kind.Text bytes at end next is same pass empty = cc

-- all empty lines, after those that are known
pub empty_lines_on : (bytes : List ℕ) (n m : ℕ) → n + m ≤ length bytes → AreLines kind.Empty (take n bytes) → AreLines kind.Empty (take m (drop n bytes)) → AreLines kind.Empty (take (n + m) bytes)
empty_lines_on bytes n m within lines more =
    let size : n + m - n ≡ m = omega arith in
    let parts : take (n + m) bytes ≡ take n bytes ++ take m (drop n bytes) = take_parts bytes n (n + m) (omega arith) ∙ ap (λ k. take n bytes ++ take k (drop n bytes)) size in
    subst (AreLines kind.Empty) (sym parts) (lines_append kind.Empty (take n bytes) _ lines more)

pub empty_front_on : (bytes : List ℕ) (n m : ℕ) → AreLines kind.Empty (take n bytes) → front_lines kind.Empty (drop n bytes) ≡ take m (drop n bytes) → front_lines kind.Empty bytes ≡ take (n + m) bytes
empty_front_on bytes n m lines more =
    let size : n + m - n ≡ m = omega arith in
    front_after kind.Empty bytes n lines ∙ ap (λ rest. take n bytes ++ rest) more
    ∙ sym (take_parts bytes n (n + m) (omega arith) ∙ ap (λ k. take n bytes ++ take k (drop n bytes)) size)

-- ---- going on

-- nothing but empty lines
pub searched_empty : (n : ℕ) (bytes : List ℕ) → n ≤ length bytes → AreLines kind.Empty (take n bytes) → IsSearched n n bytes
searched_empty n bytes within lines =
    let none : n - n ≡ 0 = omega arith in
    record {
      order = omega arith;
      within = within;
      empty = lines;
      lines = subst (λ k. AreLines kind.Text (take k (drop n bytes))) (sym none) (no_lines kind.Text);
      query = λ some. absurd (omega (arith, some));
    }

pub searched_nothing : (bytes : List ℕ) → IsSearched 0 0 bytes
searched_nothing bytes = searched_empty 0 bytes (omega arith) (no_lines kind.Empty)

-- the same of other bytes with the same front
pub searched_same : (text next : ℕ) (bytes other : List ℕ) → IsSearched text next bytes → take next bytes ≡ take next other → next ≤ length other → IsSearched text next other
searched_same text next bytes other is same within =
    let order : text ≤ next = is.order in
    let whole : text + (next - text) ≡ next = omega arith in
    let empty : take text bytes ≡ take text other = sym (take-take text next bytes order) ∙ ap (take text) same ∙ take-take text next other order in
    let own : (b : List ℕ) → drop text (take next b) ≡ take (next - text) (drop text b) = λ b. ap (λ n. drop text (take n b)) (sym whole) ∙ drop-take text (next - text) b in
    let lines : take (next - text) (drop text bytes) ≡ take (next - text) (drop text other) = sym (own bytes) ∙ ap (drop text) same ∙ own other in
    record {
      order = order;
      within = within;
      empty = subst (AreLines kind.Empty) empty is.empty;
      lines = subst (AreLines kind.Text) lines is.lines;
      query = λ some rest. subst (λ l. begins_command (whole_lines (l ++ rest)) ≡ false) lines (is.query some rest);
    }

-- more bytes, and those of a window
pub searched_append : (text next : ℕ) (bytes more : List ℕ) → IsSearched text next bytes → IsSearched text next (bytes ++ more)
searched_append text next bytes more is =
    searched_same text next bytes (bytes ++ more) is (sym (take-append-le next bytes more is.within)) (omega (arith, length-append bytes more, is.within))

pub searched_in_window : (text next n : ℕ) (bytes : List ℕ) → IsSearched text next bytes → next ≤ n → IsSearched text next (take n bytes)
searched_in_window text next n bytes is low =
    searched_same text next bytes (take n bytes) is (sym (take-take next n bytes low)) (omega (arith, length-take n bytes, is.within, low))

pub within_window : (text next n : ℕ) (bytes : List ℕ) → IsSearched text next (take n bytes) → next ≤ n
within_window text next n bytes is = omega (arith, length-take n bytes, is.within)

pub searched_of_window : (text next n : ℕ) (bytes : List ℕ) → IsSearched text next (take n bytes) → IsSearched text next bytes
searched_of_window text next n bytes is =
    searched_same text next (take n bytes) bytes is (take-take next n bytes (within_window text next n bytes is)) (omega (arith, length-take n bytes, is.within))

-- more lines of the query
pub searched_more : (text next n : ℕ) (bytes : List ℕ) → IsSearched text next bytes → text < next → next + n ≤ length bytes → AreLines kind.Text (take n (drop next bytes)) → IsSearched text (next + n) bytes
searched_more text next n bytes is some within more =
    let lines : List ℕ = take (next - text) (drop text bytes) in
    let beyond : drop (next - text) (drop text bytes) ≡ drop next bytes = drop-drop (next - text) text bytes ∙ ap (λ k. drop k bytes) (omega (arith, is.order)) in
    let size : next + n - text - (next - text) ≡ n = omega (arith, is.order) in
    let own : take (next + n - text) (drop text bytes) ≡ lines ++ take n (drop next bytes) =
    take_parts (drop text bytes) (next - text) (next + n - text) (omega (arith, is.order))
    ∙ ap (λ k. lines ++ take k (drop (next - text) (drop text bytes))) size ∙ ap (λ b. lines ++ take n b) beyond in
    record {
      order = omega (arith, is.order);
      within = within;
      empty = is.empty;
      lines = subst (AreLines kind.Text) (sym own) (lines_append kind.Text lines _ is.lines more);
      query = λ _ rest. ap (λ b. begins_command (whole_lines (b ++ rest))) own ∙ ap (λ b. begins_command (whole_lines b)) (append_assoc lines _ rest) ∙ is.query some _;
    }

-- a line is of one kind
other_kind : (line : List ℕ) → is_line_of kind.Empty line ≡ false → is_line_of kind.Text line ≡ true
other_kind line is = rw is refl

text_is_some : (line : List ℕ) → is_line_of kind.Text line ≡ true → is_line_of kind.Empty line ≡ false
text_is_some line is = ⊎_elim (λ (empty : is_line_of kind.Empty line ≡ true). absurd (let other : false ≡ true = ap not (sym empty) ∙ is in cc)) (λ some. some) (cases_Bool (is_line_of kind.Empty line))

-- the line after all empty ones has text
text_after_second : (bytes : List ℕ) (at end next : ℕ) → IsLineAt bytes at end next → AreLines kind.Empty (take at bytes) → front_lines kind.Empty bytes ≡ take at bytes
    → is_line_of kind.Text (take (next - at) (drop at bytes)) ≡ true
text_after_second bytes at end next is lines front =
    let line : List ℕ = take (next - at) (drop at bytes) in
    let none : length (front_lines kind.Empty (drop at bytes)) ≡ 0 =
    omega (arith, ap length front, ap length (front_after kind.Empty bytes at lines), length-append (take at bytes) (front_lines kind.Empty (drop at bytes))) in
    ⊎_elim
    (λ (empty : is_line_of kind.Empty line ≡ true).
    let first = ap (λ l. length (concat (take_while (is_line_of kind.Empty) l))) is.whole ∙ ap length (passes_first kind.Empty line (whole_lines (drop next bytes)) empty) in
    absurd (omega (arith, none, first, length-append line (concat (take_while (is_line_of kind.Empty) (whole_lines (drop next bytes)))), line_length bytes at end next is, is.more)))
    (other_kind line)
    (cases_Bool (is_line_of kind.Empty line))

-- the first line of a query
pub searched_first : (bytes : List ℕ) (at end next : ℕ) → IsLineAt bytes at end next → end < next → AreLines kind.Empty (take at bytes) → front_lines kind.Empty bytes ≡ take at bytes
    → is_command (take (end - at) (drop at bytes)) ≡ false → IsSearched at next bytes
searched_first bytes at end next is fed lines front other = record {
  order = omega (arith, is.more);
  within = is.within;
  empty = lines;
  lines = line_lines bytes at end next is kind.Text fed (text_after_second bytes at end next is lines front);
  query = λ _ rest. ap begins_command (single_line bytes at end next is fed rest) ∙ ap is_command (text_at bytes at end next is) ∙ other;
}

-- ---- the message, from where the search stands

-- lines of which the first has text and is no command's
query_lines : (lines : List (List ℕ)) → begins_command lines ≡ false → 0 < length (concat (take_while (is_line_of kind.Text) lines))
    → (concat (take_while (is_line_of kind.Empty) lines) ≡ []) × ((before : ℕ) (bytes : List ℕ) → message_at before lines bytes ≡ query_from before (front_lines kind.Text (drop before bytes)) bytes)
query_lines [] other some = absurd (omega (arith, some))
query_lines (line ∷ lines) other some = ⊎_elim
    (λ (pass : is_line_of kind.Text line ≡ true). (fails_first kind.Empty line lines (text_is_some line pass), λ before bytes. message_query before line lines bytes other))
    (λ (fail : is_line_of kind.Text line ≡ false). absurd (omega (arith, some, ap length (fails_first kind.Text line lines fail))))
    (cases_Bool (is_line_of kind.Text line))

pub searched_message : (text next : ℕ) (bytes : List ℕ) → IsSearched text next bytes → text < next → message_of bytes ≡ query_from text (front_lines kind.Text (drop text bytes)) bytes
unfolding message_of
searched_message text next bytes is some =
    let lines : List ℕ = take (next - text) (drop text bytes) in
    let rest : List ℕ = drop (next - text) (drop text bytes) in
    let parts : lines ++ rest ≡ drop text bytes = take-append-drop (next - text) (drop text bytes) in
    let size : 0 < length (front_lines kind.Text (lines ++ rest)) =
    omega (arith, ap length (is.lines rest), length-append lines (front_lines kind.Text rest), length-take (next - text) (drop text bytes), length-drop text bytes, some, is.within) in
    let known = query_lines (whole_lines (lines ++ rest)) (is.query some rest) size in
    let none : front_lines kind.Empty (drop text bytes) ≡ [] = ap (front_lines kind.Empty) (sym parts) ∙ known.0 in
    let empty : front_lines kind.Empty bytes ≡ take text bytes =
    front_after kind.Empty bytes text is.empty ∙ ap (λ later. take text bytes ++ later) none ∙ append-nil (take text bytes) in
    let before : length (front_lines kind.Empty bytes) ≡ text = ap length empty ∙ omega (arith, length-take text bytes, is.order, is.within) in
    ap (λ n. message_at n (whole_lines (drop n bytes)) bytes) before ∙ ap (λ b. message_at text (whole_lines b) bytes) (sym parts) ∙ known.1 text bytes

-- the text of a query goes on after the lines that were looked over
pub searched_text : (text next n : ℕ) (bytes : List ℕ) → IsSearched text next bytes → front_lines kind.Text (drop next bytes) ≡ take n (drop next bytes)
    → front_lines kind.Text (drop text bytes) ≡ take (next + n - text) (drop text bytes)
searched_text text next n bytes is front =
    let lines : List ℕ = take (next - text) (drop text bytes) in
    let beyond : drop (next - text) (drop text bytes) ≡ drop next bytes = drop-drop (next - text) text bytes ∙ ap (λ k. drop k bytes) (omega (arith, is.order)) in
    let size : next + n - text - (next - text) ≡ n = omega (arith, is.order) in
    front_after kind.Text (drop text bytes) (next - text) is.lines ∙ ap (λ b. lines ++ front_lines kind.Text b) beyond ∙ ap (λ later. lines ++ later) front
    ∙ sym (take_parts (drop text bytes) (next - text) (next + n - text) (omega (arith, is.order))
    ∙ ap (λ k. lines ++ take k (drop (next - text) (drop text bytes))) size ∙ ap (λ b. lines ++ take n b) beyond)

-- a query of one line, which lacks its line feed
pub last_query : (bytes : List ℕ) (start end next : ℕ) → front_lines kind.Empty bytes ≡ take start bytes → AreLines kind.Empty (take start bytes) → IsLineAt bytes start end next → end ≡ next
    → is_command (take (end - start) (drop start bytes)) ≡ false → IsExtentOf (message_of bytes) bytes (record { kind = message.Query; start = start; end = end; next = next })
unfolding message_of
last_query bytes start end next front lines is same other =
    let line : List ℕ = take (next - start) (drop start bytes) in
    let before : length (front_lines kind.Empty bytes) ≡ start = ap length front ∙ omega (arith, length-take start bytes, is.more, is.within) in
    let last : next ≡ length bytes = last_line bytes start end next is same in
    let none : drop next bytes ≡ [] = grind (arith, common_steps) in
    let text : front_lines kind.Text (drop start bytes) ≡ line =
    ap (λ l. concat (take_while (is_line_of kind.Text) l)) is.whole ∙ passes_first kind.Text line (whole_lines (drop next bytes)) (text_after_second bytes start end next is lines front)
    ∙ ap (λ rest. line ++ front_lines kind.Text rest) none ∙ append-nil line in
    let query : message_of bytes ≡ query_from start line bytes =
    ap (λ n. message_at n (whole_lines (drop n bytes)) bytes) before ∙ ap (λ l. message_at start l bytes) is.whole
    ∙ message_query start line (whole_lines (drop next bytes)) bytes (ap is_command (text_at bytes start end next is) ∙ other) ∙ ap (λ t. query_from start t bytes) text in
    let place : start + length line ≡ next = omega (arith, line_length bytes start end next is, is.more) in
    let closing : one_empty_line (drop (start + length line) bytes) ≡ [] = ap (λ n. one_empty_line (drop n bytes)) place ∙ ap one_empty_line none in
    subst (λ m. IsExtentOf m bytes (record { kind = message.Query; start = start; end = end; next = next })) (sym query) (record {
      kind = refl;
      text = ap (λ n. take (n - start) (drop start bytes)) (sym same);
      size = omega (arith, place, ap length closing);
      ended = ap (λ l. nat_lt 0 (length l)) closing ∙ grind (arith, same);
      order = is.text;
      next = is.order;
      within = is.within;
    })

-- the query whose first lines were looked over
pub searched_query : (text next all closing : ℕ) (bytes : List ℕ) → IsSearched text next bytes → text < next → next + all ≤ length bytes
    → front_lines kind.Text (drop next bytes) ≡ take all (drop next bytes)
    → one_empty_line (drop (next + all) bytes) ≡ take closing (drop (next + all) bytes) → closing ≤ length (drop (next + all) bytes)
    → IsExtentOf (message_of bytes) bytes (record { kind = message.Query; start = text; end = next + all; next = next + all + closing })
searched_query text next all closing bytes is some within front last low =
    let own : List ℕ = take (next + all - text) (drop text bytes) in
    let query : message_of bytes ≡ query_from text own bytes =
    searched_message text next bytes is some ∙ ap (λ t. query_from text t bytes) (searched_text text next all bytes is front) in
    let place : text + length own ≡ next + all = omega (arith, length-take (next + all - text) (drop text bytes), length-drop text bytes, within, is.order) in
    let size : length (one_empty_line (drop (text + length own) bytes)) ≡ closing =
    ap (λ n. length (one_empty_line (drop n bytes))) place ∙ ap length last ∙ omega (arith, length-take closing (drop (next + all) bytes), low) in
    subst (λ m. IsExtentOf m bytes (record { kind = message.Query; start = text; end = next + all; next = next + all + closing })) (sym query) (record {
      kind = refl;
      text = refl;
      size = omega (arith, place, size);
      ended = ap (nat_lt 0) size ∙ grind arith;
      order = omega (arith, is.order);
      next = omega arith;
      within = omega (arith, low, length-drop (next + all) bytes, within);
    })

-- ---- without a line feed

index_after : (n k : ℕ) (bytes : List ℕ) → slice_index (drop n bytes) k ≡ slice_index bytes (n + k)
index_after n k bytes = grind (arith, common_steps)

-- where none stands after what was looked over, no message has ended
pub unfed_message : (text next : ℕ) (bytes : List ℕ) → IsSearched text next bytes → ((k : ℕ) → next ≤ k → k < length bytes → slice_index bytes k ≡ 10 → ⊥) → (message_of bytes).ended ≡ false
unfolding message_of
unfed_message text next bytes is none =
    let no_feed : (n : ℕ) → next ≤ n → HasFeed (drop n bytes) → ⊥ = λ n low has.
    let place : feed_place (drop n bytes) < length (drop n bytes) = has.within in
    let here : slice_index (drop n bytes) (feed_place (drop n bytes)) ≡ 10 = eqb-true _ _ (passes_at_first (λ byte. byte == 10) (drop n bytes) 0 place) in
    none (n + feed_place (drop n bytes)) (omega (arith, low)) (omega (arith, place, length-drop n bytes)) (sym (index_after n _ bytes) ∙ here) in
    let empty : ℕ = length (front_lines kind.Empty bytes) in
    let before : text ≤ empty = omega (arith, ap length (front_after kind.Empty bytes text is.empty), length-append (take text bytes) (front_lines kind.Empty (drop text bytes)), length-take text bytes, is.order, is.within) in
    ⊎_elim
    (λ (ended : (message_of bytes).ended ≡ true). absurd (⊎_elim
    (λ (some : text < next).
    let own : List ℕ = front_lines kind.Text (drop text bytes) in
    let feed : HasFeed (drop (length own) (drop text bytes)) = query_feed text own bytes (ap (λ m. m.ended) (sym (searched_message text next bytes is some)) ∙ ended) in
    let long : next ≤ text + length own =
    omega (
      arith,
      ap length (front_after kind.Text (drop text bytes) (next - text) is.lines),
      length-append (take (next - text) (drop text bytes)) (front_lines kind.Text (drop (next - text) (drop text bytes))),
      length-take (next - text) (drop text bytes),
      length-drop text bytes,
      is.order,
      is.within,
    ) in
    no_feed (text + length own) long (subst HasFeed (drop-drop (length own) text bytes) feed))
    (λ (none : next ≤ text). no_feed empty (omega (arith, none, before)) (ended_feed empty bytes (whole_lines (drop empty bytes)) refl ended))
    (cases_lt text next)))
    (λ open'. open')
    (cases_Bool (message_of bytes).ended)

pub known_searched : (text next : ℕ) (bytes : List ℕ) → IsSearched text next bytes → IsKnown text next next bytes
known_searched text next bytes is = record {
  searched = is;
  order = omega arith;
  within = is.within;
  unfed = λ k low high here. omega (arith, low, high);
}

pub known_nothing : (bytes : List ℕ) → IsKnown 0 0 0 bytes
known_nothing bytes = known_searched 0 0 bytes (searched_nothing bytes)

pub known_append : (text next seen : ℕ) (bytes more : List ℕ) → IsKnown text next seen bytes → IsKnown text next seen (bytes ++ more)
known_append text next seen bytes more is =
    let within : seen ≤ length bytes = is.within in
    record {
      searched = searched_append text next bytes more is.searched;
      order = is.order;
      within = omega (arith, length-append bytes more, within);
      unfed = λ k low high here. is.unfed k low high (let place : k < length bytes = omega (arith, high, within) in grind (arith, common_steps, place, here));
    }

-- no line feed up to the end
known_unfed : (text next seen : ℕ) (bytes : List ℕ) → IsKnown text next seen bytes → ((k : ℕ) → k < length (drop seen bytes) → slice_index (drop seen bytes) k ≡ 10 → ⊥)
    → (k : ℕ) → next ≤ k → k < length bytes → slice_index bytes k ≡ 10 → ⊥
known_unfed text next seen bytes is none k low high here = ⊎_elim
    (λ (seen_it : k < seen). is.unfed k low seen_it here)
    (λ (beyond : seen ≤ k).
    let place : seen + (k - seen) ≡ k = omega (arith, beyond) in
    none (k - seen) (omega (arith, high, beyond, length-drop seen bytes)) (index_after seen (k - seen) bytes ∙ ap (slice_index bytes) place ∙ here))
    (cases_lt k seen)

pub known_all : (text next seen : ℕ) (bytes : List ℕ) → IsKnown text next seen bytes → seen ≡ length bytes → (message_of bytes).ended ≡ false
known_all text next seen bytes is all = unfed_message text next bytes is.searched (λ k low high here. is.unfed k low (omega (arith, high, all)) here)

pub known_line : (text next seen end last : ℕ) (bytes : List ℕ) → IsKnown text next seen bytes → IsLineAt bytes seen end last → end ≡ last → IsKnown text next last bytes
known_line text next seen end last bytes is line same =
    let none = known_unfed text next seen bytes is (none_fed bytes seen end last line same) in
    record {
      searched = is.searched;
      order = omega (arith, is.order, line.more);
      within = line.within;
      unfed = λ k low high here. none k low (omega (arith, high, line.within)) here;
    }

pub unfed_line : (text next seen end last : ℕ) (bytes : List ℕ) → IsKnown text next seen bytes → IsLineAt bytes seen end last → end ≡ last → (message_of bytes).ended ≡ false
unfed_line text next seen end last bytes is line same =
    known_all text next last bytes (known_line text next seen end last bytes is line same) (last_line bytes seen end last line same)
