-- A message that has ended stays the first one, whatever bytes follow.
use Rattle.std.proofs.Common.{◌≡◌, ℕ, zero, suc, ◌+◌, ◌-◌, ◌<◌, ◌≤◌, ◌==◌, nat_lt, Bool, true, false, cond, List, [], ◌∷◌, ◌++◌, length, take, drop, slice_index, refl, sym, ap, ◌∙◌, subst, arith, append-nil, length-drop, length-append}
use Rattle.std.specs.List.{concat, take_while, position_or_len}
use Rattle.std.proofs.lemmas.Bool.{eqb-true, eqb-false, ltb-true, cases_Bool, cases_lt}
use Rattle.std.proofs.Math.Logic.{⊎_elim}
use Rattle.std.proofs.lemmas.List.{drop-drop, drop-append-le}
use Rattle.std.proofs.lemmas.List.Sums.{take_while-cons, passes_at_first, fails_before_first}
use Rattle.std.proofs.lemmas.Grind.{common_steps}
use Rattle.lq_text.specs.Lines.{whole_lines, line_text}
use Rattle.lq_text.proofs.LineLemmas.{whole_lines-append, whole_to_end, text_to_end}
use Rattle.lq_request.specs.Messages.{command_from, front_lines, has_feed, is_command, is_line_of, message_at, message_of, one_empty_line, query_from}
use Rattle.lq_request.specs.declared.extent.LineKind.{LineKind}
use Rattle.lq_request.specs.declared.extent.LineKind.TheVariants as kind
use Rattle.lq_request.specs.declared.extent.MessageKind.TheVariants as message
use Rattle.lq_request.proofs.FrontLemmas.{passes_first, fails_first}

-- ---- where a line feed stands

abbrev pub feed_place : List ℕ → ℕ
feed_place bytes = position_or_len (λ byte. byte == 10) bytes

pub record HasFeed (bytes : List ℕ) : Type 0 where
  pub within : feed_place bytes < length bytes

has_feed-cons : (byte : ℕ) (bytes : List ℕ) → HasFeed bytes → HasFeed (byte ∷ bytes)
has_feed-cons byte bytes has = let inner : feed_place bytes < length bytes = has.within in record { within = grind (arith, common_steps, inner) }

has_feed-drop : (n : ℕ) (bytes : List ℕ) → HasFeed (drop n bytes) → HasFeed bytes
has_feed-drop zero bytes has = has
has_feed-drop (suc n) [] has = has
has_feed-drop (suc n) (byte ∷ bytes) has = has_feed-cons byte bytes (has_feed-drop n bytes has)

first_line_of : (bytes more : List ℕ) → HasFeed bytes
    → whole_lines (bytes ++ more) ≡ take (feed_place bytes + 1) bytes ∷ whole_lines (drop (feed_place bytes + 1) bytes ++ more)
first_line_of bytes more has = whole_lines-append bytes more (feed_place bytes) has.within
    (λ k low is. eqb-false _ _ (fails_before_first (λ byte. byte == 10) bytes k 0 low) is)
    (eqb-true _ _ (passes_at_first (λ byte. byte == 10) bytes 0 has.within))

pub first_line_alone : (bytes : List ℕ) → HasFeed bytes → whole_lines bytes ≡ take (feed_place bytes + 1) bytes ∷ whole_lines (drop (feed_place bytes + 1) bytes)
first_line_alone bytes has = ap whole_lines (sym (append-nil bytes)) ∙ first_line_of bytes [] has
    ∙ ap (λ rest. take (feed_place bytes + 1) bytes ∷ whole_lines rest) (append-nil (drop (feed_place bytes + 1) bytes))

-- ---- the lines of a kind at the front

abbrev front_of : LineKind → List (List ℕ) → List ℕ
front_of kind lines = concat (take_while (is_line_of kind) lines)

longer : (n k : ℕ) (bytes : List ℕ) → length bytes ≤ n → HasFeed (drop k bytes) → n ≡ 0 → ⊥
longer n k bytes small has none = let within : feed_place (drop k bytes) < length (drop k bytes) = has.within in omega (arith, length-drop k bytes)

-- where a line feed stands after the lines of the kind, they stay, whatever follows
pub front_stable : (kind : LineKind) (n : ℕ) (bytes more : List ℕ) → length bytes ≤ n → HasFeed (drop (length (front_lines kind bytes)) bytes)
    → front_lines kind (bytes ++ more) ≡ front_lines kind bytes
front_stable kind zero bytes more small has = absurd (longer zero _ bytes small has refl)
front_stable kind (suc n) bytes more small has =
    let found : HasFeed bytes = has_feed-drop _ bytes has in
    let feed : ℕ = feed_place bytes in
    let line : List ℕ = take (feed + 1) bytes in
    let rest : List ℕ = drop (feed + 1) bytes in
    let place : feed < length bytes = found.within in
    let line_length : length line ≡ feed + 1 = grind (arith, common_steps, place) in
    let long : front_lines kind (bytes ++ more) ≡ front_of kind (line ∷ whole_lines (rest ++ more)) = ap (front_of kind) (first_line_of bytes more found) in
    let short : front_lines kind bytes ≡ front_of kind (line ∷ whole_lines rest) = ap (front_of kind) (first_line_alone bytes found) in
    let passing : is_line_of kind line ≡ true → front_lines kind (bytes ++ more) ≡ front_lines kind bytes = λ pass.
    let first : front_lines kind bytes ≡ line ++ front_lines kind rest = short ∙ passes_first kind line (whole_lines rest) pass in
    let size : length (front_lines kind bytes) ≡ feed + 1 + length (front_lines kind rest) = ap length first ∙ length-append line (front_lines kind rest) ∙ ap (λ n. n + length (front_lines kind rest)) line_length in
    let beyond : drop (length (front_lines kind bytes)) bytes ≡ drop (length (front_lines kind rest)) rest = ap (λ k. drop k bytes) size ∙ sym (drop-drop (length (front_lines kind rest)) (feed + 1) bytes) in
    let less : length rest ≤ n = omega (arith, length-drop (feed + 1) bytes) in
    long ∙ passes_first kind line (whole_lines (rest ++ more)) pass
    ∙ ap (λ front. line ++ front) (front_stable kind n rest more less (subst HasFeed beyond has)) ∙ sym first in
    let failing : is_line_of kind line ≡ false → front_lines kind (bytes ++ more) ≡ front_lines kind bytes = λ fail.
    long ∙ fails_first kind line (whole_lines (rest ++ more)) fail ∙ sym (short ∙ fails_first kind line (whole_lines rest) fail) in
    ⊎_elim passing failing (cases_Bool (is_line_of kind line))

-- ---- the empty line after a message

abbrev one_of : List (List ℕ) → List ℕ
one_of lines = concat (take 1 (take_while (is_line_of kind.Empty) lines))

one_cond : (pass : Bool) (line : List ℕ) (lines others : List (List ℕ)) → concat (take 1 (cond pass (line ∷ lines) [])) ≡ concat (take 1 (cond pass (line ∷ others) []))
one_cond true line lines others = refl
one_cond false line lines others = refl

-- the first line alone decides it
one_by_first : (line : List ℕ) (lines others : List (List ℕ)) → one_of (line ∷ lines) ≡ one_of (line ∷ others)
one_by_first line lines others =
    ap (λ front. concat (take 1 front)) (take_while-cons (is_line_of kind.Empty) line lines)
    ∙ one_cond (is_line_of kind.Empty line) line _ _
    ∙ sym (ap (λ front. concat (take 1 front)) (take_while-cons (is_line_of kind.Empty) line others))

one_stable : (bytes more : List ℕ) → HasFeed bytes → one_empty_line (bytes ++ more) ≡ one_empty_line bytes
one_stable bytes more has =
    let line : List ℕ = take (feed_place bytes + 1) bytes in
    let rest : List ℕ = drop (feed_place bytes + 1) bytes in
    ap one_of (first_line_of bytes more has) ∙ one_by_first line (whole_lines (rest ++ more)) (whole_lines rest) ∙ sym (ap one_of (first_line_alone bytes has))

-- an empty line has a line feed
empty_line_has_feed : (bytes : List ℕ) → 0 < length (one_empty_line bytes) → HasFeed bytes
empty_line_has_feed [] some = absurd (omega arith)
empty_line_has_feed (byte ∷ bytes) some =
    let all : List ℕ = byte ∷ bytes in
    ⊎_elim (λ low. record { within = low }) (λ high.
    let none : (k : ℕ) → k < length all → slice_index all k ≡ 10 → ⊥ =
    λ k low is. eqb-false _ _ (fails_before_first (λ b. b == 10) all k 0 (omega (arith, high, low))) is in
    let text : length (line_text all) ≡ length all = ap length (text_to_end all (omega arith) none) in
    let fail : is_line_of kind.Empty all ≡ false = grind (arith, text) in
    let front : take_while (is_line_of kind.Empty) (whole_lines all) ≡ [] =
    ap (take_while (is_line_of kind.Empty)) (whole_to_end all (omega arith) none) ∙ take_while-cons (is_line_of kind.Empty) all []
    ∙ ap (λ b. cond b (all ∷ take_while (is_line_of kind.Empty) []) []) fail in
    absurd (omega (arith, some, ap (λ lines. length (concat (take 1 lines))) front)))
    (cases_lt (feed_place all) (length all))

within_of : (k : ℕ) (bytes : List ℕ) → HasFeed (drop k bytes) → k ≤ length bytes
within_of k bytes has = let within : feed_place (drop k bytes) < length (drop k bytes) = has.within in omega (arith, length-drop k bytes)

-- a first line with its line feed
pub line_has_feed : (bytes line : List ℕ) (lines : List (List ℕ)) → whole_lines bytes ≡ line ∷ lines → has_feed line ≡ true → HasFeed bytes
line_has_feed [] line lines whole is = absurd (cc)
line_has_feed (byte ∷ bytes) line lines whole is =
    let all : List ℕ = byte ∷ bytes in
    ⊎_elim (λ low. record { within = low }) (λ high.
    let none : (k : ℕ) → k < length all → slice_index all k ≡ 10 → ⊥ =
    λ k low here. eqb-false _ _ (fails_before_first (λ b. b == 10) all k 0 (omega (arith, high, low))) here in
    let alone : whole_lines all ≡ all ∷ [] = whole_to_end all (omega arith) none in
    let same : line ≡ all = cc in
    absurd (none (length all - 1) (omega arith) (eqb-true _ _ (subst (λ l. has_feed l ≡ true) same is))))
    (cases_lt (feed_place all) (length all))

-- ---- messages

pub message_command : (before : ℕ) (line : List ℕ) (lines : List (List ℕ)) (bytes : List ℕ) → is_command (line_text line) ≡ true
    → message_at before (line ∷ lines) bytes ≡ command_from before line
message_command before line lines bytes is = rw is refl

pub message_query : (before : ℕ) (line : List ℕ) (lines : List (List ℕ)) (bytes : List ℕ) → is_command (line_text line) ≡ false
    → message_at before (line ∷ lines) bytes ≡ query_from before (front_lines kind.Text (drop before bytes)) bytes
message_query before line lines bytes is = rw is refl

-- the end of a query is after a line feed
pub query_feed : (before : ℕ) (text bytes : List ℕ) → (query_from before text bytes).ended ≡ true → HasFeed (drop (length text) (drop before bytes))
query_feed before text bytes ended = subst HasFeed (sym (drop-drop (length text) before bytes)) (empty_line_has_feed _ (ltb-true _ _ ended))

-- a message that has ended has a line feed
pub ended_feed : (before : ℕ) (bytes : List ℕ) (lines : List (List ℕ)) → whole_lines (drop before bytes) ≡ lines
    → (message_at before lines bytes).ended ≡ true → HasFeed (drop before bytes)
ended_feed before bytes [] whole ended = absurd (cc)
ended_feed before bytes (line ∷ lines) whole ended = ⊎_elim
    (λ command. line_has_feed (drop before bytes) line lines whole (ap (λ m. m.ended) (sym (message_command before line lines bytes command)) ∙ ended))
    (λ other. has_feed-drop _ (drop before bytes)
    (query_feed before (front_lines kind.Text (drop before bytes)) bytes (ap (λ m. m.ended) (sym (message_query before line lines bytes other)) ∙ ended)))
    (cases_Bool (is_command (line_text line)))

query_from_same : (before : ℕ) (text bytes more : List ℕ) → one_empty_line (drop (before + length text) more) ≡ one_empty_line (drop (before + length text) bytes)
    → query_from before text more ≡ query_from before text bytes
query_from_same before text bytes more same =
    ap (λ line. record { kind = message.Query; text = text; size = before + length text + length line; ended = nat_lt 0 (length line) }) same

-- a query that has ended stays, whatever follows
query_stable : (before : ℕ) (bytes more : List ℕ) → before ≤ length bytes → (query_from before (front_lines kind.Text (drop before bytes)) bytes).ended ≡ true
    → query_from before (front_lines kind.Text (drop before (bytes ++ more))) (bytes ++ more) ≡ query_from before (front_lines kind.Text (drop before bytes)) bytes
query_stable before bytes more within ended =
    let text : List ℕ = front_lines kind.Text (drop before bytes) in
    let own : HasFeed (drop (length text) (drop before bytes)) = query_feed before text bytes ended in
    let closing : HasFeed (drop (before + length text) bytes) = subst HasFeed (drop-drop (length text) before bytes) own in
    let beyond : drop before (bytes ++ more) ≡ drop before bytes ++ more = drop-append-le before bytes more within in
    let texts : front_lines kind.Text (drop before (bytes ++ more)) ≡ text =
    ap (front_lines kind.Text) beyond ∙ front_stable kind.Text (length (drop before bytes)) (drop before bytes) more (omega arith) own in
    let last : one_empty_line (drop (before + length text) (bytes ++ more)) ≡ one_empty_line (drop (before + length text) bytes) =
    ap one_empty_line (drop-append-le (before + length text) bytes more (within_of _ bytes closing)) ∙ one_stable _ more closing in
    ap (λ own. query_from before own (bytes ++ more)) texts ∙ query_from_same before text bytes (bytes ++ more) last

-- a message that has ended stays, whatever follows
pub message_stable : (bytes more : List ℕ) → (message_of bytes).ended ≡ true → message_of (bytes ++ more) ≡ message_of bytes
unfolding message_of
message_stable bytes more ended =
    let before : ℕ = length (front_lines kind.Empty bytes) in
    let rest : List ℕ = drop before bytes in
    let first : HasFeed rest = ended_feed before bytes (whole_lines rest) refl ended in
    let line : List ℕ = take (feed_place rest + 1) rest in
    let later : List ℕ = drop (feed_place rest + 1) rest in
    let empty : front_lines kind.Empty (bytes ++ more) ≡ front_lines kind.Empty bytes = front_stable kind.Empty (length bytes) bytes more (omega arith) first in
    let low : before ≤ length bytes = within_of before bytes first in
    let lines : whole_lines (drop before (bytes ++ more)) ≡ line ∷ whole_lines (later ++ more) =
    ap whole_lines (drop-append-le before bytes more low) ∙ first_line_of rest more first in
    let long : message_of (bytes ++ more) ≡ message_at before (line ∷ whole_lines (later ++ more)) (bytes ++ more) =
    ap (λ n. message_at n (whole_lines (drop n (bytes ++ more))) (bytes ++ more)) (ap length empty) ∙ ap (λ l. message_at before l (bytes ++ more)) lines in
    let short : message_of bytes ≡ message_at before (line ∷ whole_lines later) bytes = ap (λ l. message_at before l bytes) (first_line_alone rest first) in
    ⊎_elim
    (λ command. long ∙ message_command before line (whole_lines (later ++ more)) (bytes ++ more) command
    ∙ sym (short ∙ message_command before line (whole_lines later) bytes command))
    (λ other. let is : message_of bytes ≡ query_from before (front_lines kind.Text rest) bytes = short ∙ message_query before line (whole_lines later) bytes other in
    long ∙ message_query before line (whole_lines (later ++ more)) (bytes ++ more) other
    ∙ query_stable before bytes more low (ap (λ m. m.ended) (sym is) ∙ ended) ∙ sym is)
    (cases_Bool (is_command (line_text line)))

-- ---- how a message takes bytes

-- a message that has ended takes some
size_at : (before : ℕ) (bytes : List ℕ) (lines : List (List ℕ)) → (message_at before lines bytes).ended ≡ true → 0 < (message_at before lines bytes).size
size_at before bytes [] ended = absurd (cc)
size_at before bytes ([] ∷ lines) ended = ⊎_elim
    (λ command. absurd (let is = ap (λ m. m.ended) (sym (message_command before [] lines bytes command)) ∙ ended in cc))
    (λ other. let is = message_query before [] lines bytes other in
    let some = ltb-true 0 (length (one_empty_line (drop (before + length (front_lines kind.Text (drop before bytes))) bytes))) (ap (λ m. m.ended) (sym is) ∙ ended) in
    subst (λ m. 0 < m.size) (sym is) (omega (arith, some)))
    (cases_Bool (is_command (line_text [])))
size_at before bytes ((byte ∷ line) ∷ lines) ended = ⊎_elim
    (λ command. subst (λ m. 0 < m.size) (sym (message_command before (byte ∷ line) lines bytes command)) (omega arith))
    (λ other. let is = message_query before (byte ∷ line) lines bytes other in
    let some = ltb-true 0 (length (one_empty_line (drop (before + length (front_lines kind.Text (drop before bytes))) bytes))) (ap (λ m. m.ended) (sym is) ∙ ended) in
    subst (λ m. 0 < m.size) (sym is) (omega (arith, some)))
    (cases_Bool (is_command (line_text (byte ∷ line))))

pub message_size : (bytes : List ℕ) → (message_of bytes).ended ≡ true → 0 < (message_of bytes).size
unfolding message_of
message_size bytes ended = size_at _ bytes _ ended

-- and has a kind
kind_at : (before : ℕ) (bytes : List ℕ) (lines : List (List ℕ)) → (message_at before lines bytes).ended ≡ true → (message_at before lines bytes).kind ≡ message.Nothing → ⊥
kind_at before bytes [] ended is = absurd (cc)
kind_at before bytes (line ∷ lines) ended is = ⊎_elim
    (λ command. let other = ap (λ m. m.kind) (sym (message_command before line lines bytes command)) ∙ is in cc)
    (λ query. let other = ap (λ m. m.kind) (sym (message_query before line lines bytes query)) ∙ is in cc)
    (cases_Bool (is_command (line_text line)))

pub message_kind : (bytes : List ℕ) → (message_of bytes).ended ≡ true → (message_of bytes).kind ≡ message.Nothing → ⊥
unfolding message_of
message_kind bytes ended is = kind_at _ bytes _ ended is

-- no bytes are no message
pub message_none : message_of [] ≡ record { kind = message.Nothing; text = []; size = 0; ended = false }
unfolding message_of
message_none = refl
