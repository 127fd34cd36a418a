-- The pieces come in the order of the messages.
use Rattle.std.proofs.Common.{◌≡◌, ℕ, zero, suc, ◌-◌, ◌<◌, ◌≤◌, Bool, true, false, List, [], ◌∷◌, ◌++◌, length, take, drop, refl, sym, ap, ◌∙◌, subst, arith, append-nil, length-append, length-drop}
use Rattle.std.proofs.lemmas.Bool.{cases_Bool, cases_lt}
use Rattle.std.proofs.lemmas.List.{drop-append-le, take-append-le}
use Rattle.std.proofs.lemmas.Grind.{common_steps}
use Rattle.std.proofs.Math.Logic.{⊎_elim}
use Rattle.lq_request.specs.Messages.{message_limit, Message, message_of, with_later, first_piece, messages, messages_up_to, needed_bytes, piece_of, rest_after, whole, whole_messages, IsCutOff, IsFirst, IsInOrder, IsLast, IsNext, Piece, Query, Command, TooLong, Empty, More}
use Rattle.lq_request.specs.declared.extent.MessageKind.{MessageKind}
use Rattle.lq_request.specs.declared.extent.MessageKind.TheVariants as message
use Rattle.lq_request.proofs.ListLemmas.{front_more}
use Rattle.lq_request.proofs.MessageLemmas.{message_kind, message_none, message_size, message_stable}
use Rattle.lq_request.proofs.PieceLemmas.{window_message, needed_ended, piece_ended, piece_last, piece_long, piece_more}
use Rattle.lq_request.proofs.CutLemmas.{after_ended, after_last, rest_of_message}

-- ---- whole messages

abbrev IsMessage : Piece → Type 0
IsMessage (Query text) = Unit {0}
IsMessage (Command text) = Unit {0}
IsMessage (TooLong front) = ⊥
IsMessage Empty = ⊥
IsMessage More = ⊥

-- a piece that is a message comes from one that has ended, or from the last one
piece_cases : (ended : Bool) (bytes : List ℕ) (first : Message) → IsMessage (piece_of ended bytes first) → first.ended ≡ false → (ended ≡ true) × (length bytes ≤ message_limit)
piece_cases ended bytes first is open' = ⊎_elim
    (λ long. absurd (subst IsMessage (piece_long ended bytes first open' long) is))
    (λ short. ⊎_elim (λ (closed : ended ≡ true). (closed, short)) (λ (more : ended ≡ false). absurd (subst IsMessage (piece_more ended bytes first open' short more) is)) (cases_Bool ended))
    (cases_lt message_limit (length bytes))

piece_closed : (ended : Bool) (bytes : List ℕ) → IsMessage (first_piece ended bytes) → (window_message bytes).ended ≡ false → ended ≡ true
unfolding first_piece
piece_closed ended bytes is open' = (piece_cases ended bytes (window_message bytes) is open').0

window_none : window_message [] ≡ record { kind = message.Nothing; text = []; size = 0; ended = false }
window_none = ap message_of (grind (arith, common_steps)) ∙ message_none

first_of_none : (ended : Bool) → IsMessage (first_piece ended []) → ⊥
unfolding first_piece
first_of_none true is = subst IsMessage (ap (piece_of true []) window_none) is
first_of_none false is = subst IsMessage (ap (piece_of false []) window_none) is

some_length : (bytes : List ℕ) → (bytes ≡ [] → ⊥) → 0 < length bytes
some_length [] some = absurd (some refl)
some_length (byte ∷ bytes) some = omega arith

-- ---- what is after a message

-- the piece of a message that has ended
ended_piece : (ended : Bool) (bytes : List ℕ) → (window_message bytes).ended ≡ true → first_piece ended bytes ≡ whole (window_message bytes).kind (window_message bytes).text
unfolding first_piece
ended_piece ended bytes is = piece_ended ended bytes (window_message bytes) is

ended_rest : (bytes : List ℕ) → (window_message bytes).ended ≡ true
    → rest_after (whole (window_message bytes).kind (window_message bytes).text) bytes ≡ drop (window_message bytes).size bytes
ended_rest bytes is =
    rest_of_message (window_message bytes).kind (window_message bytes).text bytes (message_kind (take message_limit bytes) is) ∙ after_ended bytes (window_message bytes) is

last_rest : (ended : Bool) (bytes : List ℕ) → (window_message bytes).ended ≡ false → IsMessage (first_piece ended bytes) → rest_after (first_piece ended bytes) bytes ≡ []
unfolding first_piece
last_rest ended bytes open' is =
    let last = piece_cases ended bytes (window_message bytes) is open' in
    ap (λ p. rest_after p bytes) (piece_last ended bytes (window_message bytes) open' last.1 last.0)
    ∙ after_last (window_message bytes).kind (window_message bytes).text bytes open'

-- a message takes a byte at least
less : (ended : Bool) (bytes : List ℕ) → IsMessage (first_piece ended bytes) → length (rest_after (first_piece ended bytes) bytes) < length bytes
less ended bytes is =
    let some : 0 < length bytes = some_length bytes (λ none. first_of_none ended (subst (λ b. IsMessage (first_piece ended b)) none is)) in
    ⊎_elim
    (λ (has : (window_message bytes).ended ≡ true).
    let rest = ap (λ p. rest_after p bytes) (ended_piece ended bytes has) ∙ ended_rest bytes has in
    let size = message_size (take message_limit bytes) has in
    omega (arith, ap length rest, length-drop (window_message bytes).size bytes, size, some))
    (λ (open' : (window_message bytes).ended ≡ false). omega (arith, ap length (last_rest ended bytes open' is), some))
    (cases_Bool (window_message bytes).ended)

-- ---- the first of all messages

same_before : (piece : Piece) (a b : List Piece) → (IsMessage piece → a ≡ b) → with_later piece a ≡ with_later piece b
same_before (Query text) a b same = ap (λ l. Query text ∷ l) (same tt)
same_before (Command text) a b same = ap (λ l. Command text ∷ l) (same tt)
same_before (TooLong front) a b same = refl
same_before Empty a b same = refl
same_before More a b same = refl

none_before : (piece : Piece) (later : List Piece) → IsMessage piece → with_later piece later ≡ piece ∷ later
none_before (Query text) later is = refl
none_before (Command text) later is = refl
none_before (TooLong front) later is = absurd is
none_before Empty later is = absurd is
none_before More later is = absurd is

-- no bytes hold no message
up_to_none : (ended : Bool) (most : ℕ) → messages_up_to ended most [] ≡ []
unfolding messages_up_to first_piece
up_to_none ended zero = refl
up_to_none true (suc most) = ap (λ m. with_later (piece_of true [] m) (messages_up_to true most (rest_after (piece_of true [] m) []))) window_none
up_to_none false (suc most) = ap (λ m. with_later (piece_of false [] m) (messages_up_to false most (rest_after (piece_of false [] m) []))) window_none

-- as many as there are bytes are enough
enough : (ended : Bool) (most other : ℕ) (bytes : List ℕ) → length bytes ≤ most → length bytes ≤ other → messages_up_to ended most bytes ≡ messages_up_to ended other bytes
unfolding messages_up_to
enough ended most other [] small low = up_to_none ended most ∙ sym (up_to_none ended other)
enough ended zero other (byte ∷ bytes) small low = absurd (omega (arith, small))
enough ended (suc most) zero (byte ∷ bytes) small low = absurd (omega (arith, low))
enough ended (suc most) (suc other) (byte ∷ bytes) small low =
    same_before (first_piece ended (byte ∷ bytes)) _ _
    (λ is. enough ended most other (rest_after (first_piece ended (byte ∷ bytes)) (byte ∷ bytes)) (omega (arith, small, less ended (byte ∷ bytes) is)) (omega (arith, low, less ended (byte ∷ bytes) is)))

step_up : (ended : Bool) (most : ℕ) (bytes : List ℕ) → length bytes ≤ suc most
    → messages_up_to ended (suc most) bytes ≡ with_later (first_piece ended bytes) (messages_up_to ended (length (rest_after (first_piece ended bytes) bytes)) (rest_after (first_piece ended bytes) bytes))
unfolding messages_up_to
step_up ended most bytes small = same_before (first_piece ended bytes) _ _
    (λ is. enough ended most (length (rest_after (first_piece ended bytes) bytes)) (rest_after (first_piece ended bytes) bytes) (omega (arith, small, less ended bytes is)) (omega arith))

-- the first piece, and the messages after it
step : (ended : Bool) (bytes : List ℕ)
    → messages_up_to ended (length bytes) bytes ≡ with_later (first_piece ended bytes) (messages_up_to ended (length (rest_after (first_piece ended bytes) bytes)) (rest_after (first_piece ended bytes) bytes))
step ended bytes = enough ended (length bytes) (suc (length bytes)) bytes (omega arith) (omega arith) ∙ step_up ended (length bytes) bytes (omega arith)

-- where the first piece of the whole is a message, and what is after it is known
first_message : (ended : Bool) (piece : Piece) (bytes left : List ℕ) → IsMessage piece → first_piece ended bytes ≡ piece → rest_after piece bytes ≡ left
    → messages_up_to ended (length bytes) bytes ≡ piece ∷ messages_up_to ended (length left) left
first_message ended piece bytes left is first rest =
    step ended bytes ∙ ap (λ p. with_later p (messages_up_to ended (length (rest_after p bytes)) (rest_after p bytes))) first
    ∙ none_before piece _ is ∙ ap (λ b. piece ∷ messages_up_to ended (length b) b) rest

-- where it isn't, it ends them
first_other : (ended : Bool) (bytes : List ℕ) (piece : Piece) → first_piece ended bytes ≡ piece
    → messages_up_to ended (length bytes) bytes ≡ with_later piece (messages_up_to ended (length (rest_after piece bytes)) (rest_after piece bytes))
first_other ended bytes piece first = step ended bytes ∙ ap (λ p. with_later p (messages_up_to ended (length (rest_after p bytes)) (rest_after p bytes))) first

-- ---- however the bytes go on

same_window : (bytes more : List ℕ) → (window_message bytes).ended ≡ true → window_message (bytes ++ more) ≡ window_message bytes
same_window bytes more is = ap message_of (front_more message_limit bytes more) ∙ message_stable (take message_limit bytes) (take (message_limit - length bytes) more) is

ended_first : (closed : Bool) (bytes more : List ℕ) → (window_message bytes).ended ≡ true
    → first_piece closed (bytes ++ more) ≡ whole (window_message bytes).kind (window_message bytes).text
ended_first closed bytes more is =
    ended_piece closed (bytes ++ more) (ap (λ m. m.ended) (same_window bytes more is) ∙ is) ∙ ap (λ m. whole m.kind m.text) (same_window bytes more is)

ended_after : (bytes more : List ℕ) → (window_message bytes).ended ≡ true → (window_message bytes).size ≤ length bytes
    → rest_after (whole (window_message bytes).kind (window_message bytes).text) (bytes ++ more)
    ≡ rest_after (whole (window_message bytes).kind (window_message bytes).text) bytes ++ more
ended_after bytes more is small =
    ap (λ m. rest_after (whole m.kind m.text) (bytes ++ more)) (sym (same_window bytes more is))
    ∙ ended_rest (bytes ++ more) (ap (λ m. m.ended) (same_window bytes more is) ∙ is)
    ∙ ap (λ m. drop m.size (bytes ++ more)) (same_window bytes more is)
    ∙ drop-append-le (window_message bytes).size bytes more small ∙ ap (λ b. b ++ more) (sym (ended_rest bytes is))

-- the bytes that show an ended message are held
size_held : (ended : Bool) (held : List ℕ) (piece : Piece) → IsFirst piece ended held → (window_message held).ended ≡ true → (window_message held).size ≤ length held
unfolding needed_bytes
size_held ended held piece first is =
    let read : needed_bytes held ≤ length held = subst (λ b. needed_bytes b ≤ length held) (append-nil held) (first.read [] (λ _. refl)) in
    omega (arith, read, needed_ended held (window_message held) is)

cut_off : (ended : Bool) (held : List ℕ) (piece : Piece) → IsMessage piece → piece ≡ first_piece ended held → IsFirst piece ended held → IsCutOff ended held piece (rest_after piece held)
unfolding messages whole_messages
cut_off ended held piece some is first =
    let own : IsMessage (first_piece ended held) = subst IsMessage is some in
    let fewer : length (rest_after piece held) < length held = subst (λ p. length (rest_after p held) < length held) (sym is) (less ended held own) in
    ⊎_elim
    (λ (has : (window_message held).ended ≡ true).
    let same : piece ≡ whole (window_message held).kind (window_message held).text = is ∙ ended_piece ended held has in
    let small = size_held ended held piece first has in
    let found : (closed : Bool) (more : List ℕ) → messages_up_to closed (length (held ++ more)) (held ++ more)
    ≡ piece ∷ messages_up_to closed (length (rest_after piece held ++ more)) (rest_after piece held ++ more) =
    λ closed more. first_message closed piece (held ++ more) (rest_after piece held ++ more) some (ended_first closed held more has ∙ sym same)
    (subst (λ p. rest_after p (held ++ more) ≡ rest_after p held ++ more) (sym same) (ended_after held more has small)) in
    record { all = λ more _. found true more; known = λ more _. found false more; fewer = fewer })
    (λ (open' : (window_message held).ended ≡ false).
    let closed : ended ≡ true = piece_closed ended held own open' in
    record {
      all = λ more none. subst (λ rest. messages (held ++ rest) ≡ piece ∷ messages (rest_after piece held ++ rest)) (sym (none closed))
          (first_message true piece (held ++ []) (rest_after piece held ++ []) some
          (ap (first_piece true) (append-nil held) ∙ ap (λ e. first_piece e held) (sym closed) ∙ sym is)
          (ap (rest_after piece) (append-nil held) ∙ sym (append-nil (rest_after piece held))));
      known = λ more other. absurd (let no : true ≡ false = sym closed ∙ other in cc);
      fewer = fewer;
    })
    (cases_Bool (window_message held).ended)

-- ---- the other pieces

whole_not_long : (k : MessageKind) (text front : List ℕ) → whole k text ≡ TooLong front → ⊥
whole_not_long message.Query text front is = cc
whole_not_long message.Command text front is = cc
whole_not_long message.Nothing text front is = cc

-- a piece that is too long comes from a message that hasn't ended, of more bytes
long_cases : (ended : Bool) (bytes front : List ℕ) (first : Message) → piece_of ended bytes first ≡ TooLong front → (first.ended ≡ false) × (message_limit < length bytes)
long_cases ended bytes front first is = ⊎_elim
    (λ (has : first.ended ≡ true). absurd (whole_not_long first.kind first.text front (sym (piece_ended ended bytes first has) ∙ is)))
    (λ (open' : first.ended ≡ false). ⊎_elim (λ long. (open', long)) (λ short. ⊎_elim
    (λ (closed : ended ≡ true). absurd (whole_not_long first.kind first.text front (sym (piece_last ended bytes first open' short closed) ∙ is)))
    (λ (more : ended ≡ false). absurd (let same = sym (piece_more ended bytes first open' short more) ∙ is in cc))
    (cases_Bool ended))
    (cases_lt message_limit (length bytes)))
    (cases_Bool first.ended)

long_first : (closed : Bool) (bytes more : List ℕ) → (window_message bytes).ended ≡ false → message_limit < length bytes → first_piece closed (bytes ++ more) ≡ TooLong (take message_limit bytes)
unfolding first_piece
long_first closed bytes more is long =
    let front : take message_limit (bytes ++ more) ≡ take message_limit bytes = take-append-le message_limit bytes more (omega arith) in
    let longer : message_limit < length (bytes ++ more) = omega (arith, length-append bytes more) in
    ap (λ w. piece_of closed (bytes ++ more) (message_of w)) front ∙ piece_long closed (bytes ++ more) (window_message bytes) is longer ∙ ap TooLong front

last_one : (ended : Bool) (held front : List ℕ) → TooLong front ≡ first_piece ended held
    → (front ≡ take message_limit held) × IsLast ended held (TooLong front)
unfolding messages whole_messages first_piece
last_one ended held front is =
    let long = long_cases ended held front (window_message held) (sym is) in
    let shown : TooLong front ≡ TooLong (take message_limit held) = is ∙ piece_long ended held (window_message held) long.0 long.1 in
    let same : front ≡ take message_limit held = cc in (
      same,
      subst (λ shown. IsLast ended held (TooLong shown)) (sym same) (record {
        all = λ more _. first_other true (held ++ more) _ (long_first true held more long.0 long.1);
        known = λ more _. first_other false (held ++ more) _ (long_first false held more long.0 long.1);
      }),
    )

pub in_order : (ended : Bool) (held : List ℕ) (piece : Piece) → IsNext ended held piece → IsInOrder ended held piece (rest_after piece held)
unfolding messages whole_messages
in_order ended held (Query text) next = cut_off ended held (Query text) tt next.is (next.first (λ same. cc))
in_order ended held (Command text) next = cut_off ended held (Command text) tt next.is (next.first (λ same. cc))
in_order ended held (TooLong front) next = last_one ended held front next.is
in_order ended held Empty next =
    let first = next.first (λ same. cc) in
    first_other true held Empty (ap (first_piece true) (sym (append-nil held)) ∙ sym (first.first [] (λ _. refl)))
in_order ended held More next =
    let open' = (next.more refl).0 in first_other false held More (ap (λ e. first_piece e held) (sym open') ∙ sym next.is)
