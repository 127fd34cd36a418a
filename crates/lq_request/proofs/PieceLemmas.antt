-- The first piece, by the message at the front.
use Rattle.std.proofs.Common.{◌≡◌, ℕ, ◌+◌, ◌-◌, ◌<◌, ◌≤◌, nat_lt, Bool, true, false, List, [], ◌++◌, length, take, IsTrue, refl, sym, ap, ◌∙◌, arith, append-nil, length-append}
use Rattle.std.proofs.lemmas.List.{take-append-le}
use Rattle.lq_request.specs.Messages.{message_limit, Message, message_of, piece_of, needed_for, first_piece, needed_bytes, IsFirst, Piece, TooLong, More, whole}
use Rattle.lq_request.proofs.ListLemmas.{front_more}
use Rattle.lq_request.proofs.MessageLemmas.{message_stable}

-- ---- a piece, by its message

pub piece_ended : (ended : Bool) (bytes : List ℕ) (first : Message) → first.ended ≡ true → piece_of ended bytes first ≡ whole first.kind first.text
piece_ended ended bytes first is = rw is refl

pub piece_long : (ended : Bool) (bytes : List ℕ) (first : Message) → first.ended ≡ false → message_limit < length bytes → piece_of ended bytes first ≡ TooLong (take message_limit bytes)
piece_long ended bytes first is long = let is_long : nat_lt message_limit (length bytes) ≡ true = grind arith in rw (is, is_long) refl

pub piece_more : (ended : Bool) (bytes : List ℕ) (first : Message) → first.ended ≡ false → length bytes ≤ message_limit → ended ≡ false → piece_of ended bytes first ≡ More
piece_more ended bytes first is short open' = let is_long : nat_lt message_limit (length bytes) ≡ false = grind arith in rw (is, is_long, open') refl

pub piece_last : (ended : Bool) (bytes : List ℕ) (first : Message) → first.ended ≡ false → length bytes ≤ message_limit → ended ≡ true → piece_of ended bytes first ≡ whole first.kind first.text
piece_last ended bytes first is short closed = let is_long : nat_lt message_limit (length bytes) ≡ false = grind arith in rw (is, is_long, closed) refl

-- ---- how many bytes it needs

pub needed_ended : (bytes : List ℕ) (first : Message) → first.ended ≡ true → needed_for bytes first ≡ first.size
needed_ended bytes first is = rw is refl

needed_long : (bytes : List ℕ) (first : Message) → first.ended ≡ false → message_limit < length bytes → needed_for bytes first ≡ message_limit + 1
needed_long bytes first is long = let is_long : nat_lt message_limit (length bytes) ≡ true = grind arith in rw (is, is_long) refl

needed_last : (bytes : List ℕ) (first : Message) → first.ended ≡ false → length bytes ≤ message_limit → needed_for bytes first ≡ length bytes
needed_last bytes first is short = let is_long : nat_lt message_limit (length bytes) ≡ false = grind arith in rw (is, is_long) refl

-- ---- the first piece, whatever follows

abbrev pub window_message : List ℕ → Message
window_message bytes = message_of (take message_limit bytes)

-- a message that has ended
pub first_ended : (ended : Bool) (bytes : List ℕ) → (window_message bytes).ended ≡ true → (window_message bytes).size ≤ length bytes → IsFirst (whole (window_message bytes).kind (window_message bytes).text) ended bytes
unfolding first_piece needed_bytes
first_ended ended bytes is small =
    let same : (more : List ℕ) → window_message (bytes ++ more) ≡ window_message bytes = λ more.
    ap message_of (front_more message_limit bytes more) ∙ message_stable (take message_limit bytes) (take (message_limit - length bytes) more) is in
    record {
      first = λ more closed. sym (ap (piece_of true (bytes ++ more)) (same more) ∙ piece_ended true (bytes ++ more) (window_message bytes) is);
      read = λ more closed. let size : needed_bytes (bytes ++ more) ≡ (window_message bytes).size = ap (needed_for (bytes ++ more)) (same more) ∙ needed_ended (bytes ++ more) (window_message bytes) is in
          omega (arith, size, small);
    }

-- a message that is too long
pub first_long : (ended : Bool) (bytes : List ℕ) → (window_message bytes).ended ≡ false → message_limit < length bytes → IsFirst (TooLong (take message_limit bytes)) ended bytes
unfolding first_piece needed_bytes
first_long ended bytes is long =
    let front : (more : List ℕ) → take message_limit (bytes ++ more) ≡ take message_limit bytes = λ more. take-append-le message_limit bytes more (omega arith) in
    let longer : (more : List ℕ) → message_limit < length (bytes ++ more) = λ more. omega (arith, length-append bytes more) in
    record {
      first = λ more closed. sym (ap (λ w. piece_of true (bytes ++ more) (message_of w)) (front more) ∙ piece_long true (bytes ++ more) (window_message bytes) is (longer more) ∙ ap TooLong (front more));
      read = λ more closed. let size : needed_bytes (bytes ++ more) ≡ message_limit + 1 = ap (λ w. needed_for (bytes ++ more) (message_of w)) (front more) ∙ needed_long (bytes ++ more) (window_message bytes) is (longer more) in
          omega (arith, size, long);
    }

-- the last piece of an input
pub first_last : (bytes : List ℕ) (piece : Piece) → (window_message bytes).ended ≡ false → length bytes ≤ message_limit → first_piece true bytes ≡ piece → IsFirst piece true bytes
unfolding first_piece needed_bytes
first_last bytes piece is short shown =
    let all : (more : List ℕ) → (IsTrue true → more ≡ []) → bytes ++ more ≡ bytes = λ more closed. ap (λ rest. bytes ++ rest) (closed refl) ∙ append-nil bytes in
    record {
      first = λ more closed. sym (ap (first_piece true) (all more closed) ∙ shown);
      read = λ more closed. let size : needed_bytes (bytes ++ more) ≡ length bytes = ap needed_bytes (all more closed) ∙ needed_last bytes (window_message bytes) is short in omega (arith, size);
    }
