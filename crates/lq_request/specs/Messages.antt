-- How the bytes of a connection fall into messages.
use Rattle.std.specs.Prelude.{◌≡◌, ◌≢◌, ℕ, zero, suc, ◌+◌, ◌-◌, ◌<◌, ◌≤◌, ◌==◌, nat_lt, Bool, true}
use Rattle.std.specs.Prelude.{false, not, ◌&&◌, List, [], ◌∷◌, ◌++◌, length, take, drop, bytes_eq}
use Rattle.std.specs.Prelude.{codes, slice_index, IsTrue, if◌then◌else◌}
use Rattle.std.specs.List.{concat, take_while}
use Rattle.lq_text.specs.Blanks.{is_blank, without_front}
use Rattle.lq_text.specs.Lines.{whole_lines, line_text}
use Rattle.lq_request.specs.declared.extent.LineKind.{LineKind}
use Rattle.lq_request.specs.declared.extent.LineKind.TheVariants as kind
use Rattle.lq_request.specs.declared.extent.MessageKind.{MessageKind}
use Rattle.lq_request.specs.declared.extent.MessageKind.TheVariants as message

-- ---- lines

-- whether a line is of a kind: without text, or with some
abbrev pub is_line_of : LineKind → List ℕ → Bool
is_line_of kind.Empty line = length (line_text line) == 0
is_line_of kind.Text line = not (length (line_text line) == 0)

-- the lines of a kind at the front of the bytes
abbrev pub front_lines : LineKind → List ℕ → List ℕ
front_lines kind bytes = concat (take_while (is_line_of kind) (whole_lines bytes))

-- the empty line at the front of the bytes, where one stands there
abbrev pub one_empty_line : List ℕ → List ℕ
one_empty_line bytes = concat (take 1 (take_while (is_line_of kind.Empty) (whole_lines bytes)))

-- whether a line has its line feed
abbrev pub has_feed : List ℕ → Bool
has_feed line = slice_index line (length line - 1) == 10

-- ---- commands

-- a word ends where nothing follows it, or a blank
abbrev pub ends_word : List ℕ → Bool
ends_word [] = true
ends_word (byte ∷ bytes) = is_blank byte

-- a command's line is `COMMAND`, or begins with `COMMAND` and a blank
unfoldable pub is_command : List ℕ → Bool
is_command line = bytes_eq (take 7 line) (codes "COMMAND") && ends_word (drop 7 line)

-- a command's text follows the word and its blanks
unfoldable pub command_text : List ℕ → List ℕ
command_text line = without_front (drop 7 line)

-- ---- a message

-- A message at the front of the bytes: its kind; the lines of a query, or the text of a command;
-- whether its end has come; and how many bytes it then takes, with the empty lines before it and
-- the one that ends a query.
pub record Message : Type 0 where
  pub kind : MessageKind
  pub text : List ℕ
  pub size : ℕ
  pub ended : Bool

-- a command is one line, which ends with its line feed
abbrev pub command_from : ℕ → List ℕ → Message
command_from before line = record {
  kind = message.Command;
  text = command_text (line_text line);
  size = before + length line;
  ended = has_feed line;
}

-- a query has lines with text, and ends with an empty line
abbrev pub query_from : ℕ → List ℕ → List ℕ → Message
query_from before text bytes = record {
  kind = message.Query;
  text = text;
  size = before + length text + length (one_empty_line (drop (before + length text) bytes));
  ended = nat_lt 0 (length (one_empty_line (drop (before + length text) bytes)));
}

abbrev pub no_message : ℕ → Message
no_message before = record { kind = message.Nothing; text = []; size = before; ended = false }

-- the first of the lines after the empty ones tells the kind
abbrev pub message_at : ℕ → List (List ℕ) → List ℕ → Message
message_at before [] bytes = no_message before
message_at before (line ∷ lines) bytes =
    if is_command (line_text line) then command_from before line
    else query_from before (front_lines kind.Text (drop before bytes)) bytes

unfoldable pub message_of : List ℕ → Message
message_of bytes =
    let before : ℕ = length (front_lines kind.Empty bytes) in
    message_at before (whole_lines (drop before bytes)) bytes

-- ---- pieces

-- the most bytes of a message, its end included
abbrev pub message_limit : ℕ
message_limit = 65536

-- What stands first in the bytes of a connection.
pub data Piece : Type 0 where
  Query : List ℕ → Piece
  Command : List ℕ → Piece
  TooLong : List ℕ → Piece
  Empty : Piece
  More : Piece

-- a whole message
abbrev pub whole : MessageKind → List ℕ → Piece
whole message.Query text = Query text
whole message.Command text = Command text
whole message.Nothing text = Empty

-- A message has to end within its first 65,536 bytes where the bytes go on past them. `ended` says
-- that no more bytes come.
abbrev pub piece_of : Bool → List ℕ → Message → Piece
piece_of ended bytes first =
    if first.ended then whole first.kind first.text
    else if nat_lt message_limit (length bytes) then TooLong (take message_limit bytes)
    else if not ended then More
    else whole first.kind first.text

unfoldable pub first_piece : Bool → List ℕ → Piece
first_piece ended bytes = piece_of ended bytes (message_of (take message_limit bytes))

-- the bytes after a message; one without its end takes all
abbrev pub after_message : List ℕ → Message → List ℕ
after_message bytes first = if first.ended then drop first.size bytes else []

-- the bytes after the first piece; where more are wanted, all of them
abbrev pub rest_after : Piece → List ℕ → List ℕ
rest_after (Query text) bytes = after_message bytes (message_of (take message_limit bytes))
rest_after (Command text) bytes = after_message bytes (message_of (take message_limit bytes))
rest_after (TooLong front) bytes = drop message_limit bytes
rest_after Empty bytes = []
rest_after More bytes = bytes

-- ---- all messages, in order

-- a piece and the messages after it; after one that is too long there is none
abbrev pub with_later : Piece → List Piece → List Piece
with_later (Query text) later = Query text ∷ later
with_later (Command text) later = Command text ∷ later
with_later (TooLong front) later = TooLong front ∷ []
with_later Empty later = []
with_later More later = []

-- the first messages of the bytes, at most so many
unfoldable pub messages_up_to : Bool → ℕ → List ℕ → List Piece
messages_up_to ended zero bytes = []
messages_up_to ended (suc most) bytes =
    with_later (first_piece ended bytes)
    (messages_up_to ended most (rest_after (first_piece ended bytes) bytes))

-- the messages of a whole input: each takes a byte at least
unfoldable pub messages : List ℕ → List Piece
messages input = messages_up_to true (length input) input

-- the messages whose end stands in the bytes, where more bytes may come
unfoldable pub whole_messages : List ℕ → List Piece
whole_messages bytes = messages_up_to false (length bytes) bytes

-- ---- what a cutter shows

-- how many bytes of a whole input show its first piece
abbrev pub needed_for : List ℕ → Message → ℕ
needed_for input first =
    if first.ended then first.size
    else if nat_lt message_limit (length input) then message_limit + 1
    else length input

unfoldable pub needed_bytes : List ℕ → ℕ
needed_bytes input = needed_for input (message_of (take message_limit input))

-- The piece is the first one of the input, however it goes on; after `ended` it doesn't go on.
pub record IsFirst (piece : Piece) (ended : Bool) (held : List ℕ) : Type 0 where
  pub first : (rest : List ℕ) → (IsTrue ended → rest ≡ [])
      → piece ≡ first_piece true (held ++ rest)
  pub read : (rest : List ℕ) → (IsTrue ended → rest ≡ [])
      → needed_bytes (held ++ rest) ≤ length held

-- The piece stands first in the bytes that are held. It is `More` only where no message is whole,
-- and then there is room for another byte.
pub record IsNext (ended : Bool) (held : List ℕ) (piece : Piece) : Type 0 where
  pub is : piece ≡ first_piece ended held
  pub first : piece ≢ More → IsFirst piece ended held
  pub more : piece ≡ More → (ended ≡ false) × (length held ≤ message_limit)

-- The message is the first one of the input, and of those that are known to be whole, before those
-- of what is left, however the input goes on. Less is left than was held.
pub record IsCutOff (ended : Bool) (held : List ℕ) (piece : Piece) (left : List ℕ) : Type 0 where
  pub all : (rest : List ℕ) → (IsTrue ended → rest ≡ [])
      → messages (held ++ rest) ≡ piece ∷ messages (left ++ rest)
  pub known : (rest : List ℕ) → ended ≡ false
      → whole_messages (held ++ rest) ≡ piece ∷ whole_messages (left ++ rest)
  pub fewer : length left < length held

-- The too long message is the last one of the input, however it goes on.
pub record IsLast (ended : Bool) (held : List ℕ) (piece : Piece) : Type 0 where
  pub all : (rest : List ℕ) → (IsTrue ended → rest ≡ [])
      → messages (held ++ rest) ≡ piece ∷ []
  pub known : (rest : List ℕ) → ended ≡ false
      → whole_messages (held ++ rest) ≡ piece ∷ []

-- Pieces come in the order of the messages: `left` is what is held after the piece. Of a message
-- that is too long the first 65,536 bytes are shown.
abbrev pub IsInOrder : Bool → List ℕ → Piece → List ℕ → Type 0
IsInOrder ended held (Query text) left = IsCutOff ended held (Query text) left
IsInOrder ended held (Command text) left = IsCutOff ended held (Command text) left
IsInOrder ended held (TooLong front) left =
    (front ≡ take message_limit held) × IsLast ended held (TooLong front)
IsInOrder ended held Empty left = messages held ≡ []
IsInOrder ended held More left = whole_messages held ≡ []
