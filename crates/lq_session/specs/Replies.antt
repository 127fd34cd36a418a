-- What a connection is answered, over all its messages.
use Rattle.std.specs.Prelude.{ℕ, ◌+◌, nat_le, Bool, true, false, not, ◌||◌, Option, Some, None}
use Rattle.std.specs.Prelude.{Result, Ok, Err, List, [], ◌∷◌, ◌++◌, codes, length, take}
use Rattle.std.specs.Prelude.{if◌then◌else◌}
use Rattle.std.specs.List.{list_any}
use Rattle.lq_events.specs.declared.update.Update.{Update}
use Rattle.lq_commands.specs.Orders.{order_of}
use Rattle.lq_commands.specs.declared.order.Order.{Order}
use Rattle.lq_live.specs.State.{State, Counted}
use Rattle.lq_live.specs.Step.{step}
use Rattle.lq_request.specs.Messages.{Piece, Query, Command, TooLong, Empty, More, messages}
use Rattle.lq_request.specs.Request.{Refused, request_in}
use Rattle.lq_request.specs.declared.request.Request.{Request}
use Rattle.lq_request.specs.Style.{style_of}
use Rattle.lq_output.specs.Header.{refusal_text}
use Rattle.lq_query.specs.Answer.{answer_of}
use Rattle.lq_records.specs.declared.refusal.Refusal.{Refusal}

-- ---- one message

-- the bytes of a query's reply; the text of a refusal is written where the query asks for the line
-- of 16 bytes
abbrev pub reply_to : Result Request Refused → State → List ℕ
reply_to (Ok request) s = (answer_of request s).bytes
reply_to (Err refused) s = refusal_text refused.refusal refused.style.fixed16

-- whether the connection goes on after a query
abbrev pub keeps : Result Request Refused → Bool
keeps (Ok request) = request.keep
keeps (Err refused) = refused.style.keep

-- what refuses a message that is too long
abbrev pub too_long : Refusal
too_long = record { code = 413; text = codes "request too large" }

-- what refuses a message that memory runs out for
abbrev pub out_of_memory : Refusal
out_of_memory = record { code = 500; text = codes "out of memory" }

-- The bytes that a message is answered with at a state. A too long message is refused in the style
-- of its front. A command never gets a reply.
abbrev pub reply_to_piece : Piece → State → List ℕ
reply_to_piece (Query text) s = reply_to (request_in text) s
reply_to_piece (Command text) s = []
reply_to_piece (TooLong front) s = refusal_text too_long (style_of front).fixed16
reply_to_piece Empty s = []
reply_to_piece More s = []

-- The bytes that a message is answered with where memory runs out for it: the refusal, in the
-- style of the message.
abbrev pub memory_reply : Piece → List ℕ
memory_reply (Query text) = refusal_text out_of_memory (style_of text).fixed16
memory_reply (Command text) = []
memory_reply (TooLong front) = refusal_text out_of_memory (style_of front).fixed16
memory_reply Empty = []
memory_reply More = []

-- the update of an order: the connection has the number 0, and its updates are counted from 0 on
abbrev pub update_of : ℕ → Order → Update
update_of seq order =
    record { origin = 0; seq = seq; time = order.time; text = order.text; act = order.act }

-- a command takes one step; one without a time is skipped
abbrev pub after_order : Counted → Option Order → Counted
after_order at None = at
after_order at (Some order) =
    record { state = step at.state (update_of at.count order); count = at.count + 1 }

-- the state after a message, and how many updates led to it
abbrev pub after_piece : Counted → Piece → Counted
after_piece at (Query text) = at
after_piece at (Command text) = after_order at (order_of at.state.base text)
after_piece at (TooLong front) = at
after_piece at Empty = at
after_piece at More = at

-- whether a message is the last one of its connection: a query that doesn't keep it, or one that is
-- too long
abbrev pub is_last : Piece → Bool
is_last (Query text) = not (keeps (request_in text))
is_last (Command text) = false
is_last (TooLong front) = true
is_last Empty = true
is_last More = true

-- ---- all messages

-- each message is answered at the state after the messages before it, up to the last one
abbrev pub replies_from : Counted → List Piece → List ℕ
replies_from at [] = []
replies_from at (piece ∷ later) =
    reply_to_piece piece at.state
    ++ (if is_last piece then [] else replies_from (after_piece at piece) later)

abbrev pub opening : State → Counted
opening s = record { state = s; count = 0 }

-- the most messages that a connection is served
abbrev pub most_messages : ℕ
most_messages = 10000

-- the bytes that are written for messages, of which the first 10,000 are served
unfoldable pub replies_to : State → List Piece → List ℕ
replies_to s pieces = replies_from (opening s) (take most_messages pieces)

-- the bytes that are written for a whole input
abbrev pub replies : State → List ℕ → List ℕ
replies s input = replies_to s (messages input)

-- whether the connection ends within messages: one is its last, or there are 10,000
unfoldable pub is_over : List Piece → Bool
is_over pieces = nat_le most_messages (length pieces) || list_any is_last pieces
