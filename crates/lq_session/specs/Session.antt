-- What the parts of a session do.
use Rattle.std.specs.Prelude.{◌≡◌, ℕ, ◌+◌, ◌<◌, ◌≤◌, Bool, true, false, IsTrue, IfSome, Option}
use Rattle.std.specs.Prelude.{List, [], ◌∷◌, ◌++◌, length}
use Rattle.std.specs.Io.KnownBytes.{Appends, Consumes, IsAtEnd}
use Rattle.lq_outside.specs.Sinks.{AppendsFront}
use Rattle.lq_live.specs.State.{State, Counted}
use Rattle.lq_request.specs.Messages.{message_limit, Piece, messages, whole_messages, IsCutOff}
use Rattle.lq_session.specs.Reading.{AppendsOrFaults, ReadsPart, ReadsSome, RepliesToPart}
use Rattle.lq_session.specs.Reading.{RepliesToRead, read_limit}
use Rattle.lq_session.specs.Replies.{after_piece, is_last, memory_reply, replies, reply_to_piece}
use Rattle.lq_session.specs.declared.session.Next.{Next}
use Rattle.lq_session.specs.declared.session.Next.TheVariants as next
use Rattle.lq_session.specs.declared.session.ServeErr.{ServeErr}
use Rattle.lq_session.specs.declared.session.ServeErr.TheVariants as error

-- ---- reading

-- a read took at most 65,536 bytes from the input and put them after those that are held; none at
-- the end alone
pub record Fills (ended : Bool) (left_old left_new : Option (List ℕ))
    (old new : List ℕ) : Type 0 where
  pub bytes : List ℕ
  pub few : length bytes ≤ read_limit
  pub taken : Consumes left_old left_new bytes
  pub held : new ≡ old ++ bytes
  pub at_end : ended ≡ true → IsAtEnd left_new
  pub more : ended ≡ false → length old < length new
  pub small : length new ≤ message_limit + 1

-- ---- one message

-- The message stands first in the bytes that are held, however the input goes on.
pub record ComesFirst (ended : Bool) (held : List ℕ) (piece : Piece) : Type 0 where
  pub all : (rest : List ℕ) → (IsTrue ended → rest ≡ [])
      → (later : List Piece) × (messages (held ++ rest) ≡ piece ∷ later)
  pub known : (rest : List ℕ) → ended ≡ false
      → (later : List Piece) × (whole_messages (held ++ rest) ≡ piece ∷ later)

-- a message was cut off and served, and the connection goes on
pub record Serves (ended : Bool) (held left : List ℕ) (old new : Counted)
    (out_old out : Option (List ℕ)) : Type 0 where
  pub piece : Piece
  pub cut : IsCutOff ended held piece left
  pub kept : is_last piece ≡ false
  pub state : new ≡ after_piece old piece
  pub written : Appends out_old out (reply_to_piece piece old.state)

-- the last message of the connection was served
pub record ServesLast (ended : Bool) (held : List ℕ) (old : Counted)
    (out_old out : Option (List ℕ)) : Type 0 where
  pub piece : Piece
  pub first : ComesFirst ended held piece
  pub last : is_last piece ≡ true
  pub written : Appends out_old out (reply_to_piece piece old.state)

-- nothing was written, and no message is left at the end of the input
pub record FindsNone (ended : Bool) (held : List ℕ) (out_old out : Option (List ℕ)) : Type 0 where
  pub end : ended ≡ true
  pub none : messages held ≡ []
  pub written : Appends out_old out []

-- nothing was done, and more bytes may come
pub record WantsMore (ended : Bool) (held left : List ℕ) (old new : Counted)
    (out_old out : Option (List ℕ)) : Type 0 where
  pub end : ended ≡ false
  pub none : whole_messages held ≡ []
  pub same : left ≡ held
  pub small : length held ≤ message_limit
  pub state : new ≡ old
  pub written : Appends out_old out []

abbrev pub Does : Next → Bool → List ℕ → List ℕ → Counted → Counted → Option (List ℕ)
    → Option (List ℕ) → Type 0
Does next.On ended held left old new out_old out = Serves ended held left old new out_old out
Does next.Last ended held left old new out_old out = ServesLast ended held old out_old out
Does next.Closed ended held left old new out_old out = FindsNone ended held out_old out
Does next.More ended held left old new out_old out = WantsMore ended held left old new out_old out

-- What was written where a message wasn't served: a front of its reply, or where memory ran out
-- for it what it is answered with then.
abbrev pub BreaksReply : ServeErr → Piece → State → ℕ → ℕ → Option (List ℕ) → Option (List ℕ)
    → Type 0
BreaksReply error.Read piece s before now out_old out = ⊥
BreaksReply error.Write piece s before now out_old out =
    AppendsFront out_old out (reply_to_piece piece s)
BreaksReply error.Memory piece s before now out_old out =
    AppendsOrFaults before now out_old out (memory_reply piece)

-- a message stands first and wasn't served
pub record Breaks (fault : ServeErr) (ended : Bool) (held : List ℕ) (old : Counted) (before now : ℕ)
    (out_old out : Option (List ℕ)) : Type 0 where
  pub piece : Piece
  pub first : ComesFirst ended held piece
  pub broken : BreaksReply fault piece old.state before now out_old out

-- ---- a connection

-- What was read where a connection breaks off, and what was written after a failed read or write.
-- What was written where memory ran out, `RepliesToFirst` says.
abbrev pub Stops : ServeErr → State → Option (List ℕ) → Option (List ℕ) → Option (List ℕ)
    → Option (List ℕ) → Type 0
Stops error.Read s old left out_old out = ReadsPart old left × RepliesToPart s old left out_old out
Stops error.Write s old left out_old out =
    RepliesToRead s old left out_old out
    × IfSome old (λ input. AppendsFront out_old out (replies s input))
Stops error.Memory s old left out_old out = ReadsSome old left
