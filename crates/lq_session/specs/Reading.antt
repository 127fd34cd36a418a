-- How much of an input is read, and what is written by then.
use Rattle.std.specs.Prelude.{◌≡◌, ℕ, ◌≤◌, ◌⊎◌, true, false, Option, List, ◌∷◌, ◌++◌, length}
use Rattle.std.specs.Io.KnownBytes.{Appends, Consumes, IsAtEnd}
use Rattle.lq_outside.specs.Faults.{Rose}
use Rattle.lq_outside.specs.Sinks.{AppendsFront}
use Rattle.lq_live.specs.State.{State}
use Rattle.lq_request.specs.Messages.{Piece, messages, whole_messages}
use Rattle.lq_session.specs.Replies.{is_over, memory_reply, replies, replies_to}

-- the most bytes that are read at once
abbrev pub read_limit : ℕ
read_limit = 65536

-- some of the input was read, or nothing
pub record ReadsSome (old left : Option (List ℕ)) : Type 0 where
  pub taken : List ℕ
  pub consumed : Consumes old left taken

-- The input was read to its end, or at least to the end of the message that ended the connection,
-- or past the first 65,536 bytes of one that is too long.
pub record ReadsAll (old left : Option (List ℕ)) : Type 0 where
  pub taken : List ℕ
  pub consumed : Consumes old left taken
  pub enough : IsAtEnd left ⊎ (is_over (whole_messages taken) ≡ true)

-- At most one read came after a point of the input up to which the connection doesn't end within
-- the whole messages. It took at most 65,536 bytes.
pub record ReadsNoFurther {Input : Type 0} (left_in : Input → Option (List ℕ))
    (one_read : Input → Input → Type 0) (old new : Input) : Type 0 where
  pub point : Input
  pub before : List ℕ
  pub last : List ℕ
  pub consumed : Consumes (left_in old) (left_in point) before
  pub goes_on : is_over (whole_messages before) ≡ false
  pub taken : Consumes (left_in point) (left_in new) last
  pub once : (new ≡ point) ⊎ one_read point new
  pub few : length last ≤ read_limit

-- the connection doesn't end within the messages that are whole in what was read
pub record ReadsPart (old left : Option (List ℕ)) : Type 0 where
  pub taken : List ℕ
  pub consumed : Consumes old left taken
  pub goes_on : is_over (whole_messages taken) ≡ false

-- the replies to the messages that are whole in what was read were written
pub record RepliesToPart (s : State) (old left held_old held : Option (List ℕ)) : Type 0 where
  pub taken : List ℕ
  pub consumed : Consumes old left taken
  pub written : Appends held_old held (replies_to s (whole_messages taken))

-- the bytes were written, or a write failed and a front of them was written
abbrev pub AppendsOrFaults : ℕ → ℕ → Option (List ℕ) → Option (List ℕ) → List ℕ → Type 0
AppendsOrFaults before now old new bytes =
    Appends old new bytes ⊎ (Rose before now × AppendsFront old new bytes)

-- The replies to the first messages of the input were written, within which the connection doesn't
-- end, and then what the next message is answered with where memory runs out for it, or a front of
-- that where a write failed.
pub record RepliesToFirst (s : State) (input : List ℕ) (before now : ℕ)
    (held_old held : Option (List ℕ)) : Type 0 where
  pub first : List Piece
  pub next : Piece
  pub later : List Piece
  pub all : messages input ≡ first ++ next ∷ later
  pub goes_on : is_over first ≡ false
  pub between : Option (List ℕ)
  pub served : Appends held_old between (replies_to s first)
  pub refused : AppendsOrFaults before now between held (memory_reply next)

-- What was written is a front of the replies to the messages that were read: to those that are
-- whole in what was read, or, where the input was read to its end, to all.
pub record RepliesToRead (s : State) (old left held_old held : Option (List ℕ)) : Type 0 where
  pub taken : List ℕ
  pub consumed : Consumes old left taken
  pub front : (IsAtEnd left × AppendsFront held_old held (replies s taken))
      ⊎ AppendsFront held_old held (replies_to s (whole_messages taken))
