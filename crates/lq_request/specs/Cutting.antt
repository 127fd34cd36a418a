-- What a call of `next_message` shows, and what it leaves.
use Rattle.std.specs.Prelude.{◌≡◌, ℕ, Bool, ◌-◌, ◌≤◌, List, take, drop, length}
use Rattle.lq_request.specs.declared.cut.Cutting.{Cutting}
use Rattle.lq_request.specs.declared.cut.Cutting.TheVariants as cutting
use Rattle.lq_request.specs.declared.cut.Found.{Found}
use Rattle.lq_request.specs.declared.cut.Found.TheVariants as found
use Rattle.lq_request.specs.Messages.{message_limit, Piece, Query, Command, TooLong, Empty, More}
use Rattle.lq_request.specs.Messages.{whole, rest_after, IsNext}

-- the piece, without where it lies in memory
abbrev pub lent_piece : Cutting → Piece
lent_piece (cutting.Query text) = Query text.now
lent_piece (cutting.Command text) = Command text.now
lent_piece (cutting.TooLong bytes) = TooLong bytes.now
lent_piece cutting.Empty = Empty
lent_piece cutting.More = More

-- ---- by places

-- the piece that the places show
abbrev pub found_piece : List ℕ → Found → Piece
found_piece bytes (found.Message extent) =
    whole extent.kind (take (extent.end - extent.start) (drop extent.start bytes))
found_piece bytes found.TooLong = TooLong (take message_limit bytes)
found_piece bytes found.More = More

abbrev pub taken_by : Found → ℕ
taken_by (found.Message extent) = extent.next
taken_by found.TooLong = message_limit
taken_by found.More = 0

-- the places are within the bytes
abbrev pub IsWithin : List ℕ → Found → Type 0
IsWithin bytes (found.Message extent) =
    (extent.start ≤ extent.end) × (extent.end ≤ extent.next) × (extent.next ≤ length bytes)
IsWithin bytes found.TooLong = message_limit ≤ length bytes
IsWithin bytes found.More = length bytes ≤ message_limit

-- the places show what stands first in the bytes
pub record Shows (ended : Bool) (bytes : List ℕ) (found : Found) : Type 0 where
  pub next : IsNext ended bytes (found_piece bytes found)
  pub rest : rest_after (found_piece bytes found) bytes ≡ drop (taken_by found) bytes
  pub within : IsWithin bytes found
