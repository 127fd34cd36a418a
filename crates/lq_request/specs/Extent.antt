-- Where the first message stands in the bytes.
use Rattle.std.specs.Prelude.{◌≡◌, ℕ, ◌-◌, ◌≤◌, nat_lt, List, take, drop, length}
use Rattle.lq_request.specs.declared.extent.Extent.{Extent}
use Rattle.lq_request.specs.Messages.{Message, message_of}

-- an extent is that of a message at the front of the bytes
pub record IsExtentOf (first : Message) (bytes : List ℕ) (extent : Extent) : Type 0 where
  pub kind : first.kind ≡ extent.kind
  pub text : first.text ≡ take (extent.end - extent.start) (drop extent.start bytes)
  pub size : first.size ≡ extent.next
  pub ended : first.ended ≡ nat_lt extent.end extent.next
  pub order : extent.start ≤ extent.end
  pub next : extent.end ≤ extent.next
  pub within : extent.next ≤ length bytes

-- an extent is that of the first message of the bytes
abbrev pub IsExtent : List ℕ → Extent → Type 0
IsExtent bytes extent = IsExtentOf (message_of bytes) bytes extent
