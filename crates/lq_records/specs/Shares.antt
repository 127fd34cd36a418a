-- How the code keeps a text.
use Rattle.std.specs.Prelude.{ℕ, ⊤, List, [], drop}
use Rattle.std.specs.Arc.{arc_str_bytes}
use Rattle.std.specs.Str.{IsCharBoundary}
use Rattle.lq_records.specs.declared.text.Share.{Share}
use Rattle.lq_records.specs.declared.text.Share.TheVariants as share

-- the bytes of the text
abbrev pub bytes_of_share : Share → List ℕ
bytes_of_share share.Nothing = []
bytes_of_share (share.End from whole) = drop from (arc_str_bytes whole)

-- a character begins where the text does
abbrev pub IsShare : Share → Type 0
IsShare share.Nothing = ⊤
IsShare (share.End from whole) = IsCharBoundary (arc_str_bytes whole) from
