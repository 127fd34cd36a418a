-- Texts and lists of them, without where they lie in memory.
use Rattle.std.specs.Prelude.{ℕ, List, map}
use Rattle.std.specs.Borrow.{Bor}
use Rattle.std.specs.Option.{option_copied}
use Rattle.lq_objects.specs.Blocks.{Part}
use Rattle.lq_objects.specs.declared.part.Part as declared

-- the texts that are lent
abbrev pub lent_texts : List (Bor (List ℕ)) → List (List ℕ)
lent_texts texts = map (λ text. text.now) texts

-- a part as its lines
abbrev pub part_of : declared.Part → Part
part_of part = record { lines = part.lines.now; closing = option_copied part.closing }
