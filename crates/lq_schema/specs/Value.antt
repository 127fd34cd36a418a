-- The values of cells, without where they lie in memory.
use Rattle.std.specs.Prelude.{ℕ, ℤ, pos, List, []}
use Rattle.lq_schema.specs.declared.value.Val.{Val}
use Rattle.lq_schema.specs.declared.value.Val.TheVariants as val
use Rattle.lq_schema.specs.declared.columns.ColKind.{ColKind}
use Rattle.lq_schema.specs.declared.columns.ColKind.TheVariants as kind

-- a whole number, a number in millionths, the bytes of a text, or a list of texts, of numbers or of
-- services
pub data Value : Type 0 where
  Number : ℤ → Value
  Millionths : ℤ → Value
  Words : List ℕ → Value
  Texts : List (List ℕ) → Value
  Numbers : List ℕ → Value
  Pairs : List (List ℕ × List ℕ) → Value

-- what a value says
abbrev pub meaning_of : Val → Value
meaning_of (val.Int number) = Number number
meaning_of (val.Micro micro) = Millionths micro.millionths
meaning_of (val.Str text) = Words text.now
meaning_of (val.List texts) = Texts texts
meaning_of (val.Nums numbers) = Numbers numbers
meaning_of (val.Pairs pairs) = Pairs pairs
meaning_of (val.Own text) = Words text

-- the value of a cell without an object, by its column's kind
abbrev pub empty_value : ColKind → Value
empty_value kind.Int = Number (pos 0)
empty_value kind.Str = Words []
empty_value kind.List = Texts []
empty_value kind.Nums = Numbers []
empty_value kind.Pairs = Pairs []
