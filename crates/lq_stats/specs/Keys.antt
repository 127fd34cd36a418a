-- The values that keys hold.
use Rattle.std.specs.Prelude.{List, map}
use Rattle.lq_schema.specs.Value.{Value, Number, Millionths, Words, Texts, Numbers, Pairs}
use Rattle.lq_stats.specs.Groups.{Key}
use Rattle.lq_stats.specs.declared.key.KeyCell.{KeyCell}
use Rattle.lq_stats.specs.declared.key.KeyCell.TheVariants as part

abbrev pub cell_value : KeyCell → Value
cell_value (part.Int number) = Number number
cell_value (part.Micro millionths) = Millionths millionths
cell_value (part.Text text) = Words text
cell_value (part.List texts) = Texts texts
cell_value (part.Nums numbers) = Numbers numbers
cell_value (part.Pairs pairs) = Pairs pairs

abbrev pub key_values : List KeyCell → Key
key_values cells = map cell_value cells
