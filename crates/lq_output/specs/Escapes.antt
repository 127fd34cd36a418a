-- Which texts stand in a body as they are.
use Rattle.std.specs.Prelude.{ℕ, Bool, true, ◌&&◌, ◌==◌, List, not, nat_le}
use Rattle.std.specs.List.{list_all, list_any}
use Rattle.lq_output.specs.Cells.{is_special}
use Rattle.lq_records.specs.declared.format.Format.{Format}
use Rattle.lq_records.specs.declared.format.Format.TheVariants as format

-- a byte that JSON doesn't escape: no control character, `"` or `\`
abbrev pub is_plain_byte : ℕ → Bool
is_plain_byte byte = nat_le 32 byte && not (byte == 34) && not (byte == 92)

-- whether a text is written as it is, but for the quotes around it in json
abbrev pub is_as_it_is : Format → List ℕ → Bool
is_as_it_is format.Csv text = true
is_as_it_is format.Quoted text = not (list_any is_special text)
is_as_it_is format.Json text = list_all is_plain_byte text
