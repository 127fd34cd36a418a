use Rattle.std.proofs.Common.{◌≡◌, ◌&&◌, drop}
use Rattle.std.specs.List.{list_all}
use Rattle.lq_output.specs.Escapes.{is_plain_byte}
use Rattle.lq_output.proofs.json_text.has_no_escape.Given as goal

abbrev pub invariant-loop-byte : goal.invariant-loop-byte
invariant-loop-byte l = (l.plain && list_all is_plain_byte (drop l.byte-index l.text)) ≡ list_all is_plain_byte l.text
