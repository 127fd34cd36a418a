use Rattle.std.proofs.Common.{sym}
use Rattle.std.proofs.lemmas.Str.{IsUtf8-from_is_utf8}
use Rattle.lq_request.proofs.header.Draft.add_line.Goals as goal

pub add_parts-requires : goal.add_parts-requires
add_parts-requires c = IsUtf8-from_is_utf8 _ (sym c.if-not-is_text.ensures)
