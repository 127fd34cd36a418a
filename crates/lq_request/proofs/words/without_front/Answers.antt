use Rattle.std.proofs.Common.{subst, sym}
use Rattle.std.specs.Str.{IsUtf8}
use Rattle.lq_request.proofs.TextLemmas.{cut_front_utf8}
use Rattle.lq_request.proofs.words.without_front.Goals as goal

pub as_text-requires : goal.as_text-requires
as_text-requires c = cut_front_utf8 _ _ c.blank_length.ensures.front (subst IsUtf8 (sym c.as_bytes-bytes.ensures.value) c.utf8.text)
