use Rattle.lq_request.proofs.TextLemmas.{without_end_utf8}
use Rattle.lq_request.proofs.words.without_end.Goals as goal

pub as_text-requires : goal.as_text-requires
as_text-requires c = rw (c.trim_end.ensures, c.as_bytes.ensures.value) (without_end_utf8 c.args.text.now c.utf8.text)
