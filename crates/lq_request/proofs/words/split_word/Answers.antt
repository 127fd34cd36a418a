use Rattle.std.proofs.Common.{rules, subst, sym}
use Rattle.std.specs.Str.{IsUtf8}
use Rattle.lq_request.proofs.TextLemmas.{after_word_utf8, word_utf8}
use Rattle.lq_request.proofs.words.split_word.Goals as goal

pub as_text-word-requires : goal.as_text-word-requires
as_text-word-requires c = word_utf8 _ _ c.word_length-end.ensures.front (search rules) (subst IsUtf8 (sym c.as_bytes-bytes.ensures.value) c.utf8.text)

pub as_text-rest-requires : goal.as_text-rest-requires
as_text-rest-requires c = after_word_utf8 _ _ c.word_length-end.ensures.front (search rules) (subst IsUtf8 (sym c.as_bytes-bytes.ensures.value) c.utf8.text)
