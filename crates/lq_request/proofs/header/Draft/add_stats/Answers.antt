use Rattle.std.proofs.Common.{map, ap, ◌∙◌}
use Rattle.lq_text.specs.Blanks.{words_of}
use Rattle.lq_request.proofs.TextLemmas.{borrowed_utf8}
use Rattle.lq_request.proofs.header.Draft.add_stats.Goals as goal

pub first-requires : goal.first-requires
first-requires c = borrowed_utf8 _ c.args.value.now (ap (map (λ word. word.now)) c.deref.ensures.value ∙ c.in_ok-words.ensures ∙ ap words_of c.as_bytes.ensures.value) c.utf8.value

pub add_aggregate-requires : goal.add_aggregate-requires
add_aggregate-requires c = borrowed_utf8 _ c.args.value.now (ap (map (λ word. word.now)) c.deref-in-Some.ensures.value ∙ c.in_ok-words.ensures ∙ ap words_of c.as_bytes.ensures.value) c.utf8.value
