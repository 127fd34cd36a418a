use Rattle.std.proofs.Common.{map, sym, ap, ◌∙◌}
use Rattle.std.proofs.lemmas.Str.{IsUtf8-from_is_utf8}
use Rattle.lq_request.proofs.TextLemmas.{borrowed_utf8, later_utf8}
use Rattle.lq_request.proofs.request.first_line.Goals as goal

pub table_of_words-requires : goal.table_of_words-requires
table_of_words-requires c =
    later_utf8 _ _ _ c.in-Some.ensures.cases.0
    (borrowed_utf8 _ c.args.line.now (ap (map (λ word. word.now)) c.deref.ensures.value ∙ c.in_ok-words.ensures) (IsUtf8-from_is_utf8 _ (sym c.if-not-is_text.ensures)))
