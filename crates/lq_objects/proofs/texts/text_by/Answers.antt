use Rattle.std.proofs.Common.{◌≡◌, true, sym, ◌∙◌, subst}
use Rattle.std.specs.Str.{is_utf8, IsUtf8}
use Rattle.std.proofs.lemmas.Slice.Eq.{bytes_eq-Decides}
use Rattle.std.proofs.lemmas.Str.{is_utf8-from_IsUtf8}
use Rattle.lq_records.proofs.CleanLemmas.{cleaned-utf8}
use Rattle.lq_objects.proofs.texts.text_by.Goals as goal

pub returns-then-eq : goal.returns-then-eq
returns-then-eq c =
    let same : c.as_bytes.result.now ≡ c.args.value.now = (bytes_eq-Decides _ _).0 (sym c.eq.ensures ∙ c.if-eq.true) in
    let utf8 : is_utf8 c.args.value.now ≡ true = is_utf8-from_IsUtf8 _ (subst IsUtf8 same c.as_bytes.ensures.utf8) in
    sym c.as_str.ensures ∙ sym c.as_bytes.ensures.value ∙ same ∙ sym (cleaned-utf8 c.args.value.now utf8)
