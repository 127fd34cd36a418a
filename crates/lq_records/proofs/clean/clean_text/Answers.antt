use Rattle.std.proofs.Common.{◌≡◌, IfOk, sym, ◌∙◌, subst}
use Rattle.std.proofs.lemmas.Str.{is_utf8-from_IsUtf8}
use Rattle.lq_records.specs.Clean.{text_of_bytes}
use Rattle.lq_records.proofs.CleanLemmas.{cleaned-utf8}
use Rattle.lq_records.proofs.clean.clean_text.Goals as goal

pub returns-in-Ok : goal.returns-in-Ok
returns-in-Ok c =
    let whole : c.in-Ok.text.now ≡ text_of_bytes c.args.b.now = c.in-Ok.ensures.cases.0 ∙ sym (cleaned-utf8 c.args.b.now (is_utf8-from_IsUtf8 _ c.in-Ok.ensures.cases.1)) in
    subst (λ bytes. IfOk c.new.result (λ text. text ≡ bytes)) whole c.new.ensures
