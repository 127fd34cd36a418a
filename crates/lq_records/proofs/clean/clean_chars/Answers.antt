use Rattle.std.proofs.Common.{rules, ◌++◌, length, drop, ap, sym, ◌∙◌, append_assoc}
use Rattle.std.specs.Prelude.{string_bytes}
use Rattle.lq_records.specs.Clean.{cleaned_after, replacement}
use Rattle.lq_records.proofs.CleanLemmas.{char_kept, byte_replaced}
use Rattle.lq_records.proofs.clean.clean_chars.Goals as goal

pub loop-rest-preserved-in-Some : goal.loop-rest-preserved-in-Some
loop-rest-preserved-in-Some c =
    let whole = string_bytes c.loop-rest.whole in
    let char = c.in-Some.char.now in
    ap (λ front. front ++ cleaned_after 0 c.after-rest.result.now) c.in_ok-push_str-in-Some.ensures.bytes
    ∙ ap (λ rest. (whole ++ char) ++ cleaned_after 0 rest) c.after-rest.ensures
    ∙ append_assoc whole char (cleaned_after 0 (drop (length char) c.loop-rest.rest.now))
    ∙ ap (λ more. whole ++ more) (sym (char_kept c.loop-rest.rest.now char (search rules) (sym c.in-Some.ensures)))
    ∙ c.loop-rest.invariant

pub loop-rest-preserved : goal.loop-rest-preserved
loop-rest-preserved c =
    let whole = string_bytes c.loop-rest.whole in
    ap (λ front. front ++ cleaned_after 0 c.after-rest-in-None.result.now) c.in_ok-push-in-None.ensures.bytes
    ∙ ap (λ rest. (whole ++ replacement) ++ cleaned_after 0 rest) c.after-rest-in-None.ensures
    ∙ append_assoc whole replacement (cleaned_after 0 (drop 1 c.loop-rest.rest.now))
    ∙ ap (λ more. whole ++ more) (sym (byte_replaced c.loop-rest.rest.now (search rules) (sym c.in-None.ensures)))
    ∙ c.loop-rest.invariant
