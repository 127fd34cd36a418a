use Rattle.std.proofs.Common.{◌≡◌, Some, None, true, false, cond, sym, ap}
use Rattle.std.specs.Str.{is_utf8}
use Rattle.std.proofs.lemmas.Bool.{cases_Bool}
use Rattle.std.proofs.lemmas.Str.{IsUtf8-from_is_utf8, is_utf8-from_IsUtf8}
use Rattle.std.proofs.Math.Logic.{⊎_elim}
use Rattle.lq_records.proofs.clean.text_of.Goals as goal

pub returns-in-Ok : goal.returns-in-Ok
returns-in-Ok c = rw (is_utf8-from_IsUtf8 _ c.in-Ok.ensures.cases.1) (search (c.in-Ok.ensures.cases.0))

pub returns-in-Err : goal.returns-in-Err
returns-in-Err c = ⊎_elim
    (λ (is : is_utf8 c.args.bytes.now ≡ true). absurd (c.in-Err.ensures.cases.0 (IsUtf8-from_is_utf8 _ is)))
    (λ (other : is_utf8 c.args.bytes.now ≡ false). sym (ap (λ test. cond test (Some c.args.bytes.now) None) other))
    (cases_Bool (is_utf8 c.args.bytes.now))
