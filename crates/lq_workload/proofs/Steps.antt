-- One text more, one draw more and one result of a check more.
use Rattle.std.proofs.Common.{◌≡◌, ℕ, zero, suc, ◌+◌, List, [], ◌++◌, refl, ap, sym, ◌∙◌, add-one, append_assoc, append-nil, arith}
use Rattle.lq_workload.specs.Checks.{after_check, after_checks}
use Rattle.lq_workload.specs.Draws.{after_draw, after_draws}
use Rattle.lq_workload.specs.Texts.{texts_below}
use Rattle.lq_workload.specs.declared.check.Checks.{Checks}

-- ---- texts

texts_none : (text : ℕ → List ℕ) → texts_below 0 text ≡ []
unfolding texts_below
texts_none text = refl

texts_more : (count : ℕ) (text : ℕ → List ℕ) → texts_below (count + 1) text ≡ texts_below count text ++ text count
unfolding texts_below
texts_more count text = rw add-one refl

pub texts_first : (before : List ℕ) (text : ℕ → List ℕ) → before ≡ before ++ texts_below 0 text
texts_first before text = sym (append-nil before) ∙ ap (λ back. before ++ back) (sym (texts_none text))

pub texts_next : (before now next : List ℕ) (count : ℕ) (text : ℕ → List ℕ) → now ≡ before ++ texts_below count text → next ≡ now ++ text count
    → next ≡ before ++ texts_below (count + 1) text
texts_next before now next count text first more =
    more ∙ ap (λ front. front ++ text count) first ∙ append_assoc before (texts_below count text) (text count)
    ∙ ap (λ back. before ++ back) (sym (texts_more count text))

-- ---- draws

pub draws_none : (number : ℕ) → after_draws 0 number ≡ number
unfolding after_draws
draws_none number = refl

pub draws_more : (count number : ℕ) → after_draws (count + 1) number ≡ after_draw (after_draws count number)
unfolding after_draws
draws_more count number = rw add-one refl

-- draws after other draws
pub draws_both : (first more both number : ℕ) → first + more ≡ both → after_draws more (after_draws first number) ≡ after_draws both number
draws_both first zero both number is = draws_none (after_draws first number) ∙ ap (λ n. after_draws n number) (omega (arith, is))
draws_both first (suc more) both number is =
    ap (λ n. after_draws n (after_draws first number)) (sym (add-one more)) ∙ draws_more more (after_draws first number)
    ∙ ap after_draw (draws_both first more (first + more) number refl) ∙ sym (draws_more (first + more) number)
    ∙ ap (λ n. after_draws n number) (omega (arith, is))

-- ---- results of checks

pub checks_none : (checks : Checks) → after_checks 0 checks ≡ checks
unfolding after_checks
checks_none checks = refl

pub checks_more : (count : ℕ) (checks : Checks) → after_checks (count + 1) checks ≡ after_check (after_checks count checks)
unfolding after_checks
checks_more count checks = rw add-one refl

pub ruleset steps = (texts_first, texts_next, draws_none, draws_more, draws_both, checks_none, checks_more)
