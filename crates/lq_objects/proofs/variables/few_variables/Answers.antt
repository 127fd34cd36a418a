use Rattle.std.proofs.Common.{sym, ap, ◌∙◌}
use Rattle.lq_objects.specs.Objects.{is_variable}
use Rattle.lq_objects.proofs.VariableLemmas.{variables-more, variables-same, with_pair}
use Rattle.lq_objects.proofs.variables.few_variables.Goals.{then-is_variable+in_ok-variable_of+in_ok-put_few, else-is_variable}
use Rattle.lq_objects.proofs.variables.few_variables.Goals as goal

pub loop-line-preserved : goal.loop-line-preserved
loop-line-preserved c =
    let before = c.loop-line.variables.items in
    let tested = ap is_variable (sym c.text.ensures) ∙ sym c.is_variable.ensures in
    elim c.if-is_variable.branch [
      | then-is_variable+in_ok-variable_of+in_ok-put_few w ↦
          ap (λ variables. variables.items) w.variables-is
          ∙ variables-more c.args.lines.now c.loop-line.line-index c.line-item.result before _ c.loop-line-test.true c.line-item.is
          c.loop-line.invariant (tested ∙ w.if-is_variable.true) (w.in_ok-put_few.ensures ∙ ap (with_pair before) w.in_ok-variable_of.ensures)
      | else-is_variable w ↦
          ap (λ variables. variables.items) w.variables-is
          ∙ variables-same c.args.lines.now c.loop-line.line-index c.line-item.result before c.loop-line-test.true c.line-item.is
          c.loop-line.invariant (tested ∙ w.if-is_variable.false)
    ]
