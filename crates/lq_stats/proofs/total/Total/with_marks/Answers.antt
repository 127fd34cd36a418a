use Rattle.std.proofs.Common.{map, ap, refl, sym, subst, ◌≡◌, ◌∙◌, ◌+◌, ⊎_elim}
use Rattle.lq_stats.specs.Columns.{with_column}
use Rattle.lq_stats.specs.declared.cell.StatCell.TheVariants as cell
use Rattle.lq_stats.specs.declared.total.Total.{Total}
use Rattle.lq_stats.specs.declared.total.Total.TheVariants as total
use Rattle.lq_stats.proofs.ColumnLemmas.{counted_more, without_numbers}
use Rattle.lq_stats.proofs.total.Total.with_marks.Goals as goal

pub returns-in-Count : goal.returns-in-Count
returns-in-Count c =
    ap (λ more. total.Count (c.in-Count.count + more)) c.marked_by_both.ensures.both
    ∙ counted_more c.in-Count.count c.args.marks.now c.args.counted.now
    ∙ ap (λ old. with_column c.args.marks.now old (map cell.Counted c.args.counted.now)) (sym c.in-Count.is)

pub returns-in-Sum : goal.returns-in-Sum
returns-in-Sum c =
    let Same : Total → Type 0 = λ old. old ≡ with_column c.args.marks.now old (map cell.Counted c.args.counted.now) in
    ⊎_elim
    (λ sum. subst Same (sym sum.1) (without_numbers (total.Sum sum.0) (λ mark. refl) c.args.marks.now c.args.counted.now))
    (⊎_elim
    (λ least. subst Same (sym least.1) (without_numbers (total.Min least.0) (λ mark. refl) c.args.marks.now c.args.counted.now))
    (⊎_elim
    (λ greatest. subst Same (sym greatest.1) (without_numbers (total.Max greatest.0) (λ mark. refl) c.args.marks.now c.args.counted.now))
    (λ mean. subst Same (sym mean.1) (without_numbers (total.Avg mean.0) (λ mark. refl) c.args.marks.now c.args.counted.now))))
    c.in-Sum.is
