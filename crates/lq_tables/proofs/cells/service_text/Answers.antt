use Rattle.std.proofs.Common.{◌≡◌, subst, sym}
use Rattle.std.specs.Option.{IfSome}
use Rattle.lq_schema.specs.Value.{Words}
use Rattle.lq_schema.specs.declared.columns.OwnColumn.TheVariants as own
use Rattle.lq_tables.specs.Cells.{own_cell}
use Rattle.lq_tables.proofs.cells.service_text.Goals as goal

pub returns-in-Description-clause-value : goal.returns-in-Description-clause-value
returns-in-Description-clause-value c = λ view.
    subst (λ column. IfSome c.service_description.result (λ text.
    own_cell c.args.live.now.state view c.args.row.now (own.Service column) ≡ Words text.now))
    (sym c.in-Description.is) (c.service_description.ensures.value view)
