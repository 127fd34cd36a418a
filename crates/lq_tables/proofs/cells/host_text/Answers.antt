use Rattle.std.proofs.Common.{◌≡◌, subst, sym}
use Rattle.std.specs.Option.{IfSome}
use Rattle.lq_schema.specs.Value.{Words}
use Rattle.lq_schema.specs.declared.columns.OwnColumn.TheVariants as own
use Rattle.lq_tables.specs.Cells.{own_cell}
use Rattle.lq_tables.proofs.cells.host_text.Goals as goal

pub returns-in-Name-clause-value : goal.returns-in-Name-clause-value
returns-in-Name-clause-value c = λ view.
    subst (λ column. IfSome c.host_name.result (λ text.
    own_cell c.args.live.now.state view c.args.row.now (own.Host column) ≡ Words text.now))
    (sym c.in-Name.is) (c.host_name.ensures.value view)
