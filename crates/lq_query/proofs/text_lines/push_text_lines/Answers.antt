use Rattle.std.proofs.Common.{rules, ◌≡◌, ◌∷◌, [], List, map, subst, sym, take}
use Rattle.std.proofs.lemmas.Result.{IfOk-weaker}
use Rattle.lq_output.specs.Writing.{Writing}
use Rattle.lq_schema.specs.declared.columns.OwnColumn.{OwnColumn}
use Rattle.lq_schema.specs.declared.columns.OwnColumn.TheVariants as own
use Rattle.lq_schema.specs.declared.host.HostColumn.TheVariants as host_column
use Rattle.lq_schema.specs.declared.service.ServiceColumn.TheVariants as service_column
use Rattle.lq_tables.specs.Cells.{own_cell}
use Rattle.lq_tables.specs.declared.row.Row.{Row}
use Rattle.lq_query.specs.Lines.{HasLines}
use Rattle.lq_query.specs.declared.sight.Sight.{Sight}
use Rattle.lq_query.proofs.text_lines.push_text_lines.Goals as goal

-- the column is the one whose loop was taken
lines_of : (sight : Sight) (old new : Writing) (rows : List Row) (asked taken : OwnColumn) → asked ≡ taken
    → HasLines old new (map (λ row. own_cell sight.live.now.state sight.view.now row taken ∷ []) rows)
    → HasLines old new (map (λ row. own_cell sight.live.now.state sight.view.now row asked ∷ []) rows)
lines_of sight old new rows asked taken is =
    subst (λ (column : OwnColumn). HasLines old new (map (λ row. own_cell sight.live.now.state sight.view.now row column ∷ []) rows)) (sym is)

pub returns-in-Host-Name-clause-lines : goal.returns-in-Host-Name-clause-lines
returns-in-Host-Name-clause-lines c =
    let is : c.args.column.own ≡ own.Host host_column.Name = search rules in
    IfOk-weaker c.push_hosts.result _ _ (λ count. lines_of c.args.sight.now _ _ (take count c.args.rows.now) _ _ is)
    c.push_hosts.ensures.lines

pub returns-in-Host : goal.returns-in-Host
returns-in-Host c = record {
  within = c.push_hosts-in-Host.ensures.within;
  lines = IfOk-weaker c.push_hosts-in-Host.result _ _ (λ count. lines_of c.args.sight.now _ _ (take count c.args.rows.now) _ _ c.in-Host.is)
      c.push_hosts-in-Host.ensures.lines;
  memory = c.push_hosts-in-Host.ensures.memory;
}

pub returns-in-Service-Description-clause-lines : goal.returns-in-Service-Description-clause-lines
returns-in-Service-Description-clause-lines c =
    let is : c.args.column.own ≡ own.Service service_column.Description = search rules in
    IfOk-weaker c.push_services.result _ _ (λ count. lines_of c.args.sight.now _ _ (take count c.args.rows.now) _ _ is)
    c.push_services.ensures.lines

pub returns-in-Service : goal.returns-in-Service
returns-in-Service c = record {
  within = c.push_services-in-Service.ensures.within;
  lines = IfOk-weaker c.push_services-in-Service.result _ _ (λ count. lines_of c.args.sight.now _ _ (take count c.args.rows.now) _ _ c.in-Service.is)
      c.push_services-in-Service.ensures.lines;
  memory = c.push_services-in-Service.ensures.memory;
}
