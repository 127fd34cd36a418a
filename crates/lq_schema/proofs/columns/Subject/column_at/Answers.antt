use Rattle.lq_schema.specs.Host.{host_columns}
use Rattle.lq_schema.specs.Service.{service_columns}
use Rattle.lq_schema.specs.declared.columns.OwnColumn.TheVariants as own
use Rattle.lq_schema.proofs.SchemaLemmas.{mapped_at}
use Rattle.lq_schema.proofs.columns.Subject.column_at.Goals as goal

pub returns-in-Host : goal.returns-in-Host
returns-in-Host c = rw c.in-Host.is (mapped_at own.Host host_columns c.args.i c.at.result c.at.ensures)

pub returns-in-Service : goal.returns-in-Service
returns-in-Service c = rw c.in-Service.is (mapped_at own.Service service_columns c.args.i c.at-in-Service.result c.at-in-Service.ensures)
