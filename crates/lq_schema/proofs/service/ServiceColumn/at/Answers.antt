use Rattle.std.proofs.Common.{◌++◌, [], map}
use Rattle.lq_schema.specs.Service.{service_front}
use Rattle.lq_schema.specs.Object.{object_columns}
use Rattle.lq_schema.specs.Status.{status_columns}
use Rattle.lq_schema.specs.declared.service.ServiceColumn.TheVariants as service
use Rattle.lq_schema.specs.declared.object.ObjectColumn.TheVariants as object
use Rattle.lq_schema.specs.declared.status.StatusColumn.TheVariants as status
use Rattle.lq_schema.proofs.SchemaLemmas.{at_block}
use Rattle.lq_schema.proofs.service.ServiceColumn.at.Goals as goal

pub returns-then-i-statuses : goal.returns-then-i-statuses
returns-then-i-statuses c = at_block service_front
    service.Object object_columns (map service.Status status_columns)
    c.args.i object.DisplayName c.if-i-objects.false c.if-i-statuses.true

pub returns-else-i-statuses : goal.returns-else-i-statuses
returns-else-i-statuses c = at_block (service_front ++ map service.Object object_columns)
    service.Status status_columns []
    c.args.i status.State c.if-i-statuses.false c.requires
