use Rattle.std.proofs.Common.{◌++◌, [], map}
use Rattle.lq_schema.specs.Host.{host_front, host_links}
use Rattle.lq_schema.specs.Object.{object_columns}
use Rattle.lq_schema.specs.Status.{status_columns}
use Rattle.lq_schema.specs.ServiceCounter.{service_counters}
use Rattle.lq_schema.specs.declared.host.HostColumn.TheVariants as host
use Rattle.lq_schema.specs.declared.object.ObjectColumn.TheVariants as object
use Rattle.lq_schema.specs.declared.status.StatusColumn.TheVariants as status
use Rattle.lq_schema.specs.declared.service_counter.ServiceCounter.TheVariants as counter
use Rattle.lq_schema.proofs.SchemaLemmas.{at_block}
use Rattle.lq_schema.proofs.host.HostColumn.at.Goals as goal

pub returns-then-i-links : goal.returns-then-i-links
returns-then-i-links c = at_block host_front
    host.Object object_columns
    (host_links ++ map host.Status status_columns ++ map host.Counter service_counters)
    c.args.i object.DisplayName c.if-i-objects.false c.if-i-links.true

pub returns-then-i-statuses : goal.returns-then-i-statuses
returns-then-i-statuses c = at_block (host_front ++ map host.Object object_columns)
    (λ link. link) host_links
    (map host.Status status_columns ++ map host.Counter service_counters)
    c.args.i host.Name c.if-i-links.false c.if-i-statuses.true

pub returns-then-i-services : goal.returns-then-i-services
returns-then-i-services c = at_block (host_front ++ map host.Object object_columns ++ host_links)
    host.Status status_columns
    (map host.Counter service_counters)
    c.args.i status.State c.if-i-statuses.false c.if-i-services.true

pub returns-else-i-services : goal.returns-else-i-services
returns-else-i-services c = at_block
    (host_front ++ map host.Object object_columns ++ host_links ++ map host.Status status_columns)
    host.Counter service_counters []
    c.args.i counter.NumServices c.if-i-services.false c.requires
