-- The rows of objects that a base lists.
use Rattle.std.specs.Prelude.{ℕ}
use Rattle.lq_tables.specs.declared.listed.Listed.{Listed}
use Rattle.lq_tables.specs.declared.listed.Listed.TheVariants as listed
use Rattle.lq_tables.specs.declared.row.Row.{Row}
use Rattle.lq_tables.specs.declared.row.Row.TheVariants as row

abbrev pub row_at : Listed → ℕ → Row
row_at listed.Hosts place = row.Host (record { 0 = place })
row_at listed.Services place = row.Service (record { 0 = place })
row_at listed.HostGroups place = row.HostGroup (record { 0 = place })
row_at listed.ServiceGroups place = row.ServiceGroup (record { 0 = place })
row_at listed.Contacts place = row.Contact (record { 0 = place })
row_at listed.ContactGroups place = row.ContactGroup (record { 0 = place })
row_at listed.Commands place = row.Command (record { 0 = place })
row_at listed.Periods place = row.Period (record { 0 = place })
