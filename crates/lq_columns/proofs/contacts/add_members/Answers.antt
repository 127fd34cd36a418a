use Rattle.std.proofs.Common.{◌∙◌, ap}
use Rattle.lq_columns.specs.Distinct.{with_new}
use Rattle.lq_columns.specs.Names.{members_of}
use Rattle.lq_columns.proofs.Distinct.{some_more}
use Rattle.lq_columns.proofs.contacts.add_members.Goals as goal

pub loop-group-preserved : goal.loop-group-preserved
loop-group-preserved c =
    some_more (members_of c.args.base.now) c.args.groups.now c.loop-group.found.items c.add_new.new.found.items _ c.loop-group.group-index _
    c.loop-group-test.true (c.in_ok-add_new.ensures {u = tt} ∙ ap (with_new c.loop-group.found.items) c.members_of.ensures) c.loop-group.invariant
