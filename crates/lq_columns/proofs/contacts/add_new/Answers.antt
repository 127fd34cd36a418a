use Rattle.lq_columns.proofs.Distinct.{one_more}
use Rattle.lq_columns.proofs.contacts.add_new.Goals as goal

pub loop-id-preserved : goal.loop-id-preserved
loop-id-preserved c =
    one_more c.loop-id.found.items c.push_new.new.found.items c.args.ids.now _ c.loop-id.id-index _ c.loop-id-test.true
    (c.in_ok-push_new.ensures {u = tt}) c.loop-id.invariant
