use Rattle.std.proofs.Common.{sym, subst}
use Rattle.std.specs.List.{AllByRecursion}
use Rattle.lq_statehist.specs.Sorted.{IsHosted}
use Rattle.lq_statehist.proofs.WholeLemmas.{all_hosted, both_seen}
use Rattle.lq_statehist.proofs.whole.seen_subjects.Goals as goal

pub returns-clause-hosted : goal.returns-clause-hosted
returns-clause-hosted c =
    subst (AllByRecursion (IsHosted c.args.base.now))
    (sym (both_seen c.args.base.now c.args.view.now _ _ _ _ _ c.new-subjects.ensures.items c.as_slice.ensures c.in_ok-push_hosts.ensures c.as_slice-2.ensures c.in_ok-push_services.ensures))
    (all_hosted c.args.base.now c.args.view.now c.requires)
