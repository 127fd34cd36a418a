use Rattle.std.proofs.Common.{subst, sym}
use Rattle.std.proofs.lemmas.List.Elements.{All-head, All-push, All-rest, All-same}
use Rattle.lq_request.specs.Stats.{IsEntry, IsStat}
use Rattle.lq_request.proofs.EntryLemmas.{one_finished}
use Rattle.lq_request.proofs.entry.Entries.finish.Goals as goal

pub entries-preserved : goal.entries-preserved
entries-preserved c =
    let before = c.entries.invariant in
    let taken = c.in-Some.ensures.items in
    let finished = c.in_ok-finish.ensures in
    let stat = All-head IsEntry c.in-Some.entry _ (All-same IsEntry _ _ (sym taken) before.left) in
    record {
      same = one_finished _ _ _ _ c.in-Some.entry _ _ c.in_ok-push.ensures.ok finished taken before.same;
      done = All-same IsStat _ _ c.in_ok-push.ensures.ok (All-push IsStat _ _ before.done (subst IsStat (sym finished) stat));
      left = All-rest IsEntry c.in-Some.entry _ _ taken before.left;
    }
