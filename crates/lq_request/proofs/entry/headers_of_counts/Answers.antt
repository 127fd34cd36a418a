use Rattle.std.proofs.Common.{◌∷◌, ◌∙◌, ap, subst, sym, length, arith}
use Rattle.std.proofs.lemmas.List.Elements.{All-head, All-rest, All-same}
use Rattle.lq_request.specs.Stats.{IsEntry}
use Rattle.lq_request.proofs.EntryLemmas.{one_counted}
use Rattle.lq_request.proofs.entry.headers_of_counts.Goals as goal

pub entries-preserved : goal.entries-preserved
entries-preserved c =
    let before = c.entries.invariant in
    let front = c.in-Some.ensures.items in
    let taken = front ∙ ap (λ entry. entry ∷ c.pop_front.new.self.items) c.in-Count.is in
    let more = c.in_ok-append-in-Count.ensures in
    let one = subst IsEntry c.in-Count.is (All-head IsEntry _ _ (All-same IsEntry _ _ (sym front) before.left)) in
    record {
      found = one_counted c.entries.headers _ c.in-Count.stack _ _ _ more.ok taken before.found;
      trees = omega (arith, more.trees, one, before.trees, ap length taken);
      left = All-rest IsEntry _ _ _ taken before.left;
    }
