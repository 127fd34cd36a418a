use Rattle.std.proofs.Common.{◌≡◌, ◌<◌, ℕ, false, true, length, get_or, take, replicate, sym, ◌∙◌}
use Rattle.std.proofs.lemmas.List.{get_or-replicate, take_at}
use Rattle.lq_filter.specs.Linked.{truths_before}
use Rattle.lq_filter.specs.Trees.{holds, some_or_all, truth_on}
use Rattle.lq_filter.proofs.MarkLemmas.{kept_same, marks_of_all}
use Rattle.lq_filter.proofs.TreeLemmas.{all_trees}
use Rattle.lq_filter.proofs.ready.ReadyFilter.marks.Goals as goal

pub keep_all-requires-clause-columns : goal.keep_all-requires-clause-columns
keep_all-requires-clause-columns g c = rw (c.deref_mut.ensures.value, c.self.view_is) c.requires

pub returns-clause-marks : goal.returns-clause-marks
returns-clause-marks g c =
    let rows = c.args.rows.now in
    let old = c.deref_mut-2.result.now in
    let new = c.keep_all.new.marks in
    let marked : old ≡ replicate (length rows) true = c.deref_mut-2.ensures.value ∙ c.in_ok-marks.ensures.items_if_clones_equal (λ mark is. is) in
    let all : (place : ℕ) → place < length rows → get_or old place false ≡ true = λ place below. rw marked (get_or-replicate (length rows) place true false below) in
    let long : length new ≡ length rows = c.keep_all.auto.marks ∙ c.deref_mut-2.ensures.len ∙ c.in_ok-marks.ensures.len in
    let count = c.len-count.result in
    let steps = c.deref_mut.result.now in
    let all_of : count ≡ length steps = c.len-count.ensures ∙ sym c.deref_mut.ensures.len in
    let same : (row : _) → some_or_all false (take count (truths_before (truth_on (g.S.Scan.cell c.args.scan.now row)) steps count)) ≡ holds (truth_on (g.S.Scan.cell c.args.scan.now row)) c.args.self.now
    = λ row. rw (all_of, c.deref_mut.ensures.value, ← c.self.view_is) (all_trees (truth_on (g.S.Scan.cell c.args.scan.now row)) c.self.inside.steps.items) in
    take_at new _ c.in_ok-marks.marks.len (c.keep_all.auto.marks ∙ c.deref_mut-2.ensures.len)
    ∙ marks_of_all (λ row. holds (truth_on (g.S.Scan.cell c.args.scan.now row)) c.args.self.now) rows old new long all
    (kept_same (λ row. some_or_all false (take count (truths_before (truth_on (g.S.Scan.cell c.args.scan.now row)) steps count))) rows _ old new same c.in_ok-keep_all.ensures.kept)
