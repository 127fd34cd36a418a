use Rattle.std.proofs.Common.{◌++◌, ◌+◌, ap, arith, length, subst, sym, ◌∙◌}
use Rattle.std.proofs.lemmas.List.Elements.{All-head, All-rest, All-same}
use Rattle.lq_request.specs.Filters.{AreWhole, IsFilter}
use Rattle.lq_request.specs.Window.{headers_of}
use Rattle.lq_request.proofs.FilterLemmas.{both_whole, one_more}
use Rattle.lq_request.proofs.filters.headers_of.Goals as goal

pub loop-filter-preserved : goal.loop-filter-preserved
loop-filter-preserved c =
    let before = c.loop-filter.invariant in
    let headers = c.loop-filter.headers in
    let first = c.in-Some.filter in
    let rest = c.next.new.self.rest.items in
    let taken = c.in-Some.ensures.steps.0 in
    let appended = c.in_ok-append.ensures.ok ∙ ap (λ later. headers ++ later) c.into_headers.ensures in
    let one = All-head IsFilter first rest (All-same IsFilter _ _ (sym taken) before.left) in
    record {
      found = one_more headers _ first rest _ appended (ap (λ all. headers ++ headers_of all) (sym taken) ∙ before.found);
      whole = (
        before.whole.0 + 1,
        omega (arith, before.whole.1, ap length taken),
        subst (λ all. AreWhole all (before.whole.0 + 1)) (sym appended) (both_whole headers first before.whole.0 1 before.whole.2 one),
      );
      left = All-rest IsFilter first rest _ taken before.left;
    }
