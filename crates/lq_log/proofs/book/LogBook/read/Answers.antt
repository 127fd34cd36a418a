use Rattle.std.proofs.Common.{◌∙◌}
use Rattle.lq_log.proofs.LogLemmas.{fault_later, few_lines, skipped_later, skipped_once, with_line}
use Rattle.lq_log.proofs.book.LogBook.read.Goals as goal

pub lines-preserved : goal.lines-preserved
lines-preserved c =
    let line = c.in-Some.ensures.some in
    let added = c.in_ok-add_line.ensures in
    record {
      within = line.within;
      few = few_lines _ _ added.fits;
      counted = skipped_once _ _ _ _ added.skipped c.lines.invariant.counted;
      entries = with_line _ _ _ _ _ _ _ line.lines added.entries added.last ∙ c.lines.invariant.entries;
      skipped = skipped_later _ _ _ _ _ line.lines added.skipped ∙ c.lines.invariant.skipped;
      fault = fault_later _ _ _ _ line.lines added.fits ∙ c.lines.invariant.fault;
    }
