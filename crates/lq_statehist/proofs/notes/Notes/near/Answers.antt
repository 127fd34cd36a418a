use Rattle.std.proofs.Common.{◌≡◌, ◌∙◌, filter, map, ap, arith}
use Rattle.lq_statehist.specs.Pass.{note_of, subject_of_lines}
use Rattle.lq_statehist.specs.Sorted.{AreNear, is_of_host}
use Rattle.lq_statehist.proofs.PassLemmas.{if_ok}
use Rattle.lq_statehist.proofs.SortedLemmas.{at_place, near_both}
use Rattle.lq_statehist.proofs.notes.Notes.near.Goals as goal

pub returns-then-place-len : goal.returns-then-place-len
returns-then-place-len c =
    if_ok _ (λ near. AreNear c.args.self.now (subject_of_lines c.args.about.now) (map note_of near.items)) c.merged_notes.result (λ all is. record {
      all = λ base told sorted placed known.
          near_both base c.args.self.now (subject_of_lines c.args.about.now) (map note_of all.items) (map note_of c.deref.result.now) (map note_of c.deref-then-place-len.result.now) told is
          (ap (map note_of) c.deref.ensures.value ∙ ap (λ kept. map note_of kept.items) c.index.ensures
          ∙ at_place (λ kept. map note_of kept.items ≡ filter (is_of_host base c.args.about.now.host) told) c.args.self.now.hosts.items c.args.about.now.host.0 c.index.result.now
          (omega (arith, c.if-place-len.true, c.len.ensures)) (sorted.hosts c.args.about.now.host.0))
          (ap (map note_of) c.deref-then-place-len.ensures.value ∙ sorted.periods) placed;
    }) c.merged_notes.ensures

pub returns-else-place-len : goal.returns-else-place-len
returns-else-place-len c = record { all = λ base told sorted placed known. absurd (omega (arith, known, sorted.count, c.if-place-len.false, c.len.ensures)) }
