use Rattle.std.proofs.Common.{◌≡◌, ◌<◌, ◌+◌, ◌++◌, [], refl, sym, ap, subst, ◌∙◌, arith, length, map, drop}
use Rattle.std.specs.Option.{option_map}
use Rattle.lq_statehist.specs.Facts.{known_at}
use Rattle.lq_statehist.specs.History.{history, slice_of}
use Rattle.lq_statehist.specs.Pass.{before, known_of, note_of, piece_of_stretch, subject_of_lines}
use Rattle.lq_statehist.proofs.JoinLemmas.{no_pieces}
use Rattle.lq_statehist.proofs.MergeLemmas.{from_line, nothing_left}
use Rattle.lq_statehist.proofs.PassLemmas.{IsLeft, all_left, held_before, held_last, left_after, on_ok, rises_after}
use Rattle.lq_statehist.proofs.pass.history.Goals as goal

pub loop-note-init : goal.loop-note-init
loop-note-init c = record {
  rises = c.requires.order;
  left = subst (λ known. IsLeft (subject_of_lines c.args.about.now) (map note_of c.args.notes.now) c.args.span.until known c.args.span.from (map note_of c.args.notes.now)) (sym c.nothing.ensures)
      (all_left (subject_of_lines c.args.about.now) (map note_of c.args.notes.now) c.args.span.from c.args.span.until);
  slices = refl;
  most = λ few. few;
}

pub returns-in-Err-clause-many : goal.returns-in-Err-clause-many
returns-in-Err-clause-many c = λ large.
    let about = subject_of_lines c.args.about.now in
    let all = map note_of c.args.notes.now in
    subst (λ list. 1000000 < length list) c.loop-note.invariant.slices
    (c.advance.ensures.many (c.in-Err.is ∙ large) c.args.span.until (known_at about all) (omega (arith, c.min.ensures))
    (held_before about all c.args.span.until c.loop-note.pass.since (known_of c.loop-note.pass.known) _ (drop (c.loop-note.note-index + 1) all) (drop c.loop-note.note-index all)
    (from_line c.args.notes.now c.loop-note.note-index _ c.loop-note-test.true) c.min.result c.min.ensures c.loop-note.invariant.left c.loop-note.invariant.rises))

pub loop-note-preserved : goal.loop-note-preserved
loop-note-preserved c =
    let about = subject_of_lines c.args.about.now in
    let all = map note_of c.args.notes.now in
    let now = c.in-Ok.ensures in
    record {
      rises = rises_after about all c.args.span.until c.loop-note.pass.since (known_of c.loop-note.pass.known) _ (drop (c.loop-note.note-index + 1) all) (drop c.loop-note.note-index all)
          (from_line c.args.notes.now c.loop-note.note-index _ c.loop-note-test.true) c.min.result c.min.ensures c.loop-note.invariant.rises;
      left = left_after about all c.args.span.until c.loop-note.pass.since (known_of c.loop-note.pass.known) _ (drop (c.loop-note.note-index + 1) all) (drop c.loop-note.note-index all)
          (from_line c.args.notes.now c.loop-note.note-index _ c.loop-note-test.true) c.min.result c.min.ensures c.advance.new.pass.since
          (known_of c.advance.new.pass.known) (known_of c.after-pass.result) c.after-pass.ensures (ap known_of now.known) c.loop-note.invariant.left now.later now.since;
      slices = now.ok c.args.span.until (known_at about all) (omega (arith, c.min.ensures))
          (held_before about all c.args.span.until c.loop-note.pass.since (known_of c.loop-note.pass.known) _ (drop (c.loop-note.note-index + 1) all) (drop c.loop-note.note-index all)
          (from_line c.args.notes.now c.loop-note.note-index _ c.loop-note-test.true) c.min.result c.min.ensures c.loop-note.invariant.left c.loop-note.invariant.rises)
          ∙ c.loop-note.invariant.slices;
      most = λ few. now.most (c.loop-note.invariant.most few);
    }

whole : (c : goal.After-finish)
    → c.advance-2.new.slices.items ++ map (slice_of c.args.about.now.object) (before (option_map piece_of_stretch c.advance-2.new.pass.growing) [])
    ≡ c.args.slices.now.items ++ history (subject_of_lines c.args.about.now) (map note_of c.args.notes.now) c.args.span.from c.args.span.until
whole c =
    let about = subject_of_lines c.args.about.now in
    let all = map note_of c.args.notes.now in
    ap (λ pieces. c.advance-2.new.slices.items ++ map (slice_of c.args.about.now.object) (before (option_map piece_of_stretch c.advance-2.new.pass.growing) pieces))
    (sym (no_pieces (known_at about all) c.advance-2.new.pass.since c.args.span.until c.in-Ok-advance.ensures.since))
    ∙ c.in-Ok-advance.ensures.ok c.args.span.until (known_at about all) (omega arith)
    (held_last about all (drop c.loop-note.note-index all) c.args.span.until c.loop-note.pass.since (known_of c.loop-note.pass.known)
    (nothing_left c.args.notes.now c.loop-note.note-index c.loop-note-test.false) c.loop-note.invariant.left)
    ∙ c.loop-note.invariant.slices

pub returns-in-Ok-advance-clause-ok : goal.returns-in-Ok-advance-clause-ok
returns-in-Ok-advance-clause-ok c = on_ok c.finish.result (λ done. done ∙ whole c) c.finish.ensures.ok

pub returns-in-Ok-advance-clause-many : goal.returns-in-Ok-advance-clause-many
returns-in-Ok-advance-clause-many c = λ large. subst (λ list. 1000000 < length list) (whole c) (c.finish.ensures.many large)

pub returns-in-Ok-advance-clause-most : goal.returns-in-Ok-advance-clause-most
returns-in-Ok-advance-clause-most c =
    on_ok c.finish.result (λ done few. done (c.in-Ok-advance.ensures.most (c.loop-note.invariant.most few))) c.finish.ensures.most

pub returns-in-Err-advance-clause-many : goal.returns-in-Err-advance-clause-many
returns-in-Err-advance-clause-many c = λ large.
    let about = subject_of_lines c.args.about.now in
    let all = map note_of c.args.notes.now in
    subst (λ list. 1000000 < length list) c.loop-note.invariant.slices
    (c.advance-2.ensures.many (c.in-Err-advance.is ∙ large) c.args.span.until (known_at about all) (omega arith)
    (held_last about all (drop c.loop-note.note-index all) c.args.span.until c.loop-note.pass.since (known_of c.loop-note.pass.known)
    (nothing_left c.args.notes.now c.loop-note.note-index c.loop-note-test.false) c.loop-note.invariant.left))
