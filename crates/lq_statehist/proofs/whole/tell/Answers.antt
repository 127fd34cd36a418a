use Rattle.std.proofs.Common.{◌<◌, ◌++◌, sym, ap, subst, ◌∙◌, length, map}
use Rattle.lq_statehist.specs.Pass.{RisesFrom, note_of, subject_of_lines}
use Rattle.lq_statehist.proofs.PassLemmas.{on_ok}
use Rattle.lq_statehist.proofs.WholeLemmas.{near_rises, near_tells, told_placed}
use Rattle.lq_statehist.proofs.whole.tell.Goals as goal

pub history-requires : goal.history-requires
history-requires c =
    let base = c.args.live.now.state.base in
    let log = c.args.live.now.state.log in
    record {
      order = subst (RisesFrom 0)
          (sym (ap (map note_of) c.deref.ensures.value ∙ c.in_ok-near.ensures.all base _ c.requires.sorted (told_placed base log c.args.span.until) c.requires.hosted.known))
          (near_rises base log c.args.span.until (subject_of_lines c.args.about.now) c.requires.order);
    }

pub returns-clause-ok : goal.returns-clause-ok
returns-clause-ok c =
    let base = c.args.live.now.state.base in
    let log = c.args.live.now.state.log in
    on_ok c.history.result (λ done. done
    ∙ ap (λ list. c.args.slices.now.items ++ list) (near_tells base log c.args.span.from c.args.span.until (subject_of_lines c.args.about.now) (map note_of c.deref.result.now) c.requires.hosted
    (ap (map note_of) c.deref.ensures.value ∙ c.in_ok-near.ensures.all base _ c.requires.sorted (told_placed base log c.args.span.until) c.requires.hosted.known)))
    c.history.ensures.ok

pub returns-clause-many : goal.returns-clause-many
returns-clause-many c = λ large.
    let base = c.args.live.now.state.base in
    let log = c.args.live.now.state.log in
    subst (λ list. 1000000 < length (c.args.slices.now.items ++ list)) (near_tells base log c.args.span.from c.args.span.until (subject_of_lines c.args.about.now) (map note_of c.deref.result.now) c.requires.hosted
    (ap (map note_of) c.deref.ensures.value ∙ c.in_ok-near.ensures.all base _ c.requires.sorted (told_placed base log c.args.span.until) c.requires.hosted.known))
    (c.history.ensures.many large)
