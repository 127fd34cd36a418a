use Rattle.std.proofs.Common.{rules, ◌≡◌, ◌+◌, ◌++◌, Err, ap, ◌∙◌, map, drop, flat_map}
use Rattle.lq_statehist.specs.History.{history}
use Rattle.lq_statehist.specs.Notes.{notes_of}
use Rattle.lq_statehist.specs.Pass.{subject_of_lines}
use Rattle.lq_statehist.specs.declared.slice.HistErr.TheVariants.{TooMany}
use Rattle.lq_statehist.proofs.WholeLemmas.{many_more, rest_hosted, this_hosted, told_all, told_next}
use Rattle.lq_statehist.proofs.whole.histories.Goals as goal

pub tell-requires : goal.tell-requires
tell-requires c = record {
  sorted = c.requires.sorted;
  order = c.requires.order;
  hosted = this_hosted c.args.live.now.state.base c.args.live.now.state.log c.args.span.from c.args.span.until c.args.subjects.now c.loop-about.about-index _ c.loop-about-test.true
      c.loop-about.invariant.hosted;
}

pub returns-in-Err-clause-many : goal.returns-in-Err-clause-many
returns-in-Err-clause-many c = λ large.
    let failed : c.tell.result ≡ Err TooMany = search (rules, large) in
    many_more _ _ _
    (told_next c.args.live.now.state.base c.args.live.now.state.log c.args.span.from c.args.span.until c.args.subjects.now c.loop-about.about-index _ c.loop-about-test.true
    c.loop-about.slices.items _ c.loop-about.invariant.all)
    (c.tell.ensures.many failed)

pub loop-about-preserved : goal.loop-about-preserved
loop-about-preserved c =
    let base = c.args.live.now.state.base in
    let log = c.args.live.now.state.log in
    record {
      all = ap (λ slices. slices ++ flat_map (λ about. history about (notes_of base log) c.args.span.from c.args.span.until) (drop (c.loop-about.about-index + 1) (map subject_of_lines c.args.subjects.now))) c.in-Ok.ensures.ok
          ∙ told_next base log c.args.span.from c.args.span.until c.args.subjects.now c.loop-about.about-index _ c.loop-about-test.true c.loop-about.slices.items _ c.loop-about.invariant.all;
      hosted = rest_hosted base (map subject_of_lines c.args.subjects.now) c.loop-about.about-index c.loop-about.invariant.hosted;
      few = c.in-Ok.ensures.most c.loop-about.invariant.few;
    }

pub returns-clause-all : goal.returns-clause-all
returns-clause-all c =
    told_all c.loop-about.slices.items _ _ c.args.subjects.now c.loop-about.about-index c.loop-about-test.false c.loop-about.invariant.all
