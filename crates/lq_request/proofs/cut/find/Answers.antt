use Rattle.std.proofs.Common.{subst, sym}
use Rattle.lq_request.specs.Extent.{IsExtent}
use Rattle.lq_request.proofs.CutLemmas.{shows_ended, shows_long, shows_more, shows_last}
use Rattle.lq_request.specs.Search.{IsSearched}
use Rattle.lq_request.proofs.SearchLemmas.{known_searched, searched_in_window, searched_of_window, within_window}
use Rattle.lq_request.proofs.cut.find.Goals as goal

pub returns-then-extent-clause-shows : goal.returns-then-extent-clause-shows
returns-then-extent-clause-shows c =
    let extent = subst (λ bytes. IsExtent bytes c.extent_of-extent.result) c.window.ensures c.extent_of-extent.ensures.extent in
    shows_ended c.args.ended c.args.held.now c.extent_of-extent.result extent c.if-extent.true

pub returns-then-held-gt-MESSAGE_LIMIT-clause-shows : goal.returns-then-held-gt-MESSAGE_LIMIT-clause-shows
returns-then-held-gt-MESSAGE_LIMIT-clause-shows c =
    let extent = subst (λ bytes. IsExtent bytes c.extent_of-extent.result) c.window.ensures c.extent_of-extent.ensures.extent in
    shows_long c.args.ended c.args.held.now c.extent_of-extent.result extent c.if-extent.false c.if-held-gt-MESSAGE_LIMIT.true

pub returns-then-not-ended-clause-shows : goal.returns-then-not-ended-clause-shows
returns-then-not-ended-clause-shows c =
    let extent = subst (λ bytes. IsExtent bytes c.extent_of-extent.result) c.window.ensures c.extent_of-extent.ensures.extent in
    shows_more c.args.ended c.args.held.now c.extent_of-extent.result extent c.if-extent.false c.if-held-gt-MESSAGE_LIMIT.false c.if-not-ended.true

pub returns-else-not-ended-clause-shows : goal.returns-else-not-ended-clause-shows
returns-else-not-ended-clause-shows c =
    let extent = subst (λ bytes. IsExtent bytes c.extent_of-extent.result) c.window.ensures c.extent_of-extent.ensures.extent in
    shows_last c.args.ended c.args.held.now c.extent_of-extent.result extent c.if-extent.false c.if-held-gt-MESSAGE_LIMIT.false c.if-not-ended.false

pub extent_of-extent-requires : goal.extent_of-extent-requires
extent_of-extent-requires c =
    subst (IsSearched c.args.searched.now.text c.args.searched.now.next) (sym c.window.ensures)
    (searched_in_window _ _ 65536 c.args.held.now c.requires.searched c.requires.limit)

pub returns-then-not-ended-clause-searched : goal.returns-then-not-ended-clause-searched
returns-then-not-ended-clause-searched c =
    known_searched _ _ c.args.held.now
    (searched_of_window _ _ 65536 c.args.held.now
    (subst (IsSearched c.extent_of-extent.new.self.text c.extent_of-extent.new.self.next) c.window.ensures c.extent_of-extent.ensures.searched))

pub returns-then-not-ended-clause-limit : goal.returns-then-not-ended-clause-limit
returns-then-not-ended-clause-limit c =
    within_window c.extent_of-extent.new.self.text _ 65536 c.args.held.now
    (subst (IsSearched c.extent_of-extent.new.self.text c.extent_of-extent.new.self.next) c.window.ensures c.extent_of-extent.ensures.searched)
