use Rattle.std.proofs.Common.{arith, sym, subst, ap, ◌∙◌, ◌++◌}
use Rattle.lq_request.specs.Search.{IsKnown}
use Rattle.lq_request.proofs.CutLemmas.{fed_view}
use Rattle.lq_request.proofs.SearchLemmas.{known_append}
use Rattle.lq_request.proofs.cut.Cut.feed.Goals as goal

pub invariant_of-self : goal.invariant_of-self
invariant_of-self c =
    let old = c.self.invariant in
    let room = c.make_room-self-inside.ensures.room in
    let view = fed_view c.self.inside.buffer.len c.self.inside.buffer.items _ c.make_room-self-inside.new.buffer _ c.put.new.buffer c.args.piece.now c.self.inside.start c.make_room-self-inside.result _
    c.deref_mut.ensures.value (omega (arith, c.make_room-self-inside.auto.buffer, c.deref_mut.ensures.len)) c.deref_mut-2.ensures.value c.make_room-self-inside.ensures.held
    (omega (arith, c.put.auto.buffer, c.deref_mut-2.ensures.len)) c.put.ensures (omega (arith, room, c.make_room-self-inside.auto.buffer, c.deref_mut.ensures.len)) in (
      omega arith,
      omega (arith, room, c.make_room-self-inside.auto.buffer, c.deref_mut.ensures.len, old.2),
      old.2,
      old.3,
      subst (IsKnown c.self.inside.searched.text c.self.inside.searched.next c.self.inside.searched.seen) (sym view) (known_append _ _ _ _ c.args.piece.now old.4),
    )

pub returns : goal.returns
returns c =
    let room = c.make_room-self-inside.ensures.room in
    fed_view c.self.inside.buffer.len c.self.inside.buffer.items _ c.make_room-self-inside.new.buffer _ c.put.new.buffer c.args.piece.now c.self.inside.start c.make_room-self-inside.result _
    c.deref_mut.ensures.value (omega (arith, c.make_room-self-inside.auto.buffer, c.deref_mut.ensures.len)) c.deref_mut-2.ensures.value c.make_room-self-inside.ensures.held
    (omega (arith, c.put.auto.buffer, c.deref_mut-2.ensures.len)) c.put.ensures (omega (arith, room, c.make_room-self-inside.auto.buffer, c.deref_mut.ensures.len))
    ∙ ap (λ held. held ++ c.args.piece.now) c.self.view_is
