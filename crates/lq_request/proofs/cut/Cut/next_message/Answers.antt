use Rattle.std.proofs.Common.{◌≡◌, refl, sym, ap, ◌∙◌, subst, arith}
use Rattle.lq_request.proofs.CutLemmas.{left_known, left_within, next_of, after_of, part_of, front_of}
use Rattle.lq_request.proofs.OrderLemmas.{in_order}
use Rattle.lq_request.specs.Cutting.{found_piece, lent_piece, taken_by}
use Rattle.lq_request.specs.Messages.{IsNext, More, TooLong, rest_after, whole}
use Rattle.lq_request.specs.declared.cut.Found.TheVariants as found
use Rattle.lq_request.proofs.cut.Cut.next_message.Goals as goal

pub returns-in-More : goal.returns-in-More
returns-in-More c =
    let next = next_of c.args.ended c.self.inside.buffer.items c.self.inside.start c.self.inside.end _ _ c.held_bytes.ensures c.self.view_is _ c.in-More.ensures.shows in (
      (refl, (λ _. tt), after_of c.args.ended c.self.inside.buffer.items c.self.inside.start c.self.inside.end _ _ c.held_bytes.ensures c.self.view_is _ _ (c.taken_bytes.ensures ∙ ap taken_by c.in-More.is) c.in-More.ensures.shows),
      record { next = next; order = in_order c.args.ended c.args.self.now More next; rest = tt },
    )

pub returns-in-TooLong : goal.returns-in-TooLong
returns-in-TooLong c =
    let part = front_of c.args.ended c.self.inside.buffer.items c.self.inside.start c.self.inside.end _ _ c.held_bytes.ensures c.self.view_is _ 65536 c.deref-in-TooLong.ensures.value c.in-TooLong.ensures.shows.within in
    let next = subst (λ bytes. IsNext c.args.ended c.args.self.now (TooLong bytes)) (sym part) (next_of c.args.ended c.self.inside.buffer.items c.self.inside.start c.self.inside.end _ _ c.held_bytes.ensures c.self.view_is _ c.in-TooLong.ensures.shows) in (
      (refl, (λ _. tt), after_of c.args.ended c.self.inside.buffer.items c.self.inside.start c.self.inside.end _ _ c.held_bytes.ensures c.self.view_is _ _ (c.taken_bytes.ensures ∙ ap taken_by c.in-TooLong.is) c.in-TooLong.ensures.shows),
      record { next = next; order = in_order c.args.ended c.args.self.now _ next; rest = tt },
    )

pub returns-in-Message : goal.returns-in-Message
returns-in-Message c =
    let within = c.in-Message.ensures.shows.within in
    let part = part_of c.args.ended c.self.inside.buffer.items c.self.inside.start c.self.inside.end _ _ c.held_bytes.ensures c.self.view_is _ c.in-Message.extent.start c.in-Message.extent.end c.deref.ensures.value within.0 (omega (arith, within)) in
    let piece : lent_piece c.message.result ≡ found_piece c.args.self.now (found.Message c.in-Message.extent) = c.message.ensures ∙ ap (whole c.in-Message.extent.kind) part in
    let next = subst (IsNext c.args.ended c.args.self.now) (sym piece) (next_of c.args.ended c.self.inside.buffer.items c.self.inside.start c.self.inside.end _ _ c.held_bytes.ensures c.self.view_is _ c.in-Message.ensures.shows) in (
      (
        refl,
        (λ _. tt),
        after_of c.args.ended c.self.inside.buffer.items c.self.inside.start c.self.inside.end _ _ c.held_bytes.ensures c.self.view_is _ _ (c.taken_bytes.ensures ∙ ap taken_by c.in-Message.is) c.in-Message.ensures.shows
            ∙ ap (λ p. rest_after p c.args.self.now) (sym piece),
      ),
      record { next = next; order = in_order c.args.ended c.args.self.now (lent_piece c.message.result) next; rest = tt },
    )

pub invariant_of-self-in-Message : goal.invariant_of-self-in-Message
invariant_of-self-in-Message c =
    let old = c.self.invariant in
    let within = c.in-Message.ensures.shows.within in
    let taken = c.taken_bytes.ensures ∙ ap taken_by c.in-Message.is in (
      left_within c.args.ended c.self.inside.buffer.items c.self.inside.start c.self.inside.end _ _ c.held_bytes.ensures c.self.view_is (found.Message c.in-Message.extent) _ taken within old.0,
      old.1,
      old.2,
      c.first_found-found.ensures.limit,
      left_known c.args.ended c.self.inside.buffer.items c.self.inside.start c.self.inside.end _ _ c.held_bytes.ensures c.self.view_is (found.Message c.in-Message.extent) _ _ _ _ taken within c.in-Message.ensures.searched,
    )

pub invariant_of-self-in-TooLong : goal.invariant_of-self-in-TooLong
invariant_of-self-in-TooLong c =
    let old = c.self.invariant in
    let within = c.in-TooLong.ensures.shows.within in
    let taken = c.taken_bytes.ensures ∙ ap taken_by c.in-TooLong.is in (
      left_within c.args.ended c.self.inside.buffer.items c.self.inside.start c.self.inside.end _ _ c.held_bytes.ensures c.self.view_is found.TooLong _ taken within old.0,
      old.1,
      old.2,
      c.first_found-found.ensures.limit,
      left_known c.args.ended c.self.inside.buffer.items c.self.inside.start c.self.inside.end _ _ c.held_bytes.ensures c.self.view_is found.TooLong _ _ _ _ taken within c.in-TooLong.ensures.searched,
    )
