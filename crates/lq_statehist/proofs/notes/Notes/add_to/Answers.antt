use Rattle.std.proofs.Common.{◌≡◌, ◌∙◌, ◌∷◌, ◌++◌, [], ap, arith, map}
use Rattle.lq_statehist.specs.Pass.{note_of}
use Rattle.lq_statehist.proofs.AddLemmas.{if_found, line_after, none_set, set_place}
use Rattle.lq_statehist.proofs.notes.Notes.add_to.Goals as goal

pub returns-in_ok-push-clause-hosts : goal.returns-in_ok-push-clause-hosts
returns-in_ok-push-clause-hosts c =
    set_place (λ kept. map note_of kept.items) c.push.new.self (note_of c.args.note) c.args.self.now.hosts.items c.args.host.0
    (if_found c.args.self.now.hosts.items c.args.host.0 (λ old. map note_of c.push.new.self.items ≡ map note_of old.items ++ note_of c.args.note ∷ []) _
    (omega (arith, c.if-place-len.true, c.len.ensures))
    (line_after c.push.new.self.items _ c.args.note (c.in_ok-push.ensures.items ∙ ap (λ kept. kept.items ++ c.args.note ∷ []) c.index_mut.ensures.value)))

pub returns-else-place-len-clause-hosts : goal.returns-else-place-len-clause-hosts
returns-else-place-len-clause-hosts c =
    none_set (λ kept. map note_of kept.items) (note_of c.args.note) c.args.self.now.hosts.items c.args.host.0 (omega (arith, c.if-place-len.false, c.len.ensures))
