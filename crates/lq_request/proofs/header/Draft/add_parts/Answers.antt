use Rattle.std.proofs.Common.{arith}
use Rattle.lq_request.proofs.TextLemmas.{front_utf8, back_utf8}
use Rattle.lq_request.proofs.header.Draft.add_parts.Goals as goal

pub as_text-name-requires : goal.as_text-name-requires
as_text-name-requires c = front_utf8 _ _ c.requires c.in-Some.ensures.within (omega (arith, c.in-Some.ensures.colon))

pub as_text-value-requires : goal.as_text-value-requires
as_text-value-requires c = back_utf8 _ _ c.requires c.in-Some.ensures.within (omega (arith, c.in-Some.ensures.colon))
