use Rattle.std.proofs.Common.{inl, inr}
use Rattle.lq_query.proofs.text_lines.HostTextsLineTexts.text.Goals as goal

pub returns-clause-value : goal.returns-clause-value
returns-clause-value c = c.host_text.ensures.value c.args.self.now.sight.view.now

pub returns-clause-given : goal.returns-clause-given
returns-clause-given c (has, inl host) = c.host_text.ensures.given host has
returns-clause-given c (has, inr service) = c.host_text.ensures.joined service has
