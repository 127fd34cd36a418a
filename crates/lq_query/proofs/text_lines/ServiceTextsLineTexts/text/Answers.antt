use Rattle.lq_query.proofs.text_lines.ServiceTextsLineTexts.text.Goals as goal

pub returns-clause-value : goal.returns-clause-value
returns-clause-value c = c.service_text.ensures.value c.args.self.now.sight.view.now

pub returns-clause-given : goal.returns-clause-given
returns-clause-given c (has, service) = c.service_text.ensures.given service has
