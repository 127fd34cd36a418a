use Rattle.std.proofs.Common.{◌≡◌, ap, refl, subst, sym, ◌∙◌}
use Rattle.regex.specs.Strings.{regex_config, regex_source}
use Rattle.lq_filter.specs.Compiled.{IsCompiled}
use Rattle.lq_filter.specs.Patterns.{options}
use Rattle.lq_filter.proofs.PatternLemmas.{is_pattern_of, no_pattern_of}
use Rattle.lq_filter.proofs.pattern.compile.Goals as goal

pub returns-in_ok-new-in-Ok : goal.returns-in_ok-new-in-Ok
returns-in_ok-new-in-Ok c =
    let regex = c.in_ok-new-in-Ok.field-0.value in
    let same : regex ≡ c.in-Ok.regex = c.in_ok-new-in-Ok.ensures.ok in
    let source : regex_source regex ≡ c.args.source.now = ap regex_source same ∙ rw (c.in-Ok.ensures.source, c.case_insensitive.ensures) c.new.ensures.source in
    let config : regex_config c.in-Ok.regex ≡ options c.args.folded = rw (c.in-Ok.ensures.config, c.case_insensitive.ensures, c.new.ensures.config) refl in
    let is = subst (IsCompiled c.args.folded) (sym same) (record { config = config; read = c.in-Ok.ensures.read }) in
    rw (← source) (is_pattern_of c.args.folded regex (rw source c.requires) is)

pub returns-in-Err-Syntax : goal.returns-in-Err-Syntax
returns-in-Err-Syntax c =
    let error = c.in-Err-Syntax.field-0-0 in
    let kind = rw c.in-Err-Syntax.field-0-is at c.in-Err-Syntax.ensures.kind in
    let refused = rw (c.case_insensitive.ensures, c.new.ensures.config, c.new.ensures.source) at (c.in-Err-Syntax.ensures.by_grammar error c.in-Err-Syntax.field-0-is) in
    no_pattern_of c.args.folded c.args.source.now error.kind kind refused
