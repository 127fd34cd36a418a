use Rattle.std.proofs.Common.{rules, ◌≡◌, ◌<◌, ◌++◌, [], List, length, map, Err, subst, ap, ◌∙◌}
use Rattle.std.proofs.lemmas.List.{append-nil}
use Rattle.std.proofs.lemmas.Result.{IfOk-weaker}
use Rattle.lq_output.specs.Body.{body_limit, body_text}
use Rattle.lq_output.specs.Writing.{Writing}
use Rattle.lq_output.specs.declared.error.WriteErr.TheVariants.{TooLarge}
use Rattle.lq_output.specs.declared.layout.Layout.{Layout}
use Rattle.lq_schema.specs.Value.{Value}
use Rattle.lq_schema.specs.declared.columns.Col.{Col}
use Rattle.lq_query.specs.Answer.{first_lines, layout_of, line_of_names, reply_lines, shown_lines, with_names}
use Rattle.lq_query.specs.Lines.{seen_cells}
use Rattle.lq_query.specs.Rows.{chosen_rows}
use Rattle.lq_query.proofs.LineLemmas.{names_first}
use Rattle.lq_query.proofs.reply.body.Goals as goal

pub returns-in_err-push_head-clause-large : goal.returns-in_err-push_head-clause-large
returns-in_err-push_head-clause-large c = λ large.
    let request = c.args.request.now in
    let rows : List (Col → Value) = map (seen_cells c.args.sight.now) c.args.rows.now in
    let lines = first_lines request.limit (shown_lines request (chosen_rows request.filter rows)) in
    let layout : c.in_ok-writer.writer.layout ≡ layout_of request = ap (λ (w : Writing). w.layout) c.in_ok-writer.ensures.ok in
    let failed : c.push_head.result ≡ Err TooLarge = search (rules, large) in
    subst (λ (layout : Layout). body_limit < length (body_text layout (reply_lines request rows))) layout
    (subst (λ (all : List (List Value)). body_limit < length (body_text c.in_ok-writer.writer.layout all)) (names_first request.head (line_of_names request) lines)
    (c.push_head.ensures.large failed [] c.in_ok-writer.ensures.lines lines))

pub returns-in_err-push_lines-clause-large : goal.returns-in_err-push_lines-clause-large
returns-in_err-push_lines-clause-large c = λ large.
    let request = c.args.request.now in
    let rows : List (Col → Value) = map (seen_cells c.args.sight.now) c.args.rows.now in
    let head = with_names request.head (line_of_names request) [] in
    let lines = first_lines request.limit (shown_lines request (chosen_rows request.filter rows)) in
    let layout : c.push_head.new.writer.layout ≡ layout_of request = c.in_ok-push_head.ensures.lines.layout ∙ ap (λ (w : Writing). w.layout) c.in_ok-writer.ensures.ok in
    let failed : c.push_lines.result ≡ Err TooLarge = search (rules, large) in
    subst (λ (layout : Layout). body_limit < length (body_text layout (reply_lines request rows))) layout
    (subst (λ (all : List (List Value)). body_limit < length (body_text c.push_head.new.writer.layout all)) (ap (λ (those : List (List Value)). head ++ those) (append-nil lines) ∙ names_first request.head (line_of_names request) lines)
    (c.push_lines.ensures.large failed head (c.in_ok-push_head.ensures.lines.written [] c.in_ok-writer.ensures.lines) []))

pub finish-requires : goal.finish-requires
finish-requires c = (c.in_ok-push_lines.ensures.lines.written _ (c.in_ok-push_head.ensures.lines.written [] c.in_ok-writer.ensures.lines)).has_cell

pub returns-clause-body : goal.returns-clause-body
returns-clause-body c =
    let request = c.args.request.now in
    let rows : List (Col → Value) = map (seen_cells c.args.sight.now) c.args.rows.now in
    let head = with_names request.head (line_of_names request) [] in
    let lines = first_lines request.limit (shown_lines request (chosen_rows request.filter rows)) in
    let layout : c.push_lines.new.writer.layout ≡ layout_of request
    = c.in_ok-push_lines.ensures.lines.layout ∙ c.in_ok-push_head.ensures.lines.layout ∙ ap (λ (w : Writing). w.layout) c.in_ok-writer.ensures.ok in
    IfOk-weaker c.finish.result _ _
    (λ body is. is (head ++ lines) (c.in_ok-push_lines.ensures.lines.written head (c.in_ok-push_head.ensures.lines.written [] c.in_ok-writer.ensures.lines))
    ∙ ap (λ (all : List (List Value)). body_text c.push_lines.new.writer.layout all) (names_first request.head (line_of_names request) lines)
    ∙ ap (λ (layout : Layout). body_text layout (reply_lines request rows)) layout)
    c.finish.ensures.lines
