-- Replies at states that agree for a user.
use Rattle.std.proofs.Common.{◌≡◌, ℕ, Some, List, refl, sym, ap, unwrap_or, ◌∙◌}
use Rattle.lq_live.specs.Ids.{HasRisingIds}
use Rattle.lq_live.specs.State.{State}
use Rattle.lq_auth.specs.Rights.{view_of}
use Rattle.lq_request.specs.declared.request.Request.{Request}
use Rattle.lq_statehist.specs.Laws.{HaveOutputs, IsOwnHistory}
use Rattle.lq_tables.specs.declared.window.Window.{Window}
use Rattle.lq_query.specs.Answer.{reply_with, window_of}
use Rattle.lq_query.specs.Rows.{seen_rows}
use Rattle.lq_query.specs.Isolation.{Agrees, AgreesIn, IsIsolated}
use Rattle.lq_query.proofs.SeenRowLemmas.{rows_same}
use Rattle.lq_query.proofs.ShownLemmas.{like}

-- the window of a query at a second
abbrev window_at : Request → ℕ → Window
window_at request now = record { from = request.from; until = unwrap_or request.until now; names = request.names }

liked : (s t : State) → s.base ≡ t.base → s.now ≡ t.now → s.notifications ≡ t.notifications → like s t ≡ t
liked s t base now notifications = λ i. record t { base = base i; now = now i; notifications = notifications i }

like_agrees : (user : List ℕ) (s t : State) → Agrees user s t → AgreesIn (view_of s.base (Some user)) s (like s t)
like_agrees user s t agree = record {
  base = refl;
  now = refl;
  notifications = refl;
  hosts = agree.hosts;
  services = agree.services;
  downtimes = agree.downtimes;
  comments = agree.comments;
  lines = agree.lines;
}

like_rises : (s t : State) → HasRisingIds t → HasRisingIds (like s t)
like_rises s t rises = record { downtimes = rises.downtimes; comments = rises.comments }

pub isolated : IsOwnHistory → HaveOutputs → IsIsolated
isolated own_history have_outputs user s t request s_rises t_rises user_is agree =
    let view = view_of s.base (Some user) in
    let window = window_of request s in
    let same : seen_rows s view window request.table ≡ seen_rows t view window request.table
    = rows_same s t view (like_agrees user s t agree) window own_history have_outputs s_rises (like_rises s t t_rises) request.table
    ∙ ap (λ at. seen_rows at view window request.table) (liked s t agree.base agree.now agree.notifications) in
    let view_is : view_of t.base request.user ≡ view = ap (view_of t.base) user_is ∙ ap (λ base. view_of base (Some user)) (sym agree.base) in
    let window_is : window_of request t ≡ window = ap (λ now. window_at request now) (sym agree.now) in
    ap (λ asked. reply_with request (seen_rows s (view_of s.base asked) window request.table)) user_is
    ∙ ap (reply_with request) same
    ∙ sym (ap (λ seen. reply_with request (seen_rows t seen window request.table)) view_is)
    ∙ sym (ap (λ over. reply_with request (seen_rows t (view_of t.base request.user) over request.table)) window_is)
