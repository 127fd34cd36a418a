-- What is done with the message that stands first, by its kind.
use Rattle.std.proofs.Common.{inl, inr, ◌≡◌, ◌≢◌, ℕ, Bool, true, false, List, [], ◌∷◌, ◌++◌, take, nat_lt, length, if◌then◌else◌, refl, sym, ap, ◌∙◌}
use Rattle.std.specs.Prelude.{Option, not}
use Rattle.std.specs.Prelude.{Result, Ok, Err, OnOk, OnErr}
use Rattle.std.specs.Io.KnownBytes.{Appends}
use Rattle.std.proofs.KnownBytes.{Appends-nil}
use Rattle.lq_outside.specs.Faults.{Rose}
use Rattle.lq_outside.specs.Sinks.{AppendsFront}
use Rattle.lq_session.specs.Reading.{AppendsOrFaults}
use Rattle.lq_request.specs.Messages.{message_limit, Message, Piece, Query, Command, TooLong, Empty, More, messages, whole_messages, first_piece, message_of, message_at, whole, command_from, query_from, IsCutOff, IsLast}
use Rattle.lq_request.specs.Request.{request_in}
use Rattle.lq_live.specs.State.{Counted}
use Rattle.lq_output.specs.Header.{refusal_text}
use Rattle.lq_request.specs.Style.{style_of}
use Rattle.lq_session.specs.Replies.{after_piece, keeps, reply_to, too_long}
use Rattle.lq_session.specs.Session.{ComesFirst, Serves, ServesLast, FindsNone, Breaks, BreaksReply}
use Rattle.lq_session.specs.declared.session.ServeErr.{ServeErr}
use Rattle.lq_session.specs.declared.session.ServeErr.TheVariants as error

comes_first : (ended : Bool) (held left : List ℕ) (piece : Piece) → IsCutOff ended held piece left → ComesFirst ended held piece
comes_first ended held left piece cut = record {
  all = λ rest closed. (messages (left ++ rest), cut.all rest closed);
  known = λ rest more. (whole_messages (left ++ rest), cut.known rest more);
}

pub query_served : (ended : Bool) (held left text : List ℕ) (old : Counted) (out_old out : Option (List ℕ)) → IsCutOff ended held (Query text) left
    → true ≡ keeps (request_in text) → Appends out_old out (reply_to (request_in text) old.state) → Serves ended held left old old out_old out
query_served ended held left text old out_old out cut keep written = record {
  piece = Query text;
  cut = cut;
  kept = ap not (sym keep);
  state = refl;
  written = written;
}

pub last_query_served : (ended : Bool) (held left text : List ℕ) (old : Counted) (out_old out : Option (List ℕ)) → IsCutOff ended held (Query text) left
    → false ≡ keeps (request_in text) → Appends out_old out (reply_to (request_in text) old.state) → ServesLast ended held old out_old out
last_query_served ended held left text old out_old out cut keep written = record {
  piece = Query text;
  first = comes_first ended held left (Query text) cut;
  last = ap not (sym keep);
  written = written;
}

pub query_broken : (fault : ServeErr) (ended : Bool) (held left text : List ℕ) (old : Counted) (before now : ℕ) (out_old out : Option (List ℕ))
    → IsCutOff ended held (Query text) left → BreaksReply fault (Query text) old.state before now out_old out → Breaks fault ended held old before now out_old out
query_broken fault ended held left text old before now out_old out cut broken = record {
  piece = Query text;
  first = comes_first ended held left (Query text) cut;
  broken = broken;
}

pub command_served : (ended : Bool) (held left text : List ℕ) (old new : Counted) (out : Option (List ℕ)) → IsCutOff ended held (Command text) left
    → new ≡ after_piece old (Command text) → Serves ended held left old new out out
command_served ended held left text old new out cut state = record {
  piece = Command text;
  cut = cut;
  kept = refl;
  state = state;
  written = Appends-nil out;
}

-- what a write came to
pub written_or_faults : {T E : Type 0} (result : Result T E) (before now : ℕ) (old new : Option (List ℕ)) (bytes : List ℕ) → OnOk result (Appends old new bytes)
    → OnErr result (AppendsFront old new bytes) → OnErr result (Rose before now) → AppendsOrFaults before now old new bytes
written_or_faults (Ok done) before now old new bytes whole front rose = inl whole
written_or_faults (Err failed) before now old new bytes whole front rose = inr (rose, front)

pub command_broken : (ended : Bool) (held left text : List ℕ) (old : Counted) (count : ℕ) (out : Option (List ℕ)) → IsCutOff ended held (Command text) left
    → Breaks error.Memory ended held old count count out out
command_broken ended held left text old count out cut = record {
  piece = Command text;
  first = comes_first ended held left (Command text) cut;
  broken = inl (Appends-nil out);
}

last_first : (ended : Bool) (held front : List ℕ) → IsLast ended held (TooLong front) → ComesFirst ended held (TooLong front)
last_first ended held front is = record {
  all = λ rest closed. ([], is.all rest closed);
  known = λ rest more. ([], is.known rest more);
}

pub too_long_served : (ended : Bool) (held front : List ℕ) (old : Counted) (out_old out : Option (List ℕ)) → IsLast ended held (TooLong front)
    → Appends out_old out (refusal_text too_long (style_of front).fixed16) → ServesLast ended held old out_old out
too_long_served ended held front old out_old out is written = record {
  piece = TooLong front;
  first = last_first ended held front is;
  last = refl;
  written = written;
}

pub too_long_broken : (fault : ServeErr) (ended : Bool) (held front : List ℕ) (old : Counted) (before now : ℕ) (out_old out : Option (List ℕ))
    → IsLast ended held (TooLong front) → BreaksReply fault (TooLong front) old.state before now out_old out → Breaks fault ended held old before now out_old out
too_long_broken fault ended held front old before now out_old out is broken = record {
  piece = TooLong front;
  first = last_first ended held front is;
  broken = broken;
}

-- ---- no message is left only at the end of the input

whole_some : (is : Bool) (before : ℕ) (line text bytes : List ℕ) (first : Message) → first ≡ (if is then command_from before line else query_from before text bytes)
    → whole first.kind first.text ≢ Empty
whole_some true before line text bytes first is = λ empty. let no = ap (λ found. whole found.kind found.text) (sym is) ∙ empty in cc
whole_some false before line text bytes first is = λ empty. let no = ap (λ found. whole found.kind found.text) (sym is) ∙ empty in cc

at_some : (before : ℕ) (lines : List (List ℕ)) (bytes : List ℕ) → (message_at before lines bytes).ended ≡ true
    → whole (message_at before lines bytes).kind (message_at before lines bytes).text ≢ Empty
at_some before [] bytes ended = absurd (cc)
at_some before (line ∷ lines) bytes ended =
    whole_some _ before line _ bytes (message_at before (line ∷ lines) bytes) refl

of_some : (bytes : List ℕ) → (message_of bytes).ended ≡ true → whole (message_of bytes).kind (message_of bytes).text ≢ Empty
unfolding message_of
of_some bytes ended = at_some _ _ bytes ended

next_some : (ended large : Bool) (front : List ℕ) (piece : Piece) → (ended ≡ true → piece ≢ Empty)
    → Empty ≢ (if ended then piece else if large then TooLong front else More)
next_some true large front piece some = λ empty. some refl (sym empty)
next_some false true front piece some = λ empty. absurd (cc)
next_some false false front piece some = λ empty. absurd (cc)

empty_ended : (ended : Bool) (held : List ℕ) → Empty ≡ first_piece ended held → ended ≡ true
unfolding first_piece
empty_ended true held empty = refl
empty_ended false held empty =
    let first : Message = message_of (take message_limit held) in
    absurd (next_some first.ended (nat_lt message_limit (length held)) (take message_limit held) (whole first.kind first.text) (of_some (take message_limit held)) empty)

pub none_found : (ended : Bool) (held : List ℕ) (out : Option (List ℕ)) → Empty ≡ first_piece ended held → messages held ≡ [] → FindsNone ended held out out
none_found ended held out is none = record { end = empty_ended ended held is; none = none; written = Appends-nil out }
