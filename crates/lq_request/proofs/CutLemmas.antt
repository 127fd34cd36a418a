-- What the places of the first message show.
use Rattle.std.proofs.Common.{◌≡◌, ℕ, ◌+◌, ◌-◌, ◌<◌, ◌≤◌, Bool, true, false, List, [], ◌++◌, length, take, drop, refl, sym, ap, ◌∙◌, subst, arith, length-take}
use Rattle.std.proofs.lemmas.List.{drop-append-le, drop-drop, drop-take, take-append-le}
use Rattle.std.proofs.lemmas.Grind.{common_steps}
use Rattle.lq_request.specs.Messages.{message_limit, Message, message_of, after_message, first_piece, IsFirst, IsNext, Piece, More, rest_after, whole}
use Rattle.lq_request.specs.Search.{IsKnown}
use Rattle.lq_request.specs.Extent.{IsExtent}
use Rattle.lq_request.specs.Cutting.{Shows, IsWithin, found_piece, taken_by}
use Rattle.lq_request.specs.declared.extent.Extent.{Extent}
use Rattle.lq_request.specs.declared.extent.MessageKind.{MessageKind}
use Rattle.lq_request.specs.declared.extent.MessageKind.TheVariants as message
use Rattle.lq_request.specs.declared.cut.Found.{Found}
use Rattle.lq_request.specs.declared.cut.Found.TheVariants as found
use Rattle.lq_request.proofs.ListLemmas.{part_of_front, take_front, take_whole}
use Rattle.lq_request.proofs.MessageLemmas.{message_kind}
use Rattle.lq_request.proofs.PieceLemmas.{window_message, piece_ended, piece_long, piece_more, piece_last, first_ended, first_long, first_last}

-- ---- what is after a message

whole_not_more : (k : MessageKind) (text : List ℕ) → whole k text ≡ More → ⊥
whole_not_more message.Query text is = cc
whole_not_more message.Command text is = cc
whole_not_more message.Nothing text is = cc

pub rest_of_message : (k : MessageKind) (text bytes : List ℕ) → (k ≡ message.Nothing → ⊥) → rest_after (whole k text) bytes ≡ after_message bytes (window_message bytes)
rest_of_message message.Query text bytes some = refl
rest_of_message message.Command text bytes some = refl
rest_of_message message.Nothing text bytes some = absurd (some refl)

pub after_ended : (bytes : List ℕ) (first : Message) → first.ended ≡ true → after_message bytes first ≡ drop first.size bytes
after_ended bytes first is = rw is refl

pub after_last : (k : MessageKind) (text bytes : List ℕ) → (window_message bytes).ended ≡ false → rest_after (whole k text) bytes ≡ []
after_last message.Query text bytes is = rw is refl
after_last message.Command text bytes is = rw is refl
after_last message.Nothing text bytes is = refl

drop_all : (bytes : List ℕ) → drop (length bytes) bytes ≡ []
drop_all bytes = grind (arith, common_steps)

-- ---- what the places show

-- more bytes are wanted where no message has ended
pub shows_unended : (ended : Bool) (bytes : List ℕ) → (window_message bytes).ended ≡ false → length bytes ≤ message_limit → ended ≡ false → Shows ended bytes found.More
unfolding first_piece
shows_unended ended bytes unended short open' = record {
  next = record {
    is = sym (piece_more ended bytes (window_message bytes) unended short open');
    first = λ other. absurd (other refl);
    more = λ _. (open', short);
  };
  rest = refl;
  within = short;
}

pub shows_unfed : (ended : Bool) (bytes : List ℕ) → (message_of bytes).ended ≡ false → length bytes ≤ message_limit → ended ≡ false → Shows ended bytes found.More
shows_unfed ended bytes unended short open' =
    shows_unended ended bytes (ap (λ b. (message_of b).ended) (take_whole message_limit bytes short) ∙ unended) short open'

module _ (ended : Bool) (bytes : List ℕ) (extent : Extent) (is : IsExtent (take message_limit bytes) extent) where
  window_length : length (take message_limit bytes) ≤ length bytes × length (take message_limit bytes) ≤ message_limit
  window_length = (omega (arith, length-take message_limit bytes), omega (arith, length-take message_limit bytes))

  text_is : take (extent.end - extent.start) (drop extent.start bytes) ≡ (window_message bytes).text
  text_is = sym (is.text ∙ part_of_front bytes extent.start extent.end message_limit is.order (omega (arith, is.next, is.within, window_length)))

  -- the message that the places show
  abbrev message_piece : Piece
  message_piece = whole (window_message bytes).kind (window_message bytes).text

  message_is : whole extent.kind (take (extent.end - extent.start) (drop extent.start bytes)) ≡ message_piece
  message_is = ap (λ k. whole k (take (extent.end - extent.start) (drop extent.start bytes))) (sym is.kind) ∙ ap (whole (window_message bytes).kind) text_is

  next_message : first_piece ended bytes ≡ message_piece → IsFirst message_piece ended bytes → IsNext ended bytes (whole extent.kind (take (extent.end - extent.start) (drop extent.start bytes)))
  next_message piece first = record {
    is = message_is ∙ sym piece;
    first = λ _. subst (λ p. IsFirst p ended bytes) (sym message_is) first;
    more = λ same. absurd (whole_not_more extent.kind _ same);
  }

  pub shows_ended : extent.end < extent.next → Shows ended bytes (found.Message extent)
  unfolding first_piece
  shows_ended low =
      let has : (window_message bytes).ended ≡ true = is.ended ∙ grind arith in
      let some : extent.kind ≡ message.Nothing → ⊥ = λ none. message_kind (take message_limit bytes) has (is.kind ∙ none) in
      record {
        next = next_message (piece_ended ended bytes (window_message bytes) has) (first_ended ended bytes has (omega (arith, is.size, is.within, window_length)));
        rest = rest_of_message extent.kind _ bytes some ∙ after_ended bytes (window_message bytes) has ∙ ap (λ n. drop n bytes) is.size;
        within = (is.order, is.next, omega (arith, is.within, window_length));
      }

  not_ended : extent.next ≤ extent.end → (window_message bytes).ended ≡ false
  not_ended high = is.ended ∙ grind arith

  pub shows_long : extent.next ≤ extent.end → message_limit < length bytes → Shows ended bytes found.TooLong
  unfolding first_piece
  shows_long high long = record {
    next = record {
      is = sym (piece_long ended bytes (window_message bytes) (not_ended high) long);
      first = λ _. first_long ended bytes (not_ended high) long;
      more = λ same. absurd (cc);
    };
    rest = refl;
    within = omega arith;
  }

  pub shows_more : extent.next ≤ extent.end → length bytes ≤ message_limit → ended ≡ false → Shows ended bytes found.More
  shows_more high short open' = shows_unended ended bytes (not_ended high) short open'

  last_of : (piece : Piece) → extent.next ≤ extent.end → length bytes ≤ message_limit → ended ≡ true → first_piece ended bytes ≡ piece → IsFirst piece ended bytes
  unfolding first_piece
  last_of piece high short closed shown =
      subst (λ e. IsFirst piece e bytes) (sym closed) (first_last bytes piece (not_ended high) short (ap (λ e. first_piece e bytes) (sym closed) ∙ shown))

  pub shows_last : extent.next ≤ extent.end → length bytes ≤ message_limit → ended ≡ true
      → Shows ended bytes (found.Message (record { kind = extent.kind; start = extent.start; end = extent.end; next = length bytes }))
  unfolding first_piece
  shows_last high short closed =
      let piece : first_piece ended bytes ≡ message_piece = piece_last ended bytes (window_message bytes) (not_ended high) short closed in
      record {
        next = next_message piece (last_of message_piece high short closed piece);
        rest = after_last extent.kind _ bytes (not_ended high) ∙ sym (drop_all bytes);
        within = (is.order, omega (arith, is.next, is.within, window_length), omega arith);
      }

-- ---- the buffer

-- what is held after n bytes
pub held_after : (buffer : List ℕ) (start end n : ℕ) → n ≤ length (take (end - start) (drop start buffer))
    → take (end - (start + n)) (drop (start + n) buffer) ≡ drop n (take (end - start) (drop start buffer))
held_after buffer start end n low =
    let small : n ≤ end - start = omega (arith, length-take (end - start) (drop start buffer), low) in
    let whole : n + (end - (start + n)) ≡ end - start = omega arith in
    ap (take (end - (start + n))) (sym (drop-drop n start buffer)) ∙ sym (drop-take n (end - (start + n)) (drop start buffer))
    ∙ ap (λ k. drop n (take k (drop start buffer))) whole

-- a part of what is held
pub held_part : (buffer : List ℕ) (start end from to : ℕ) → from ≤ to → to ≤ length (take (end - start) (drop start buffer))
    → take (start + to - (start + from)) (drop (start + from) buffer) ≡ take (to - from) (drop from (take (end - start) (drop start buffer)))
held_part buffer start end from to low high =
    let small : to ≤ end - start = omega (arith, length-take (end - start) (drop start buffer), high) in
    let size : start + to - (start + from) ≡ to - from = omega arith in
    ap (λ k. take k (drop (start + from) buffer)) size ∙ ap (take (to - from)) (sym (drop-drop from start buffer))
    ∙ sym (part_of_front (drop start buffer) from to (end - start) low small)

taken_within : (bytes : List ℕ) (place : Found) → IsWithin bytes place → taken_by place ≤ length bytes
taken_within bytes (found.Message extent) within = within.2
taken_within bytes found.TooLong within = within
taken_within bytes found.More within = omega arith

-- what a loan of the buffer leaves in it
pub written : (n : ℕ) (new old : List ℕ) → length new ≡ n → take n (new ++ drop (length new) old) ≡ new
written n new old size = take-append-le n new (drop (length new) old) (omega (arith, size)) ∙ take_whole n new (omega (arith, size))

-- what is held with a piece after it, which may have moved before
pub fed : (buffer moved filled piece : List ℕ) (start from held : ℕ) → take held (drop from moved) ≡ take held (drop start buffer)
    → take (from + held + length piece) filled ≡ take (from + held) moved ++ piece → from + held ≤ length moved
    → take (from + held + length piece - from) (drop from filled) ≡ take held (drop start buffer) ++ piece
fed buffer moved filled piece start from held same put low =
    let size : from + (held + length piece) ≡ from + held + length piece = omega arith in
    let count : from + held + length piece - from ≡ held + length piece = omega arith in
    let inside : from ≤ length (take (from + held) moved) = omega (arith, length-take (from + held) moved, low) in
    ap (λ n. take n (drop from filled)) count ∙ sym (drop-take from (held + length piece) filled) ∙ ap (λ n. drop from (take n filled)) size
    ∙ ap (drop from) put ∙ drop-append-le from (take (from + held) moved) piece inside ∙ ap (λ front. front ++ piece) (drop-take from held moved ∙ same)

-- the same of the buffer, by what its loans were: `given` is the second of them
pub fed_view : (n : ℕ) (items now moved given filled piece : List ℕ) (start from held : ℕ) → now ≡ items → length moved ≡ n → given ≡ take n (moved ++ drop (length moved) items)
    → take held (drop from moved) ≡ take held (drop start now) → length filled ≡ n → take (from + held + length piece) filled ≡ take (from + held) given ++ piece → from + held ≤ n
    → take (from + held + length piece - from) (drop from (take n (filled ++ drop (length filled) (take n (moved ++ drop (length moved) items))))) ≡ take held (drop start items) ++ piece
fed_view n items now moved given filled piece start from held first size second same full put low =
    ap (λ b. take (from + held + length piece - from) (drop from b)) (written n filled _ full)
    ∙ fed items moved filled piece start from held (same ∙ ap (λ b. take held (drop start b)) first)
    (put ∙ ap (λ b. take (from + held) b ++ piece) (second ∙ written n moved items size)) (omega (arith, size, low))

-- `held` is what the buffer has between two places, which contracts see as `now`
module _ (ended : Bool) (buffer : List ℕ) (start end : ℕ) (held now : List ℕ) (inside : held ≡ take (end - start) (drop start buffer)) (view : take (end - start) (drop start buffer) ≡ now) where
  pub next_of : (place : Found) → Shows ended held place → IsNext ended now (found_piece now place)
  next_of place shows = subst (λ bytes. IsNext ended bytes (found_piece bytes place)) (inside ∙ view) shows.next

  pub after_of : (place : Found) (taken : ℕ) → taken ≡ taken_by place → Shows ended held place
      → take (end - (start + taken)) (drop (start + taken) buffer) ≡ rest_after (found_piece now place) now
  after_of place taken is shows =
      let small : taken_by place ≤ length (take (end - start) (drop start buffer)) = subst (λ bytes. taken_by place ≤ length bytes) inside (taken_within held place shows.within) in
      ap (λ n. take (end - (start + n)) (drop (start + n) buffer)) is ∙ held_after buffer start end (taken_by place) small
      ∙ ap (drop (taken_by place)) view ∙ sym (subst (λ bytes. rest_after (found_piece bytes place) bytes ≡ drop (taken_by place) bytes) (inside ∙ view) shows.rest)

  -- what is left, and how far it was looked over
  pub left_within : (place : Found) (taken : ℕ) → taken ≡ taken_by place → IsWithin held place → start ≤ end → start + taken ≤ end
  left_within place taken is within order =
      let small : taken_by place ≤ length (take (end - start) (drop start buffer)) = subst (λ bytes. taken_by place ≤ length bytes) inside (taken_within held place within) in
      omega (arith, is, small, length-take (end - start) (drop start buffer), order)

  pub left_known : (place : Found) (taken text next seen : ℕ) → taken ≡ taken_by place → IsWithin held place → IsKnown text next seen (drop (taken_by place) held)
      → IsKnown text next seen (take (end - (start + taken)) (drop (start + taken) buffer))
  left_known place taken text next seen is within known =
      let small : taken_by place ≤ length (take (end - start) (drop start buffer)) = subst (λ bytes. taken_by place ≤ length bytes) inside (taken_within held place within) in
      subst (IsKnown text next seen)
      (sym (ap (λ n. take (end - (start + n)) (drop (start + n) buffer)) is ∙ held_after buffer start end (taken_by place) small ∙ ap (drop (taken_by place)) (sym inside)))
      known

  pub part_of : (items : List ℕ) (from to : ℕ) → items ≡ buffer → from ≤ to → to ≤ length held
      → take (start + to - (start + from)) (drop (start + from) items) ≡ take (to - from) (drop from now)
  part_of items from to same low high =
      ap (λ bytes. take (start + to - (start + from)) (drop (start + from) bytes)) same
      ∙ held_part buffer start end from to low (subst (λ bytes. to ≤ length bytes) inside high) ∙ ap (λ bytes. take (to - from) (drop from bytes)) view

  pub front_of : (items : List ℕ) (to : ℕ) → items ≡ buffer → to ≤ length held → take (start + to - start) (drop start items) ≡ take to now
  front_of items to same high =
      let small : to ≤ end - start = omega (arith, ap length inside, length-take (end - start) (drop start buffer), high) in
      let size : start + to - start ≡ to = omega arith in
      ap (λ bytes. take (start + to - start) (drop start bytes)) same ∙ ap (λ n. take n (drop start buffer)) size
      ∙ sym (take_front to (end - start) (drop start buffer) small) ∙ ap (take to) view
