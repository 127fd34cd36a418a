-- A connection from its first message to its end, over plain variables.
use Rattle.std.proofs.Common.{◌-◌, inl, inr, ◌≡◌, ℕ, zero, suc, ◌+◌, ◌<◌, ◌≤◌, nat_le, ◌||◌, Bool, true, false, Option, Some, None, IfSome, List, [], ◌∷◌, ◌++◌, length, take, refl, sym, ap, ◌∙◌, subst, arith, append_assoc, length-append, if◌then◌else◌}
use Rattle.std.specs.Prelude.{IsTrue}
use Rattle.std.specs.List.{list_any}
use Rattle.std.specs.Io.KnownBytes.{Appends, Consumes, IsAtEnd, Keeps}
use Rattle.std.proofs.KnownBytes.{Consumes-nil, Consumes-trans, Consumes-kept, Appends-nil, Appends-trans}
use Rattle.std.proofs.lemmas.Bool.Decides.{nat_tests}
use Rattle.std.proofs.lemmas.Grind.{common_steps}
use Rattle.lq_outside.specs.Sinks.{AppendsFront}
use Rattle.lq_live.specs.State.{State, Counted}
use Rattle.lq_request.specs.Messages.{Piece, messages, messages_up_to, whole_messages}
use Rattle.lq_session.specs.Reading.{AppendsOrFaults, ReadsAll, ReadsNoFurther, RepliesToFirst, RepliesToRead}
use Rattle.lq_session.specs.Replies.{after_piece, is_last, is_over, memory_reply, opening, replies, replies_from, replies_to, reply_to_piece}
use Rattle.lq_session.specs.Session.{Fills, Serves, ServesLast, FindsNone, WantsMore, Breaks, Stops}
use Rattle.lq_session.specs.declared.session.ServeErr.{ServeErr}
use Rattle.lq_session.specs.declared.session.ServeErr.TheVariants as error

-- ---- lists

append_none : {X : Type 0} (xs : List X) → xs ++ [] ≡ xs
append_none [] = refl
append_none (x ∷ xs) = ap (λ ys. x ∷ ys) (append_none xs)

-- the first of joined lists, where all of the one in front is among them
take_done : {X : Type 0} (most : ℕ) (done later : List X) (room : ℕ) → length done + room ≡ most → take most (done ++ later) ≡ done ++ take room later
take_done most [] later room is = let same : room ≡ most = omega (arith, is) in ap (λ n. take n later) (sym same)
take_done zero (x ∷ done) later room is = absurd (omega (arith, is))
take_done (suc most) (x ∷ done) later room is = ap (λ ys. x ∷ ys) (take_done most done later room (omega (arith, is)))

-- a front of joined bytes
take_front : (front bytes tail : List ℕ) (n : ℕ) → n ≤ length bytes → take (length front + n) (front ++ (bytes ++ tail)) ≡ front ++ take n bytes
take_front front bytes tail n within =
    take_done (length front + n) front (bytes ++ tail) n refl ∙ ap (λ ys. front ++ ys) (grind (arith, common_steps, within))

take_none : {X : Type 0} (n : ℕ) (xs : List X) → xs ≡ [] → take n xs ≡ []
take_none zero xs is = refl
take_none (suc n) xs is = rw is refl

-- ---- where a connection stands

-- What was read, the messages that were served, what was written, and what is still to come.
pub record Stands (s : State) (old left out_old out : Option (List ℕ)) (now : Counted) (ended : Bool) (held : List ℕ) (room : ℕ) : Type 0 where
  pub taken : List ℕ
  pub done : List Piece
  pub written : List ℕ
  pub consumed : Consumes old left taken
  pub at_end : ended ≡ true → IsAtEnd left
  pub all : (rest : List ℕ) → (IsTrue ended → rest ≡ []) → messages (taken ++ rest) ≡ done ++ messages (held ++ rest)
  pub known : (rest : List ℕ) → ended ≡ false → whole_messages (taken ++ rest) ≡ done ++ whole_messages (held ++ rest)
  pub count : length done + room ≡ 10000
  pub kept : list_any is_last done ≡ false
  pub appended : Appends out_old out written
  pub replies : (later : List Piece) → replies_from (opening s) (done ++ later) ≡ written ++ replies_from now later

stands_at_first : (s : State) (left out : Option (List ℕ)) → Stands s left left out out (opening s) false [] 10000
stands_at_first s left out = record {
  taken = [];
  done = [];
  written = [];
  consumed = Consumes-nil left;
  at_end = λ is. absurd (cc);
  all = λ rest closed. refl;
  known = λ rest more. refl;
  count = refl;
  kept = refl;
  appended = Appends-nil out;
  replies = λ later. refl;
}

pub stands_first : (s : State) (left out : Option (List ℕ)) (now : Counted) (held : List ℕ) → now ≡ opening s → held ≡ [] → Stands s left left out out now false held 10000
stands_first s left out now held is none = rw (is, none) (stands_at_first s left out)

-- ---- one message more

one_reply : (at : Counted) (piece : Piece) (later : List Piece) → is_last piece ≡ false
    → replies_from at (piece ∷ later) ≡ reply_to_piece piece at.state ++ replies_from (after_piece at piece) later
one_reply at piece later kept = rw kept refl

last_reply : (at : Counted) (piece : Piece) (later : List Piece) → is_last piece ≡ true
    → replies_from at (piece ∷ later) ≡ reply_to_piece piece at.state
last_reply at piece later last = rw last (append_none (reply_to_piece piece at.state))

rest_kept : (first later more : Bool) → (first || later) ≡ false → (later ≡ false → more ≡ false) → (first || more) ≡ false
rest_kept true later more is rest = absurd (cc)
rest_kept false later more is rest = rest is

one_more_kept : (done : List Piece) (piece : Piece) → list_any is_last done ≡ false → is_last piece ≡ false → list_any is_last (done ++ piece ∷ []) ≡ false
one_more_kept [] piece before kept = rw kept refl
one_more_kept (first ∷ done) piece before kept = rest_kept (is_last first) (list_any is_last done) (list_any is_last (done ++ piece ∷ [])) before (λ later. one_more_kept done piece later kept)

stands_after : (s : State) (old left out_old out out_new : Option (List ℕ)) (now next : Counted) (ended : Bool) (held held_new : List ℕ) (room less : ℕ)
    → Stands s old left out_old out now ended held room → (serves : Serves ended held held_new now next out out_new) → room ≡ less + 1
    → Stands s old left out_old out_new (after_piece now serves.piece) ended held_new less
stands_after s old left out_old out out_new now next ended held held_new room less at serves is = record {
  taken = at.taken;
  done = at.done ++ serves.piece ∷ [];
  written = at.written ++ reply_to_piece serves.piece now.state;
  consumed = at.consumed;
  at_end = at.at_end;
  all = λ rest closed. at.all rest closed ∙ ap (λ later. at.done ++ later) (serves.cut.all rest closed) ∙ sym (append_assoc at.done (serves.piece ∷ []) (messages (held_new ++ rest)));
  known = λ rest more. at.known rest more ∙ ap (λ later. at.done ++ later) (serves.cut.known rest more) ∙ sym (append_assoc at.done (serves.piece ∷ []) (whole_messages (held_new ++ rest)));
  count = omega (arith, length-append at.done (serves.piece ∷ []), at.count, is);
  kept = one_more_kept at.done serves.piece at.kept serves.kept;
  appended = Appends-trans out_old out out_new at.written (reply_to_piece serves.piece now.state) at.appended serves.written;
  replies = λ later. ap (replies_from (opening s)) (append_assoc at.done (serves.piece ∷ []) later) ∙ at.replies (serves.piece ∷ later)
      ∙ ap (λ bytes. at.written ++ bytes) (one_reply now serves.piece later serves.kept)
      ∙ sym (append_assoc at.written (reply_to_piece serves.piece now.state) (replies_from (after_piece now serves.piece) later));
}

pub stands_next : (s : State) (old left out_old out out_new : Option (List ℕ)) (now next : Counted) (ended : Bool) (held held_new : List ℕ) (room less : ℕ)
    → Stands s old left out_old out now ended held room → Serves ended held held_new now next out out_new → room ≡ less + 1
    → Stands s old left out_old out_new next ended held_new less
stands_next s old left out_old out out_new now next ended held held_new room less at serves is =
    subst (λ after. Stands s old left out_old out_new after ended held_new less) (sym serves.state)
    (stands_after s old left out_old out out_new now next ended held held_new room less at serves is)

-- nothing more was written
stands_still : (s : State) (old left out_old out out_new : Option (List ℕ)) (now : Counted) (ended : Bool) (held : List ℕ) (room : ℕ)
    → Stands s old left out_old out now ended held room → Appends out out_new [] → Stands s old left out_old out_new now ended held room
stands_still s old left out_old out out_new now ended held room at still = record {
  taken = at.taken;
  done = at.done;
  written = at.written;
  consumed = at.consumed;
  at_end = at.at_end;
  all = at.all;
  known = at.known;
  count = at.count;
  kept = at.kept;
  appended = subst (λ bytes. Appends out_old out_new bytes) (append_none at.written) (Appends-trans out_old out out_new at.written [] at.appended still);
  replies = at.replies;
}

-- more was read
stands_filled : (s : State) (old left left_new out_old out : Option (List ℕ)) (now : Counted) (ended : Bool) (held held_new : List ℕ) (room : ℕ)
    → Stands s old left out_old out now false held room → Fills ended left left_new held held_new → Stands s old left_new out_old out now ended held_new room
stands_filled s old left left_new out_old out now ended held held_new room at fills =
    let same : (rest : List ℕ) → held ++ (fills.bytes ++ rest) ≡ held_new ++ rest =
    λ rest. sym (append_assoc held fills.bytes rest) ∙ ap (λ bytes. bytes ++ rest) (sym fills.held) in
    record {
      taken = at.taken ++ fills.bytes;
      done = at.done;
      written = at.written;
      consumed = Consumes-trans old left left_new at.taken fills.bytes at.consumed fills.taken;
      at_end = fills.at_end;
      all = λ rest closed. ap messages (append_assoc at.taken fills.bytes rest) ∙ at.all (fills.bytes ++ rest) (λ no. absurd (cc)) ∙ ap (λ bytes. at.done ++ messages bytes) (same rest);
      known = λ rest more. ap whole_messages (append_assoc at.taken fills.bytes rest) ∙ at.known (fills.bytes ++ rest) refl ∙ ap (λ bytes. at.done ++ whole_messages bytes) (same rest);
      count = at.count;
      kept = at.kept;
      appended = at.appended;
      replies = at.replies;
    }

pub stands_read : (s : State) (old left left_new out_old out out_new : Option (List ℕ)) (now next : Counted) (ended ended_new : Bool) (held mid held_new : List ℕ) (room : ℕ)
    → Stands s old left out_old out now ended held room → WantsMore ended held mid now next out out_new → Fills ended_new left left_new mid held_new
    → Stands s old left_new out_old out_new next ended_new held_new room
stands_read s old left left_new out_old out out_new now next ended ended_new held mid held_new room at wants fills =
    let still = stands_still s old left out_old out out_new now ended held room at wants.written in
    let more : Stands s old left out_old out_new next false mid room =
    rw (wants.state, wants.same) (subst (λ end. Stands s old left out_old out_new now end held room) wants.end still) in
    stands_filled s old left left_new out_old out_new next ended_new mid held_new room more fills

-- ---- the end

replies_done : (s : State) (old left out_old out : Option (List ℕ)) (now : Counted) (ended : Bool) (held : List ℕ) (room : ℕ)
    (at : Stands s old left out_old out now ended held room) (later : List Piece)
    → replies_to s (at.done ++ later) ≡ at.written ++ replies_from now (take room later)
unfolding replies_to
replies_done s old left out_old out now ended held room at later =
    ap (replies_from (opening s)) (take_done 10000 at.done later room at.count) ∙ at.replies (take room later)

-- all replies were written where the bytes are those to what was left
input_replied : (s : State) (old left out_old out out_new : Option (List ℕ)) (now : Counted) (ended : Bool) (held : List ℕ) (room : ℕ) (bytes : List ℕ)
    → Stands s old left out_old out now ended held room → Appends out out_new bytes
    → ((rest : List ℕ) → (IsTrue ended → rest ≡ []) → replies_from now (take room (messages (held ++ rest))) ≡ bytes)
    → IfSome old (λ input. Appends out_old out_new (replies s input))
input_replied s None left out_old out out_new now ended held room bytes at more tail = tt
input_replied s (Some input) None out_old out out_new now ended held room bytes at more tail = absurd at.consumed
input_replied s (Some input) (Some rest) out_old out out_new now ended held room bytes at more tail =
    let is : replies s input ≡ at.written ++ bytes =
    ap (replies s) at.consumed ∙ ap (replies_to s) (at.all rest at.at_end)
    ∙ replies_done s (Some input) (Some rest) out_old out now ended held room at (messages (held ++ rest)) ∙ ap (λ later. at.written ++ later) (tail rest at.at_end) in
    subst (λ all. Appends out_old out_new all) (sym is) (Appends-trans out_old out out_new at.written bytes at.appended more)

last_tail : (at : Counted) (piece : Piece) (later : List Piece) (room less : ℕ) → is_last piece ≡ true → room ≡ less + 1
    → replies_from at (take room (piece ∷ later)) ≡ reply_to_piece piece at.state
last_tail at piece later zero less last is = absurd (omega (arith, is))
last_tail at piece later (suc room) less last is = last_reply at piece (take room later) last

pub last_replied : (s : State) (old left out_old out out_new : Option (List ℕ)) (now : Counted) (ended : Bool) (held : List ℕ) (room : ℕ)
    → Stands s old left out_old out now ended held room → ServesLast ended held now out out_new → 0 < room
    → IfSome old (λ input. Appends out_old out_new (replies s input))
last_replied s old left out_old out out_new now ended held room at serves some =
    input_replied s old left out_old out out_new now ended held room (reply_to_piece serves.piece now.state) at serves.written
    (λ rest closed. let first = serves.first.all rest closed in
    ap (λ later. replies_from now (take room later)) first.1 ∙ last_tail now serves.piece first.0 room (room - 1) serves.last (omega (arith, some)))

pub none_replied : (s : State) (old left out_old out out_new : Option (List ℕ)) (now : Counted) (ended : Bool) (held : List ℕ) (room : ℕ)
    → Stands s old left out_old out now ended held room → FindsNone ended held out out_new
    → IfSome old (λ input. Appends out_old out_new (replies s input))
none_replied s old left out_old out out_new now ended held room at finds =
    input_replied s old left out_old out out_new now ended held room [] at finds.written
    (λ rest closed. let none : messages (held ++ rest) ≡ [] = ap (λ more. messages (held ++ more)) (closed finds.end) ∙ ap messages (append_none held) ∙ finds.none in
    ap (λ later. replies_from now (take room later)) none ∙ ap (replies_from now) (take_none room [] refl))

pub full_replied : (s : State) (old left out_old out : Option (List ℕ)) (now : Counted) (ended : Bool) (held : List ℕ) (room : ℕ)
    → Stands s old left out_old out now ended held room → room ≡ 0 → IfSome old (λ input. Appends out_old out (replies s input))
full_replied s old left out_old out now ended held room at none =
    input_replied s old left out_old out out now ended held room [] at (Appends-nil out) (λ rest closed. rw none refl)

-- ---- what was read by then

either_true : (a b : Bool) → b ≡ true → (a || b) ≡ true
either_true true b is = refl
either_true false b is = is

has_last : (done : List Piece) (piece : Piece) (later : List Piece) → is_last piece ≡ true → list_any is_last (done ++ piece ∷ later) ≡ true
has_last [] piece later last = rw last refl
has_last (first ∷ done) piece later last = either_true (is_last first) (list_any is_last (done ++ piece ∷ later)) (has_last done piece later last)

over_by_last : (done : List Piece) (piece : Piece) (later : List Piece) → is_last piece ≡ true → is_over (done ++ piece ∷ later) ≡ true
unfolding is_over
over_by_last done piece later last = either_true (nat_le 10000 (length (done ++ piece ∷ later))) (list_any is_last (done ++ piece ∷ later)) (has_last done piece later last)

over_by_count : (done later : List Piece) (room : ℕ) → length done + room ≡ 10000 → room ≡ 0 → is_over (done ++ later) ≡ true
unfolding is_over
over_by_count done later room is none =
    let many : nat_le 10000 (length (done ++ later)) ≡ true = grind (arith, nat_tests, is, none, length-append done later) in
    rw many refl

not_over : (done : List Piece) (room less : ℕ) → length done + room ≡ 10000 → room ≡ less + 1 → list_any is_last done ≡ false → is_over done ≡ false
unfolding is_over
not_over done room less is more before =
    let few : nat_le 10000 (length done) ≡ false = grind (arith, nat_tests, is, more) in
    rw few before

-- the messages that are whole in what was read
whole_taken : (s : State) (old left out_old out : Option (List ℕ)) (now : Counted) (held : List ℕ) (room : ℕ)
    (at : Stands s old left out_old out now false held room) → whole_messages at.taken ≡ at.done ++ whole_messages (held ++ [])
whole_taken s old left out_old out now held room at = ap whole_messages (sym (append_none at.taken)) ∙ at.known [] refl

pub last_read : (s : State) (old left out_old out out_new : Option (List ℕ)) (now : Counted) (ended : Bool) (held : List ℕ) (room : ℕ)
    → Stands s old left out_old out now ended held room → ServesLast ended held now out out_new → ReadsAll old left
last_read s old left out_old out out_new now true held room at serves = record { taken = at.taken; consumed = at.consumed; enough = inl (at.at_end refl) }
last_read s old left out_old out out_new now false held room at serves =
    let first = serves.first.known [] refl in
    record {
      taken = at.taken;
      consumed = at.consumed;
      enough = inr (ap is_over (whole_taken s old left out_old out now held room at ∙ ap (λ later. at.done ++ later) first.1) ∙ over_by_last at.done serves.piece first.0 serves.last);
    }

pub none_read : (s : State) (old left out_old out out_new : Option (List ℕ)) (now : Counted) (ended : Bool) (held : List ℕ) (room : ℕ)
    → Stands s old left out_old out now ended held room → FindsNone ended held out out_new → ReadsAll old left
none_read s old left out_old out out_new now ended held room at finds = record { taken = at.taken; consumed = at.consumed; enough = inl (at.at_end finds.end) }

pub full_read : (s : State) (old left out_old out : Option (List ℕ)) (now : Counted) (ended : Bool) (held : List ℕ) (room : ℕ)
    → Stands s old left out_old out now ended held room → room ≡ 0 → ReadsAll old left
full_read s old left out_old out now true held room at none = record { taken = at.taken; consumed = at.consumed; enough = inl (at.at_end refl) }
full_read s old left out_old out now false held room at none = record {
  taken = at.taken;
  consumed = at.consumed;
  enough = inr (ap is_over (whole_taken s old left out_old out now held room at) ∙ over_by_count at.done (whole_messages (held ++ [])) room at.count none);
}

-- ---- no read after the end

-- before a read all messages that are whole in what was read were served
whole_done : (s : State) (old left out_old out : Option (List ℕ)) (now : Counted) (held : List ℕ) (room : ℕ)
    (at : Stands s old left out_old out now false held room) → whole_messages held ≡ [] → whole_messages at.taken ≡ at.done
whole_done s old left out_old out now held room at none =
    whole_taken s old left out_old out now held room at ∙ ap (λ bytes. at.done ++ whole_messages bytes) (append_none held)
    ∙ ap (λ later. at.done ++ later) none ∙ append_none at.done

-- the connection goes on by what was read
pub record GoesOn (old left : Option (List ℕ)) : Type 0 where
  pub taken : List ℕ
  pub consumed : Consumes old left taken
  pub goes_on : is_over (whole_messages taken) ≡ false

-- where more bytes are wanted
pub going_on : (s : State) (old left out_old out out_new : Option (List ℕ)) (now next : Counted) (ended : Bool) (held mid : List ℕ) (room : ℕ)
    → Stands s old left out_old out now ended held room → WantsMore ended held mid now next out out_new → 0 < room → GoesOn old left
going_on s old left out_old out out_new now next ended held mid room at wants some =
    let more : Stands s old left out_old out now false held room = subst (λ end. Stands s old left out_old out now end held room) wants.end at in
    record {
      taken = more.taken;
      consumed = more.consumed;
      goes_on = ap is_over (whole_done s old left out_old out now held room more wants.none) ∙ not_over more.done room (room - 1) more.count (omega (arith, some)) more.kept;
    }

module _ {Input : Type 0} (left_in : Input → Option (List ℕ)) (one_read : Input → Input → Type 0) where
  pub none_further : (old : Input) → ReadsNoFurther left_in one_read old old
  unfolding is_over whole_messages messages_up_to
  none_further old = record {
    point = old;
    before = [];
    last = [];
    consumed = Consumes-nil (left_in old);
    goes_on = refl;
    taken = Consumes-nil (left_in old);
    once = inl refl;
    few = omega arith;
  }

  -- one read after a point at which it goes on
  pub one_further : (old point new : Input) → GoesOn (left_in old) (left_in point) → (ended : Bool) (held held_new : List ℕ)
      → Fills ended (left_in point) (left_in new) held held_new → one_read point new → ReadsNoFurther left_in one_read old new
  one_further old point new on ended held held_new fills once = record {
    point = point;
    before = on.taken;
    last = fills.bytes;
    consumed = on.consumed;
    goes_on = on.goes_on;
    taken = fills.taken;
    once = inr once;
    few = fills.few;
  }

-- ---- where it breaks off

-- the replies to the messages that were served
replies_served : (s : State) (old left out_old out : Option (List ℕ)) (now : Counted) (ended : Bool) (held : List ℕ) (room : ℕ)
    (at : Stands s old left out_old out now ended held room) → replies_to s at.done ≡ at.written
replies_served s old left out_old out now ended held room at =
    ap (replies_to s) (sym (append_none at.done)) ∙ replies_done s old left out_old out now ended held room at []
    ∙ ap (λ later. at.written ++ replies_from now later) (take_none room [] refl) ∙ append_none at.written

read_part : (s : State) (old left left_new out_old out : Option (List ℕ)) (now : Counted) (held : List ℕ) (room less : ℕ)
    → Stands s old left out_old out now false held room → whole_messages held ≡ [] → Keeps left left_new → room ≡ less + 1
    → Stops error.Read s old left_new out_old out
read_part s old left left_new out_old out now held room less at none kept is =
    let whole : whole_messages at.taken ≡ at.done = whole_done s old left out_old out now held room at none in (
      record {
        taken = at.taken;
        consumed = Consumes-kept old left left_new at.taken at.consumed kept;
        goes_on = ap is_over whole ∙ not_over at.done room less at.count is at.kept;
      },
      record {
        taken = at.taken;
        consumed = Consumes-kept old left left_new at.taken at.consumed kept;
        written = subst (λ bytes. Appends out_old out bytes) (sym (ap (replies_to s) whole ∙ replies_served s old left out_old out now false held room at)) at.appended;
      },
    )

pub read_stopped : (fault : ServeErr) (s : State) (old left left_new out_old out out_new : Option (List ℕ)) (now next : Counted) (ended : Bool) (held mid : List ℕ) (room : ℕ)
    → Stands s old left out_old out now ended held room → WantsMore ended held mid now next out out_new → Keeps left left_new → 0 < room → fault ≡ error.Read
    → Stops fault s old left_new out_old out_new
read_stopped fault s old left left_new out_old out out_new now next ended held mid room at wants kept some is =
    let still = stands_still s old left out_old out out_new now ended held room at wants.written in
    subst (λ reason. Stops reason s old left_new out_old out_new) (sym is)
    (read_part s old left left_new out_old out_new now held room (room - 1) (subst (λ end. Stands s old left out_old out_new now end held room) wants.end still) wants.none kept (omega (arith, some)))

one_tail : (at : Counted) (piece : Piece) (later : List Piece) (room less : ℕ) → room ≡ less + 1
    → (tail : List ℕ) × (replies_from at (take room (piece ∷ later)) ≡ reply_to_piece piece at.state ++ tail)
one_tail at piece later zero less is = absurd (omega (arith, is))
one_tail at piece later (suc room) less is = (if is_last piece then [] else replies_from (after_piece at piece) (take room later), refl)

-- a front of the reply to a message, after the replies to those before it
front_written : (s : State) (old left out_old out out_new : Option (List ℕ)) (now : Counted) (ended : Bool) (held : List ℕ) (room less : ℕ)
    (at : Stands s old left out_old out now ended held room) (piece : Piece) (later : List Piece)
    → AppendsFront out out_new (reply_to_piece piece now.state) → room ≡ less + 1 → AppendsFront out_old out_new (replies_to s (at.done ++ piece ∷ later))
front_written s old left out_old out out_new now ended held room less at piece later front is =
    let tail = one_tail now piece later room less is in
    let reply : List ℕ = reply_to_piece piece now.state in
    let whole : replies_to s (at.done ++ piece ∷ later) ≡ at.written ++ (reply ++ tail.0) =
    replies_done s old left out_old out now ended held room at (piece ∷ later) ∙ ap (λ bytes. at.written ++ bytes) tail.1 in
    let within : length at.written + front.0 ≤ length (at.written ++ (reply ++ tail.0)) =
    omega (arith, front.1, length-append at.written (reply ++ tail.0), length-append reply tail.0) in
    subst (λ bytes. AppendsFront out_old out_new bytes) (sym whole) (
      length at.written + front.0,
      within,
      subst (λ bytes. Appends out_old out_new bytes) (sym (take_front at.written reply tail.0 front.0 front.1))
          (Appends-trans out_old out out_new at.written (take front.0 reply) at.appended front.2),
    )

write_read : (s : State) (old left out_old out out_new : Option (List ℕ)) (now : Counted) (ended : Bool) (held : List ℕ) (room less before after : ℕ)
    → Stands s old left out_old out now ended held room → Breaks error.Write ended held now before after out out_new → room ≡ less + 1
    → RepliesToRead s old left out_old out_new
write_read s old left out_old out out_new now true held room less before after at cuts is =
    let first = cuts.first.all [] (λ _. refl) in
    let whole : messages at.taken ≡ at.done ++ cuts.piece ∷ first.0 =
    ap messages (sym (append_none at.taken)) ∙ at.all [] (λ _. refl) ∙ ap (λ later. at.done ++ later) first.1 in
    record {
      taken = at.taken;
      consumed = at.consumed;
      front = inl (
        at.at_end refl,
        subst (λ pieces. AppendsFront out_old out_new (replies_to s pieces)) (sym whole)
            (front_written s old left out_old out out_new now true held room less at cuts.piece first.0 cuts.broken is),
      );
    }
write_read s old left out_old out out_new now false held room less before after at cuts is =
    let first = cuts.first.known [] refl in
    let whole : whole_messages at.taken ≡ at.done ++ cuts.piece ∷ first.0 =
    whole_taken s old left out_old out now held room at ∙ ap (λ later. at.done ++ later) first.1 in
    record {
      taken = at.taken;
      consumed = at.consumed;
      front = inr (subst (λ pieces. AppendsFront out_old out_new (replies_to s pieces)) (sym whole)
          (front_written s old left out_old out out_new now false held room less at cuts.piece first.0 cuts.broken is));
    }

write_front : (s : State) (old left out_old out out_new : Option (List ℕ)) (now : Counted) (ended : Bool) (held : List ℕ) (room less before after : ℕ)
    → Stands s old left out_old out now ended held room → Breaks error.Write ended held now before after out out_new → room ≡ less + 1
    → IfSome old (λ input. AppendsFront out_old out_new (replies s input))
write_front s None left out_old out out_new now ended held room less before after at cuts is = tt
write_front s (Some input) None out_old out out_new now ended held room less before after at cuts is = absurd at.consumed
write_front s (Some input) (Some rest) out_old out out_new now ended held room less before after at cuts is =
    let first = cuts.first.all rest at.at_end in
    let whole : messages input ≡ at.done ++ cuts.piece ∷ first.0 =
    ap messages at.consumed ∙ at.all rest at.at_end ∙ ap (λ later. at.done ++ later) first.1 in
    subst (λ pieces. AppendsFront out_old out_new (replies_to s pieces)) (sym whole)
    (front_written s (Some input) (Some rest) out_old out out_new now ended held room less at cuts.piece first.0 cuts.broken is)

write_stopped : (s : State) (old left out_old out out_new : Option (List ℕ)) (now : Counted) (ended : Bool) (held : List ℕ) (room less before after : ℕ)
    → Stands s old left out_old out now ended held room → Breaks error.Write ended held now before after out out_new → room ≡ less + 1
    → Stops error.Write s old left out_old out_new
write_stopped s old left out_old out out_new now ended held room less before after at cuts is =
    (write_read s old left out_old out out_new now ended held room less before after at cuts is, write_front s old left out_old out out_new now ended held room less before after at cuts is)

-- a count that rose since later rose since earlier
fault_since : (start before after : ℕ) (out out_new : Option (List ℕ)) (bytes : List ℕ) → start ≤ before
    → AppendsOrFaults before after out out_new bytes → AppendsOrFaults start after out out_new bytes
fault_since start before after out out_new bytes later (inl whole) = inl whole
fault_since start before after out out_new bytes later (inr failed) = inr (omega (arith, later, failed.0), failed.1)

-- the replies to the messages that were served, and the refusal of the next one
memory_refused : (s : State) (old left out_old out out_new : Option (List ℕ)) (now : Counted) (ended : Bool) (held : List ℕ) (room start before after : ℕ)
    → Stands s old left out_old out now ended held room → Breaks error.Memory ended held now before after out out_new → 0 < room → start ≤ before
    → IfSome old (λ input. RepliesToFirst s input start after out_old out_new)
memory_refused s None left out_old out out_new now ended held room start before after at breaks some later = tt
memory_refused s (Some input) None out_old out out_new now ended held room start before after at breaks some later = absurd at.consumed
memory_refused s (Some input) (Some rest) out_old out out_new now ended held room start before after at breaks some later =
    let beyond = breaks.first.all rest at.at_end in
    record {
      first = at.done;
      next = breaks.piece;
      later = beyond.0;
      all = ap messages at.consumed ∙ at.all rest at.at_end ∙ ap (λ pieces. at.done ++ pieces) beyond.1;
      goes_on = not_over at.done room (room - 1) at.count (omega (arith, some)) at.kept;
      between = out;
      served = subst (λ bytes. Appends out_old out bytes) (sym (replies_served s (Some input) (Some rest) out_old out now ended held room at)) at.appended;
      refused = fault_since start before after out out_new (memory_reply breaks.piece) later breaks.broken;
    }

pub next_refused : (fault : ServeErr) (s : State) (old left out_old out out_new : Option (List ℕ)) (now : Counted) (ended : Bool) (held : List ℕ) (room start before after : ℕ)
    → Stands s old left out_old out now ended held room → Breaks fault ended held now before after out out_new → 0 < room → start ≤ before → fault ≡ error.Memory
    → IfSome old (λ input. RepliesToFirst s input start after out_old out_new)
next_refused fault s old left out_old out out_new now ended held room start before after at breaks some later is =
    memory_refused s old left out_old out out_new now ended held room start before after at
    (subst (λ why. Breaks why ended held now before after out out_new) is breaks) some later

pub next_stopped : (fault : ServeErr) (s : State) (old left out_old out out_new : Option (List ℕ)) (now : Counted) (ended : Bool) (held : List ℕ) (room before after : ℕ)
    → Stands s old left out_old out now ended held room → Breaks fault ended held now before after out out_new → 0 < room → Stops fault s old left out_old out_new
next_stopped error.Read s old left out_old out out_new now ended held room before after at breaks some = absurd breaks.broken
next_stopped error.Write s old left out_old out out_new now ended held room before after at breaks some =
    write_stopped s old left out_old out out_new now ended held room (room - 1) before after at breaks (omega (arith, some))
next_stopped error.Memory s old left out_old out out_new now ended held room before after at breaks some = record { taken = at.taken; consumed = at.consumed }
