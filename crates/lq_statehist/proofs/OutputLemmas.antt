-- The line that a piece carries has the output that is told there.
use Rattle.std.proofs.Common.{◌≡◌, ℕ, zero, suc, ◌+◌, ◌-◌, Bool, true, false, Option, Some, None, List, [], ◌∷◌, filter, unwrap_or, slice_get, refl, sym, ap, subst, ◌∙◌, arith, cond, if◌then◌else◌}
use Rattle.std.specs.List.{AllByRecursion, cons_option, enumerate_from, filter_map}
use Rattle.std.specs.Option.{option_and_then, option_map, option_map_or}
use Rattle.lq_records.specs.Object.{is_same_object}
use Rattle.lq_records.specs.declared.base.Base.{Base}
use Rattle.lq_records.specs.declared.object.Object.{Object}
use Rattle.lq_events.specs.declared.log_entry.LogEntry.{LogEntry}
use Rattle.lq_log.specs.Told.{object_of, told_by}
use Rattle.lq_log.specs.declared.telling.Told.{Told}
use Rattle.lq_log.specs.declared.telling.Told.TheVariants as told
use Rattle.lq_statehist.specs.Facts.{Known, known_at, last_said, line_fact, output_in, up_to}
use Rattle.lq_statehist.specs.Laws.{HaveOutputs, output_of_line}
use Rattle.lq_statehist.specs.Notes.{Note, Said, State, Downtime, Flapping, Period, note_at, notes_of, said_as}
use Rattle.lq_statehist.specs.Tiling.{HistoryPiece, with_piece_before, pieces_between, same_facts, second_piece}
use Rattle.lq_statehist.proofs.JoinLemmas.{no_pieces, pieces_next}

-- ---- what a line says of a state has its output

abbrev Fits : List LogEntry → ℕ → Said → Type 0
Fits log place (State object state output) = output_of_line log (Some place) ≡ output
Fits log place _ = Unit {0}

abbrev FitsNote : List LogEntry → Note → Type 0
FitsNote log note = Fits log note.place note.said

said_fits : (log : List LogEntry) (place : ℕ) (entry : LogEntry) (found : Option Object) (tells : Option Told) (rest : List Note) → slice_get log place ≡ Some entry
    → AllByRecursion (FitsNote log) rest
    → AllByRecursion (FitsNote log) (cons_option (option_map (λ said. record { time = entry.time; place = place; said = said }) (option_and_then (said_as entry found) tells)) rest)
said_fits log place entry found None rest at all = all
said_fits log place entry None (Some (told.State hard)) rest at all = all
said_fits log place entry (Some object) (Some (told.State hard)) rest at all = (ap (λ line. option_map_or (λ (e : LogEntry). e.output) line []) at, all)
said_fits log place entry None (Some (told.Downtime on)) rest at all = all
said_fits log place entry (Some object) (Some (told.Downtime on)) rest at all = (tt, all)
said_fits log place entry None (Some (told.Flapping on)) rest at all = all
said_fits log place entry (Some object) (Some (told.Flapping on)) rest at all = (tt, all)
said_fits log place entry found (Some (told.Period on)) rest at all = (tt, all)

notes_fit : (base : Base) (log lines : List LogEntry) (place : ℕ) → ((i : ℕ) → slice_get lines i ≡ slice_get log (place + i)) → AllByRecursion (FitsNote log) (filter_map (note_at base) (enumerate_from place lines))
notes_fit base log [] place same = tt
notes_fit base log (entry ∷ lines) place same =
    said_fits log place entry (object_of base entry) (told_by entry) (filter_map (note_at base) (enumerate_from (place + 1) lines))
    (ap (slice_get log) (omega arith) ∙ sym (same 0))
    (notes_fit base log lines (place + 1) (λ i. same (suc i) ∙ ap (slice_get log) (omega arith)))

kept_fit : (log : List LogEntry) (keeps : Note → Bool) (notes : List Note) → AllByRecursion (FitsNote log) notes → AllByRecursion (FitsNote log) (filter keeps notes)
kept_fit log keeps [] all = tt
kept_fit log keeps (note ∷ notes) all = either (keeps note) (kept_fit log keeps notes all.1)
  where
    either : (is : Bool) → AllByRecursion (FitsNote log) (filter keeps notes) → AllByRecursion (FitsNote log) (cond is (note ∷ filter keeps notes) (filter keeps notes))
    either true rest = (all.0, rest)
    either false rest = rest

-- ---- the last line that tells a state, and its output

module _ (log : List LogEntry) (about : Object) where
  said_next : (time place : ℕ) (said : Said) (line : Option ℕ) (output : List ℕ) → Fits log place said → output_of_line log line ≡ output
      → output_of_line log (unwrap_or (line_fact about (record { time = time; place = place; said = said }) said) line) ≡ unwrap_or (output_in about said) output
  said_next time place (State object state told) line output fits is = either (is_same_object about object)
    where
      either : (same : Bool) → output_of_line log (unwrap_or (if same then Some (Some place) else None) line) ≡ unwrap_or (if same then Some told else None) output
      either true = fits
      either false = is
  said_next time place (Downtime object on) line output fits is = is
  said_next time place (Flapping object on) line output fits is = is
  said_next time place (Period name on) line output fits is = is

  last_fits : (notes : List Note) (line : Option ℕ) (output : List ℕ) → AllByRecursion (FitsNote log) notes → output_of_line log line ≡ output
      → output_of_line log (last_said (λ note. line_fact about note note.said) line notes) ≡ last_said (λ note. output_in about note.said) output notes
  last_fits [] line output all is = is
  last_fits (note ∷ notes) line output all is =
      last_fits notes (unwrap_or (line_fact about note note.said) line) (unwrap_or (output_in about note.said) output) all.1
      (said_next note.time note.place note.said line output all.0 is)

-- ---- pieces

joined_all : (P : Known → Type 0) (piece : HistoryPiece) (pieces : List HistoryPiece) → P piece.known → AllByRecursion (λ other. P other.known) pieces → AllByRecursion (λ other. P other.known) (with_piece_before piece pieces)
joined_all P piece [] is all = (is, tt)
joined_all P piece (next ∷ pieces) is all = either (same_facts piece.known.facts next.known.facts)
  where
    either : (same : Bool) → AllByRecursion (λ other. P other.known) (if same then record piece { until = next.until } ∷ pieces else piece ∷ next ∷ pieces)
    either true = (is, all.1)
    either false = (is, all)

pieces_all : (P : Known → Type 0) (at : ℕ → Known) → ((second : ℕ) → P (at second)) → (count from until : ℕ) → until - from ≡ count → AllByRecursion (λ piece. P piece.known) (pieces_between at from until)
pieces_all P at is zero from until left = subst (AllByRecursion (λ piece. P piece.known)) (sym (no_pieces at from until (omega (arith, left)))) tt
pieces_all P at is (suc count) from until left =
    subst (AllByRecursion (λ piece. P piece.known)) (sym (pieces_next at from until (omega (arith, left))))
    (joined_all P (second_piece at from) (pieces_between at (from + 1) until) (is from) (pieces_all P at is count (from + 1) until (omega (arith, left))))

pub have_outputs : HaveOutputs
have_outputs base about log from until =
    pieces_all (λ known. output_of_line log known.line ≡ known.facts.output) (known_at about (notes_of base log))
    (λ second. last_fits log about.object (up_to second (notes_of base log)) None []
    (kept_fit log _ (notes_of base log) (notes_fit base log log 0 (λ i. ap (slice_get log) (omega arith)))) refl)
    (until - from) from until refl
