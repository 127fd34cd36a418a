-- Nothing is due before the first moment.
use Rattle.std.proofs.Common.{◌≡◌, ℕ, ◌<◌, ◌≤◌, ◌&&◌, nat_le, not, Bool, true, false, List, [], ◌∷◌, flat_map, refl, arith}
use Rattle.std.proofs.lemmas.Bool.Decides.{nat_tests}
use Rattle.lq_records.specs.declared.base.Base.{Base}
use Rattle.lq_events.specs.declared.status.Downtime.{Downtime}
use Rattle.lq_live.specs.Downtimes.{moments, due}
use Rattle.lq_live.specs.StepEdits.{advance_edits}
use Rattle.lq_live.specs.Kept.{AllFrom, IsFrom}

no_end : (second m : ℕ) (downtime : Downtime) → second < m → IsFrom m downtime → nat_le downtime.end second ≡ false
no_end second m downtime before from = grind (arith, nat_tests, before, from.end)

no_start_of : (active : Bool) (second m start : ℕ) → second < m → (active ≡ false → m ≤ start) → (not active && nat_le start second) ≡ false
no_start_of true second m start before from = refl
no_start_of false second m start before from = grind (arith, nat_tests, before, from refl)

none_of : (second m : ℕ) (downtime : Downtime) → second < m → IsFrom m downtime → moments second downtime ≡ []
none_of second m downtime before from = rw (no_start_of downtime.active second m downtime.start before from.start, no_end second m downtime before from) refl

no_moments : (second m : ℕ) (downtimes : List Downtime) → second < m → AllFrom m downtimes → flat_map (moments second) downtimes ≡ []
no_moments second m [] before all = refl
no_moments second m (downtime ∷ downtimes) before all = rw (none_of second m downtime before all.0, no_moments second m downtimes before all.1) refl

pub nothing_due : (base : Base) (second m : ℕ) (downtimes : List Downtime) → second < m → AllFrom m downtimes → advance_edits base second downtimes ≡ []
unfolding advance_edits due
nothing_due base second m downtimes before all = rw (no_moments second m downtimes before all) refl
