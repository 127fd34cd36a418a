-- The log of a workload has no fault.
use Rattle.std.proofs.Common.{◌≡◌, ℕ, zero, suc, ◌+◌, ◌*◌, ◌^◌, ◌<◌, ◌≤◌, true, false, List, [], ◌∷◌, ◌++◌, length, codes, refl, ap, sym, ◌∙◌, append_assoc, append-nil, arith, length-append}
use Rattle.std.specs.Prelude.{◌==◌, None, Some, IsOk, if◌then◌else◌}
use Rattle.std.specs.Option.{option_map_or}
use Rattle.std.specs.Fmt.{decimal}
use Rattle.std.specs.List.{concat, list_all}
use Rattle.std.proofs.lemmas.Bool.{and_from, and_parts, le-ltb}
use Rattle.std.proofs.lemmas.Fmt.{length-decimal-le}
use Rattle.lq_text.specs.Lines.{lines_of}
use Rattle.lq_log.specs.Log.{first_fault, line_fault, log_of}
use Rattle.lq_workload.specs.Checks.{after_check, after_checks, check_alert_line, next_check, state_name}
use Rattle.lq_workload.specs.Draws.{after_draws, draw_below}
use Rattle.lq_workload.specs.Objects.{host_name, service_description}
use Rattle.lq_workload.specs.Texts.{texts_below}
use Rattle.lq_workload.specs.Workload.{first_checks, log_text}
use Rattle.lq_workload.specs.declared.check.Check.{Check}
use Rattle.lq_workload.specs.declared.check.Checks.{Checks}
use Rattle.lq_workload.proofs.ByteLemmas.{decimal_inner, is_inner, list_all-both}
use Rattle.lq_workload.proofs.LineLemmas.{concat_onto, line_first}

-- ---- numbers that are drawn are small

pub drawn_less : (below number : ℕ) → 0 < below → draw_below below number < below
unfolding draw_below
drawn_less below number some = omega arith

-- a result of a check whose numbers have few digits
pub record IsSmall (check : Check) : Type 0 where
  pub second : check.second < 2 ^ 64
  pub host : check.host < 2 ^ 64
  pub service : check.service < 2 ^ 64

next_small : (checks : Checks) → checks.second < 2 ^ 63 → IsSmall (next_check checks)
unfolding next_check
next_small checks soon =
    let number : ℕ = checks.generator.number in
    record {
      second = omega (arith, soon, drawn_less 30 (after_draws 0 number) (omega arith));
      host = omega (arith, drawn_less 100 (after_draws 1 number) (omega arith));
      service = omega (arith, drawn_less 10 (after_draws 2 number) (omega arith));
    }

next_soon : (checks : Checks) → (after_check checks).second ≤ checks.second + 29
unfolding after_check next_check
next_soon checks = omega (arith, drawn_less 30 (after_draws 0 checks.generator.number) (omega arith))

pub checks_soon : (count : ℕ) (checks : Checks) → (after_checks count checks).second ≤ checks.second + count * 29
unfolding after_checks
checks_soon zero checks = omega arith
checks_soon (suc count) checks = omega (arith, checks_soon count checks, next_soon (after_checks count checks))

-- ---- a line

name_inner : (state : ℕ) → list_all is_inner (state_name state) ≡ true
unfolding state_name
name_inner state = elim (state == 0) as (λ is_ok. list_all is_inner (if is_ok then codes "OK" else if state == 1 then codes "WARNING" else if state == 2 then codes "CRITICAL" else codes "UNKNOWN") ≡ true) [
  | true ↦ refl
  | false ↦ elim (state == 1) as (λ is_warning. list_all is_inner (if is_warning then codes "WARNING" else if state == 2 then codes "CRITICAL" else codes "UNKNOWN") ≡ true) [
    | true ↦ refl
    | false ↦ elim (state == 2) as (λ is_critical. list_all is_inner (if is_critical then codes "CRITICAL" else codes "UNKNOWN") ≡ true) [ true ↦ refl | false ↦ refl ]
  ]
]

name_short : (state : ℕ) → length (state_name state) ≤ 8
unfolding state_name
name_short state = elim (state == 0) as (λ is_ok. length (if is_ok then codes "OK" else if state == 1 then codes "WARNING" else if state == 2 then codes "CRITICAL" else codes "UNKNOWN") ≤ 8) [
  | true ↦ omega arith
  | false ↦ elim (state == 1) as (λ is_warning. length (if is_warning then codes "WARNING" else if state == 2 then codes "CRITICAL" else codes "UNKNOWN") ≤ 8) [
    | true ↦ omega arith
    | false ↦ elim (state == 2) as (λ is_critical. length (if is_critical then codes "CRITICAL" else codes "UNKNOWN") ≤ 8) [ true ↦ omega arith | false ↦ omega arith ]
  ]
]

-- the pieces of a line, without its line feed
abbrev alert_pieces : Check → ℕ → List (List ℕ)
alert_pieces check place =
    codes "[" ∷ decimal check.second ∷ codes "] SERVICE ALERT: " ∷ host_name check.host ∷ codes ";" ∷ service_description check.service
    ∷ codes ";" ∷ state_name check.state ∷ codes ";HARD;1;n" ∷ decimal place ∷ []

concat_inner : (pieces : List (List ℕ)) → list_all (list_all is_inner) pieces ≡ true → list_all is_inner (concat pieces) ≡ true
concat_inner [] inner = refl
concat_inner (piece ∷ pieces) inner =
    let both = and_parts (list_all is_inner piece) (list_all (list_all is_inner) pieces) inner in
    list_all-both is_inner piece (concat pieces) both.0 (concat_inner pieces both.1)

alert_inner : (check : Check) (place : ℕ) → IsSmall check → place < 2 ^ 64 → list_all is_inner (concat (alert_pieces check place)) ≡ true
alert_inner check place small few =
    concat_inner (alert_pieces check place)
    (and_from _ _ (decimal_inner check.second small.second)
    (and_from _ _ (decimal_inner check.host small.host)
    (and_from _ _ (decimal_inner check.service small.service)
    (and_from _ _ (name_inner check.state) (and_from _ _ (decimal_inner place few) refl)))))

abbrev total : List (List ℕ) → ℕ
total [] = 0
total (piece ∷ pieces) = length piece + total pieces

length-concat : (pieces : List (List ℕ)) → length (concat pieces) ≡ total pieces
length-concat [] = refl
length-concat (piece ∷ pieces) = length-append piece (concat pieces) ∙ ap (λ n. length piece + n) (length-concat pieces)

alert_short : (check : Check) (place : ℕ) → IsSmall check → place < 2 ^ 64 → length (concat (alert_pieces check place)) ≤ 8192
alert_short check place small few =
    let second = length-decimal-le 20 check.second (omega arith) (omega (arith, small.second)) small.second in
    let host = length-decimal-le 20 check.host (omega arith) (omega (arith, small.host)) small.host in
    let service = length-decimal-le 20 check.service (omega arith) (omega (arith, small.service)) small.service in
    let last = length-decimal-le 20 place (omega arith) (omega (arith, few)) few in
    omega (arith, length-concat (alert_pieces check place), second, host, service, name_short check.state, last)

alert_first : (check : Check) (place : ℕ) (rest : List ℕ) → check_alert_line check place ++ rest ≡ concat (alert_pieces check place) ++ 10 ∷ rest
unfolding check_alert_line
alert_first check place rest =
    concat_onto (alert_pieces check place ++ codes "\n" ∷ []) rest ∙ sym (concat_onto (alert_pieces check place) (10 ∷ rest))

-- ---- the whole

no_fault : (number : ℕ) (line : List ℕ) → number ≤ 200000 → length line ≤ 8192 → line_fault number line ≡ None
no_fault number line few short = rw (le-ltb 200000 number few, le-ltb 8192 (length line) short) refl

-- the lines so far have no fault, whatever follows
faultless : (first : Checks) (count : ℕ) (rest : List ℕ) → first.second ≤ 1000 → count ≤ 2000
    → first_fault 1 (lines_of (texts_below count (λ place. check_alert_line (next_check (after_checks place first)) place) ++ rest))
    ≡ first_fault (1 + count) (lines_of rest)
unfolding texts_below
faultless first zero rest soon few = refl
faultless first (suc count) rest soon few =
    let text : ℕ → List ℕ = λ place. check_alert_line (next_check (after_checks place first)) place in
    let check : Check = next_check (after_checks count first) in
    let small : IsSmall check = next_small (after_checks count first) (omega (arith, few, soon, checks_soon count first)) in
    let line : List ℕ = concat (alert_pieces check count) in
    let apart = append_assoc (texts_below count text) (text count) rest ∙ ap (λ back. texts_below count text ++ back) (alert_first check count rest) in
    ap (λ bytes. first_fault 1 (lines_of bytes)) apart
    ∙ faultless first count (line ++ 10 ∷ rest) soon (omega (arith, few))
    ∙ ap (first_fault (1 + count)) (line_first line rest (alert_inner check count small (omega (arith, few))))
    ∙ ap (λ fault. option_map_or Some fault (first_fault (1 + count + 1) (lines_of rest)))
    (no_fault (1 + count) line (omega (arith, few)) (alert_short check count small (omega (arith, few))))
    ∙ ap (λ number. first_fault number (lines_of rest)) (omega arith)

whole : (bytes : List ℕ) → first_fault 1 (lines_of bytes) ≡ first_fault 1 (lines_of (bytes ++ []))
whole bytes = ap (λ all. first_fault 1 (lines_of all)) (sym (append-nil bytes))

no_faults : (number : ℕ) → first_fault 1 (lines_of (log_text number)) ≡ None
unfolding log_text
no_faults number =
    whole (texts_below 2000 (λ place. check_alert_line (next_check (after_checks place (first_checks number))) place))
    ∙ faultless (first_checks number) 2000 [] (omega arith) (omega arith)

pub log_accepted : (number : ℕ) → IsOk (log_of (log_text number))
log_accepted number = rw (no_faults number) refl
