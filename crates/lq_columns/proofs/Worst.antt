-- The state of the greatest severity is the worst state.
use Rattle.std.proofs.Common.{◌≡◌, ℕ, pos, suc, ◌≤◌, Bool, true, false, ◌||◌, cond, Option, Some, None, List, [], ◌∷◌, length, map, filter, max, refl, sym, ap, ◌∙◌, arith}
use Rattle.std.proofs.Math.Nat.{max-zero, zero-max}
use Rattle.std.specs.List.{cons_option, filter_map, fold, slice_get}
use Rattle.std.specs.Option.{option_map_or}
use Rattle.std.specs.Ordering.{int_eq}
use Rattle.lq_records.specs.declared.ids.HostId.{HostId}
use Rattle.lq_events.specs.declared.status.Status.{Status}
use Rattle.lq_columns.specs.Counts.{has_state, last_after, state_of_member, worst_of}
use Rattle.lq_columns.specs.Severity.{host_severity, host_state_by, service_severity, service_state_by, severity_at}

-- ---- the severity of the worst state that passes a test, by an order from bad to good

abbrev pub severity_by : (ℕ → Bool) → List ℕ → ℕ
severity_by test [] = 0
severity_by test (state ∷ better) = cond (test state) (suc (length better)) (severity_by test better)

none-le : (b : Bool) (n m : ℕ) → m ≤ n → cond b (suc n) m ≤ suc n
none-le true n m below = omega arith
none-le false n m below = omega arith

severity_by-le : (test : ℕ → Bool) (order : List ℕ) → severity_by test order ≤ length order
severity_by-le test [] = omega arith
severity_by-le test (state ∷ better) = none-le (test state) (length better) (severity_by test better) (severity_by-le test better)

greater : (p q : Bool) (n a b c : ℕ) → a ≤ n → b ≤ n → max a b ≡ c → max (cond p (suc n) a) (cond q (suc n) b) ≡ cond (p || q) (suc n) c
greater true true n a b c _ _ same = omega arith
greater true false n a b c low lower same = omega arith
greater false true n a b c low lower same = omega arith
greater false false n a b c low lower same = same

-- the greater of two severities is that of either test
severity_by-either : (p q : ℕ → Bool) (order : List ℕ) → max (severity_by p order) (severity_by q order) ≡ severity_by (λ state. p state || q state) order
severity_by-either p q [] = omega arith
severity_by-either p q (state ∷ better) =
    greater (p state) (q state) (length better) (severity_by p better) (severity_by q better) (severity_by (λ state. p state || q state) better)
    (severity_by-le p better) (severity_by-le q better) (severity_by-either p q better)

severity_by-none : (order : List ℕ) → severity_by (λ state. false) order ≡ 0
severity_by-none [] = refl
severity_by-none (state ∷ better) = severity_by-none better

max_assoc : (a b c d : ℕ) → max b c ≡ d → max (max a b) c ≡ max a d
max_assoc a b c d same = omega arith

-- ---- the greatest severity of several members

abbrev severity_of : List ℕ → Status → ℕ
severity_of order member = severity_by (λ state. int_eq (state_of_member member) (pos state)) order

one_more : (order : List ℕ) (found : Option Status) (others : List Status) (a : ℕ)
    → max (max a (option_map_or (severity_of order) found 0)) (severity_by (has_state others) order) ≡ max a (severity_by (has_state (cons_option found others)) order)
one_more order None others a = ap (λ n. max n (severity_by (has_state others) order)) (max-zero a)
one_more order (Some member) others a =
    max_assoc a (severity_of order member) (severity_by (has_state others) order) (severity_by (has_state (member ∷ others)) order)
    (severity_by-either (λ state. int_eq (state_of_member member) (pos state)) (has_state others) order)

greatest : {X : Type 0} (order : List ℕ) (look : X → Option Status) (items : List X) (a : ℕ)
    → fold max a (map (λ item. option_map_or (severity_of order) (look item) 0) items) ≡ max a (severity_by (has_state (filter_map look items)) order)
greatest order look [] a = sym (ap (max a) (severity_by-none order) ∙ max-zero a)
greatest order look (item ∷ items) a =
    greatest order look items (max a (option_map_or (severity_of order) (look item) 0)) ∙ one_more order (look item) (filter_map look items) a

-- ---- the last state that passes a test, of an order from good to bad

last_kept : (keep : Bool) (before state : ℕ) (states : List ℕ) → last_after before (cond keep (state ∷ states) states) ≡ last_after (cond keep state before) states
last_kept true before state states = refl
last_kept false before state states = refl

last_by : (test : ℕ → Bool) (before : ℕ) (order : List ℕ) → last_after before (filter test order) ≡ fold (λ last state. cond (test state) state last) before order
last_by test before [] = refl
last_by test before (state ∷ order) = last_kept (test state) before state (filter test order) ∙ last_by test (cond (test state) state before) order

service_by_tests : (is0 is1 is3 is2 : Bool) → service_state_by (cond is2 3 (cond is3 2 (cond is1 1 0))) ≡ cond is2 2 (cond is3 3 (cond is1 1 (cond is0 0 0)))
service_by_tests is0 is1 is3 true = refl
service_by_tests is0 is1 true false = refl
service_by_tests is0 true false false = refl
service_by_tests true false false false = refl
service_by_tests false false false false = refl

pub greatest_is_worst_service : (statuses : List Status) (places : List ℕ) (severity state : ℕ)
    → severity ≡ fold max 0 (map (severity_at service_severity statuses) places) → state ≡ service_state_by severity
    → state ≡ worst_of (0 ∷ 1 ∷ 3 ∷ 2 ∷ []) (filter_map (slice_get statuses) places)
unfolding worst_of
greatest_is_worst_service statuses places severity state is_greatest is_state =
    let has : ℕ → Bool = has_state (filter_map (slice_get statuses) places) in
    is_state ∙ ap service_state_by (is_greatest ∙ greatest (2 ∷ 3 ∷ 1 ∷ []) (slice_get statuses) places 0 ∙ zero-max (severity_by has (2 ∷ 3 ∷ 1 ∷ [])))
    ∙ service_by_tests (has 0) (has 1) (has 3) (has 2)
    ∙ sym (last_by has 0 (0 ∷ 1 ∷ 3 ∷ 2 ∷ []))

host_by_tests : (is0 is2 is1 : Bool) → host_state_by (cond is1 2 (cond is2 1 0)) ≡ cond is1 1 (cond is2 2 (cond is0 0 0))
host_by_tests is0 is2 true = refl
host_by_tests is0 true false = refl
host_by_tests true false false = refl
host_by_tests false false false = refl

pub greatest_is_worst_host : (statuses : List Status) (members : List HostId) (severity state : ℕ)
    → severity ≡ fold max 0 (map (λ id. severity_at host_severity statuses id.0) members) → state ≡ host_state_by severity
    → state ≡ worst_of (0 ∷ 2 ∷ 1 ∷ []) (filter_map (λ id. slice_get statuses id.0) members)
unfolding worst_of
greatest_is_worst_host statuses members severity state is_greatest is_state =
    let has : ℕ → Bool = has_state (filter_map (λ id. slice_get statuses id.0) members) in
    is_state ∙ ap host_state_by (is_greatest ∙ greatest (1 ∷ 2 ∷ []) (λ id. slice_get statuses id.0) members 0 ∙ zero-max (severity_by has (1 ∷ 2 ∷ [])))
    ∙ host_by_tests (has 0) (has 2) (has 1)
    ∙ sym (last_by has 0 (0 ∷ 2 ∷ 1 ∷ []))
