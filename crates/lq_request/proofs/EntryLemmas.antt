-- The entries of a query's statistics.
use Rattle.std.proofs.Common.{◌≡◌, ℕ, Bool, Option, None, Some, option_map, reverse, List, [], ◌∷◌, ◌++◌, map, refl, sym, ap, ◌∙◌, append_assoc, arith}
use Rattle.std.proofs.lemmas.List.{reverse-append}
use Rattle.lq_filter.specs.Trees.{height, tree_count}
use Rattle.lq_filter.specs.declared.header.Header.{Header}
use Rattle.lq_filter.specs.declared.header.Header.TheVariants as header
use Rattle.lq_request.specs.Stats.{headers_of_counts, entry_of_draft}
use Rattle.lq_request.specs.declared.entry.StatDraft.{StatDraft}
use Rattle.lq_request.specs.declared.entry.StatDraft.TheVariants as draft
use Rattle.lq_request.specs.declared.entry.StatEntry.{StatEntry}

-- an entry that is taken from the front and added after those before it
pub one_finished : (stats more : List StatEntry) (rest left : List StatDraft) (entry : StatDraft) (last : StatEntry) (all : List StatEntry)
    → more ≡ stats ++ last ∷ [] → last ≡ entry_of_draft entry → rest ≡ entry ∷ left → stats ++ map entry_of_draft rest ≡ all → more ++ map entry_of_draft left ≡ all
one_finished stats more rest left entry last all pushed is taken before =
    ap (λ list. list ++ map entry_of_draft left) pushed ∙ append_assoc stats (last ∷ []) (map entry_of_draft left)
    ∙ ap (λ first. stats ++ first ∷ map entry_of_draft left) is ∙ ap (λ list. stats ++ map entry_of_draft list) (sym taken) ∙ before

-- ---- joined entries

beyond : (headers stack : List Header) (later : Option (List Header))
    → option_map (λ l. (headers ++ stack) ++ l) later ≡ option_map (λ l. headers ++ l) (option_map (λ l. stack ++ l) later)
beyond headers stack None = refl
beyond headers stack (Some later) = ap Some (append_assoc headers stack later)

-- the headers of an entry that is taken from the front stand after those before it
pub one_counted : (headers more stack : List Header) (rest left : List StatDraft) (all : Option (List Header))
    → more ≡ headers ++ stack → rest ≡ draft.Count stack ∷ left → option_map (λ l. headers ++ l) (headers_of_counts rest) ≡ all
    → option_map (λ l. more ++ l) (headers_of_counts left) ≡ all
one_counted headers more stack rest left all appended taken before =
    ap (λ list. option_map (λ l. list ++ l) (headers_of_counts left)) appended ∙ beyond headers stack (headers_of_counts left)
    ∙ ap (λ list. option_map (λ l. headers ++ l) (headers_of_counts list)) (sym taken) ∙ before

last_first : (headers : List Header) (last : Header) → height (headers ++ last ∷ []) ≡ tree_count (last ∷ reverse headers)
last_first headers last = ap tree_count (reverse-append headers (last ∷ []))

-- all trees become one by a join, and stay one by a negation
pub height_joined : (headers : List Header) (count : ℕ) (any : Bool) → height headers ≡ count
    → height (headers ++ header.Join (record { count = count; any = any }) ∷ []) ≡ 1
height_joined headers count any is = last_first headers (header.Join (record { count = count; any = any })) ∙ omega (arith, is)

pub height_negated : (headers : List Header) → height (headers ++ header.Negate ∷ []) ≡ height headers
height_negated headers = last_first headers header.Negate
