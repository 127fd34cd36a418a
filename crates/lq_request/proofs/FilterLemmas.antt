-- The filters that stand: one after the other, and what a line makes of them.
use Rattle.std.proofs.Common.{◌≡◌, ℕ, ◌+◌, ◌<◌, ◌≤◌, Bool, true, false, None, List, [], ◌∷◌, ◌++◌, length, reverse, refl, sym, ap, ◌∙◌, append_assoc, arith}
use Rattle.std.proofs.lemmas.List.{drop-append-le, length-append, length-drop, reverse-append, take-append-le}
use Rattle.lq_filter.specs.Trees.{first_negated, tree_count, truths}
use Rattle.lq_filter.specs.declared.header.Header.{Header}
use Rattle.lq_filter.specs.declared.header.Header.TheVariants as header
use Rattle.lq_filter.specs.declared.header.Join.{Join}
use Rattle.lq_filter.specs.declared.read.Test.{Test}
use Rattle.lq_request.specs.Filters.{AreWhole, IsFilter}
use Rattle.lq_request.specs.Window.{filter_time, headers_of, is_tested, row_headers}
use Rattle.lq_request.proofs.EntryLemmas.{height_joined, height_negated}

-- ---- how many truths there are

length-first_negated : (trees : List Bool) → length (first_negated trees) ≡ length trees
length-first_negated [] = refl
length-first_negated (truth ∷ trees) = refl

length-truths : (truth : Test → Bool) (headers : List Header) → length (truths truth headers) ≡ tree_count headers
length-truths truth [] = refl
length-truths truth (header.Test test ∷ earlier) = omega (arith, length-truths truth earlier)
length-truths truth (header.Join join ∷ earlier) = omega (arith, length-truths truth earlier, length-drop join.count (truths truth earlier))
length-truths truth (header.Negate ∷ earlier) = length-first_negated (truths truth earlier) ∙ length-truths truth earlier

-- ---- whole filters

pub no_filters : AreWhole [] 0
no_filters = record { trees = refl; after = λ truth before. refl }

pub one_test : (test : Test) → IsFilter (header.Test test ∷ [])
one_test test = record { trees = refl; after = λ truth before. refl }

module _ (first second : List Header) (n m : ℕ) (one : AreWhole first n) (two : AreWhole second m) where
  pub both_trees : (truth : Test → Bool) → truths truth (reverse (first ++ second)) ≡ truths truth (reverse second) ++ truths truth (reverse first)
  both_trees truth = ap (truths truth) (reverse-append first second) ∙ two.after truth (reverse first)

  pub both_whole : AreWhole (first ++ second) (n + m)
  both_whole = record {
    trees =
        let always : Test → Bool = λ _. true in
        omega (
          arith,
          one.trees,
          two.trees,
          ap length (both_trees always),
          length-truths always (reverse (first ++ second)),
          length-append (truths always (reverse second)) (truths always (reverse first)),
          length-truths always (reverse second),
          length-truths always (reverse first),
        );
    after = λ truth before.
        ap (λ headers. truths truth (headers ++ before)) (reverse-append first second)
        ∙ ap (truths truth) (append_assoc (reverse second) (reverse first) before)
        ∙ two.after truth (reverse first ++ before)
        ∙ ap (λ trees. truths truth (reverse second) ++ trees) (one.after truth before)
        ∙ sym (append_assoc (truths truth (reverse second)) (truths truth (reverse first)) (truths truth before))
        ∙ ap (λ trees. trees ++ truths truth before) (sym (both_trees truth));
  }

last_first : (headers : List Header) (last : Header) → reverse (headers ++ last ∷ []) ≡ last ∷ reverse headers
last_first headers last = reverse-append headers (last ∷ [])

pub joined_whole : (headers : List Header) (count : ℕ) (any : Bool) → AreWhole headers count → IsFilter (headers ++ header.Join (record { count = count; any = any }) ∷ [])
joined_whole headers count any whole = record {
  trees = height_joined headers count any whole.trees;
  after = λ truth before.
      let own : List Bool = truths truth (reverse headers) in
      let enough : count ≤ length own = omega (arith, whole.trees, length-truths truth (reverse headers)) in
      rw (last_first headers (header.Join (record { count = count; any = any })), whole.after truth before, take-append-le count own (truths truth before) enough, drop-append-le count own (truths truth before) enough) refl;
}

first_negated-append : (trees before : List Bool) → 0 < length trees → first_negated (trees ++ before) ≡ first_negated trees ++ before
first_negated-append [] before some = absurd (omega (arith, some))
first_negated-append (truth ∷ trees) before some = refl

pub negated_whole : (headers : List Header) → IsFilter headers → IsFilter (headers ++ header.Negate ∷ [])
negated_whole headers whole = record {
  trees = height_negated headers ∙ whole.trees;
  after = λ truth before.
      let own : List Bool = truths truth (reverse headers) in
      let enough : 0 < length own = omega (arith, whole.trees, length-truths truth (reverse headers)) in
      rw (last_first headers header.Negate, whole.after truth before) (first_negated-append own (truths truth before) enough);
}

-- ---- what a group says of a time

group_time : (headers : List Header) (last : Header) → filter_time (last ∷ []) ≡ None → filter_time (headers ++ last ∷ []) ≡ None
group_time [] last none = none
group_time (header.Test test ∷ []) last none = refl
group_time (header.Test test ∷ next ∷ more) last none = refl
group_time (header.Join join ∷ more) last none = refl
group_time (header.Negate ∷ more) last none = refl

pub joined_time : (headers : List Header) (join : Join) → filter_time (headers ++ header.Join join ∷ []) ≡ None
joined_time headers join = group_time headers (header.Join join) refl

pub negated_time : (headers : List Header) → filter_time (headers ++ header.Negate ∷ []) ≡ None
negated_time headers = group_time headers header.Negate refl

-- ---- a filter that is taken from the front

pub one_more : (headers more first : List Header) (rest : List (List Header)) (all : List Header) → more ≡ headers ++ first
    → headers ++ headers_of (first ∷ rest) ≡ all → more ++ headers_of rest ≡ all
one_more headers more first rest all appended before =
    ap (λ list. list ++ headers_of rest) appended ∙ append_assoc headers first (headers_of rest) ∙ before

tested_first : (first : List Header) (rest : List (List Header)) → is_tested first ≡ true → row_headers (first ∷ rest) ≡ first ++ row_headers rest
tested_first first rest is = rw is refl

tested_rest : (first : List Header) (rest : List (List Header)) → is_tested first ≡ false → row_headers (first ∷ rest) ≡ row_headers rest
tested_rest first rest is = rw is refl

pub one_tested : (headers more first : List Header) (rest : List (List Header)) (all : List Header) → is_tested first ≡ true → more ≡ headers ++ first
    → headers ++ row_headers (first ∷ rest) ≡ all → more ++ row_headers rest ≡ all
one_tested headers more first rest all is appended before =
    ap (λ list. list ++ row_headers rest) appended ∙ append_assoc headers first (row_headers rest) ∙ ap (λ list. headers ++ list) (sym (tested_first first rest is)) ∙ before

pub one_untested : (headers first : List Header) (rest : List (List Header)) (all : List Header) → is_tested first ≡ false
    → headers ++ row_headers (first ∷ rest) ≡ all → headers ++ row_headers rest ≡ all
one_untested headers first rest all is before = ap (λ list. headers ++ list) (sym (tested_rest first rest is)) ∙ before
