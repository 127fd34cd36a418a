use Rattle.std.proofs.Common.{◌≡◌, ◌++◌, map, drop, find}
use Rattle.std.specs.List.{AllByRecursion, filter_map}
use Rattle.std.specs.Str.{IsUtf8}
use Rattle.lq_schema.specs.Schema.{column_of}
use Rattle.lq_request.specs.Headers.{names_none}
use Rattle.lq_request.proofs.header.columns_of_words.Given as goal

abbrev pub invariant-loop-word : goal.invariant-loop-word
invariant-loop-word l = record {
  texts : AllByRecursion IsUtf8 (map (λ word. word.now) (drop l.word-index l.words));
  unknown : find (names_none l.table) (map (λ word. word.now) (drop l.word-index l.words))
      ≡ find (names_none l.table) (map (λ word. word.now) l.words);
  known : l.columns ++ filter_map (column_of l.table) (map (λ word. word.now) (drop l.word-index l.words))
      ≡ filter_map (column_of l.table) (map (λ word. word.now) l.words);
}
