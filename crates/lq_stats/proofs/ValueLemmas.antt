-- Two values, or two keys, are the same exactly where they are equal.
use Rattle.std.proofs.Common.{◌≡◌, ℕ, Bool, List, sym, ap, true≢false}
use Rattle.std.specs.Prelude.{Decides, bytes_eq}
use Rattle.std.specs.Cmp.{signed_Decides, unsigned_Decides}
use Rattle.std.specs.Cmp.Lexicographic.{bytes_decides, pointwise_decides}
use Rattle.std.proofs.lemmas.Bool.{and_from, and_parts}
use Rattle.lq_schema.specs.Value.{Value, Number, Millionths, Words, Texts, Numbers, Pairs}
use Rattle.lq_stats.specs.Groups.{Key, same_key, same_pair, same_value}

same_pair_decides : (a b : List ℕ × List ℕ) → Decides (same_pair a b) (a ≡ b)
same_pair_decides a b = (
  λ same.
      let parts = and_parts (bytes_eq a.0 b.0) (bytes_eq a.1 b.1) same in
      let first = (bytes_decides (a.0) (b.0)).0 parts.0 in
      let second = (bytes_decides (a.1) (b.1)).0 parts.1 in
      λ i. (first i, second i),
  λ equal. and_from (bytes_eq a.0 b.0) (bytes_eq a.1 b.1)
      ((bytes_decides (a.0) (b.0)).1 (ap (λ (pair : List ℕ × List ℕ). pair.0) equal))
      ((bytes_decides (a.1) (b.1)).1 (ap (λ (pair : List ℕ × List ℕ). pair.1) equal)),
)

-- by what decides the parts of values of one kind
by_parts : {X : Type 0} {test : Bool} {x y : X} (kind : X → Value) → Decides test (x ≡ y) → (kind x ≡ kind y → x ≡ y) → Decides test (kind x ≡ kind y)
by_parts kind parts inner = (λ same. ap kind (parts.0 same), λ equal. parts.1 (inner equal))

pub same_value_decides : (a b : Value) → Decides (same_value a b) (a ≡ b)
same_value_decides (Number a) (Number b) = by_parts Number (signed_Decides a b) (λ equal. cc)
same_value_decides (Millionths a) (Millionths b) = by_parts Millionths (signed_Decides a b) (λ equal. cc)
same_value_decides (Words a) (Words b) = by_parts Words (bytes_decides a b) (λ equal. cc)
same_value_decides (Texts a) (Texts b) = by_parts Texts (pointwise_decides bytes_decides a b) (λ equal. cc)
same_value_decides (Numbers a) (Numbers b) = by_parts Numbers (pointwise_decides unsigned_Decides a b) (λ equal. cc)
same_value_decides (Pairs a) (Pairs b) = by_parts Pairs (pointwise_decides same_pair_decides a b) (λ equal. cc)
same_value_decides _ _ = (λ same. absurd (true≢false (sym same)), λ equal. cc)

pub same_key_decides : (a b : Key) → Decides (same_key a b) (a ≡ b)
same_key_decides = pointwise_decides same_value_decides
