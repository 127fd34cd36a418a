-- Fronts and parts of lists.
use Rattle.std.proofs.Common.{◌≡◌, ℕ, suc, ◌+◌, ◌-◌, ◌≤◌, Some, List, [], ◌∷◌, ◌++◌, slice_get, length, take, drop, sym, ap, ◌∙◌, arith, append-nil, length-drop}
use Rattle.std.proofs.lemmas.Bool.{cases_lt}
use Rattle.std.proofs.lemmas.List.{drop-take, take-append-le}
use Rattle.std.proofs.lemmas.Option.{get_or_from_slice_get, slice_get_within}
use Rattle.std.proofs.Math.Seq.{take-append-add, take-suc}
use Rattle.std.proofs.Math.Logic.{⊎_elim}
use Rattle.std.proofs.lemmas.Grind.{common_steps}

pub take_whole : (n : ℕ) (bytes : List ℕ) → length bytes ≤ n → take n bytes ≡ bytes
take_whole n bytes small = grind (arith, common_steps)

-- all from a place on, as a slice
pub slice_from : (n : ℕ) (bytes : List ℕ) → take (length bytes - n) (drop n bytes) ≡ drop n bytes
slice_from n bytes = take_whole (length bytes - n) (drop n bytes) (omega (arith, length-drop n bytes))

pub take_front : (m n : ℕ) (bytes : List ℕ) → m ≤ n → take m (take n bytes) ≡ take m bytes
take_front m n bytes low = grind (arith, common_steps)

-- a part of a front is a part of the whole
pub part_of_front : (bytes : List ℕ) (start end n : ℕ) → start ≤ end → end ≤ n → take (end - start) (drop start (take n bytes)) ≡ take (end - start) (drop start bytes)
part_of_front bytes start end n low high =
    let whole : start + (n - start) ≡ n = omega arith in
    ap (λ k. take (end - start) (drop start (take k bytes))) (sym whole) ∙ ap (take (end - start)) (drop-take start (n - start) bytes)
    ∙ take_front (end - start) (n - start) (drop start bytes) (omega arith)

-- a front of more bytes
pub front_more : (n : ℕ) (bytes more : List ℕ) → take n (bytes ++ more) ≡ take n bytes ++ take (n - length bytes) more
front_more n bytes more = ⊎_elim
    (λ low. let none : n - length bytes ≡ 0 = omega arith in
    take-append-le n bytes more (omega arith) ∙ sym (append-nil (take n bytes)) ∙ ap (λ k. take n bytes ++ take k more) (sym none))
    (λ high. let whole : length bytes + (n - length bytes) ≡ n = omega arith in
    ap (λ k. take k (bytes ++ more)) (sym whole) ∙ take-append-add bytes more (n - length bytes)
    ∙ ap (λ front. front ++ take (n - length bytes) more) (sym (take_whole n bytes high)))
    (cases_lt n (length bytes))

-- a front, and the item after it
pub front_next : {A : Type 0} (before items : List A) (i : ℕ) (item : A) → slice_get items i ≡ Some item → before ≡ take i items
    → before ++ item ∷ [] ≡ take (i + 1) items
front_next before items i item is front =
    let next : suc i ≡ i + 1 = omega arith in
    ap (λ found. found ++ item ∷ []) front ∙ ap (λ last. take i items ++ last ∷ []) (sym (get_or_from_slice_get items i item item is))
    ∙ sym (take-suc items i item (slice_get_within items i item is)) ∙ ap (λ n. take n items) next
