-- The lines of a file, one by one.
use Rattle.std.proofs.Common.{◌≡◌, ℕ, ◌+◌, true, false, List, ◌∷◌, refl, ap, ◌∙◌}
use Rattle.lq_objects.specs.Blocks.{is_telling, numbered_line, telling_after}

-- one line more that says something
pub telling_first : (before : ℕ) (line : List ℕ) (lines rest : List (List ℕ)) → lines ≡ line ∷ rest → is_telling (numbered_line (before, line)) ≡ true
    → telling_after before lines ≡ numbered_line (before, line) ∷ telling_after (before + 1) rest
telling_first before line lines rest first telling = ap (telling_after before) first ∙ rw telling refl

-- one line more that says nothing
pub silent_first : (before : ℕ) (line : List ℕ) (lines rest : List (List ℕ)) → lines ≡ line ∷ rest → is_telling (numbered_line (before, line)) ≡ false
    → telling_after before lines ≡ telling_after (before + 1) rest
silent_first before line lines rest first silent = ap (telling_after before) first ∙ rw silent refl
