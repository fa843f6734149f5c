-- A word pays what is owed, by its kind and argument.
use Rattle.std.proofs.Common.{◌≡◌, ℕ, ◌+◌, ◌^◌, ◌<◌, ◌≤◌, true, List, ◌∷◌, ◌++◌, Ok, ◌∙◌}
use Rattle.std.proofs.lemmas.Bool.{le-leb}
use Rattle.sheet.specs.declared.items.Sort.{Sort}
use Rattle.sheet.specs.declared.items.Item.{Item}
use Rattle.sheet.specs.declared.sections.Section.{Section}
use Rattle.sheet.specs.Kinds.{row, fits}
use Rattle.sheet.specs.Encoding.{word}
use Rattle.sheet.specs.Survey.{item, owed, begins, admitted, scan}
use Rattle.sheet.proofs.WordLaws.{row_word, argument_word, Meets, word_fits}
use Rattle.sheet.proofs.Scans.{scan_pays}

admits : (n : ℕ) (i : Item) (w : ℕ) → begins i.sort (row w).place ≡ true → fits n w ≡ true → i.depth ≤ 16 → admitted n i w ≡ Ok tt
admits n i w b f d = let l = le-leb _ _ d in rw (b, f, l)

pub word_pays : (total n : ℕ) (s : Section) (q : Sort) (d : ℕ) (is : List Item) (k a : ℕ) (ws : List ℕ)
    → a < 2 ^ 28 → begins q (row (word k 0)).place ≡ true → Meets (row (word k 0)).argument n a → d ≤ 16
    → scan total n s (item q d ∷ is) (word k a ∷ ws) ≡ scan total n s (owed (row (word k 0)).follows a (d + 1) ++ is) ws
word_pays total n s q d is k a ws small b m depth =
    let begun : begins q (row (word k a)).place ≡ true = rw (row_word k a small) b in
    scan_pays total n s (item q d) is (word k a) ws (admits n (item q d) (word k a) begun (word_fits n k a small m) depth)
    ∙ rw (row_word k a small, argument_word k a small)
