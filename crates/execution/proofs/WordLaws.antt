-- The kind and the argument that a word was made of, and the words behind it.
use Rattle.std.proofs.Common.{◌≡◌, ℕ, ◌^◌, ◌<◌, List, ◌∷◌, length, get_or, ap, ◌∙◌, arith, length-drop, length-take}
use Rattle.std.specs.List.{between}
use Rattle.sheet.specs.Encoding.{word}
use Rattle.sheet.specs.Kinds.{row, argument}
use Rattle.sheet.proofs.WordLaws.{row_word, argument_word}

pub kind_at : {w : ℕ} (k a : ℕ) → a < 2 ^ 28 → w ≡ word k a → (row w).kind ≡ (row (word k 0)).kind
kind_at k a h e = ap (λ (v : ℕ). (row v).kind) e ∙ ap (λ r. r.kind) (row_word k a h)

pub argument_at : {w : ℕ} (k a : ℕ) → a < 2 ^ 28 → w ≡ word k a → argument w ≡ a
argument_at k a h e = ap argument e ∙ argument_word k a h

pub first_word : {w v : ℕ} {ws vs : List ℕ} → w ∷ ws ≡ v ∷ vs → w ≡ v
first_word e = cc

pub other_words : {w v : ℕ} {ws vs : List ℕ} → w ∷ ws ≡ v ∷ vs → ws ≡ vs
other_words e = cc

-- the first of some words and the words behind it, as the code takes them apart
abbrev pub first : List ℕ → ℕ
first ws = get_or ws 0 0

abbrev pub behind : List ℕ → List ℕ
behind ws = between 1 (length ws) ws

pub behind_shorter : (ws : List ℕ) → 0 < length ws → length (behind ws) < length ws
behind_shorter ws h = simp (length-take, length-drop) (omega arith)
