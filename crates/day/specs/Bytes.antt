-- Bytes as words: four bytes, the highest first, are one word.
use Rattle.std.specs.Prelude.{ℕ, ◌+◌, ◌*◌, ◌^◌, List, [], ◌∷◌}

abbrev pub word : ℕ → ℕ → ℕ → ℕ → ℕ
word a b c d = a * 2 ^ 24 + b * 2 ^ 16 + c * 2 ^ 8 + d

-- fewer than four bytes make no word
abbrev pub whole_words : List ℕ → List ℕ
whole_words [] = []
whole_words (a ∷ []) = []
whole_words (a ∷ b ∷ []) = []
whole_words (a ∷ b ∷ c ∷ []) = []
whole_words (a ∷ b ∷ c ∷ d ∷ rest) = word a b c d ∷ whole_words rest
