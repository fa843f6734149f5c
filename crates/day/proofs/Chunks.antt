-- The words at the front of bytes.
use Rattle.std.proofs.Common.{◌≡◌, ℕ, zero, suc, ◌+◌, ◌*◌, ◌/◌, ◌<◌, ◌≤◌, List, [], ◌∷◌, length, get_or, map, refl, ap, arith}
use Rattle.std.specs.Simd.{first_chunks}
use Rattle.day.specs.Bytes.{word, whole_words}

-- the word that four bytes make
abbrev pub word_of : List ℕ → ℕ
word_of bs = word (get_or bs 0 0) (get_or bs 1 0) (get_or bs 2 0) (get_or bs 3 0)

chunks_are_words : (n : ℕ) (bs : List ℕ) → 4 * n ≤ length bs → length bs < 4 * n + 4 → map word_of (first_chunks 4 n bs) ≡ whole_words bs
chunks_are_words zero [] h k = refl
chunks_are_words zero (a ∷ []) h k = refl
chunks_are_words zero (a ∷ b ∷ []) h k = refl
chunks_are_words zero (a ∷ b ∷ c ∷ []) h k = refl
chunks_are_words zero (a ∷ b ∷ c ∷ d ∷ rest) h k = absurd (omega arith)
chunks_are_words (suc n) [] h k = absurd (omega arith)
chunks_are_words (suc n) (a ∷ []) h k = absurd (omega arith)
chunks_are_words (suc n) (a ∷ b ∷ []) h k = absurd (omega arith)
chunks_are_words (suc n) (a ∷ b ∷ c ∷ []) h k = absurd (omega arith)
chunks_are_words (suc n) (a ∷ b ∷ c ∷ d ∷ rest) h k =
    ap (λ (ws : List ℕ). word a b c d ∷ ws) (chunks_are_words n rest (omega arith) (omega arith))

pub words_in_chunks : (bs : List ℕ) → map word_of (first_chunks 4 (length bs / 4) bs) ≡ whole_words bs
words_in_chunks bs = chunks_are_words (length bs / 4) bs (omega arith) (omega arith)
