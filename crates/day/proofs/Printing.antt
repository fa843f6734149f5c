-- The text of the first lines of a list of answers.
use Rattle.std.proofs.Common.{◌≡◌, ℕ, zero, suc, ◌+◌, ◌<◌, ◌≤◌, min, List, [], ◌∷◌, ◌++◌, length, get_or, take, sym, refl, ap, ◌∙◌, append_assoc, append-nil, add-one, arith}
use Rattle.job.specs.Answers.{Answer}
use Rattle.job.specs.declared.calls.Call.{Call}
use Rattle.day.specs.Text.{line_text, lines_text}

module _ (d : Call) (e : Answer) where
  one_more : (cs : List Call) (rs : List Answer) (i : ℕ) → i < length cs → i < length rs → lines_text (take (suc i) cs) (take (suc i) rs) ≡ lines_text (take i cs) (take i rs) ++ line_text (get_or cs i d) (get_or rs i e)
  one_more [] rs i h k = absurd (omega arith)
  one_more (c ∷ cs) [] i h k = absurd (omega arith)
  one_more (c ∷ cs) (r ∷ rs) zero h k = append-nil (line_text c r)
  one_more (c ∷ cs) (r ∷ rs) (suc i) h k =
      ap (λ (t : List ℕ). line_text c r ++ t) (one_more cs rs i (omega arith) (omega arith))
      ∙ sym (append_assoc (line_text c r) (lines_text (take i cs) (take i rs)) (line_text (get_or cs i d) (get_or rs i e)))

-- a text of the first lines, one line longer
pub lines_more : (cs : List Call) (rs : List Answer) (i : ℕ) (d : Call) (e : Answer) (text more : List ℕ) → i < min (length cs) (length rs) → text ≡ lines_text (take i cs) (take i rs) → more ≡ text ++ line_text (get_or cs i d) (get_or rs i e) → more ≡ lines_text (take (i + 1) cs) (take (i + 1) rs)
lines_more cs rs i d e text more below so_far is =
    let one = one_more d e cs rs i (omega arith) (omega arith) in
    rw add-one (is ∙ ap (λ (t : List ℕ). t ++ line_text (get_or cs i d) (get_or rs i e)) so_far ∙ sym one)

pub lines_all : (cs : List Call) (rs : List Answer) (n : ℕ) → min (length cs) (length rs) ≤ n → lines_text (take n cs) (take n rs) ≡ lines_text cs rs
lines_all [] rs zero h = refl
lines_all [] rs (suc n) h = refl
lines_all (c ∷ cs) [] zero h = refl
lines_all (c ∷ cs) [] (suc n) h = refl
lines_all (c ∷ cs) (r ∷ rs) zero h = absurd (omega arith)
lines_all (c ∷ cs) (r ∷ rs) (suc n) h = ap (λ (t : List ℕ). line_text c r ++ t) (lines_all cs rs n (omega arith))
