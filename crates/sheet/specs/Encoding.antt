-- How words spell a sheet: each word names its kind and argument, and what belongs to it follows.
use Rattle.std.specs.Prelude.{ℕ, ◌+◌, ◌*◌, ◌^◌, List, [], ◌∷◌, ◌++◌}
use Rattle.sheet.specs.Trees.{Formula, Formulas, Effect, Effects, Step, Tree, never, always, fact, not, all, any, set, clear, group, when, count_formulas, count_effects}

abbrev pub word : ℕ → ℕ → ℕ
word kind argument = kind * 2 ^ 28 + argument

abbrev mutual
  pub encode_formula : Formula → List ℕ
  encode_formula never = word 0 0 ∷ []
  encode_formula always = word 1 0 ∷ []
  encode_formula (fact f) = word 2 f ∷ []
  encode_formula (not f) = word 3 0 ∷ encode_formula f
  encode_formula (all fs) = word 4 (count_formulas fs) ∷ encode_formulas fs
  encode_formula (any fs) = word 5 (count_formulas fs) ∷ encode_formulas fs

  pub encode_formulas : Formulas → List ℕ
  encode_formulas Formulas.none = []
  encode_formulas (Formulas.more f fs) = encode_formula f ++ encode_formulas fs

abbrev mutual
  pub encode_effect : Effect → List ℕ
  encode_effect (set f) = word 6 f ∷ []
  encode_effect (clear f) = word 7 f ∷ []
  encode_effect (group es) = word 8 (count_effects es) ∷ encode_effects es
  encode_effect (when f e) = word 9 0 ∷ (encode_formula f ++ encode_effect e)

  pub encode_effects : Effects → List ℕ
  encode_effects Effects.none = []
  encode_effects (Effects.more e es) = encode_effect e ++ encode_effects es

abbrev pub encode_step : Step → List ℕ
encode_step s = word 10 (s.grade * 2 ^ 16 + s.minutes) ∷ (encode_formula s.condition ++ encode_effect s.effect)

abbrev pub encode_goal : Formula → List ℕ
encode_goal g = word 11 0 ∷ encode_formula g

abbrev pub encode_starts : List ℕ → List ℕ
encode_starts [] = []
encode_starts (f ∷ fs) = word 13 f ∷ encode_starts fs

abbrev pub encode_steps : List Step → List ℕ
encode_steps [] = []
encode_steps (s ∷ ss) = encode_step s ++ encode_steps ss

abbrev pub encode_goals : List Formula → List ℕ
encode_goals [] = []
encode_goals (g ∷ gs) = encode_goal g ++ encode_goals gs

abbrev pub encode : Tree → List ℕ
encode t =
    word 12 t.facts
    ∷ (encode_starts t.starts ++ (encode_steps t.steps ++ (encode_goals t.goals ++ (word 14 0 ∷ []))))
