-- What steps and routes weigh; a route is a run of step numbers.
use Rattle.std.specs.Prelude.{ℕ, List, [], ◌∷◌}
use Rattle.sheet.specs.Trees.{Step, Tree, step_at}
use Rattle.weights.specs.declared.figure.Figure.{Figure}
use Rattle.weights.specs.declared.named.NamedKind.{NamedKind}
use Rattle.weights.specs.Algebra.{Algebra}
use Rattle.weights.specs.Figures.{minutes_figure, grade_figure, reach_figure}
use Rattle.weights.specs.Kinds.{longest, sum, grade, reach}

abbrev pub step_weight : {W : Type 0} → Algebra W → Step → W
step_weight a o = a.step o.minutes o.grade

-- a weight, then the weight of each step in turn
abbrev pub weight_after : {W : Type 0} → Algebra W → Tree → W → List ℕ → W
weight_after a t w [] = w
weight_after a t w (k ∷ ks) = weight_after a t (a.then w (step_weight a (step_at t k))) ks

abbrev pub route_weight : {W : Type 0} → Algebra W → Tree → List ℕ → W
route_weight a t ks = weight_after a t a.zero ks

-- a route's weight as a named kind tells it
abbrev pub route_figure : NamedKind → Tree → List ℕ → Figure
route_figure NamedKind.Longest t ks = minutes_figure (route_weight longest t ks)
route_figure NamedKind.Sum t ks = minutes_figure (route_weight sum t ks)
route_figure NamedKind.Grade t ks = grade_figure (route_weight grade t ks)
route_figure NamedKind.Reach t ks = reach_figure (route_weight reach t ks)
