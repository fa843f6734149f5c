-- What a route weighs that goes on.
use Rattle.std.proofs.Common.{◌≡◌, ℕ, List, [], ◌∷◌, ◌++◌, refl}
use Rattle.sheet.specs.Trees.{Tree, step_at}
use Rattle.weights.specs.Algebra.{Algebra}
use Rattle.weights.specs.Routes.{step_weight, weight_after}

pub weight_after_append : {W : Type 0} (a : Algebra W) (t : Tree) (w : W) (ks js : List ℕ) →
    weight_after a t w (ks ++ js) ≡ weight_after a t (weight_after a t w ks) js
weight_after_append a t w [] js = refl
weight_after_append a t w (k ∷ ks) js = weight_after_append a t (a.then w (step_weight a (step_at t k))) ks js
