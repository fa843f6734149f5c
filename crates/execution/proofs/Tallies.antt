-- What is left to read of some formulas, and what it decides with the truth values so far.
use Rattle.std.proofs.Common.{◌≡◌, ℕ, ◌≤◌, Bool, ◌&&◌, ◌||◌, List, length}
use Rattle.sheet.specs.Trees.{Formulas}
use Rattle.execution.specs.Truth.{all_true, any_true}
use Rattle.execution.specs.Reading.{FormulasFirst}

-- the words left begin with formulas that come to fs together with those read so far
pub record Left (s : ℕ → Bool) (words : List ℕ) (fs : Formulas) (all_so_far any_so_far : Bool)
    (ws : List ℕ) (count : ℕ) (tail : List ℕ) : Type 0 where
  pub formulas : Formulas
  pub first : FormulasFirst ws count formulas tail
  pub shorter : length ws ≤ length words
  pub all_is : (all_so_far && all_true s formulas) ≡ all_true s fs
  pub any_is : (any_so_far || any_true s formulas) ≡ any_true s fs
