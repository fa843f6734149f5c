-- What a sheet says, apart from how its words spell it.
use Rattle.std.specs.Prelude.{ℕ, ◌+◌, List, slice_index_or}

mutual
  pub data Formula : Type 0 where
    never : Formula
    always : Formula
    fact : ℕ → Formula
    not : Formula → Formula
    all : Formulas → Formula
    any : Formulas → Formula

  pub data Formulas : Type 0 where
    none : Formulas
    more : Formula → Formulas → Formulas

mutual
  pub data Effect : Type 0 where
    set : ℕ → Effect
    clear : ℕ → Effect
    group : Effects → Effect
    when : Formula → Effect → Effect

  pub data Effects : Type 0 where
    none : Effects
    more : Effect → Effects → Effects

-- minutes and grade are what doing the step costs
pub record Step : Type 0 where
  pub minutes : ℕ
  pub grade : ℕ
  pub condition : Formula
  pub effect : Effect

-- facts is how many there are, starts the facts that are true at the start
pub record Tree : Type 0 where
  pub facts : ℕ
  pub starts : List ℕ
  pub steps : List Step
  pub goals : List Formula

abbrev pub count_formulas : Formulas → ℕ
count_formulas Formulas.none = 0
count_formulas (Formulas.more f fs) = count_formulas fs + 1

abbrev pub count_effects : Effects → ℕ
count_effects Effects.none = 0
count_effects (Effects.more e es) = count_effects es + 1

-- a step that costs nothing and does nothing, for numbers that no step has
abbrev pub idle : Step
idle = record { minutes = 0; grade = 0; condition = never; effect = group Effects.none }

abbrev pub step_at : Tree → ℕ → Step
step_at t k = slice_index_or t.steps k idle

-- a goal that is never true, for numbers that no goal has
abbrev pub goal_at : Tree → ℕ → Formula
goal_at t k = slice_index_or t.goals k never
