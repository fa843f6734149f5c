-- The tree that words spell, by one walk from the last word to the first: each word takes what belongs to it.
use Rattle.std.specs.Prelude.{ℕ, zero, suc, List, [], ◌∷◌, drop}
use Rattle.sheet.specs.declared.kinds.Kind.{Kind}
use Rattle.sheet.specs.Kinds.{row, argument, minutes, grade}
use Rattle.sheet.specs.Trees.{Formula, Formulas, Effect, Effects, Step, Tree, never, always, fact, not, all, any, set, clear, group, when}

-- the parts read so far, and the formulas and effects that no word before them has taken yet
pub record Read : Type 0 where
  pub tree : Tree
  pub formulas : List Formula
  pub effects : List Effect

abbrev pub first_formula : List Formula → Formula
first_formula [] = never
first_formula (f ∷ fs) = f

abbrev pub first_effect : List Effect → Effect
first_effect [] = group Effects.none
first_effect (e ∷ es) = e

abbrev pub front_formulas : ℕ → List Formula → Formulas
front_formulas zero fs = Formulas.none
front_formulas (suc n) [] = Formulas.none
front_formulas (suc n) (f ∷ fs) = Formulas.more f (front_formulas n fs)

abbrev pub front_effects : ℕ → List Effect → Effects
front_effects zero es = Effects.none
front_effects (suc n) [] = Effects.none
front_effects (suc n) (e ∷ es) = Effects.more e (front_effects n es)

-- a formula or an effect in the place of the first k formulas and m effects
abbrev pub put_formula : Formula → ℕ → Read → Read
put_formula f k r = record { tree = r.tree; formulas = f ∷ drop k r.formulas; effects = r.effects }

abbrev pub put_effect : Effect → ℕ → ℕ → Read → Read
put_effect e k m r = record { tree = r.tree; formulas = drop k r.formulas; effects = e ∷ drop m r.effects }

abbrev pub put_tree : Tree → ℕ → ℕ → Read → Read
put_tree t k m r = record { tree = t; formulas = drop k r.formulas; effects = drop m r.effects }

abbrev pub with_facts : ℕ → Tree → Tree
with_facts n t = record { facts = n; starts = t.starts; steps = t.steps; goals = t.goals }

abbrev pub with_start : ℕ → Tree → Tree
with_start f t = record { facts = t.facts; starts = f ∷ t.starts; steps = t.steps; goals = t.goals }

abbrev pub with_step : Step → Tree → Tree
with_step s t = record { facts = t.facts; starts = t.starts; steps = s ∷ t.steps; goals = t.goals }

abbrev pub with_goal : Formula → Tree → Tree
with_goal g t = record { facts = t.facts; starts = t.starts; steps = t.steps; goals = g ∷ t.goals }

abbrev pub put : Kind → ℕ → Read → Read
put Kind.Never w r = put_formula never 0 r
put Kind.Always w r = put_formula always 0 r
put Kind.Fact w r = put_formula (fact (argument w)) 0 r
put Kind.Not w r = put_formula (not (first_formula r.formulas)) 1 r
put Kind.All w r = put_formula (all (front_formulas (argument w) r.formulas)) (argument w) r
put Kind.Any w r = put_formula (any (front_formulas (argument w) r.formulas)) (argument w) r
put Kind.Set w r = put_effect (set (argument w)) 0 0 r
put Kind.Clear w r = put_effect (clear (argument w)) 0 0 r
put Kind.Group w r = put_effect (group (front_effects (argument w) r.effects)) 0 (argument w) r
put Kind.When w r = put_effect (when (first_formula r.formulas) (first_effect r.effects)) 1 1 r
put Kind.Step w r =
    put_tree
    (with_step (record { minutes = minutes w; grade = grade w; condition = first_formula r.formulas; effect = first_effect r.effects }) r.tree)
    1 1 r
put Kind.Goal w r = put_tree (with_goal (first_formula r.formulas) r.tree) 1 0 r
put Kind.Sheet w r = put_tree (with_facts (argument w) r.tree) 0 0 r
put Kind.Start w r = put_tree (with_start (argument w) r.tree) 0 0 r
put Kind.End w r = r
put Kind.Unused w r = r

-- the sheet of no facts, steps or goals
abbrev pub bare : Tree
bare = record { facts = 0; starts = []; steps = []; goals = [] }

unfoldable pub decode : List ℕ → Read
decode [] = record { tree = bare; formulas = []; effects = [] }
decode (w ∷ ws) = put (row w).kind w (decode ws)

-- the tree that the words of a sheet spell
abbrev pub tree_of : List ℕ → Tree
tree_of ws = (decode ws).tree
