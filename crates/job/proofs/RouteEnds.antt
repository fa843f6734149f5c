-- A route comes to one end.
use Rattle.std.proofs.Common.{◌≡◌, ℕ, zero, suc, Bool, true, false, List, [], ◌∷◌, take, sym, refl, ap, ◌∙◌, subst, ap₂, arith}
use Rattle.std.proofs.lemmas.Bool.{both_ways}
use Rattle.sheet.specs.Trees.{Tree, step_at}
use Rattle.execution.specs.Execution.{Executes, Leads, successor}
use Rattle.job.specs.declared.faults.StepFault.{StepFault}
use Rattle.job.specs.declared.routes.CheckFault.{CheckFault}
use Rattle.job.specs.declared.routes.CheckFault.TheVariants.{NoSuchGoal, Route}
use Rattle.job.specs.declared.routes.RouteFault.TheVariants.{Step, GoalFalse}
use Rattle.job.specs.Ledger.{Ledger, Hindered, Ready}
use Rattle.job.specs.Tries.{in_state}
use Rattle.job.specs.Routes.{Arrives, Halts, Unreached, Reaches}
use Rattle.job.proofs.Tried.{never_both, hindered_once}

executes_once : (t : Tree) (s : ℕ → Bool) (ks : List ℕ) (x y : ℕ → Bool) → Executes t s ks x → Executes t s ks y → x ≡ y
executes_once t s [] x y h j = h ∙ sym j
executes_once t s (k ∷ ks) x y h j = executes_once t (successor s (step_at t k).effect) ks x y h.2 j.2

module _ (t : Tree) (l : Ledger) (s : ℕ → Bool) (k : ℕ) where
  ready_first : (ks : List ℕ) (last : ℕ → Bool) → Leads t l.struck s (k ∷ ks) last → Ready t (in_state l s) k
  ready_first ks last h =
      record {
        on_the_sheet = h.steps_execute.0;
        allowed = h.steps_are_allowed.0;
        executable = h.steps_execute.1;
      }

  leads_on : (ks : List ℕ) (last : ℕ → Bool) → Leads t l.struck s (k ∷ ks) last →
      Leads t l.struck (successor s (step_at t k).effect) ks last
  leads_on ks last h = record { steps_are_allowed = h.steps_are_allowed.1; steps_execute = h.steps_execute.2 }

  module _ (ks : List ℕ) (f : StepFault) where
    hindered_first : Halts t (in_state l s) (k ∷ ks) zero f → Hindered t (in_state l s) k f
    hindered_first h =
        let none = h.steps_before_lead_here.steps_execute in
        subst (λ (x : ℕ → Bool). Hindered t (in_state l x) k f) none h.step_is_hindered_here

    ready_before : (i : ℕ) → Halts t (in_state l s) (k ∷ ks) (suc i) f → Ready t (in_state l s) k
    ready_before i h = ready_first (take i ks) h.here h.steps_before_lead_here

    halts_later : (i : ℕ) → Halts t (in_state l s) (k ∷ ks) (suc i) f →
        Halts t (in_state l (successor s (step_at t k).effect)) ks i f
    halts_later i h =
        record {
          within_the_route = omega (arith, h.within_the_route);
          here = h.here;
          steps_before_lead_here = leads_on (take i ks) h.here h.steps_before_lead_here;
          step_is_hindered_here = h.step_is_hindered_here;
        }

module _ (t : Tree) (l : Ledger) where
  leads_or_halts : (s : ℕ → Bool) (ks : List ℕ) (last : ℕ → Bool) (i : ℕ) (f : StepFault) → Leads t l.struck s ks last →
      Halts t (in_state l s) ks i f → ⊥
  leads_or_halts s [] last i f x y = omega (arith, y.within_the_route)
  leads_or_halts s (k ∷ ks) last zero f x y =
      never_both t (in_state l s) k f (ready_first t l s k ks last x) (hindered_first t l s k ks f y)
  leads_or_halts s (k ∷ ks) last (suc i) f x y =
      let next = successor s (step_at t k).effect in
      leads_or_halts next ks last i f (leads_on t l s k ks last x) (halts_later t l s k ks f i y)

  halts_once : (s : ℕ → Bool) (ks : List ℕ) (i j : ℕ) (f g : StepFault) → Halts t (in_state l s) ks i f →
      Halts t (in_state l s) ks j g → (j ≡ i) × (g ≡ f)
  halts_once s [] i j f g x y = absurd (omega (arith, x.within_the_route))
  halts_once s (k ∷ ks) zero zero f g x y = (
    refl,
    hindered_once t (in_state l s) k f g (hindered_first t l s k ks f x) (hindered_first t l s k ks g y),
  )
  halts_once s (k ∷ ks) zero (suc j) f g x y =
      absurd (never_both t (in_state l s) k f (ready_before t l s k ks g j y) (hindered_first t l s k ks f x))
  halts_once s (k ∷ ks) (suc i) zero f g x y =
      absurd (never_both t (in_state l s) k g (ready_before t l s k ks f i x) (hindered_first t l s k ks g y))
  halts_once s (k ∷ ks) (suc i) (suc j) f g x y =
      let next = successor s (step_at t k).effect in
      let rest = halts_once next ks i j f g (halts_later t l s k ks f i x) (halts_later t l s k ks g j y) in
      (ap suc rest.0, rest.1)

  module _ (s : ℕ → Bool) (goal : ℕ) (ks : List ℕ) where
    arrives_once : Arrives t (in_state l s) goal ks true → Arrives t (in_state l s) goal ks false → ⊥
    arrives_once x y =
        let at_x = x.route_leads_there.steps_execute in
        let same = executes_once t s ks y.last x.last y.route_leads_there.steps_execute at_x in
        both_ways _ (rw same at y.goal_value_there) x.goal_value_there

    pub reached_or_not : (f : CheckFault) → Reaches t (in_state l s) goal ks → Unreached t (in_state l s) goal ks f → ⊥
    reached_or_not NoSuchGoal x y = omega (arith, x.goal_is_on_the_sheet)
    reached_or_not (Route (Step f) i) x y = leads_or_halts s ks x.last i f x.route_leads_there y.1
    reached_or_not (Route GoalFalse i) x y = arrives_once x y.0

    pub unreached_once : (f g : CheckFault) → Unreached t (in_state l s) goal ks f →
        Unreached t (in_state l s) goal ks g → g ≡ f
    unreached_once NoSuchGoal NoSuchGoal x y = refl
    unreached_once NoSuchGoal (Route (Step g) j) x y = absurd (omega (arith, y.0))
    unreached_once NoSuchGoal (Route GoalFalse j) x y = absurd (omega (arith, y.0.goal_is_on_the_sheet))
    unreached_once (Route (Step f) i) NoSuchGoal x y = absurd (omega (arith, x.0))
    unreached_once (Route (Step f) i) (Route (Step g) j) x y =
        let once = halts_once s ks i j f g x.1 y.1 in
        ap₂ (λ (h : StepFault) (n : ℕ). Route (Step h) n) once.1 once.0
    unreached_once (Route (Step f) i) (Route GoalFalse j) x y =
        absurd (leads_or_halts s ks y.0.last i f y.0.route_leads_there x.1)
    unreached_once (Route GoalFalse i) NoSuchGoal x y = absurd (omega (arith, x.0.goal_is_on_the_sheet))
    unreached_once (Route GoalFalse i) (Route (Step g) j) x y =
        absurd (leads_or_halts s ks x.0.last j g x.0.route_leads_there y.1)
    unreached_once (Route GoalFalse i) (Route GoalFalse j) x y = ap (Route GoalFalse) (y.1 ∙ sym x.1)
