-- A route that is walked step by step.
use Rattle.std.proofs.Common.{◌≡◌, ℕ, ◌+◌, ◌<◌, Bool, false, List, [], ◌∷◌, ◌++◌, length, get_or, take, Some, None, Option, unwrap_or, Ok, Err, Result, MatchResult, IsErrAnd, sym, ◌∙◌, ap₂, ⊎_elim, arith}
use Rattle.std.proofs.lemmas.List.{take_more}
use Rattle.std.proofs.lemmas.Result.{err_from_is_err_and}
use Rattle.sheet.specs.Lawful.{Each}
use Rattle.sheet.specs.Trees.{Tree}
use Rattle.execution.specs.Executed.{Valued}
use Rattle.execution.specs.State.{holds}
use Rattle.weights.specs.Algebra.{Algebra, SomeWeight}
use Rattle.weights.specs.Laws.{Laws}
use Rattle.weights.proofs.Routes.{weight_after_append}
use Rattle.job.specs.declared.checking.Tried.{Tried}
use Rattle.job.specs.declared.faults.StepFault.{StepFault}
use Rattle.job.specs.declared.routes.CheckFault.{CheckFault}
use Rattle.job.specs.declared.routes.CheckFault.TheVariants.{Route}
use Rattle.job.specs.declared.routes.RouteFault.{RouteFault}
use Rattle.job.specs.declared.routes.RouteFault.TheVariants.{Step, GoalFalse}
use Rattle.job.specs.Checking.{TriedStep, Walks}
use Rattle.job.specs.Ledger.{Ledger, Hindered}
use Rattle.job.specs.Routes.{Arrives, Unreached}
use Rattle.job.specs.Tries.{in_state}
use Rattle.job.proofs.Days.{executes_more}

each_append : {X : Type 0} (P : X → Type 0) (xs ys : List X) → Each P xs → Each P ys → Each P (xs ++ ys)
each_append P [] ys h k = k
each_append P (x ∷ xs) ys h k = (h.0, each_append P xs ys h.1 k)

module _ {W : Type 0} (a : Algebra W) (laws : Laws a) where
  then_is_some : (w v : W) → SomeWeight a w → SomeWeight a v → SomeWeight a (a.then w v)
  then_is_some w v x y =
      (laws.then_is_a_weight w v x.0 y.0, λ same. ⊎_elim x.1 y.1 (laws.then_none_from_none w v x.0 y.0 same))

  walks_more : (t : Tree) (l : Ledger) (ks : List ℕ) (k : ℕ) (here : ℕ → Bool) (w : W) (x : Tried W) →
      Walks a t l ks here w → TriedStep a t l here k (Ok x) →
      Walks a t l (ks ++ k ∷ []) (holds x.state) (a.then w x.weight)
  walks_more t l ks k here w x so_far step =
      let ready = step.0.0 in
      let led = so_far.leads_there in
      let next = holds x.state in
      record {
        leads_there =
            record {
              steps_are_allowed =
                  each_append (λ (j : ℕ). l.struck j ≡ false) ks (k ∷ []) led.steps_are_allowed (ready.allowed, tt);
              steps_execute =
                  executes_more t l.state ks here k next led.steps_execute ready.on_the_sheet ready.executable step.0.1;
            };
        weighs = ap₂ a.then so_far.weighs step.1 ∙ sym (weight_after_append a t a.zero ks (k ∷ []));
        some = then_is_some w x.weight so_far.some step.2;
      }

-- a step tried at a place: its fault comes with the place
abbrev TriedAt : {W : Type 0} → Algebra W → Tree → Ledger → (ℕ → Bool) → ℕ → ℕ → Result (Tried W) CheckFault → Type 0
TriedAt a t l s k i (Ok r) = TriedStep a t l s k (Ok r)
TriedAt a t l s k i (Err d) = (f : StepFault) × (d ≡ Route (Step f) i) × Hindered t (in_state l s) k f

-- the place goes along by `map_err`, whose closure is known by what it tells
tried_at : {W : Type 0} (a : Algebra W) (t : Tree) (l : Ledger) (s : ℕ → Bool) (k i : ℕ)
    (r : Result (Tried W) RouteFault) (m : Result (Tried W) CheckFault) (Told : RouteFault → CheckFault → Type 0) →
    TriedStep a t l s k r → MatchResult r (λ x. m ≡ Ok x) (λ f. IsErrAnd m (Told f)) →
    ((f : RouteFault) (d : CheckFault) → Told f d → d ≡ Route f i) → TriedAt a t l s k i m
tried_at a t l s k i (Ok r) m Told tried cases told = rw cases tried
tried_at a t l s k i (Err (Step f)) m Told tried cases told =
    let p = err_from_is_err_and m cases in
    rw p.1 (f, told (Step f) p.0 p.2, tried)
tried_at a t l s k i (Err GoalFalse) m Told tried cases told = absurd tried

module _ {W : Type 0} {a : Algebra W} {t : Tree} {l : Ledger} {here : ℕ → Bool} {w : W} (ks : List ℕ) (i : ℕ)
    (so_far : Walks a t l (take i ks) here w) (within : i < length ks)
    (r : Result (Tried W) RouteFault) (m : Result (Tried W) CheckFault) (Told : RouteFault → CheckFault → Type 0)
    (tried : TriedStep a t l here (get_or ks i 0) r) (cases : MatchResult r (λ x. m ≡ Ok x) (λ f. IsErrAnd m (Told f)))
    (told : (f : RouteFault) (d : CheckFault) → Told f d → d ≡ Route f i) where
  at_place : TriedAt a t l here (get_or ks i 0) i m
  at_place = tried_at a t l here (get_or ks i 0) i r m Told tried cases told

  pub walks_on : Laws a → (x : Tried W) → m ≡ Ok x →
      Walks a t l (take (i + 1) ks) (holds x.state) (a.then w x.weight)
  walks_on laws x is =
      rw (take_more ks i 0 within)
      (walks_more a laws t l (take i ks) (get_or ks i 0) here w x so_far (rw is at at_place))

  pub halts_here : (d : CheckFault) → m ≡ Err d → (goal : ℕ) → goal < length t.goals → Unreached t l goal ks d
  halts_here d is goal on =
      let step = rw is at at_place in
      rw step.1 (
        on,
        record {
          within_the_route = within;
          here = here;
          steps_before_lead_here = so_far.leads_there;
          step_is_hindered_here = step.2;
        },
      )

-- a route whose steps are executed, and what its goal is told to be at the end
pub arrives : {W : Type 0} {a : Algebra W} {t : Tree} {l : Ledger} {ks : List ℕ} {last : ℕ → Bool} {w : W}
    (goal : ℕ) (value : Bool) (r : Option Bool) → Walks a t l ks last w → goal < length t.goals → Valued t last goal r →
    value ≡ unwrap_or r false → Arrives t l goal ks value
arrives goal value None walked on h is = absurd (omega arith)
arrives {last = last} goal value (Some b) walked on h is =
    record {
      goal_is_on_the_sheet = on;
      last = last;
      route_leads_there = walked.leads_there;
      goal_value_there = sym (is ∙ h.1);
    }
