-- What a check promises, from what became of its route.
use Rattle.std.proofs.Common.{ℕ, List, Err}
use Rattle.std.proofs.lemmas.Bool.{false≢true}
use Rattle.sheet.specs.Trees.{Tree}
use Rattle.weights.specs.Algebra.{Algebra}
use Rattle.job.specs.declared.routes.CheckFault.{CheckFault}
use Rattle.job.specs.Checking.{PromisedCheck}
use Rattle.job.specs.Ledger.{Ledger}
use Rattle.job.specs.Routes.{Unreached}
use Rattle.job.proofs.RouteEnds.{reached_or_not, unreached_once}

module _ {W : Type 0} (a : Algebra W) (t : Tree) (l : Ledger) (goal : ℕ) (ks : List ℕ) where
  pub check_refused : (f : CheckFault) → Unreached t l goal ks f → PromisedCheck a t l goal ks (Err f)
  check_refused f unreached =
      record {
        accepted_only_where_the_route_reaches_the_goal = λ ok. absurd (false≢true ok);
        accepted_wherever_the_route_reaches_the_goal =
            λ reaches. absurd (reached_or_not t l l.state goal ks f reaches unreached);
        weight_is_the_route's = tt;
        weight_is_one_of_the_kind_and_not_none = tt;
        refused_for_the_first_cause = unreached;
        refused_for_no_other_cause = λ g other. unreached_once t l l.state goal ks f g unreached other;
      }
