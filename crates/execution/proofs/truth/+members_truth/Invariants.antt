use Rattle.std.proofs.Common.{ℕ, ◌+◌, ◌-◌, ◌*◌, List, length}
use Rattle.sheet.specs.Trees.{Formulas}
use Rattle.execution.specs.State.{holds}
use Rattle.execution.specs.Reading.{FormulasFirst}
use Rattle.execution.proofs.Tallies.{Left}
use Rattle.execution.proofs.truth.+members_truth.Given as goal

abbrev pub decreases-members : goal.decreases-members
decreases-members l = 2 * length l.words.now + 1

abbrev pub decreases-truth : goal.decreases-truth
decreases-truth l = 2 * length l.words.now

abbrev pub invariant-members-loop-done : goal.invariant-members-loop-done
invariant-members-loop-done l =
    (fs : Formulas) (tail : List ℕ)
    → FormulasFirst l.initial.words l.count fs tail
    → Left (holds l.state) l.initial.words fs l.tally.all l.tally.any l.rest (l.count - l._done) tail
