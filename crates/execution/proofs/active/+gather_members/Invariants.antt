use Rattle.std.proofs.Common.{ℕ, ◌+◌, ◌-◌, ◌*◌, List, length}
use Rattle.sheet.specs.Trees.{Effects}
use Rattle.execution.specs.State.{holds}
use Rattle.execution.specs.Reading.{EffectsFirst}
use Rattle.execution.proofs.Additions.{Left}
use Rattle.execution.proofs.active.+gather_members.Given as goal

abbrev pub decreases-gather : goal.decreases-gather
decreases-gather l = 2 * length l.words.now

abbrev pub decreases-members : goal.decreases-members
decreases-members l = 2 * length l.words.now + 1

abbrev pub invariant-members-loop-done : goal.invariant-members-loop-done
invariant-members-loop-done l =
    (es : Effects) (tail : List ℕ)
    → EffectsFirst l.initial.words l.count es tail
    → Left (holds l.before) l.initial.words es l.on l.fn.so_far l.gathered.value l.gathered.rest.now (l.count - l._done) tail
