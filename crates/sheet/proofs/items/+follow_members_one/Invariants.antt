use Rattle.std.proofs.Common.{◌≡◌, ℕ, ◌+◌, ◌-◌, ◌*◌, ◌≤◌, List, ◌++◌, length, replicate}
use Rattle.sheet.specs.declared.items.Item.{Item}
use Rattle.sheet.specs.declared.sections.Section.{Section}
use Rattle.sheet.specs.Survey.{scan}
use Rattle.sheet.proofs.items.+follow_members_one.Given as goal

abbrev pub decreases-follow : goal.decreases-follow
decreases-follow l = 3 * length l.words.now + 2

abbrev pub decreases-members : goal.decreases-members
decreases-members l = 3 * length l.words.now + 1

abbrev pub decreases-one : goal.decreases-one
decreases-one l = 3 * length l.words.now

abbrev pub invariant-members-loop-done : goal.invariant-members-loop-done
invariant-members-loop-done l =
    (length l.rest ≤ length l.initial.words)
    × ((total : ℕ) (s : Section) (is : List Item) →
    scan total l.facts s (replicate l.count l.item ++ is) l.initial.words
    ≡ scan total l.facts s (replicate (l.count - l._done) l.item ++ is) l.rest)
