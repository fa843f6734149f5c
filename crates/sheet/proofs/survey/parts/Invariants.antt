use Rattle.std.proofs.Common.{◌≡◌, ◌≤◌, [], length}
use Rattle.sheet.specs.declared.sections.Section.TheVariants.{Starts}
use Rattle.sheet.specs.Survey.{scan}
use Rattle.sheet.proofs.survey.parts.Given as goal

abbrev pub invariant-loop-rest : goal.invariant-loop-rest
invariant-loop-rest l =
    (length l.rest ≤ length l.initial.words)
    × (scan l.total l.facts (Starts 0) [] l.initial.words ≡ scan l.total l.facts l.section [] l.rest)

abbrev pub decreases-loop-rest : goal.decreases-loop-rest
decreases-loop-rest l = length l.rest
