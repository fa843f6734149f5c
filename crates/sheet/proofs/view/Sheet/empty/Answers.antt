use Rattle.std.proofs.Common.{refl, rules}
use Rattle.sheet.specs.Decoding.{decode}
use Rattle.sheet.specs.Survey.{scan}
use Rattle.sheet.proofs.view.Sheet.empty.Goals as goal

pub invariant_of-result : goal.invariant_of-result
unfolding scan decode
invariant_of-result c = record { lawful = refl; facts_counted = search rules; steps_counted = search rules; goals_counted = search rules }

pub returns : goal.returns
unfolding decode
returns c = refl
