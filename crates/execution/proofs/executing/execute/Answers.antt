use Rattle.std.proofs.Common.{sym, ◌∙◌}
use Rattle.std.proofs.lemmas.Bool.{both_ways}
use Rattle.sheet.specs.Reading.{tree}
use Rattle.sheet.specs.Trees.{step_at}
use Rattle.execution.specs.State.{holds}
use Rattle.execution.proofs.Outcomes.{clash_told, clash_seen, successor_told}
use Rattle.execution.proofs.PartWords.{condition_first, effect_next}
use Rattle.execution.proofs.executing.execute.Goals as goal

pub returns-then-not-condition : goal.returns-then-not-condition
returns-then-not-condition c =
    let found = rw (c.ok_or.ensures.ok_part, c.in_ok-part.was) at c.step.ensures in
    let read = c.truth-condition.ensures _ _ (condition_first _ _ _ found) in
    (found.on_the_sheet, sym read.0 ∙ c.if-not-condition.true)

pub active_effects-active-requires : goal.active_effects-active-requires
active_effects-active-requires c =
    let found = rw (c.ok_or.ensures.ok_part, c.in_ok-part.was) at c.step.ensures in
    let read = c.truth-condition.ensures _ _ (condition_first _ _ _ found) in
    (_, _, effect_next _ _ _ found _ read.1)

pub returns-then-clashes : goal.returns-then-clashes
returns-then-clashes c =
    let found = rw (c.ok_or.ensures.ok_part, c.in_ok-part.was) at c.step.ensures in
    let effect = (step_at (tree c.args.sheet.now) c.args.step).effect in
    let read = c.truth-condition.ensures _ _ (condition_first _ _ _ found) in
    let active = c.active_effects-active.result in
    let effects = c.active_effects-active.ensures _ _ (effect_next _ _ _ found _ read.1) in (
      found.on_the_sheet,
      sym read.0 ∙ c.if-not-condition.false,
      clash_told (holds c.args.before) effect active effects.0 effects.1 (c.clashes.ensures.0 c.if-clashes.true),
    )

pub returns : goal.returns
returns c =
    let found = rw (c.ok_or.ensures.ok_part, c.in_ok-part.was) at c.step.ensures in
    let s = holds c.args.before in
    let effect = (step_at (tree c.args.sheet.now) c.args.step).effect in
    let read = c.truth-condition.ensures _ _ (condition_first _ _ _ found) in
    let active = c.active_effects-active.result in
    let effects = c.active_effects-active.ensures _ _ (effect_next _ _ _ found _ read.1) in (
      found.on_the_sheet,
      record {
        condition_true = sym read.0 ∙ c.if-not-condition.false;
        nothing_set_and_cleared = λ clash.
            both_ways _ c.if-clashes.false (c.clashes.ensures.1 (clash_seen s effect active effects.0 effects.1 clash));
      },
      successor_told s effect active effects.0 effects.1 _ c.successor.ensures,
    )
