use Rattle.std.proofs.Common.{◌≡◌, ◌+◌, ◌-◌, ◌&&◌, length, sym, ap, ◌∙◌, arith}
use Rattle.sheet.specs.declared.kinds.Kind.{Kind}
use Rattle.sheet.specs.Trees.{set, clear}
use Rattle.execution.specs.State.{holds}
use Rattle.execution.specs.Truth.{truth}
use Rattle.execution.proofs.FormulaParts.{formula_shorter}
use Rattle.execution.proofs.EffectParts.{effect_shorter, effect_behind_shorter, opened_effect, no_members, members, no_effect}
use Rattle.execution.proofs.Additions.{none_added, then_added, guarded_added}
use Rattle.execution.proofs.active.+gather_members.Goals as goal
use Rattle.execution.proofs.active.+gather_members.Goals.{gather-then-on, gather-else-on}

pub gather-unreachable-requires : goal.gather-unreachable-requires
gather-unreachable-requires t c = absurd (omega (arith, effect_shorter c.requires.0 c.requires.2))

pub gather-members-requires : goal.gather-members-requires
gather-members-requires t c =
    let o = opened_effect Kind.Group c.in-Group.ensures c.requires.0 c.requires.2 in
    (omega (arith, c.decreases, effect_behind_shorter c.requires.0 c.requires.2), (o.0, c.requires.1, rw c.argument_of-in-Group.ensures o.2))

pub gather-truth-condition-requires : goal.gather-truth-condition-requires
gather-truth-condition-requires t c =
    let o = opened_effect Kind.When c.in-When.ensures c.requires.0 c.requires.2 in
    (o.condition, _, o.condition_first)

pub gather-gather-requires : goal.gather-gather-requires
gather-gather-requires t c =
    let o = opened_effect Kind.When c.in-When.ensures c.requires.0 c.requires.2 in
    let behind_condition = (c.truth-condition.ensures o.condition _ o.condition_first).1 in (
      omega (arith, c.decreases, effect_behind_shorter c.requires.0 c.requires.2, ap length behind_condition, formula_shorter o.condition o.condition_first),
      (o.effect, c.requires.1, o.effect_next _ behind_condition),
    )

pub gather-unreachable-requires-in_default-kind_of : goal.gather-unreachable-requires-in_default-kind_of
gather-unreachable-requires-in_default-kind_of t c =
    let o = opened_effect c.kind_of.result c.kind_of.ensures c.requires.0 c.requires.2 in
    let r = c.in_default-kind_of in
    no_effect _ r.not-Set r.not-Clear r.not-Group r.not-When _ _ _ _ o

pub gather-returns-in-Set : goal.gather-returns-in-Set
gather-returns-in-Set t c e tail p =
    let o = opened_effect Kind.Set c.in-Set.ensures e p in
    let is = ap set c.argument_of.ensures ∙ sym o.0 in
    (rw (← is) (c.with.ensures (omega (arith, o.1, c.argument_of.ensures))), o.2)

pub gather-returns-in-Clear : goal.gather-returns-in-Clear
gather-returns-in-Clear t c e tail p =
    let o = opened_effect Kind.Clear c.in-Clear.ensures e p in
    let is = ap clear c.argument_of-in-Clear.ensures ∙ sym o.0 in
    (rw (← is) (c.with-in-Clear.ensures (omega (arith, o.1, c.argument_of-in-Clear.ensures))), o.2)

pub gather-returns-in-Group : goal.gather-returns-in-Group
gather-returns-in-Group t c e tail p =
    let o = opened_effect Kind.Group c.in-Group.ensures e p in
    let inner = c.members.ensures o.0 tail (rw c.argument_of-in-Group.ensures o.2) in
    (rw o.1 inner.0, inner.1)

pub gather-returns-after-on : goal.gather-returns-after-on
gather-returns-after-on t c e tail p =
    let s = holds c.args.before in
    let on_is : c.if-on.gather ≡ (c.args.on && c.truth-condition.result.value) =
    elim c.if-on.branch [
      | gather-then-on w ↦ grind (arith, w.if-on.true, w.gather-is)
      | gather-else-on w ↦ grind (arith, w.if-on.false, w.gather-is)
    ] in
    let o = opened_effect Kind.When c.in-When.ensures e p in
    let condition = c.truth-condition.ensures o.condition _ o.condition_first in
    let inner = c.gather.ensures o.effect tail (o.effect_next _ condition.1) in
    (rw o.is (guarded_added c.args.on (truth s o.condition) (rw (on_is, condition.0) at inner.0)), inner.1)

pub members-gather-gathered-requires : goal.members-gather-gathered-requires
members-gather-gathered-requires t c =
    let left = c.loop-done.invariant _ _ c.requires.2 in
    let m = members _ _ _ (c.args.count - (c.loop-done._done + 1)) (omega arith) _ left.first in
    (omega (arith, c.decreases, left.shorter), (m.head, _, m.head_first))

pub members-loop-done-preserved : goal.members-loop-done-preserved
members-loop-done-preserved t c es tail p =
    let left = c.loop-done.invariant es tail p in
    let m = members _ _ tail (c.args.count - (c.loop-done._done + 1)) (omega arith) left.effects left.first in
    let next = c.gather-gathered.ensures m.head _ m.head_first in
    record {
      effects = m.others;
      first = m.others_next _ next.1;
      shorter = omega (arith, left.shorter, ap length next.1, effect_shorter m.head m.head_first);
      added = λ q. left.added (rw m.are (then_added next.0 q));
    }

pub members-returns : goal.members-returns
members-returns t c es tail p =
    let left = c.loop-done.invariant es tail p in
    let none = no_members _ _ tail (omega arith) left.effects left.first in
    (left.added (rw none.0 (none_added c.loop-done.gathered.value c.args.on)), none.1)
