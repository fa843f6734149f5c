use Rattle.std.proofs.Common.{◌+◌, ◌-◌, not as negated, length, sym, ap, ◌∙◌, arith}
use Rattle.sheet.specs.declared.kinds.Kind.{Kind}
use Rattle.execution.specs.State.{holds}
use Rattle.execution.specs.Truth.{truth}
use Rattle.execution.proofs.FormulaParts.{formula_shorter, formula_behind_shorter, opened_formula, no_members, members, no_formula}
use Rattle.execution.proofs.truth.+members_truth.Goals as goal

pub members-truth-next-requires : goal.members-truth-next-requires
members-truth-next-requires t c =
    let left = c.loop-done.invariant _ _ c.requires.2 in
    let m = members _ _ _ (c.args.count - (c.loop-done._done + 1)) (omega arith) _ left.first in
    (omega (arith, c.decreases, left.shorter), (m.head, _, m.head_first))

pub members-loop-done-preserved : goal.members-loop-done-preserved
members-loop-done-preserved t c fs tail p =
    let left = c.loop-done.invariant fs tail p in
    let m = members _ _ tail (c.args.count - (c.loop-done._done + 1)) (omega arith) left.formulas left.first in
    let next = c.truth-next.ensures m.head _ m.head_first in
    record {
      formulas = m.others;
      first = m.others_next _ next.1;
      shorter = omega (arith, left.shorter, ap length next.1, formula_shorter m.head m.head_first);
      all_is = grind (arith, rw m.are at left.all_is, next.0);
      any_is = grind (arith, rw m.are at left.any_is, next.0);
    }

pub members-returns : goal.members-returns
members-returns t c fs tail p =
    let left = c.loop-done.invariant fs tail p in
    let none = no_members _ _ tail (omega arith) left.formulas left.first in
    (grind (arith, rw none.0 at left.all_is), grind (arith, rw none.0 at left.any_is), none.1)

pub truth-unreachable-requires : goal.truth-unreachable-requires
truth-unreachable-requires t c = absurd (omega (arith, formula_shorter c.requires.0 c.requires.2))

pub truth-truth-inner-requires : goal.truth-truth-inner-requires
truth-truth-inner-requires t c =
    let o = opened_formula Kind.Not c.in-Not.ensures c.requires.0 c.requires.2 in
    (omega (arith, c.decreases, formula_behind_shorter c.requires.0 c.requires.2), (o.0, c.requires.1, o.2))

pub truth-members-inner-requires : goal.truth-members-inner-requires
truth-members-inner-requires t c =
    let o = opened_formula Kind.All c.in-All.ensures c.requires.0 c.requires.2 in
    (omega (arith, c.decreases, formula_behind_shorter c.requires.0 c.requires.2), (o.0, c.requires.1, rw c.argument_of-in-All.ensures o.2))

pub truth-members-inner-requires-in-Any : goal.truth-members-inner-requires-in-Any
truth-members-inner-requires-in-Any t c =
    let o = opened_formula Kind.Any c.in-Any.ensures c.requires.0 c.requires.2 in
    (omega (arith, c.decreases, formula_behind_shorter c.requires.0 c.requires.2), (o.0, c.requires.1, rw c.argument_of-in-Any.ensures o.2))

pub truth-unreachable-requires-in_default-kind_of : goal.truth-unreachable-requires-in_default-kind_of
truth-unreachable-requires-in_default-kind_of t c =
    let o = opened_formula c.kind_of.result c.kind_of.ensures c.requires.0 c.requires.2 in
    let r = c.in_default-kind_of in
    no_formula _ r.not-Never r.not-Always r.not-Fact r.not-Not r.not-All r.not-Any _ _ _ _ o

pub truth-returns-in-Never : goal.truth-returns-in-Never
truth-returns-in-Never t c f tail p =
    let o = opened_formula Kind.Never c.in-Never.ensures f p in
    (sym (ap (truth (holds c.args.state)) o.0), o.1)

pub truth-returns-in-Always : goal.truth-returns-in-Always
truth-returns-in-Always t c f tail p =
    let o = opened_formula Kind.Always c.in-Always.ensures f p in
    (sym (ap (truth (holds c.args.state)) o.0), o.1)

pub truth-returns-in-Fact : goal.truth-returns-in-Fact
truth-returns-in-Fact t c f tail p =
    let s = holds c.args.state in
    let o = opened_formula Kind.Fact c.in-Fact.ensures f p in
    (c.holds.ensures ∙ ap s c.argument_of.ensures ∙ sym (ap (truth s) o.0), o.1)

pub truth-returns-in-Not : goal.truth-returns-in-Not
truth-returns-in-Not t c f tail p =
    let o = opened_formula Kind.Not c.in-Not.ensures f p in
    let inner = c.truth-inner.ensures o.0 tail o.2 in
    (ap negated inner.0 ∙ sym (ap (truth (holds c.args.state)) o.1), inner.1)

pub truth-returns-in-All : goal.truth-returns-in-All
truth-returns-in-All t c f tail p =
    let o = opened_formula Kind.All c.in-All.ensures f p in
    let inner = c.members-inner.ensures o.0 tail (rw c.argument_of-in-All.ensures o.2) in
    (inner.0 ∙ sym (ap (truth (holds c.args.state)) o.1), inner.2)

pub truth-returns-in-Any : goal.truth-returns-in-Any
truth-returns-in-Any t c f tail p =
    let o = opened_formula Kind.Any c.in-Any.ensures f p in
    let inner = c.members-inner-in-Any.ensures o.0 tail (rw c.argument_of-in-Any.ensures o.2) in
    (inner.1 ∙ sym (ap (truth (holds c.args.state)) o.1), inner.2)
