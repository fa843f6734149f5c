use Rattle.std.proofs.Common.{◌<◌, ◌≤◌, [], length, sym, ap, ◌∙◌, arith, rules}
use Rattle.std.proofs.lemmas.List.{nil_from_length}
use Rattle.std.proofs.lemmas.Result.{err_from_is_err_and}
use Rattle.std.proofs.lemmas.Slice.{first_rest}
use Rattle.sheet.specs.Survey.{scan}
use Rattle.sheet.proofs.Scans.{scan_ends_between}
use Rattle.sheet.proofs.Parts.{part_refused, part_closes, part_paid, part_unpaid}
use Rattle.sheet.proofs.survey.parts.Goals as goal

pub returns-in_err-next : goal.returns-in_err-next
returns-in_err-next c =
    let some : 0 < length c.loop-rest.rest.now = search rules in
    let split = first_rest c.loop-rest.rest.now 0 some in
    let p = err_from_is_err_and c.from_residual.result c.from_residual.ensures.1 in
    rw (p.1, p.2) (sym (c.loop-rest.invariant.1 ∙ part_refused _ _ _ _ _ _ split _ (search rules)))

pub returns-in_default-2 : goal.returns-in_default-2
returns-in_default-2 c =
    let some : 0 < length c.loop-rest.rest.now = search rules in
    let split = first_rest c.loop-rest.rest.now 0 some in
    c.close.ensures ∙ sym (c.loop-rest.invariant.1 ∙ part_closes c.args.total _ _ _ _ _ split (search rules))

pub returns-in_err-rest : goal.returns-in_err-rest
returns-in_err-rest c =
    let some : 0 < length c.loop-rest.rest.now = search rules in
    let split = first_rest c.loop-rest.rest.now 0 some in
    let p = err_from_is_err_and c.from_residual-in_err-rest.result c.from_residual-in_err-rest.ensures.1 in
    rw (p.1, p.2) (sym (c.loop-rest.invariant.1 ∙ part_unpaid _ _ _ _ _ _ split c.in-Some.next (search rules) _ c.follow.ensures.reads _ (search rules)))

pub loop-rest-preserved : goal.loop-rest-preserved
loop-rest-preserved c =
    let some : 0 < length c.loop-rest.rest.now = search rules in
    let split = first_rest c.loop-rest.rest.now 0 some in
    let paid = part_paid c.args.total c.args.facts c.loop-rest.section c.loop-rest.rest.now _ _ split c.in-Some.next (search rules) _ c.follow.ensures.reads c.in_ok-rest.rest (search rules) in
    (omega (arith, paid.0, c.loop-rest.invariant.0), c.loop-rest.invariant.1 ∙ paid.1)

pub returns : goal.returns
returns c =
    let none : length c.loop-rest.rest.now ≤ 0 = search rules in
    let ended = nil_from_length c.loop-rest.rest.now (omega arith) in
    search rules ∙ sym (c.loop-rest.invariant.1 ∙ ap (scan _ _ _ []) ended ∙ scan_ends_between _ _ _)
