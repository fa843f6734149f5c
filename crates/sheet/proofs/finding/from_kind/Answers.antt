use Rattle.std.proofs.Common.{ℕ, ◌∙◌, arith, rules, tests}
use Rattle.std.proofs.lemmas.Iterator.{YieldsList-from_slice}
use Rattle.std.proofs.lemmas.Iterator.Consumers.{nth_from_yields_List, YieldsList-from_filter, YieldsList-from_enumerate}
use Rattle.std.proofs.lemmas.List.{take_rest, length-drop}
use Rattle.sheet.specs.KindPlaces.{is_of}
use Rattle.sheet.proofs.PartSearch.{found_by}
use Rattle.sheet.proofs.finding.from_kind.Goals as goal

pub returns-in_err-place : goal.returns-in_err-place
returns-in_err-place c =
    let found = found_by _ c.args.kind c.args.number c.args.words.now _ (nth_from_yields_List _ _ c.args.number c.nth.ensures.ran
    (YieldsList-from_filter _ (λ (p : ℕ × ℕ). is_of c.args.kind p.1) (YieldsList-from_enumerate (YieldsList-from_slice c.args.words.now cc) cc) c.filter.ensures.closure (λ x r q k. search (rules, tests)))) in
    rw c.from_residual.ensures (rw c.in_err-place.was at found)

pub returns : goal.returns
returns c =
    let found = found_by _ c.args.kind c.args.number c.args.words.now _ (nth_from_yields_List _ _ c.args.number c.nth.ensures.ran
    (YieldsList-from_filter _ (λ (p : ℕ × ℕ). is_of c.args.kind p.1) (YieldsList-from_enumerate (YieldsList-from_slice c.args.words.now cc) cc) c.filter.ensures.closure (λ x r q k. search (rules, tests)))) in
    let at = rw c.in_ok-place.was at found in
    let rest = take_rest c.args.words.now c.in_ok-place.place in
    (rest ∙ at.1, rw rest (omega (arith, at.0, length-drop c.in_ok-place.place c.args.words.now)))
