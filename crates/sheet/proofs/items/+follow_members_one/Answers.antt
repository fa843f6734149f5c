use Rattle.std.proofs.Common.{◌<◌, ◌≤◌, length, arith, rules}
use Rattle.std.proofs.lemmas.Result.{err_from_is_err_and}
use Rattle.std.proofs.lemmas.Slice.{first_rest}
use Rattle.sheet.proofs.Paying.{unpaid_end, unpaid_word, reads_word, shorter_word, member_paid, member_unpaid}
use Rattle.sheet.proofs.items.+follow_members_one.Goals as goal

pub members-returns-in_err-rest : goal.members-returns-in_err-rest
members-returns-in_err-rest t c =
    let p = err_from_is_err_and c.from_residual.result c.from_residual.ensures.1 in
    rw (p.1, p.2)
    (record { reads = member_unpaid _ _ _ _ _ _ c.loop-done.invariant.1 c.loop-done-test.true c.loop-done.invariant.0 _ c.in_err-rest.ensures.reads })

pub members-loop-done-preserved : goal.members-loop-done-preserved
members-loop-done-preserved t c =
    let p = c.in_ok-rest.ensures.reads in
    (omega (arith, p.shorter, c.loop-done.invariant.0), member_paid _ _ _ _ _ _ c.loop-done.invariant.1 c.loop-done-test.true _ p)

pub one-returns-in_default : goal.one-returns-in_default
one-returns-in_default t c =
    let none : length c.args.words.now ≤ 0 = search rules in
    record { reads = unpaid_end _ _ _ (omega arith); shorter = tt }

pub one-returns-in-Err : goal.one-returns-in-Err
one-returns-in-Err t c =
    let some : 0 < length c.args.words.now = search rules in
    record {
      reads = unpaid_word _ _ _ _ _ (first_rest c.args.words.now 0 some) c.admit.result c.admit.ensures _ (search rules);
      shorter = tt;
    }

pub one-returns-in-Ok : goal.one-returns-in-Ok
one-returns-in-Ok t c =
    let some : 0 < length c.args.words.now = search rules in
    let split = first_rest c.args.words.now 0 some in
    let p = c.follow.ensures.reads in
    record { reads = reads_word _ _ _ _ _ split (search rules) _ p; shorter = shorter_word _ c.args.item _ _ _ split _ _ p }
