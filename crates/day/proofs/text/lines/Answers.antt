use Rattle.std.proofs.Common.{length, sym, Ok, ◌∙◌, arith, length-append}
use Rattle.std.proofs.lemmas.Slice.Zip.{zip_turn, zip_end}
use Rattle.job.specs.declared.calls.Call.{Call}
use Rattle.day.proofs.Printing.{lines_more, lines_all}
use Rattle.day.proofs.text.lines.Goals as goal

pub loop-call-preserved : goal.loop-call-preserved
loop-call-preserved c =
    let turn = zip_turn c.args.calls.now c.args.answers.now c.loop-call.yielded c.into_iter-call-iterator.result c.loop-call.call-iterator c.next.new.self c.next.result (cc) (cc) c.loop-call.yielded_by _ c.in-Some.is c.next.ensures.steps in
    rw length-append
    (lines_more c.args.calls.now c.args.answers.now (length c.loop-call.yielded) (Call.Do 0) (Ok tt) _ _
    (omega (arith, turn.0, turn.1)) c.loop-call.invariant
    (rw (sym (turn.2 (Call.Do 0)), sym (turn.3 (Ok tt))) c.in_ok-write.ensures.bytes))

pub returns : goal.returns
returns c =
    let all = zip_end c.args.calls.now c.args.answers.now c.loop-call.yielded c.into_iter-call-iterator.result c.loop-call.call-iterator c.next.new.self c.next.result (cc) (cc) c.loop-call.yielded_by c.in-None.is c.next.ensures.steps in
    c.loop-call.invariant ∙ lines_all c.args.calls.now c.args.answers.now (length c.loop-call.yielded) (omega (arith, all))
