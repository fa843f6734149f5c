use Rattle.std.proofs.Common.{ℕ, List, vec_items, refl, ◌∙◌, subst, rules}
use Rattle.std.proofs.lemmas.Result.{err_from_is_err_and}
use Rattle.day.proofs.Unfinished.{nothing_run}
use Rattle.day.specs.Calls.{Decoded}
use Rattle.day.proofs.Rejoining.{decoded_on}
use Rattle.day.proofs.turns.take_turn.Goals as goal

pub returns : goal.returns
returns c =
    let calls = vec_items c.in_ok-batch.batch.calls in
    let stopped = c.in_ok-batch.batch.stopped in
    let words = c.as_slice.ensures.value ∙ c.in_ok-here.ensures in
    let decoded = subst (λ (ws : List ℕ). Decoded ws calls stopped) words c.in_ok-batch.ensures.asked in
    let counted = c.len-used.ensures ∙ c.in_ok-batch.batch.calls.ok.0 in
    record {
      calls = calls;
      answers = vec_items c.in_ok-answers.answers;
      bytes_ask_for_the_calls = decoded;
      job_runs_the_calls = rw c.as_slice-2.ensures.value at c.in_ok-answers.ensures;
      used_counts_the_calls = counted;
      text_has_the_answers = search rules;
      bytes_may_come_in_parts = decoded_on c.args.bytes.now calls stopped c.len-used.result counted decoded;
    }

pub returns-in_err-here : goal.returns-in_err-here
returns-in_err-here c =
    let p = err_from_is_err_and c.from_residual.result c.from_residual.ensures.1 in
    rw p.1 (nothing_run _ c.args.job.now c.args.job.now _ refl)

pub returns-in_err-batch : goal.returns-in_err-batch
returns-in_err-batch c =
    let p = err_from_is_err_and c.from_residual-in_err-batch.result c.from_residual-in_err-batch.ensures.1 in
    rw p.1 (nothing_run _ c.args.job.now c.args.job.now _ refl)

pub returns-in_err-answers : goal.returns-in_err-answers
returns-in_err-answers c =
    let p = err_from_is_err_and c.from_residual-in_err-answers.result c.from_residual-in_err-answers.ensures.1 in
    rw p.1 (nothing_run _ c.args.job.now c.run.new.self _ c.in_err-answers.ensures)
