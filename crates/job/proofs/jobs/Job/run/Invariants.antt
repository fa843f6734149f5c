use Rattle.std.proofs.Common.{◌≡◌, ◌≤◌, length, take, vec_items, vec_len, vec_capacity}
use Rattle.sheet.specs.Reading.{tree}
use Rattle.job.specs.Moments.{Runs}
use Rattle.job.specs.Records.{ledger}
use Rattle.job.proofs.jobs.Job.run.Given as goal

abbrev pub invariant-loop-call : goal.invariant-loop-call
invariant-loop-call l =
    let made = take l.call-index l.calls in
    record {
      room : length l.calls ≤ vec_capacity l.answers;
      counted : vec_len l.answers ≡ l.call-index;
      run : Runs (tree l.sheet) (ledger l.initial.self) made (vec_items l.answers) (ledger l.self);
    }
