-- A turn that ended for want of memory before any call was run.
use Rattle.std.proofs.Common.{◌≡◌, ℕ, List, [], refl, ap, inl}
use Rattle.job.specs.declared.jobs.Job.{Job}
use Rattle.job.specs.Records.{ledger}
use Rattle.job.proofs.Days.{promised_list}
use Rattle.sheet.specs.Trees.{Tree}
use Rattle.day.specs.Turning.{Unfinished}

pub nothing_run : (t : Tree) (before after : Job) (bytes : List ℕ) → after ≡ before → Unfinished t (ledger before) bytes (ledger after)
nothing_run t before after bytes same =
    record {
      calls = [];
      answers = [];
      job_runs_the_calls = promised_list t (ledger before) [] [] (ledger after) (ap ledger same);
      none_or_all_are_run = inl refl;
    }
