-- What a call is answered: done, or why it is refused.
use Rattle.std.specs.Prelude.{ℕ, Bool, true, false, Ok, Err, Result}
use Rattle.job.specs.declared.calls.Call.{Call}
use Rattle.job.specs.declared.calls.Call.TheVariants.{Strike, Allow}
use Rattle.job.specs.declared.faults.DoFault.{DoFault}
use Rattle.job.specs.declared.faults.DoFault.TheVariants.{Step}
use Rattle.job.specs.declared.faults.StepFault.{StepFault}

abbrev pub Answer : Type 0
Answer = Result (Unit {0}) DoFault

-- the answer to a call that marks a step, by what marking it returns
abbrev pub answer_to_mark : Result (Unit {0}) StepFault → Answer
answer_to_mark (Ok u) = Ok u
answer_to_mark (Err f) = Err (Step f)

-- the call that marks a step so
abbrev pub marking : Bool → ℕ → Call
marking true k = Strike k
marking false k = Allow k
