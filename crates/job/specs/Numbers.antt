-- The number of each refusal of a call.
use Rattle.std.specs.Prelude.{ℕ}
use Rattle.execution.specs.declared.executing.ExecutionFault.{ExecutionFault}
use Rattle.job.specs.declared.faults.StepFault.{StepFault}
use Rattle.job.specs.declared.faults.StepFault.TheVariants.{NoSuchStep, Struck, ConditionFalse, SetAndCleared}
use Rattle.job.specs.declared.faults.DoFault.{DoFault}
use Rattle.job.specs.declared.faults.DoFault.TheVariants.{Step, TrailFull}
use Rattle.job.specs.declared.routes.CheckFault.{CheckFault}
use Rattle.job.specs.declared.routes.CheckFault.TheVariants.{NoSuchGoal, Route}
use Rattle.job.specs.declared.routes.RouteFault.{RouteFault}

abbrev pub step_number : StepFault → ℕ
step_number NoSuchStep = 8
step_number Struck = 10
step_number ConditionFalse = 11
step_number SetAndCleared = 12

abbrev pub number : DoFault → ℕ
number (Step f) = step_number f
number TrailFull = 13

abbrev pub route_number : RouteFault → ℕ
route_number (RouteFault.Step f) = step_number f
route_number RouteFault.GoalFalse = 15

abbrev pub check_number : CheckFault → ℕ
check_number NoSuchGoal = 9
check_number (Route f i) = route_number f

-- the step fault that a fault of execution is
abbrev pub hindrance : ExecutionFault → StepFault
hindrance ExecutionFault.NoSuchStep = NoSuchStep
hindrance ExecutionFault.ConditionFalse = ConditionFalse
hindrance ExecutionFault.SetAndCleared = SetAndCleared
