-- How a call and its refusal are told, as bytes.
use Rattle.std.specs.Prelude.{ℕ, List, ◌++◌, codes, decimal}
use Rattle.job.specs.declared.calls.Call.{Call}
use Rattle.job.specs.declared.calls.Call.TheVariants.{Do, Strike, Allow}
use Rattle.job.specs.declared.faults.DoFault.{DoFault}
use Rattle.job.specs.Numbers.{number}

abbrev pub call_text : Call → List ℕ
call_text (Do k) = codes "do " ++ decimal k
call_text (Strike k) = codes "strike " ++ decimal k
call_text (Allow k) = codes "allow " ++ decimal k

abbrev pub fault_text : DoFault → List ℕ
fault_text f = codes "refused " ++ decimal (number f)
