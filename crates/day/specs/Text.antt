-- The lines that a day prints, as bytes.
use Rattle.std.specs.Prelude.{ℕ, List, [], ◌∷◌, ◌++◌, codes, decimal, Ok, Err}
use Rattle.sheet.specs.Text.{fault_text as sheet_fault_text}
use Rattle.sheet.specs.declared.faults.SheetFault.{SheetFault}
use Rattle.job.specs.Answers.{Answer}
use Rattle.job.specs.Text.{call_text, fault_text}
use Rattle.job.specs.declared.calls.Call.{Call}
use Rattle.day.specs.declared.endings.Ending.{Ending}
use Rattle.day.specs.declared.endings.Ending.TheVariants.{Refused, Stopped}

abbrev pub newline : List ℕ
newline = 10 ∷ []

abbrev pub outcome : Answer → List ℕ
outcome (Ok u) = codes "done"
outcome (Err f) = fault_text f

abbrev pub line_text : Call → Answer → List ℕ
line_text c a = call_text c ++ (codes ": " ++ (outcome a ++ newline))

abbrev pub refusal_text : SheetFault → List ℕ
refusal_text f = codes "sheet: " ++ (sheet_fault_text f ++ newline)

abbrev pub stop_text : ℕ → List ℕ
stop_text n = codes "stopped at word " ++ (decimal n ++ newline)

-- the line that ends a day before its input does
abbrev pub ending_text : Ending → List ℕ
ending_text (Refused f) = refusal_text f
ending_text (Stopped n) = stop_text n

-- the lines of answers to calls, in order
abbrev pub lines_text : List Call → List Answer → List ℕ
lines_text [] answers = []
lines_text (c ∷ cs) [] = []
lines_text (c ∷ cs) (a ∷ answers) = line_text c a ++ lines_text cs answers
