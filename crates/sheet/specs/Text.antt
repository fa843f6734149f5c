-- How a fault of a sheet is told, as bytes.
use Rattle.std.specs.Prelude.{ℕ, List, ◌++◌, codes, decimal}
use Rattle.sheet.specs.declared.faults.Part.{Part}
use Rattle.sheet.specs.declared.faults.Part.TheVariants.{Head, Step, Goal}
use Rattle.sheet.specs.declared.faults.SheetFault.{SheetFault}
use Rattle.sheet.specs.Numbers.{number}

abbrev pub part_text : Part → List ℕ
part_text Head = codes "head"
part_text (Step k) = codes "step " ++ decimal k
part_text (Goal k) = codes "goal " ++ decimal k

-- the number of its cause, its place and its part
abbrev pub fault_text : SheetFault → List ℕ
fault_text f = codes "refused " ++ (decimal (number f.cause) ++ (codes " at " ++ (decimal f.place ++ (codes " in " ++ part_text f.part))))
