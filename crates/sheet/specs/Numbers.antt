-- The number of each refusal of a sheet.
use Rattle.std.specs.Prelude.{ℕ}
use Rattle.sheet.specs.declared.faults.Cause.{Cause}
use Rattle.sheet.specs.declared.faults.Cause.TheVariants.{TooManyWords, WordsEnd, Kind, Argument, Depth, TooManyParts, AfterEnd}

abbrev pub number : Cause → ℕ
number TooManyWords = 1
number WordsEnd = 2
number Kind = 3
number Argument = 4
number Depth = 5
number TooManyParts = 6
number AfterEnd = 7
