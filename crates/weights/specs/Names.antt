-- The number and the name of each named kind.
use Rattle.std.specs.Prelude.{◌≡◌, ◌≢◌, ℕ, List, ◌++◌, codes, decimal, Result, Ok, Err}
use Rattle.weights.specs.declared.named.NamedKind.{NamedKind}
use Rattle.weights.specs.declared.named.UnknownKind.{UnknownKind}

abbrev pub kind_number : NamedKind → ℕ
kind_number NamedKind.Longest = 0
kind_number NamedKind.Sum = 1
kind_number NamedKind.Grade = 2
kind_number NamedKind.Reach = 3

-- the result is the kind that has a number, or that number where no kind has it
abbrev pub DecodesKind : ℕ → Result NamedKind UnknownKind → Type 0
DecodesKind number (Ok kind) = kind_number kind ≡ number
DecodesKind number (Err unknown) = (unknown.0 ≡ number) × ((kind : NamedKind) → kind_number kind ≢ number)

abbrev pub kind_name : NamedKind → List ℕ
kind_name NamedKind.Longest = codes "longest"
kind_name NamedKind.Sum = codes "sum"
kind_name NamedKind.Grade = codes "grade"
kind_name NamedKind.Reach = codes "reach"

abbrev pub unknown_kind_text : UnknownKind → List ℕ
unknown_kind_text unknown = codes "no kind has the number " ++ decimal unknown.0
