-- How a day's bytes open it: the number of sheet words, then the sheet's words.
use Rattle.std.specs.Prelude.{◌≡◌, ℕ, ◌+◌, ◌*◌, ◌/◌, ◌<◌, ◌≤◌, cond, List, length, take, drop, vec_items, nat_le, slice_index, Ok, Err, Result}
use Rattle.sheet.specs.declared.faults.Cause.{Cause}
use Rattle.sheet.specs.declared.faults.Part.{Part}
use Rattle.sheet.specs.declared.faults.SheetFault.{SheetFault}
use Rattle.day.specs.declared.opening.Opening.{Opening}
use Rattle.day.specs.declared.endings.Ending.{Ending}
use Rattle.day.specs.declared.endings.Ending.TheVariants.{Refused, Stopped}
use Rattle.day.specs.Bytes.{whole_words}

-- the number of sheet words, 0 while it is not there
abbrev pub sheet_count : List ℕ → ℕ
sheet_count bs = slice_index (whole_words bs) 0

-- how many bytes open the day; too large a number opens it alone
abbrev pub opening_size : List ℕ → ℕ
opening_size bs = cond (nat_le (sheet_count bs) 4096) (4 + 4 * sheet_count bs) 4

abbrev pub too_many : SheetFault
too_many = record { cause = Cause.TooManyWords; place = 4096; part = Part.Head }

-- what bytes that end here, or are enough to open the day, open it with
abbrev pub Opened : List ℕ → Result Opening Ending → Type 0
Opened bs (Ok o) =
    (opening_size bs ≤ length bs)
    × (sheet_count bs ≤ 4096)
    × (vec_items o.words ≡ whole_words (take (4 * sheet_count bs) (drop 4 bs)))
    × (o.calls.now ≡ drop (opening_size bs) bs)
Opened bs (Err (Stopped n)) = (length bs < opening_size bs) × (n ≡ length bs / 4)
Opened bs (Err (Refused f)) = (4 ≤ length bs) × (4096 < sheet_count bs) × (f ≡ too_many)
