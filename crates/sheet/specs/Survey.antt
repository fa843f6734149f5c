-- What a run of words still owes after each prefix, and so its first fault or the counts of the sheet.
-- A word pays what is owed first or is the fault; its causes are tested in the order of their numbers.
use Rattle.std.specs.Prelude.{ℕ, ◌+◌, ◌-◌, Bool, true, false, cond, ◌&&◌, List, [], ◌∷◌, ◌++◌, length, replicate, ⊤, Some, None, Ok, Err, Option, Result, nat_le, nat_lt}
use Rattle.sheet.specs.declared.faults.Cause.{Cause}
use Rattle.sheet.specs.declared.faults.Part.{Part}
use Rattle.sheet.specs.declared.faults.Refusal.{Refusal}
use Rattle.sheet.specs.declared.faults.SheetFault.{SheetFault}
use Rattle.sheet.specs.declared.kinds.Follows.{Follows}
use Rattle.sheet.specs.declared.kinds.Follows.TheVariants.{Nothing, Formula, Formulas, Effects, Guarded}
use Rattle.sheet.specs.declared.kinds.Place.{Place}
use Rattle.sheet.specs.declared.items.Sort.{Sort}
use Rattle.sheet.specs.declared.items.Item.{Item}
use Rattle.sheet.specs.declared.sections.Section.{Section}
use Rattle.sheet.specs.declared.survey.Counts.{Counts}
use Rattle.sheet.specs.Kinds.{row, argument, fits}

abbrev pub item : Sort → ℕ → Item
item s d = record { sort = s; depth = d }

-- what a word that something follows owes at depth d
abbrev pub owed : Follows → ℕ → ℕ → List Item
owed Nothing c d = []
owed Formula c d = item Sort.Formula d ∷ []
owed Formulas c d = replicate c (item Sort.Formula d)
owed Effects c d = replicate c (item Sort.Effect d)
owed Guarded c d = item Sort.Formula d ∷ item Sort.Effect d ∷ []

abbrev pub owes : ℕ → ℕ → List Item
owes w d = owed (row w).follows (argument w) d

-- the place of the words that begin a formula or an effect
abbrev pub place_of : Sort → Place
place_of Sort.Formula = Place.Formula
place_of Sort.Effect = Place.Effect

-- a word at this place begins what is owed
abbrev pub begins : Sort → Place → Bool
begins Sort.Formula Place.Formula = true
begins Sort.Effect Place.Effect = true
begins s p = false

-- whether a word pays an item, and why not
abbrev pub admitted : ℕ → Item → ℕ → Result ⊤ Cause
admitted n i w =
    cond (begins i.sort (row w).place)
    (cond (fits n w) (cond (nat_le i.depth 16) (Ok tt) (Err Cause.Depth)) (Err Cause.Argument))
    (Err Cause.Kind)

abbrev refuse : Cause → Part → Result (Option Section) Refusal
refuse c p = Err (record { cause = c; part = p })

-- the next STEP's and GOAL's number
abbrev pub next_step : Section → ℕ
next_step (Section.Starts floor) = 0
next_step (Section.Step k) = k + 1
next_step (Section.Goal m k) = m

abbrev pub next_goal : Section → ℕ
next_goal (Section.Starts floor) = 0
next_goal (Section.Step k) = 0
next_goal (Section.Goal m k) = k + 1

-- the part whose words are being read
abbrev pub inside : Section → Part
inside (Section.Starts floor) = Part.Head
inside (Section.Step k) = Part.Step k
inside (Section.Goal m k) = Part.Goal k

abbrev pub enter_start : ℕ → Section → ℕ → Result (Option Section) Refusal
enter_start n (Section.Starts floor) w =
    cond (fits n w && nat_le floor (argument w)) (Ok (Some (Section.Starts (argument w + 1)))) (refuse Cause.Argument Part.Head)
enter_start n s w = refuse Cause.Kind Part.Head

-- whether a word may open the part with number k, of at most so many, and why not
abbrev pub admitted_part : ℕ → ℕ → ℕ → ℕ → Result ⊤ Cause
admitted_part n w k most = cond (fits n w) (cond (nat_lt k most) (Ok tt) (Err Cause.TooManyParts)) (Err Cause.Argument)

-- what a word that may open a part leads to
abbrev pub opened : Result ⊤ Cause → Section → Result (Option Section) Refusal
opened (Ok may) s = Ok (Some s)
opened (Err c) s = refuse c (inside s)

abbrev pub enter_step : ℕ → Section → ℕ → Result (Option Section) Refusal
enter_step n (Section.Starts floor) w = opened (admitted_part n w 0 64) (Section.Step 0)
enter_step n (Section.Step k) w = opened (admitted_part n w (k + 1) 64) (Section.Step (k + 1))
enter_step n (Section.Goal m k) w = refuse Cause.Kind Part.Head

abbrev pub enter_goal : ℕ → Section → ℕ → Result (Option Section) Refusal
enter_goal n s w = opened (admitted_part n w (next_goal s) 8) (Section.Goal (next_step s) (next_goal s))

abbrev pub enter_end : ℕ → ℕ → Result (Option Section) Refusal
enter_end n w = cond (fits n w) (Ok None) (refuse Cause.Argument Part.Head)

abbrev pub enter_at : Place → ℕ → Section → ℕ → Result (Option Section) Refusal
enter_at Place.Start n s w = enter_start n s w
enter_at Place.Step n s w = enter_step n s w
enter_at Place.Goal n s w = enter_goal n s w
enter_at Place.End n s w = enter_end n w
enter_at p n s w = refuse Cause.Kind Part.Head

-- what a word between two parts does: it opens the next part, ends the sheet (None), or is refused
abbrev pub enter : ℕ → Section → ℕ → Result (Option Section) Refusal
enter n s w = enter_at (row w).place n s w

abbrev pub within : Section → List Item → Part
within s [] = Part.Head
within s (i ∷ is) = inside s

-- a fault at the first of the words that are left, of total words
abbrev pub at : ℕ → Cause → List ℕ → Part → Result Counts SheetFault
at total c ws p = Err (record { cause = c; place = total - length ws; part = p })

-- after END nothing may come
abbrev pub closed : ℕ → ℕ → Section → List ℕ → Result Counts SheetFault
closed total n s [] = Ok (record { facts = n; steps = next_step s; goals = next_goal s })
closed total n s (w ∷ ws) = at total Cause.AfterEnd (w ∷ ws) Part.Head

-- the words that are left, of total words, where n facts and these items are owed in this section
unfoldable pub scan : ℕ → ℕ → Section → List Item → List ℕ → Result Counts SheetFault
scan total n s is [] = at total Cause.WordsEnd [] (within s is)
scan total n s [] (w ∷ ws) =
    elim (enter n s w) [
      | Ok e ↦ elim e [ Some next ↦ scan total n next (owes w 1) ws | None ↦ closed total n s ws ]
      | Err r ↦ at total r.cause (w ∷ ws) r.part
    ]
scan total n s (i ∷ is) (w ∷ ws) =
    elim (admitted n i w) [
      | Ok paid ↦ scan total n s (owes w (i.depth + 1) ++ is) ws
      | Err c ↦ at total c (w ∷ ws) (inside s)
    ]

abbrev is_first : Place → Bool
is_first Place.First = true
is_first p = false

-- whether a word may come first, and why not
abbrev pub admitted_first : ℕ → Result ⊤ Cause
admitted_first w = cond (is_first (row w).place) (cond (fits 0 w) (Ok tt) (Err Cause.Argument)) (Err Cause.Kind)

abbrev pub from_first : ℕ → List ℕ → Result Counts SheetFault
from_first total [] = at total Cause.WordsEnd [] Part.Head
from_first total (w ∷ ws) =
    elim (admitted_first w) [
      | Ok first ↦ scan total (argument w) (Section.Starts 0) [] ws
      | Err c ↦ at total c (w ∷ ws) Part.Head
    ]

-- the counts of the sheet that the words are, or their first fault
abbrev pub survey : List ℕ → Result Counts SheetFault
survey ws =
    cond (nat_lt 4096 (length ws))
    (Err (record { cause = Cause.TooManyWords; place = 4096; part = Part.Head }))
    (from_first (length ws) ws)
