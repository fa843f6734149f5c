-- One word of a scan.
use Rattle.std.proofs.Common.{◌≡◌, ℕ, ◌+◌, ◌-◌, List, [], ◌∷◌, ◌++◌, Some, None, Ok, Err, Option, Result, refl, ap, arith}
use Rattle.std.specs.Bool.{⊤}
use Rattle.sheet.specs.declared.faults.Cause.{Cause}
use Rattle.sheet.specs.declared.faults.SheetFault.{SheetFault}
use Rattle.sheet.specs.declared.items.Item.{Item}
use Rattle.sheet.specs.declared.sections.Section.{Section}
use Rattle.sheet.specs.declared.faults.Refusal.{Refusal}
use Rattle.sheet.specs.declared.survey.Counts.{Counts}
use Rattle.sheet.specs.declared.faults.Part.{Part}
use Rattle.sheet.specs.Kinds.{argument}
use Rattle.sheet.specs.Survey.{scan, admitted, owes, enter, inside, within, at, closed, admitted_first, from_first}

pub scan_ends : (total n : ℕ) (s : Section) (is : List Item) → scan total n s is [] ≡ at total Cause.WordsEnd [] (within s is)
unfolding scan
scan_ends total n s is = refl

-- the words end between two parts
pub scan_ends_between : (total n : ℕ) (s : Section) → scan total n s [] [] ≡ Err (record { cause = Cause.WordsEnd; place = total; part = Part.Head })
unfolding scan
scan_ends_between total n s =
    let whole : total - 0 ≡ total = omega arith in
    ap (λ (p : ℕ). Err (record { cause = Cause.WordsEnd; place = p; part = Part.Head })) whole

-- a word that pays the first item, and one that does not
module _ (total n : ℕ) (s : Section) (i : Item) (is : List Item) (w : ℕ) (ws : List ℕ) where
  by_answer : Result ⊤ Cause → Result Counts SheetFault
  by_answer m = elim m [ Ok paid ↦ scan total n s (owes w (i.depth + 1) ++ is) ws | Err c ↦ at total c (w ∷ ws) (inside s) ]

  pub scan_pays : admitted n i w ≡ Ok tt → scan total n s (i ∷ is) (w ∷ ws) ≡ scan total n s (owes w (i.depth + 1) ++ is) ws
  unfolding scan by_answer
  scan_pays h = ap by_answer h

  pub scan_unpaid : (c : Cause) → admitted n i w ≡ Err c → scan total n s (i ∷ is) (w ∷ ws) ≡ at total c (w ∷ ws) (inside s)
  unfolding scan by_answer
  scan_unpaid c h = ap by_answer h

-- a word between two parts
module _ (total n : ℕ) (s : Section) (w : ℕ) (ws : List ℕ) where
  by_entry : Result (Option Section) Refusal → Result Counts SheetFault
  by_entry r =
      elim r [
        | Ok e ↦ elim e [ Some next ↦ scan total n next (owes w 1) ws | None ↦ closed total n s ws ]
        | Err f ↦ at total f.cause (w ∷ ws) f.part
      ]

  pub scan_opens : (next : Section) → enter n s w ≡ Ok (Some next) → scan total n s [] (w ∷ ws) ≡ scan total n next (owes w 1) ws
  unfolding scan by_entry
  scan_opens next h = ap by_entry h

  pub scan_closes : enter n s w ≡ Ok None → scan total n s [] (w ∷ ws) ≡ closed total n s ws
  unfolding scan by_entry
  scan_closes h = ap by_entry h

  pub scan_refused : (f : Refusal) → enter n s w ≡ Err f → scan total n s [] (w ∷ ws) ≡ at total f.cause (w ∷ ws) f.part
  unfolding scan by_entry
  scan_refused f h = ap by_entry h

-- a first word that may come first
module _ (total : ℕ) (w : ℕ) (ws : List ℕ) where
  by_first : Result ⊤ Cause → Result Counts SheetFault
  by_first m = elim m [ Ok first ↦ scan total (argument w) (Section.Starts 0) [] ws | Err c ↦ at total c (w ∷ ws) Part.Head ]

  pub from_first_fits : admitted_first w ≡ Ok tt → from_first total (w ∷ ws) ≡ scan total (argument w) (Section.Starts 0) [] ws
  unfolding by_first
  from_first_fits h = ap by_first h
