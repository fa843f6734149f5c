-- What reading the items that are owed tells, in any section and before any further items.
use Rattle.std.specs.Prelude.{◌≡◌, ℕ, ◌-◌, ◌≤◌, List, ◌++◌, length, Ok, Err, Result}
use Rattle.std.specs.Borrow.{Bor}
use Rattle.sheet.specs.declared.items.Item.{Item}
use Rattle.sheet.specs.declared.items.Stop.{Stop}
use Rattle.sheet.specs.declared.sections.Section.{Section}
use Rattle.sheet.specs.Survey.{scan, inside}

-- the items are paid and these words are left
pub record Paid (n : ℕ) (js : List Item) (ws rest : List ℕ) : Type 0 where
  pub shorter : length rest ≤ length ws
  pub paid : (total : ℕ) (s : Section) (is : List Item) → scan total n s (js ++ is) ws ≡ scan total n s is rest

-- the items are not paid: the first of so many words that are left is the fault
pub record Unpaid (n : ℕ) (js : List Item) (ws : List ℕ) (stop : Stop) : Type 0 where
  pub within : stop.left ≤ length ws
  pub unpaid : (total : ℕ) (s : Section) (is : List Item) →
      scan total n s (js ++ is) ws ≡ Err (record { cause = stop.cause; place = total - stop.left; part = inside s })

abbrev pub Reads : ℕ → List Item → List ℕ → Result (Bor (List ℕ)) Stop → Type 0
Reads n js ws (Ok rest) = Paid n js ws rest.now
Reads n js ws (Err stop) = Unpaid n js ws stop
