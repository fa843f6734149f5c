-- Reading one part further, where the first word is w and the others are rest.
use Rattle.std.proofs.Common.{◌≡◌, ℕ, ◌-◌, ◌≤◌, List, [], ◌∷◌, ◌++◌, length, Some, None, Ok, Err, Result, sym, ap, ◌∙◌, subst, arith, Bor}
use Rattle.std.proofs.lemmas.List.{append-nil}
use Rattle.sheet.specs.declared.faults.Refusal.{Refusal}
use Rattle.sheet.specs.declared.faults.SheetFault.{SheetFault}
use Rattle.sheet.specs.declared.items.Item.{Item}
use Rattle.sheet.specs.declared.items.Stop.{Stop}
use Rattle.sheet.specs.declared.sections.Section.{Section}
use Rattle.sheet.specs.Survey.{scan, owes, enter, inside, closed}
use Rattle.sheet.specs.Reads.{Reads, Paid, Unpaid}
use Rattle.sheet.proofs.Scans.{scan_opens, scan_closes, scan_refused}

module _ (total n : ℕ) (s : Section) (ws : List ℕ) (w : ℕ) (rest : List ℕ) (split : ws ≡ w ∷ rest) where
  pub part_refused : (fault : SheetFault)
      → ((f : Refusal) × (Err f ≡ enter n s w) × (fault ≡ record { cause = f.cause; place = total - length ws; part = f.part }))
      → scan total n s [] ws ≡ Err fault
  part_refused fault (f, h, e) =
      rw (e, split) (scan_refused total n s w rest f (sym h))

  pub part_closes : Ok None ≡ enter n s w → scan total n s [] ws ≡ closed total n s rest
  part_closes h = ap (scan total n s []) split ∙ scan_closes total n s w rest (sym h)

  module _ (next : Section) (opens : Ok (Some next) ≡ enter n s w) (r : Result (Bor (List ℕ)) Stop) (reads : Reads n (owes w 1) rest r) where
    opened : scan total n s [] ws ≡ scan total n next (owes w 1 ++ []) rest
    opened =
        ap (scan total n s []) split
        ∙ scan_opens total n s w rest next (sym opens)
        ∙ ap (λ (js : List Item). scan total n next js rest) (sym (append-nil (owes w 1)))

    pub part_paid : (behind : Bor (List ℕ)) → r ≡ Ok behind → (length behind.now ≤ length ws) × (scan total n s [] ws ≡ scan total n next [] behind.now)
    part_paid behind e =
        let p : Paid n (owes w 1) rest behind.now = subst (Reads n (owes w 1) rest) e reads in
        (omega (arith, p.shorter, ap length split), opened ∙ p.paid total next [])

    pub part_unpaid : (fault : SheetFault)
        → ((stop : Stop) × (r ≡ Err stop) × (fault ≡ record { cause = stop.cause; place = total - stop.left; part = inside next }))
        → scan total n s [] ws ≡ Err fault
    part_unpaid fault (stop, e, told) =
        let p : Unpaid n (owes w 1) rest stop = subst (Reads n (owes w 1) rest) e reads in
        rw told (opened ∙ p.unpaid total next [])
