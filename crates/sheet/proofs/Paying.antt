-- Reading items one word or one item further.
use Rattle.std.proofs.Common.{◌≡◌, ℕ, suc, ◌+◌, ◌-◌, ◌<◌, ◌≤◌, List, [], ◌∷◌, ◌++◌, length, replicate, IfOk, Ok, Err, Result, MatchResult, sym, ap, ◌∙◌, arith, Bor}
use Rattle.std.specs.Bool.{⊤}
use Rattle.std.proofs.lemmas.List.{nil_from_length}
use Rattle.sheet.specs.declared.faults.Cause.{Cause}
use Rattle.sheet.specs.declared.items.Item.{Item}
use Rattle.sheet.specs.declared.items.Stop.{Stop}
use Rattle.sheet.specs.declared.sections.Section.{Section}
use Rattle.sheet.specs.Survey.{scan, admitted, owes, inside}
use Rattle.sheet.specs.Reads.{Reads, Paid, Unpaid}
use Rattle.sheet.proofs.Scans.{scan_ends, scan_pays, scan_unpaid}

pub unpaid_end : (n : ℕ) (i : Item) (ws : List ℕ) → length ws ≡ 0 → Unpaid n (i ∷ []) ws (record { cause = Cause.WordsEnd; left = 0 })
unpaid_end n i ws h =
    record {
      within = omega arith;
      unpaid = λ total s is. ap (scan total n s (i ∷ is)) (nil_from_length ws h) ∙ scan_ends total n s (i ∷ is);
    }

-- what reading tells where the first word is w and the others are rest
module _ (n : ℕ) (i : Item) (ws : List ℕ) (w : ℕ) (rest : List ℕ) (split : ws ≡ w ∷ rest) where
  pub unpaid_word : (r : Result ⊤ Cause) → r ≡ admitted n i w → (stop : Stop)
      → MatchResult r (λ _. ⊥) (λ c. stop ≡ record { cause = c; left = length ws }) → Unpaid n (i ∷ []) ws stop
  unpaid_word (Ok paid) h stop e = absurd e
  unpaid_word (Err c) h stop e =
      rw e
      (record {
        within = omega arith;
        unpaid = λ total s is.
            ap (scan total n s (i ∷ is)) split
            ∙ scan_unpaid total n s i is w rest c (sym h)
            ∙ ap (λ (k : List ℕ). Err (record { cause = c; place = total - length k; part = inside s })) (sym split);
      })

  pub reads_word : Ok tt ≡ admitted n i w → (r : Result (Bor (List ℕ)) Stop) → Reads n (owes w (i.depth + 1)) rest r → Reads n (i ∷ []) ws r
  reads_word h (Ok left) p =
      record {
        shorter = omega (arith, ap length split, p.shorter);
        paid = λ total s is. ap (scan total n s (i ∷ is)) split ∙ scan_pays total n s i is w rest (sym h) ∙ p.paid total s is;
      }
  reads_word h (Err stop) p =
      record {
        within = omega (arith, ap length split, p.within);
        unpaid = λ total s is. ap (scan total n s (i ∷ is)) split ∙ scan_pays total n s i is w rest (sym h) ∙ p.unpaid total s is;
      }

  pub shorter_word : (js : List Item) (r : Result (Bor (List ℕ)) Stop) → Reads n js rest r → IfOk r (λ left. length left.now < length ws)
  shorter_word js (Ok left) p = omega (arith, ap length split, p.shorter)
  shorter_word js (Err stop) p = tt

-- of count members, those from the done-th on are left
replicate_from : {X : Type 0} (count done : ℕ) (x : X) → done < count → replicate (count - done) x ≡ x ∷ replicate (count - (done + 1)) x
replicate_from count done x h = ap (λ (k : ℕ). replicate k x) (left count done h)
  where
    left : (m k : ℕ) → k < m → m - k ≡ suc (m - (k + 1))
    left m k lt = omega arith

module _ (n : ℕ) (i : Item) (count done : ℕ) (ws mid : List ℕ)
    (before : (total : ℕ) (s : Section) (is : List Item) → scan total n s (replicate count i ++ is) ws ≡ scan total n s (replicate (count - done) i ++ is) mid)
    (more : done < count) where
  at_member : (total : ℕ) (s : Section) (is : List Item) → scan total n s (replicate count i ++ is) ws ≡ scan total n s (i ∷ (replicate (count - (done + 1)) i ++ is)) mid
  at_member total s is = before total s is ∙ ap (λ (js : List Item). scan total n s (js ++ is) mid) (replicate_from count done i more)

  pub member_paid : (rest : List ℕ) → Paid n (i ∷ []) mid rest →
      (total : ℕ) (s : Section) (is : List Item) → scan total n s (replicate count i ++ is) ws ≡ scan total n s (replicate (count - (done + 1)) i ++ is) rest
  member_paid rest p total s is = at_member total s is ∙ p.paid total s (replicate (count - (done + 1)) i ++ is)

  pub member_unpaid : length mid ≤ length ws → (stop : Stop) → Unpaid n (i ∷ []) mid stop → Unpaid n (replicate count i) ws stop
  member_unpaid le stop p =
      record {
        within = omega (arith, p.within);
        unpaid = λ total s is. at_member total s is ∙ p.unpaid total s (replicate (count - (done + 1)) i ++ is);
      }
