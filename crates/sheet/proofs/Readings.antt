-- What a reading promises, from what the survey tells.
use Rattle.std.proofs.Common.{◌≡◌, ℕ, true, List, length, is_ok, Ok, Err, Result, sym, refl, ap, arith}
use Rattle.std.proofs.lemmas.Bool.{false≢true}
use Rattle.sheet.specs.declared.faults.SheetFault.{SheetFault}
use Rattle.sheet.specs.declared.survey.Counts.{Counts}
use Rattle.sheet.specs.declared.view.Sheet.{Sheet}
use Rattle.sheet.specs.Acceptance.{Spells}
use Rattle.sheet.specs.Decoding.{tree_of}
use Rattle.sheet.specs.Reading.{Refused, tree}
use Rattle.sheet.specs.Survey.{survey}
use Rattle.sheet.proofs.Acceptance.{accepted_exactly, sheet_counted, sheet_spelled}

pub refused_by : (ws : List ℕ) (fault : SheetFault) (sheet : Sheet) → Err fault ≡ survey ws → Refused ws fault sheet sheet
refused_by ws fault sheet h =
    record {
      fault_is_the_first = sym h;
      words_spell_no_lawful_sheet = λ t spelled.
          let accepted = accepted_exactly.lawful_is_accepted ws t spelled in
          let apart : ◌≡◌ {A = ℕ} 0 1 = cc in
          omega arith;
      sheet_is_as_before = refl;
    }

-- what a sheet's invariant says of words that are accepted
pub counted : (ws : List ℕ) (c : Counts) → Ok c ≡ survey ws →
    (is_ok (survey ws) ≡ true)
    × ((c.facts ≡ (tree_of ws).facts) × ((c.steps ≡ length (tree_of ws).steps) × ((c.goals ≡ length (tree_of ws).goals) × Unit {0})))
counted ws c h =
    let same = sheet_counted ws c (sym h) in
    (ap is_ok (sym h), (ap (λ (k : Counts). k.facts) same, (ap (λ (k : Counts). k.steps) same, (ap (λ (k : Counts). k.goals) same, tt))))

spelled_by : (ws : List ℕ) (r : Result Counts SheetFault) → survey ws ≡ r → is_ok r ≡ true → Spells ws (tree_of ws)
spelled_by ws (Ok c) e h = sheet_spelled ws c e
spelled_by ws (Err f) e h = absurd (false≢true h)

-- a sheet that exists is lawful
pub viewed : (s : Sheet) → Spells s.words.now (tree s)
viewed s = spelled_by s.words.now (survey s.words.now) refl s.lawful
