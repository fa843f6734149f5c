use Rattle.std.proofs.Common.{sym, refl}
use Rattle.std.proofs.lemmas.Result.{err_from_is_err_and}
use Rattle.sheet.proofs.Acceptance.{accepted_exactly, sheet_spelled}
use Rattle.sheet.proofs.Readings.{refused_by, counted}
use Rattle.sheet.proofs.view.Sheet.read.Goals as goal

pub returns-in_err-counts : goal.returns-in_err-counts
returns-in_err-counts c =
    let p = err_from_is_err_and c.from_residual.result c.from_residual.ensures.1 in
    rw (p.1, p.2) (refused_by c.args.words.now _ _ c.in_err-counts.ensures)

pub invariant_of-self : goal.invariant_of-self
invariant_of-self c =
    let known = counted c.args.words.now _ c.in_ok-counts.ensures in
    record { lawful = known.0; facts_counted = known.1.0; steps_counted = known.1.1.0; goals_counted = known.1.1.1.0 }

pub returns : goal.returns
returns c =
    record {
      words_spell_a_lawful_sheet = sheet_spelled c.args.words.now _ (sym c.in_ok-counts.ensures);
      words_spell_no_other_sheet = accepted_exactly.spelled_once c.args.words.now;
      sheet_views_these_words = refl;
    }
