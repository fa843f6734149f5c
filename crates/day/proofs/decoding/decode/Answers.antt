use Rattle.std.proofs.Common.{◌+◌, sym, subst}
use Rattle.day.proofs.Prefixes.{Before, before_more, stops, ends}
use Rattle.day.proofs.Unique.{decoded_same}
use Rattle.day.proofs.decoding.decode.Goals as goal

pub returns-in_default : goal.returns-in_default
returns-in_default c =
    let asked = stops _ _ _ c.loop-word.invariant c.loop-word-test.true c.in_default.ensures in
    record { asked = asked; alone = λ cs s other. decoded_same _ _ _ _ _ other asked }

pub loop-word-preserved : goal.loop-word-preserved
loop-word-preserved c =
    subst (Before c.args.words.now (c.loop-word.word-index + 1)) (sym c.in_ok-push.ensures.items)
    (before_more _ _ _ c.in-Some.call c.loop-word.invariant c.loop-word-test.true c.in-Some.ensures)

pub returns : goal.returns
returns c =
    let asked = ends _ _ _ c.loop-word.invariant c.loop-word-test.false in
    record { asked = asked; alone = λ cs s other. decoded_same _ _ _ _ _ other asked }
