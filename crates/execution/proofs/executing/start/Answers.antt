use Rattle.std.proofs.Common.{ap, rules}
use borrow.Author.Tests.{tests}
use Rattle.std.proofs.lemmas.Iterator.{YieldsList-from_slice, YieldsList-from_map}
use Rattle.std.proofs.lemmas.Iterator.Consumers.{YieldsList-at, YieldsList-from_filter}
use Rattle.sheet.specs.Decoding.{tree_of}
use Rattle.sheet.specs.Kinds.{argument}
use Rattle.execution.proofs.Starts.{is_start, started}
use Rattle.execution.proofs.executing.start.Goals as goal

pub returns : goal.returns
returns c =
    let viewed = ap (λ w. tree_of w.now) c.words.ensures.viewed in
    let words = YieldsList-at c.filter.ensures.source (YieldsList-from_slice c.words.result.now c.iter.ensures.rest) in
    started _ (λ a x b q k. search (rules, tests)) _ _ viewed c.words.ensures.spelled.lawful _ _ c.none.ensures c.fold.ensures.ran
    (YieldsList-from_map _ argument
    (YieldsList-at c.map.ensures.source (YieldsList-from_filter _ is_start words c.filter.ensures.closure (λ x b q k. search (rules, tests))))
    c.map.ensures.closure (λ x r q k. search rules))
