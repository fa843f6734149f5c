use Rattle.std.proofs.Common.{◌/◌, ◌^◌, ◌<◌, rules}
use Rattle.std.proofs.lemmas.List.{get_or_default}
use Rattle.sheet.specs.Kinds.{kinds}
use Rattle.sheet.proofs.kinds.row_of.Goals as goal

pub returns : goal.returns
returns c =
    let within : c.args.word / 2 ^ 28 < 16 = search rules in
    get_or_default kinds (c.args.word / 2 ^ 28) _ _ within
